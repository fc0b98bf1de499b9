-- Flashing the pieces of an image in turn, as bytes; and images with the same blocks have the same pieces.
use Rattle.std.proofs.Common.{◌≡◌, ℕ, zero, suc, ◌+◌, ◌*◌, ◌%◌, ◌^◌, ◌≤◌, ◌<◌, true, List, [], ◌∷◌, ◌++◌, length, take}
use Rattle.std.proofs.Common.{drop, map, replicate, append_assoc, refl, sym, ap, subst, ◌∙◌, append-nil, arith, nat_le}
use Rattle.std.proofs.Common.{leb-true, le-leb, length-append}
use Rattle.std.specs.List.{AllByRecursion}
use Rattle.std.proofs.lemmas.List.{length-map, length-replicate, drop-map, drop_at}
use Rattle.abt_sparse.specs.Block.{Block, Skip, IsBlockSize, AreBlocks, cells, over}
use Rattle.abt_sparse.specs.Runs.{runs, weight, segments, frames, framed, joined}
use Rattle.abt_sparse.specs.Chunk.{Header, Chunk, classed, piece, chunk_of_run, plain_header}
use Rattle.abt_sparse.specs.Reading.{outcome}
use Rattle.abt_sparse.specs.Fails.{Spells}
use Rattle.abt_sparse.specs.Pieces.{IsPiece, pieces, pieces_of, given, flashed, flashed_in_turn}
use Rattle.abt_sparse.specs.Laws.{flashed_all}
use Rattle.abt_sparse.proofs.AreAll.{AreBlocks-joined, AreBlocks-skips}
use Rattle.abt_sparse.proofs.Greedy.{joined-greedy, parts_fit}
use Rattle.abt_sparse.proofs.Weights.{one_fits}
use Rattle.abt_sparse.proofs.Lay.{segments_in_turn, in_turn_from, over-nones, cells-skips}
use Rattle.abt_sparse.proofs.Lengths.{piece_le}
use Rattle.abt_sparse.proofs.Exactly.{spelled_is}
use Rattle.abt_sparse.proofs.Spelling.{spelled_blocks, pieces_read}

-- ---- the blocks of an image that is encoded

pub given_is : (x : List ℕ) (h : Header) (cs : List Chunk) (rest : List ℕ) → Spells x h cs rest
    → given (outcome x) ≡ cells h.blk_sz (classed cs)
given_is x h cs rest s = rw (spelled_is x h cs rest s) refl

pub pieces_are : (limit : ℕ) (x : List ℕ) (h : Header) (cs : List Chunk) (rest : List ℕ) → Spells x h cs rest
    → pieces_of limit (outcome x) ≡ pieces limit h.blk_sz (classed cs)
pieces_are limit x h cs rest s = rw (spelled_is x h cs rest s) refl

pub same_pieces : (limit : ℕ) (x y : List ℕ) (h k : Header) (cs ds : List Chunk) (rest more : List ℕ)
    → Spells x h cs rest → Spells y k ds more → h.blk_sz ≡ k.blk_sz → classed cs ≡ classed ds
    → pieces_of limit (outcome x) ≡ pieces_of limit (outcome y)
same_pieces limit x y h k cs ds rest more s t e f =
    pieces_are limit x h cs rest s
    ∙ ap (λ (b : ℕ). pieces limit b (classed cs)) e
    ∙ ap (λ (l : List Block). pieces limit k.blk_sz l) f
    ∙ sym (pieces_are limit y k ds more t)

-- ---- the pieces in turn

-- a segment that a piece can be made of
abbrev IsSegment : ℕ → ℕ → List Block → Type 0
IsSegment limit b part = AreBlocks b part × (weight b part ≤ limit)

flashed_piece : (limit b before after : ℕ) (p : List ℕ) (part : List Block) → IsBlockSize b → limit < 2 ^ 32
    → before + length part + after < 2 ^ 32 → IsSegment limit b part
    → flashed p (piece b (framed before part after)) ≡ over p (cells b (framed before part after))
flashed_piece limit b before after p part good lt n s =
    let x = piece b (framed before part after) in
    let r = pieces_read b before after part [] good s.0 n (omega (arith, s.1, lt)) in
    let is = given_is (x ++ []) _ _ [] r.0 in
    ap (λ (y : List ℕ). over p (given (outcome y))) (sym (append-nil x)) ∙ ap (over p) is
    ∙ ap (λ (l : List Block). over p (cells b l)) r.1

frames_flashed : (limit b before : ℕ) (p : List ℕ) (parts : List (List Block)) → IsBlockSize b → limit < 2 ^ 32
    → before + length (joined parts) < 2 ^ 32 → AllByRecursion (IsSegment limit b) parts
    → flashed_in_turn p (map (piece b) (frames before parts)) ≡ flashed_all b p (frames before parts)
frames_flashed limit b before p [] good lt n h = refl
frames_flashed limit b before p (s ∷ ss) good lt n h =
    let sum = length-append s (joined ss) in
    ap (λ (q : List ℕ). flashed_in_turn q (map (piece b) (frames (before + length s) ss)))
    (flashed_piece limit b before (length (joined ss)) p s good lt (omega (arith, n, sum)) h.0)
    ∙ frames_flashed limit b (before + length s) (over p (cells b (framed before s (length (joined ss))))) ss good lt
    (omega (arith, n, sum)) h.1

both : (limit b : ℕ) (parts : List (List Block)) → AllByRecursion (AreBlocks b) parts
    → AllByRecursion (λ part. nat_le (weight b part) limit ≡ true) parts → AllByRecursion (IsSegment limit b) parts
both limit b [] h k = tt
both limit b (s ∷ ss) h k = ((h.0, leb-true _ _ k.0), both limit b ss h.1 k.1)

-- the segments of an image are such that pieces can be made of them
segments_good : (limit b : ℕ) (l : List Block) → IsBlockSize b → AreBlocks b l → 64 + b ≤ limit
    → AllByRecursion (IsSegment limit b) (segments limit b l) × (joined (segments limit b l) ≡ l)
segments_good limit b l good h room =
    let fits = λ (part : List Block). nat_le (weight b part) limit in
    let j : joined (segments limit b l) ≡ l = joined-greedy fits l [] in
    let four : 4 ≤ b = omega (arith, good.0, good.1) in
    let light = parts_fit fits (λ x. one_fits limit b x four room) l [] (le-leb _ _ (omega (arith, room, four))) in
    (both limit b (segments limit b l) (AreBlocks-joined b (segments limit b l) (rw j h)) light, j)

pub pieces_flashed : (limit b : ℕ) (p : List ℕ) (l : List Block) → IsBlockSize b → AreBlocks b l → length l < 2 ^ 32
    → 64 + b ≤ limit → limit < 2 ^ 32 → flashed_in_turn p (pieces limit b l) ≡ over p (cells b l)
pieces_flashed limit b p l good h n room lt =
    let segs = segments_good limit b l good h room in
    frames_flashed limit b 0 p (segments limit b l) good lt (omega (arith, n, ap length segs.1)) segs.0
    ∙ segments_in_turn b p l limit good.1 h

pub in_turn_bytes : (limit : ℕ) (p x : List ℕ) (h : Header) (cs : List Chunk) (rest : List ℕ) → Spells x h cs rest
    → 64 + h.blk_sz ≤ limit → limit < 2 ^ 32
    → flashed_in_turn p (pieces_of limit (outcome x)) ≡ flashed p x
in_turn_bytes limit p x h cs rest s room lt =
    let is = s.front.header.fits in
    let bs = spelled_blocks x h cs rest s in
    ap (flashed_in_turn p) (pieces_are limit x h cs rest s)
    ∙ pieces_flashed limit h.blk_sz p (classed cs) is.blk_sz bs.0 (omega (arith, bs.1, is.total_blks)) room lt
    ∙ ap (over p) (sym (given_is x h cs rest s))

-- ---- each piece, and the pieces from one on

frames_pieces : (limit b n before : ℕ) (parts : List (List Block)) → IsBlockSize b → limit < 2 ^ 32 → n < 2 ^ 32
    → before + length (joined parts) ≡ n → AllByRecursion (IsSegment limit b) parts
    → AllByRecursion (IsPiece limit b n) (map (piece b) (frames before parts))
frames_pieces limit b n before [] good lt small e h = tt
frames_pieces limit b n before (s ∷ ss) good lt small e h =
    let after = length (joined ss) in
    let f = framed before s after in
    let sum = length-append s (joined ss) in
    let all : before + length s + after ≡ n = omega (arith, e, sum) in
    let r = pieces_read b before after s [] good h.0.0 (omega (arith, all, small)) (omega (arith, h.0.1, lt)) in
    let one : Spells (piece b f ++ []) (plain_header b n (length (runs f))) (map chunk_of_run (runs f)) [] =
    subst (λ (j : ℕ). Spells (piece b f ++ []) (plain_header b j (length (runs f)))
    (map chunk_of_run (runs f)) []) all r.0 in
    let counted : Spells (piece b f ++ []) (plain_header b n (length (map chunk_of_run (runs f))))
    (map chunk_of_run (runs f)) [] =
    subst (λ (j : ℕ). Spells (piece b f ++ []) (plain_header b n j) (map chunk_of_run (runs f)) [])
    (sym (length-map (runs f) chunk_of_run)) one in (
      record {
        chunks = map chunk_of_run (runs f);
        within = omega (arith, piece_le b s before after h.0.0, h.0.1);
        spelled = subst (λ (y : List ℕ). Spells y (plain_header b n (length (map chunk_of_run (runs f))))
            (map chunk_of_run (runs f)) []) (append-nil (piece b f)) counted;
      },
      frames_pieces limit b n (before + length s) ss good lt small (omega (arith, e, sum)) h.1,
    )

pub each_piece : (limit b : ℕ) (l : List Block) → IsBlockSize b → AreBlocks b l → length l < 2 ^ 32 → 64 + b ≤ limit
    → limit < 2 ^ 32 → AllByRecursion (IsPiece limit b (length l)) (pieces limit b l)
each_piece limit b l good h n room lt =
    let segs = segments_good limit b l good h room in
    frames_pieces limit b (length l) 0 (segments limit b l) good lt n (omega (arith, ap length segs.1)) segs.0

frames-drop : (i before : ℕ) (parts : List (List Block))
    → drop i (frames before parts) ≡ frames (before + length (joined (take i parts))) (drop i parts)
frames-drop zero before parts = ap (λ (n : ℕ). frames n parts) (let e : before ≡ before + 0 = omega arith in e)
frames-drop (suc i) before [] = refl
frames-drop (suc i) before (s ∷ ss) = frames-drop i (before + length s) ss
    ∙ ap (λ (n : ℕ). frames n (drop i ss)) (let e : before + length s + length (joined (take i ss)) ≡ before + length
    (s ++ joined (take i ss)) = omega (arith, length-append s (joined (take i ss))) in e)

all-drop : (limit b i : ℕ) (parts : List (List Block)) → AllByRecursion (IsSegment limit b) parts
    → AllByRecursion (IsSegment limit b) (drop i parts)
all-drop limit b zero parts h = h
all-drop limit b (suc i) [] h = tt
all-drop limit b (suc i) (s ∷ ss) h = all-drop limit b i ss h.1

blocks_all : (limit b : ℕ) (parts : List (List Block)) → AllByRecursion (IsSegment limit b) parts
    → AllByRecursion (AreBlocks b) parts
blocks_all limit b [] h = tt
blocks_all limit b (s ∷ ss) h = (h.0.0, blocks_all limit b ss h.1)

joined-parts : (i : ℕ) (parts : List (List Block)) → joined parts ≡ joined (take i parts) ++ joined (drop i parts)
joined-parts zero parts = refl
joined-parts (suc i) [] = refl
joined-parts (suc i) (s ∷ ss) = ap (λ (t : List Block). s ++ t) (joined-parts i ss)
    ∙ sym (append_assoc s (joined (take i ss)) (joined (drop i ss)))

-- pieces after so many blocks, over any device
from_block : (b before : ℕ) (p : List ℕ) (parts : List (List Block)) → b % 4 ≡ 0 → AllByRecursion (AreBlocks b) parts
    → flashed_all b p (frames before parts) ≡ over p (cells b (replicate before Skip ++ joined parts))
from_block b before p parts four h =
    let skips : over p (cells b (replicate before Skip)) ≡ p = ap (over p) (cells-skips b before)
    ∙ over-nones p (before * b) in
    ap (λ (q : List ℕ). flashed_all b q (frames before parts)) (sym skips)
    ∙ ap (λ (n : ℕ). flashed_all b (over p (cells b (replicate before Skip))) (frames n parts))
    (sym (length-replicate before Skip))
    ∙ in_turn_from b p (replicate before Skip) parts four (AreBlocks-skips b before) h

pub from_piece : (limit b i : ℕ) (p : List ℕ) (l : List Block) → IsBlockSize b → AreBlocks b l → length l < 2 ^ 32
    → 64 + b ≤ limit → limit < 2 ^ 32
    → flashed_in_turn p (drop i (pieces limit b l)) ≡ over p
    (cells b (replicate (length (joined (take i (segments limit b l)))) Skip
    ++ drop (length (joined (take i (segments limit b l)))) l))
from_piece limit b i p l good h n room lt =
    let parts = segments limit b l in
    let segs = segments_good limit b l good h room in
    let before = length (joined (take i parts)) in
    let rest = drop i parts in
    let all : joined (take i parts) ++ joined rest ≡ l = sym (joined-parts i parts) ∙ segs.1 in
    let left : drop before l ≡ joined rest = ap (drop before) (sym all)
    ∙ drop_at (joined (take i parts)) (joined rest) before refl in
    let some = all-drop limit b i parts segs.0 in
    ap (flashed_in_turn p) (drop-map (piece b) i (frames 0 parts) ∙ ap (map (piece b)) (frames-drop i 0 parts
    ∙ ap (λ (k : ℕ). frames k rest) (let e : 0 + before ≡ before = omega arith in e)))
    ∙ frames_flashed limit b before p rest good lt
    (omega (arith, n, ap length all, length-append (joined (take i parts)) (joined rest))) some
    ∙ from_block b before p rest good.1 (blocks_all limit b rest some)
    ∙ ap (λ (m : List Block). over p (cells b (replicate before Skip ++ m))) (sym left)
