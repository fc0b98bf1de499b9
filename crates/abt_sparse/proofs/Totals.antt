-- How long all pieces of an image are together.
use Rattle.std.proofs.Common.{◌≡◌, ℕ, zero, suc, ◌+◌, ◌*◌, ◌≤◌, true, List, [], ◌∷◌, ◌++◌, length, map, replicate, refl}
use Rattle.std.proofs.Common.{ap, ◌∙◌, arith, inl, inr, nat_le, length-append}
use Rattle.std.specs.List.{concat, AllByRecursion}
use Rattle.std.proofs.lemmas.Bool.{cases_Bool}
use Rattle.std.proofs.lemmas.List.{length-map}
use Rattle.abt_sparse.specs.Block.{Block, Raw, Fill, Skip, AreBlocks}
use Rattle.abt_sparse.specs.Runs.{alike, weight, segments, framed, frames, joined}
use Rattle.abt_sparse.specs.Chunk.{Header, Chunk, Raws, Fills, Skips, Crc, data_of, blocks_of, classed, IsChunk}
use Rattle.abt_sparse.specs.Chunk.{SpellsChunk, SpellsChunks, piece}
use Rattle.abt_sparse.specs.Fails.{Spells}
use Rattle.abt_sparse.specs.Pieces.{pieces}
use Rattle.abt_sparse.proofs.AreAll.{AreBlocks-joined}
use Rattle.abt_sparse.proofs.Greedy.{joined-greedy}
use Rattle.abt_sparse.proofs.Weights.{more, full, edge, step, total, inner, weight_is, trimmed-inner}
use Rattle.abt_sparse.proofs.Lengths.{skips_le, piece_le}
use Rattle.abt_sparse.proofs.RunLaws.{bytes_same}
use Rattle.abt_sparse.proofs.ChunkLaws.{length-concat}
use Rattle.abt_sparse.proofs.Spelling.{spelled_blocks}

-- ---- what a list weighs as one piece, cut and joined

step_le : (b : ℕ) (y z : Block) → (step b y z ≤ full b y) × (full b y ≤ step b y z + 16)
step_le b y z = elim (cases_Bool (alike y z)) [
  | inl e ↦ rw e (grows y)
  | inr e ↦ rw e (omega arith, omega arith)
] where
  grows : (x : Block) → (more b x ≤ full b x) × (full b x ≤ more b x + 16)
  grows (Raw x) = (omega arith, omega arith)
  grows (Fill x) = (omega arith, omega arith)
  grows Skip = (omega arith, omega arith)

total_split : (b : ℕ) (l m : List Block) → total b l + total b m ≤ total b (l ++ m) + 16
total_split b [] m = omega arith
total_split b (y ∷ []) [] = omega arith
total_split b (y ∷ []) (z ∷ m) = let s = step_le b y z in omega arith
total_split b (y ∷ z ∷ l) m = let ih = total_split b (z ∷ l) m in omega arith

total_joined : (b : ℕ) (l m : List Block) → total b (l ++ m) ≤ total b l + total b m
total_joined b [] m = omega arith
total_joined b (y ∷ []) [] = omega arith
total_joined b (y ∷ []) (z ∷ m) = let s = step_le b y z in omega arith
total_joined b (y ∷ z ∷ l) m = let ih = total_joined b (z ∷ l) m in omega arith

edge_le : (b : ℕ) (y : Block) → edge b y ≤ full b y
edge_le b (Raw x) = omega arith
edge_le b (Fill x) = omega arith
edge_le b Skip = omega arith

inner_le : (b : ℕ) (l : List Block) → inner b l ≤ total b l
inner_le b [] = omega arith
inner_le b (y ∷ []) = edge_le b y
inner_le b (y ∷ z ∷ l) = let ih = inner_le b (z ∷ l) in omega arith

weight_le : (b : ℕ) (l : List Block) → weight b l ≤ 52 + total b l
weight_le b l = omega (arith, weight_is b l, trimmed-inner b l, inner_le b l)

-- ---- all pieces together

frames_le : (b before : ℕ) (parts : List (List Block)) → AllByRecursion (AreBlocks b) parts
    → length (concat (map (piece b) (frames before parts))) ≤ total b (joined parts) + 68 * length parts
frames_le b before [] h = omega arith
frames_le b before (s ∷ ss) h =
    let after = length (joined ss) in
    let ih = frames_le b (before + length s) ss h.1 in
    let one = piece_le b s before after h.0 in
    let w = weight_le b s in
    let t = total_split b s (joined ss) in
    omega (
      arith,
      length-append (piece b (framed before s after))
          (concat (map (piece b) (frames (before + length s) ss))),
      ih,
      one,
      w,
      t,
    )

length-frames : (before : ℕ) (parts : List (List Block)) → length (frames before parts) ≡ length parts
length-frames before [] = refl
length-frames before (s ∷ ss) = ap suc (length-frames (before + length s) ss)

pub length-pieces : (limit b : ℕ) (l : List Block) → length (pieces limit b l) ≡ length (segments limit b l)
length-pieces limit b l = length-map (frames 0 (segments limit b l)) (piece b) ∙ length-frames 0 (segments limit b l)

pub pieces_le : (limit b : ℕ) (l : List Block) → AreBlocks b l
    → length (concat (pieces limit b l)) ≤ total b l + 68 * length (pieces limit b l)
pieces_le limit b l h =
    let segs = segments limit b l in
    let j : joined segs ≡ l = joined-greedy (λ part. nat_le (weight b part) limit) l [] in
    let all = frames_le b 0 segs (AreBlocks-joined b segs (rw j h)) in
    omega (arith, all, ap (total b) j, length-pieces limit b l)

-- ---- against the image

block_le : (b : ℕ) (y : Block) → full b y ≤ b + 16
block_le b (Raw x) = omega arith
block_le b (Fill x) = omega arith
block_le b Skip = omega arith

total_blocks : (b : ℕ) (l : List Block) → total b l ≤ length l * (b + 16)
total_blocks b [] = omega arith
total_blocks b (y ∷ []) = omega (arith, block_le b y)
total_blocks b (y ∷ z ∷ l) =
    let ih = total_blocks b (z ∷ l) in
    let s = step_le b y z in
    let n : suc (suc (length l)) * (b + 16) ≡ (b + 16) + suc (length l) * (b + 16) = omega arith in
    omega (arith, ih, s, block_le b y, n)

raws_le : (b : ℕ) (xs : List (List ℕ)) → total b (map (λ x. Raw x) xs) ≤ 12 + length xs * b
raws_le b [] = omega arith
raws_le b (x ∷ []) = omega arith
raws_le b (x ∷ y ∷ xs) = let ih = raws_le b (y ∷ xs) in let n : suc (suc (length xs)) * b ≡ b + suc (length xs) * b =
    omega arith in omega (arith, ih, n)

fills_le : (b n : ℕ) (w : List ℕ) → total b (replicate n (Fill w)) ≤ 16
fills_le b zero w = omega arith
fills_le b (suc zero) w = omega arith
fills_le b (suc (suc n)) w = let ih = fills_le b (suc n) w in let e : alike (Fill w) (Fill w) ≡ true = bytes_same w in
    rw e (omega (arith, ih))

chunk_le : (b : ℕ) (c : Chunk) → IsChunk b c → total b (blocks_of c) ≤ 12 + length (data_of c)
chunk_le b (Raws xs) h = omega (arith, raws_le b xs, length-concat b xs h)
chunk_le b (Fills w n) h = omega (arith, fills_le b n w, h)
chunk_le b (Skips n) h = omega (arith, skips_le b n)
chunk_le b (Crc w) h = omega arith

spelled_le : (h : Header) (c : Chunk) (front : List ℕ) → 12 ≤ h.chunk_hdr_sz → SpellsChunk h c front
    → total h.blk_sz (blocks_of c) ≤ length front
spelled_le h c front hdr s =
    let long : length front ≡ 12 + (length s.extra + length (data_of c)) = ap length s.spelled
    ∙ omega (arith, length-append s.extra (data_of c)) in
    omega (arith, long, chunk_le h.blk_sz c s.is_chunk)

chunks_le : (h : Header) (cs : List Chunk) (y rest : List ℕ) → 12 ≤ h.chunk_hdr_sz → SpellsChunks h cs y rest
    → total h.blk_sz (classed cs) + length rest ≤ length y
chunks_le h [] y rest hdr s = omega (arith, ap length s)
chunks_le h (c ∷ cs) y rest hdr s =
    let ih = chunks_le h cs s.1 rest hdr s.4 in
    let one = spelled_le h c s.0 hdr s.2 in
    let t = total_joined h.blk_sz (blocks_of c) (classed cs) in
    omega (arith, ih, one, t, ap length s.3, length-append s.0 s.1)

image_le : (x : List ℕ) (h : Header) (cs : List Chunk) (rest : List ℕ) → Spells x h cs rest
    → total h.blk_sz (classed cs) + length rest ≤ length x
image_le x h cs rest s =
    let head = s.front.header in
    let body = chunks_le h cs s.front.after rest head.fits.chunk_hdr_sz.0 s.front.chunks in
    let long : length x ≡ 28 + (length head.extra + length s.front.after) = ap length head.spelled
    ∙ omega (arith, length-append head.extra s.front.after) in
    omega (arith, body, long)

pub pieces_of_sparse : (limit : ℕ) (x : List ℕ) (h : Header) (cs : List Chunk) (rest : List ℕ) → Spells x h cs rest
    → length (concat (pieces limit h.blk_sz (classed cs))) + length rest ≤ length x + 68 * length
    (pieces limit h.blk_sz (classed cs))
pieces_of_sparse limit x h cs rest s =
    let bs = spelled_blocks x h cs rest s in
    omega (arith, pieces_le limit h.blk_sz (classed cs) bs.0, image_le x h cs rest s)

pub pieces_of_blocks : (limit b : ℕ) (l : List Block) → AreBlocks b l
    → length (concat (pieces limit b l)) ≤ length l * (b + 16) + 68 * length (pieces limit b l)
pieces_of_blocks limit b l h = omega (arith, pieces_le limit b l h, total_blocks b l)
