-- A piece that is written in one pass, whole.
use Rattle.std.proofs.Common.{inl, inr, ◌⊎◌, ◌≡◌, ℕ, zero, suc, ◌+◌, ◌-◌, ◌*◌, ◌%◌, ◌^◌, ◌<◌, ◌≤◌, nat_lt, Bool, IsTrue}
use Rattle.std.proofs.Common.{List, [], ◌∷◌, ◌++◌, length, take, drop, map, replicate, refl, sym, ap, subst, ◌∙◌, arith}
use Rattle.std.proofs.Common.{append-nil, length-append, Result, Ok, Err, OnOk}
use Rattle.std.proofs.lemmas.List.{length-take-le, length-drop, take_all}
use Rattle.std.proofs.lemmas.Bool.{cases_Bool, ltb-true, ltb-false}
use Rattle.std.proofs.Math.Seq.{take-append_seam, drop-append_seam}
use Rattle.std.specs.List.{flat_map, AllByRecursion}
use Rattle.abt_io.specs.Moment.{put_at}
use Rattle.abt_sparse.specs.Block.{Block, Raw, Fill, Skip, AreBlocks}
use Rattle.abt_sparse.specs.Chunk.{header_record, plain_header, plain, chunk_of_run, chunks_of, spelling, piece}
use Rattle.abt_sparse.specs.Fails.{Spells}
use Rattle.abt_sparse.specs.Runs.{framed, runs, weight}
use Rattle.abt_sparse.proofs.Lengths.{piece_le}
use Rattle.abt_sparse.proofs.Spelling.{reads_back}
use Rattle.abt_runs.specs.Tail.{raw_list}
use Rattle.abt_runs.specs.TailLaws.{list_long}
use Rattle.abt_pieces.specs.Contents.{written_in}
use Rattle.abt_pieces.specs.Gather.{frame}
use Rattle.abt_pieces.specs.Image.{Appended, IsPlainImage}
use Rattle.abt_pieces.specs.Outline.{IsPieceOf}
use Rattle.abt_pieces.specs.declared.outline.Piece.{Piece}
use Rattle.abt_pieces.specs.Plan.{between}
use Rattle.abt_pieces.proofs.Counting.{written-append}
use Rattle.abt_pieces.proofs.Planning.{first_piece}
use Rattle.abt_placed.specs.Placer.{SoundPlacer, closed, closing}
use Rattle.abt_placed.specs.Placed.{Placed, skips}
use Rattle.abt_placed.specs.Whole.{taken}
use Rattle.abt_placed.specs.Segment.{SoundSegment, IsUncut, LaidSegment, ToldSegment, EndedSegment, IsHeldBlock}
use Rattle.abt_placed.specs.Piece.{LaidPiece, WholePiece}
use Rattle.abt_placed.specs.declared.placer.Placer.{Placer}
use Rattle.abt_placed.specs.declared.segment.Segment.{Segment}
use Rattle.abt_placed.specs.Unfinished.{IsUnfinished, IsNoImage, KeepsFront}
use Rattle.abt_placed.proofs.Refusing.{refused, keeps_less, zeros_kept}
use Rattle.abt_placed.proofs.Laying.{placed_whole}
use Rattle.abt_pieces.proofs.Uncut.{uncut, uncut_spelling}

-- ---- the end of a piece

-- what holds of two results holds of one
pub on_both : {X E : Type 0} (res : Result X E) (P Q R : Type 0) → (P → Q → R) → OnOk res P → OnOk res Q → OnOk res R
on_both (Ok x) P Q R f p q = f p q
on_both (Err e) P Q R f p q = tt

-- the blocks of a segment, of all that were placed
blocks_of_segment : (b first : ℕ) (g h : List Block) → AreBlocks b ((skips first ++ g) ++ h) → AreBlocks b g
blocks_of_segment b first g h good = middle (skips first) (front (skips first ++ g) good)
  where
    front : (xs : List Block) → AreBlocks b (xs ++ h) → AreBlocks b xs
    front [] y = tt
    front (x ∷ xs) y = (y.0, front xs y.1)

    middle : (xs : List Block) → AreBlocks b (xs ++ g) → AreBlocks b g
    middle [] y = y
    middle (x ∷ xs) y = middle xs y.1

pub end_laid : (b n k : ℕ) (g : List Block) (now mid new : List ℕ) (s : Segment) (p t : Placer) → taken s.placer + k
    ≡ n → SoundPlacer b (length mid) p → Placed b ((skips s.first ++ g) ++ skips k) mid p → p.blocks + p.count
    ≡ taken s.placer + k → p.most ≡ s.placer.most → p.front ≡ s.placer.front
    → take s.placer.front mid ≡ take s.placer.front now → t ≡ closed p → new
    ≡ put_at (closing p b mid) p.front (header_record (plain_header b (closed p).blocks (closed p).chunks))
    → LaidPiece b n s.placer.most t.chunks (framed s.first g (n - taken s.placer)) (take s.placer.front now) new
end_laid b n k g now mid new s p t whole sound placed passed most front before is laid =
    let f = (skips s.first ++ g) ++ skips k in
    let y = placed_whole b f mid new p t sound placed is laid in
    let e : k ≡ n - taken s.placer = omega (arith, whole) in
    subst (λ (m : ℕ). LaidPiece b n s.placer.most t.chunks (framed s.first g m) (take s.placer.front now) new) e
    (record {
      good = placed.good;
      count = placed.count ∙ passed ∙ whole;
      chunks_are = y.1 ∙ ap (λ (m : ℕ). length (chunks_of m f)) most;
      stands = y.0 ∙ ap (λ (m : ℕ). take m mid ++ spelling b p.most f) front
          ∙ ap (λ (x : List ℕ). x ++ spelling b p.most f) before
          ∙ ap (λ (m : ℕ). take s.placer.front now ++ spelling b m f) most;
    })

-- ---- a whole piece

pub whole_piece : (models tail : Bool) (x : List ℕ) (b len n limit r first past chunks : ℕ) (old now old' new : List ℕ)
    (s : Segment) → 4 ≤ b → len ≤ n * b → n * b < len + b → (IsTrue models → len ≡ length x)
    → SoundSegment b (length now) s → (t : ToldSegment models tail x b now s) → EndedSegment models tail x b n s
    → s.first ≡ first → taken s.placer ≡ past → s.limit ≡ limit → past ≤ n
    → old' ≡ old → LaidPiece b n r chunks (framed s.first t.blocks (n - taken s.placer)) old' new
    → WholePiece models tail x b n limit r first past chunks old new
whole_piece models tail x b len n limit r first past chunks old now old' new s four covers last known h t e at to most
    within same l = rw (← at, ← to, ← most) (record {
      blocks = t.blocks;
      laid = rw same at l;
      held = t.laid.held;
      fits = omega (arith, t.laid.heavy, h.room);
      told = λ y.
          let c = raw_list tail b x in
          let is = t.told y in
          let long = list_long tail len n b x four covers last (known y) in (
            is,
            first_piece b s.limit c s.first (taken s.placer) four h.granted h.order (omega (arith, long, within, to))
                (let w : s.weight ≡ weight b (between c s.first (taken s.placer)) = t.laid.heavy
                ∙ ap (weight b) is in omega (arith, w, h.room)) (e.over y),
          );
    })

-- it reads as an image, whatever the source gave
pub piece_image : (models tail : Bool) (x : List ℕ) (b n limit r first past chunks : ℕ) (old new : List ℕ) → (0 < b)
    × (b % 4 ≡ 0) × (b < 2 ^ 32) → 1 ≤ r → 12 + r * b < 2 ^ 32 → n < 2 ^ 32
    → WholePiece models tail x b n limit r first past chunks old new → Appended (IsPlainImage b n) old new
piece_image models tail x b n limit r first past chunks old new good some small few w =
    let f = framed first w.blocks (n - past) in
    let l = w.laid in
    let cs = chunks_of r f in
    let s = (reads_back b r f [] good some small l.good (omega (arith, l.count, few))).0 in
    let q : Spells (spelling b r f) (plain_header b (length f) (length cs)) cs [] = subst
    (λ (y : List ℕ). Spells y (plain_header b (length f) (length cs)) cs []) (append-nil (spelling b r f)) s in
    let t : Spells (spelling b r f) (plain_header b n (length cs)) cs [] = subst
    (λ (m : ℕ). Spells (spelling b r f) (plain_header b m (length cs)) cs []) l.count q in
    record { wrote = spelling b r f; behind = l.stands; is = record { chunks = cs; spelled = t } }

-- ---- what it is where the source models its content

-- a whole image
pub image_blocks : (models tail : Bool) (x : List ℕ) (b len n limit r past chunks : ℕ) (old new : List ℕ) → 4 ≤ b
    → len ≤ n * b → n * b < len + b → (IsTrue models → len ≡ length x) → IsTrue models → past ≡ n
    → (w : WholePiece models tail x b n limit r 0 past chunks old new) → framed 0 w.blocks (n - past)
    ≡ raw_list tail b x
image_blocks models tail x b len n limit r past chunks old new some covers last known t all w =
    let l = raw_list tail b x in
    let none : n - past ≡ 0 = omega (arith, all) in
    ap (λ (k : ℕ). framed 0 w.blocks k) none ∙ append-nil w.blocks ∙ (w.told t).0
    ∙ take_all (past - 0) l (let z = list_long tail len n b x some covers last (known t) in omega (arith, z, all))

-- no raw run of a piece is cut
pub piece_told : (models tail : Bool) (x : List ℕ) (b n limit r first past chunks : ℕ) (old new : List ℕ)
    → IsUncut b limit r → IsTrue models → n ≡ length (raw_list tail b x)
    → WholePiece models tail x b n limit r first past chunks old new → new ≡ old
    ++ piece b (frame (raw_list tail b x) first past)
piece_told models tail x b n limit r first past chunks old new few t long w =
    let f = framed first w.blocks (n - past) in
    let le = piece_le b w.blocks first (n - past) (blocks_of_segment b first w.blocks (skips (n - past)) w.laid.good) in
    let bytes = flat_map plain (map chunk_of_run (runs f)) in
    let all : length (piece b f) ≡ 28 + length bytes = length-append
    (header_record (plain_header b (length f) (length (map chunk_of_run (runs f))))) bytes in
    w.laid.stands ∙ ap (λ (y : List ℕ). old ++ y) (uncut_spelling b r f
    (uncut b r f w.laid.good (omega (arith, le, all, w.fits, few))))
    ∙ ap (λ (g : List Block). old ++ piece b (framed first g (n - past))) (w.told t).0
    ∙ ap (λ (m : ℕ). old ++ piece b (framed first (between (raw_list tail b x) first past) (m - past))) long

all_held : (g : List Block) → AllByRecursion IsHeldBlock g → written_in g ≡ length g
all_held [] h = refl
all_held (Raw x ∷ g) h = let y = all_held g h.1 in omega (arith, y)
all_held (Fill w ∷ g) h = let y = all_held g h.1 in omega (arith, y)
all_held (Skip ∷ g) h = absurd h.0

none_held : (n : ℕ) → written_in (skips n) ≡ 0
none_held zero = refl
none_held (suc n) = let z = none_held n in omega (arith, z)

pub piece_held : (models tail : Bool) (x : List ℕ) (b n limit r first past chunks : ℕ) (old new : List ℕ)
    → IsTrue models → n ≡ length (raw_list tail b x) → first ≤ past → past ≤ n
    → WholePiece models tail x b n limit r first past chunks old new → past - first
    ≡ written_in (frame (raw_list tail b x) first past)
piece_held models tail x b n limit r first past chunks old new t long order within w =
    let l = raw_list tail b x in
    let g = between l first past in
    let held : AllByRecursion IsHeldBlock g = subst (λ (y : List Block). AllByRecursion IsHeldBlock y) (w.told t).0
    w.held in
    let a = written-append (skips first ++ g) (skips (length l - past)) in
    let c = written-append (skips first) g in
    omega (arith, a, c, none_held first, none_held (length l - past), all_held g held, length-between l refl)
  where
    length-between : (l : List Block) → l ≡ raw_list tail b x → length (between l first past) ≡ past - first
    length-between l e = length-take-le (past - first) (drop first l)
        (omega (arith, length-drop first l, ap length e, long, within, order))

-- a limit that no image reaches cuts none
pub all_taken : (past n limit : ℕ) → past ≤ n → (past < n → limit < 2 ^ 49) → 2 ^ 49 ≤ limit → past ≡ n
all_taken past n limit within reached far = elim (cases_Bool (nat_lt past n)) [
  | inl e ↦ let z = reached (ltb-true past n e) in absurd (omega (arith, z, far))
  | inr e ↦ let z = ltb-false past n e in omega (arith, z, within)
]

-- ---- the beginning of a piece

pub first_told : (models tail : Bool) (x : List ℕ) (b first : ℕ) (now : List ℕ) (s : Segment) → s.first ≡ first
    → taken s.placer ≡ first → LaidSegment b [] now s → ToldSegment models tail x b now s
first_told models tail x b first now s at all l = record {
  blocks = [];
  laid = l;
  told = λ t. (let z : taken s.placer - s.first ≡ 0 = omega (arith, at, all) in sym
      (ap (λ (n : ℕ). take n (drop s.first (raw_list tail b x))) z));
}

zeros_first : (f : ℕ) (old mid : List ℕ) → f ≡ length old → mid ≡ old ++ replicate 28 0 → take 28 (drop f mid)
    ≡ replicate 28 0
zeros_first f old mid at e = ap (λ (n : ℕ). take 28 (drop n mid)) at
    ∙ ap (λ (l : List ℕ). take 28 (drop (length old) l)) e ∙ ap (take 28) (drop-append_seam old (replicate 28 0))

-- what was stored before, and the zeros for the header, are unchanged
pub front_kept : (f f' : ℕ) (old mid new : List ℕ) → f ≡ length old → f' ≡ f → mid ≡ old ++ replicate 28 0
    → KeepsFront (f' + 28) mid new → take f new ≡ old
front_kept f f' old mid new at same e k =
    (keeps_less f (f' + 28) mid new (omega (arith, same)) k).front ∙ ap (λ (n : ℕ). take n mid) at
    ∙ ap (take (length old)) e ∙ take-append_seam old (replicate 28 0)

pub zeros_stay : (f f' : ℕ) (old mid new : List ℕ) → f ≡ length old → f' ≡ f → mid ≡ old ++ replicate 28 0
    → KeepsFront (f' + 28) mid new → take 28 (drop f new) ≡ replicate 28 0
zeros_stay f f' old mid new at same e k = zeros_kept f mid new (subst (λ (n : ℕ). KeepsFront (n + 28) mid new) same k)
    (zeros_first f old mid at e)

pub unfinished_at : (f : ℕ) (old new : List ℕ) → f ≡ length old → IsUnfinished (drop f new)
    → IsUnfinished (drop (length old) new)
unfinished_at f old new at h = subst (λ (n : ℕ). IsUnfinished (drop n new)) at h

-- ---- what is returned

pub piece_exact : (models tail : Bool) (x : List ℕ) (b n limit r first chunks : ℕ) (old new : List ℕ) (p : Piece)
    → IsUncut b limit r → IsTrue models → n ≡ length (raw_list tail b x) → p.first ≡ first → p.first ≤ p.past
    → p.past ≤ n → p.written ≡ p.past - p.first → length new ≡ length old + p.bytes
    → WholePiece models tail x b n limit r first p.past chunks old new → IsPieceOf b (raw_list tail b x) p
piece_exact models tail x b n limit r first chunks old new p few t long at order within held bytes w =
    let l = raw_list tail b x in
    let q : WholePiece models tail x b n limit r p.first p.past chunks old new = rw at w in
    let e = piece_told models tail x b n limit r p.first p.past chunks old new few t long q in
    record {
      order = order;
      within = omega (arith, within, long);
      held = held ∙ piece_held models tail x b n limit r p.first p.past chunks old new t long order within q;
      long = omega (arith, bytes, ap length e, length-append old (piece b (frame l p.first p.past)));
    }

pub unfinished_refused : (old new : List ℕ) → (new ≡ old) ⊎ IsUnfinished (drop (length old) new) → (new ≡ old)
    ⊎ IsNoImage (drop (length old) new)
unfinished_refused old new h = elim h [ inl e ↦ inl e | inr e ↦ inr (refused (drop (length old) new) e) ]

pub all_kept : (f f' : ℕ) (old mid now new : List ℕ) → f ≡ length old → f' ≡ f → mid ≡ old ++ replicate 28 0
    → KeepsFront (f' + 28) mid now → take f new ≡ take f now → take (length old) new ≡ old
all_kept f f' old mid now new at same e k h = ap (λ (n : ℕ). take n new) (sym at) ∙ h
    ∙ front_kept f f' old mid now at same e k
