-- Cells that are written over a partition from a place on.
use Rattle.std.proofs.Common.{◌≡◌, ℕ, zero, suc, ◌+◌, ◌*◌, ◌%◌, ◌/◌, ◌<◌, ◌≤◌, true, false, List, [], ◌∷◌, ◌++◌, length}
use Rattle.std.proofs.Common.{take, drop, replicate, Option, Some, None, get_or, refl, sym, ap, ◌∙◌, append-nil, arith}
use Rattle.std.proofs.Common.{inl, inr}
use Rattle.std.specs.Prelude.{is_some}
use Rattle.std.proofs.lemmas.Bool.{cases_Bool}
use Rattle.std.proofs.lemmas.Bool.Decides.{nat_tests}
use Rattle.std.proofs.lemmas.List.{replicate-append-replicate}
use Rattle.std.specs.List.{concat}
use Rattle.abt_io.specs.Moment.{in_range, put_at}
use Rattle.abt_sparse.specs.Block.{Block, Raw, Fill, Skip, IsBlock, AreBlocks, over, cells, cells_of, block_bytes}
use Rattle.abt_sparse.proofs.Lay.{nones, over-nones, over_behind}
use Rattle.abt_io.proofs.Words.{length_words}
use Rattle.abt_chunks.specs.Ahead.{somes, gaps}
use Rattle.abt_pieces.specs.Contents.{written_in}
use Rattle.abt_flash.specs.Laying.{writes}
use Rattle.abt_chunks.specs.Places.{from_place, said_by}

-- ---- what is put at a place

over_none : (p : List ℕ) → over p [] ≡ p
over_none [] = refl
over_none (y ∷ p) = refl

over_front : (p bytes : List ℕ) → length bytes ≤ length p → over p (somes bytes) ≡ bytes ++ drop (length bytes) p
over_front p [] le = over_none p
over_front [] (x ∷ bytes) le = absurd (omega (arith, le))
over_front (y ∷ p) (x ∷ bytes) le = ap (λ (r : List ℕ). x ∷ r) (over_front p bytes (omega (arith, le)))

pub put_over : (at : ℕ) (p bytes : List ℕ) → at + length bytes ≤ length p
    → put_at p at bytes ≡ over p (from_place at (somes bytes))
put_over zero p bytes le = ap (λ (k : ℕ). bytes ++ drop k p) (let z : 0 + length bytes ≡ length bytes = omega arith in
    z) ∙ sym (over_front p bytes (omega (arith, le)))
put_over (suc at) [] bytes le = absurd (omega (arith, le))
put_over (suc at) (y ∷ p) bytes le =
    ap (λ (k : ℕ). (y ∷ take at p ++ bytes) ++ drop k (y ∷ p))
    (let z : suc at + length bytes ≡ suc (at + length bytes) = omega arith in z)
    ∙ ap (λ (r : List ℕ). y ∷ r) (put_over at p bytes (omega (arith, le)))

-- nothing, and a gap
pub nothing_over : (p : List ℕ) (at : ℕ) → over p (from_place at []) ≡ p
nothing_over p at = rw (append-nil (nones at)) (over-nones p at)

pub gap_over : (p : List ℕ) (at n : ℕ) → over p (from_place at (gaps n)) ≡ p
gap_over p at n = ap (over p) (replicate-append-replicate at (4 * n) None) ∙ over-nones p (at + 4 * n)

-- cells after others
pub over_more : (p0 p p' : List ℕ) (cs ds : List (Option ℕ)) (at : ℕ) → p ≡ over p0 cs → at ≡ length cs
    → p' ≡ over p (from_place at ds) → p' ≡ over p0 (cs ++ ds)
over_more p0 p p' cs ds at before long e =
    e ∙ ap (λ (q : List ℕ). over q (from_place at ds)) before
    ∙ ap (λ (k : ℕ). over (over p0 cs) (from_place k ds)) long ∙ over_behind p0 cs ds

-- ---- which bytes are written

get_none : (i : ℕ) → get_or {A = Option ℕ} [] i None ≡ None
get_none zero = refl
get_none (suc i) = refl

written_there : (bytes : List ℕ) (i : ℕ) → i < length bytes → writes (somes bytes) i ≡ true
written_there [] i lt = absurd (omega (arith, lt))
written_there (x ∷ bytes) zero lt = refl
written_there (x ∷ bytes) (suc i) lt = written_there bytes i (omega (arith, lt))

written_from : (at : ℕ) (bytes : List ℕ) (i : ℕ) → at ≤ i → i < at + length bytes
    → writes (from_place at (somes bytes)) i ≡ true
written_from zero bytes i le lt = written_there bytes i (omega (arith, lt))
written_from (suc at) bytes zero le lt = absurd (omega (arith, le))
written_from (suc at) bytes (suc i) le lt = written_from at bytes i (omega (arith, le)) (omega (arith, lt))

in_range_is : (at n i : ℕ) → in_range at n i ≡ true → (at ≤ i) × (i < at + n)
in_range_is at n i e = (grind (arith, nat_tests), grind (arith, nat_tests))

-- a byte that isn't written is outside the range
pub unwritten_range : (at : ℕ) (bytes : List ℕ) (n i : ℕ) → length bytes ≡ n
    → writes (from_place at (somes bytes)) i ≡ false → in_range at n i ≡ false
unwritten_range at bytes n i long e = elim (cases_Bool (in_range at n i)) [
  | inl t ↦ let r = in_range_is at n i t in let w : writes (from_place at (somes bytes)) i ≡ true =
      written_from at bytes i r.0 (omega (arith, r.1, long)) in absurd (let b : true ≡ false = sym w ∙ e in cc)
  | inr t ↦ t
]

pub empty_range : (at i : ℕ) → in_range at 0 i ≡ false
empty_range at i = elim (cases_Bool (in_range at 0 i)) [
  | inl t ↦ let r = in_range_is at 0 i t in absurd (omega (arith, r.0, r.1))
  | inr t ↦ t
]

-- what isn't written by cells isn't written by a prefix of them, nor by what follows
pub unwritten_front : (cs ds : List (Option ℕ)) (i : ℕ) → writes (cs ++ ds) i ≡ false → writes cs i ≡ false
unwritten_front [] ds i e = ap is_some (get_none i)
unwritten_front (c ∷ cs) ds zero e = e
unwritten_front (c ∷ cs) ds (suc i) e = unwritten_front cs ds i e

pub unwritten_behind : (cs ds : List (Option ℕ)) (i : ℕ) → writes (cs ++ ds) i ≡ false
    → writes (from_place (length cs) ds) i ≡ false
unwritten_behind [] ds i e = e
unwritten_behind (c ∷ cs) ds zero e = refl
unwritten_behind (c ∷ cs) ds (suc i) e = unwritten_behind cs ds i e

-- ---- how many

pub written_by-append : (cs ds : List (Option ℕ)) → said_by (cs ++ ds) ≡ said_by cs + said_by ds
written_by-append [] ds = omega arith
written_by-append (None ∷ cs) ds = written_by-append cs ds
written_by-append (Some x ∷ cs) ds = omega (arith, written_by-append cs ds)

pub written_somes : (bytes : List ℕ) → said_by (somes bytes) ≡ length bytes
written_somes [] = refl
written_somes (x ∷ bytes) = omega (arith, written_somes bytes)

pub written_nones : (n : ℕ) → said_by (nones n) ≡ 0
written_nones zero = refl
written_nones (suc n) = written_nones n

written_block : (b : ℕ) (x : Block) → b % 4 ≡ 0 → IsBlock b x
    → said_by (cells_of b (block_bytes b x)) ≡ b * written_in (x ∷ [])
written_block b (Raw bytes) four h = written_somes bytes ∙ omega (arith, h)
written_block b (Fill word) four h = let long = length_words (b / 4) word h in
    written_somes (concat (replicate (b / 4) word)) ∙ omega (arith, long)
written_block b Skip four h = written_nones b ∙ omega arith

-- of blocks: each raw and fill one has its b bytes
pub written_cells : (b : ℕ) (l : List Block) → b % 4 ≡ 0 → AreBlocks b l → said_by (cells b l) ≡ b * written_in l
written_cells b [] four h = omega arith
written_cells b (x ∷ l) four h =
    let sum : b * written_in (x ∷ l) ≡ b * written_in (x ∷ []) + b * written_in l = omega arith in
    omega (
      arith,
      written_by-append (cells_of b (block_bytes b x)) (cells b l),
      written_block b x four h.0,
      written_cells b l four h.1,
      sum,
    )

pub written_le_blocks : (l : List Block) → written_in l ≤ length l
written_le_blocks [] = omega arith
written_le_blocks (Raw x ∷ l) = omega (arith, written_le_blocks l)
written_le_blocks (Fill w ∷ l) = omega (arith, written_le_blocks l)
written_le_blocks (Skip ∷ l) = omega (arith, written_le_blocks l)
