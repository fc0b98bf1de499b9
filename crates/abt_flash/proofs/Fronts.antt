-- The front of cells, which is written where a device has failed.
use Rattle.std.proofs.Common.{◌≡◌, ℕ, ◌+◌, ◌*◌, ◌≤◌, false, List, ◌++◌, length, take, replicate, Option, Some}
use Rattle.std.proofs.Common.{Result, Ok, Err, refl, sym, ap, ◌∙◌, arith, length-append}
use Rattle.std.specs.Prelude.{slice_get}
use Rattle.std.specs.List.{concat}
use Rattle.std.proofs.lemmas.Bool.Decides.{nat_tests}
use Rattle.std.proofs.lemmas.List.{length-map, take-append-le, take-map}
use Rattle.std.proofs.Math.Seq.{take-append-add}
use Rattle.abt_io.specs.Moment.{Keeps, Past, in_range, moment_of, put_at}
use Rattle.abt_io.proofs.Overs.{length_put}
use Rattle.abt_io.proofs.Words.{front_words, length_words}
use Rattle.abt_sparse.specs.Block.{over}
use Rattle.abt_sparse.proofs.Lay.{length-over}
use Rattle.abt_chunks.specs.Ahead.{fills, somes}
use Rattle.abt_chunks.specs.Places.{from_place}
use Rattle.abt_flash_faults.specs.declared.fault.FlashFault.{FlashFault}
use Rattle.abt_flash_faults.specs.declared.fault.FlashFault.TheVariants as fails
use Rattle.abt_flash.specs.Laying.{BreaksOff, IsFrontLaid}
use Rattle.abt_flash.proofs.Cells.{nothing_over, over_more, put_over}

-- the first bytes of a range
narrower : (a b n k i : ℕ) → a ≡ b → k ≤ n → in_range a n i ≡ false → in_range b k i ≡ false
narrower a b n k i same le h = grind (arith, nat_tests)

-- nothing is written
pub front_none : (torn at : ℕ) (cs : List (Option ℕ)) (p p' : List ℕ) → p' ≡ p → IsFrontLaid torn at cs p p'
front_none torn at cs p p' same = record {
  laid = 0;
  within = omega arith;
  long = ap length same;
  kept = λ i out. ap (λ (l : List ℕ). slice_get l i) (same ∙ sym (nothing_over p at));
}

-- a write of at most so many bytes has failed, and nothing was written before it
pub front_torn : (torn at k : ℕ) (cs : List (Option ℕ)) (past past' : Past) (p p' : List ℕ) → k ≤ torn
    → Keeps (in_range at k) (moment_of past p) (moment_of past' p') → IsFrontLaid torn at cs p p'
front_torn torn at k cs past past' p p' few kept = record {
  laid = 0;
  within = omega arith;
  long = kept.size;
  kept = λ i out. kept.bytes i (narrower (0 + at) at torn k i (omega arith) few out)
      ∙ ap (λ (l : List ℕ). slice_get l i) (sym (nothing_over p at));
}

-- words were written before it
pub front_of_words : (past past' : Past) (p q p' word : List ℕ) (at n done k : ℕ) → length word ≡ 4 → done ≤ n
    → k ≤ 65536 → at + 4 * n ≤ length p → q ≡ put_at p at (concat (replicate done word))
    → Keeps (in_range (at + 4 * done) k) (moment_of past q) (moment_of past' p')
    → IsFrontLaid 65536 at (fills n word) p p'
front_of_words past past' p q p' word at n done k four le few room written kept =
    let some : List ℕ = concat (replicate done word) in
    let all : List ℕ = concat (replicate n word) in
    let long : length some ≡ 4 * done = length_words done word four in
    let whole : length all ≡ 4 * n = length_words n word four in
    let cells : length (fills n word) ≡ length all = length-map all (λ x. Some x) in
    let fits : at + length some ≤ length p = omega (arith, long, le, room) in
    let front : take (4 * done) (fills n word) ≡ somes some =
    take-map (λ x. Some x) (4 * done) all ∙ ap somes (front_words n done word four le) in
    record {
      laid = 4 * done;
      within = omega (arith, cells, whole, le);
      long = kept.size ∙ ap length written ∙ length_put p at some fits;
      kept = λ i out. kept.bytes i (narrower (4 * done + at) (at + 4 * done) 65536 k i (omega arith) few out)
          ∙ ap (λ (l : List ℕ). slice_get l i) (written ∙ put_over at p some fits
          ∙ ap (λ (cs : List (Option ℕ)). over p (from_place at cs)) (sym front));
    }

-- other cells follow them
pub front_more : (torn at : ℕ) (cs ds : List (Option ℕ)) (p p' : List ℕ) → IsFrontLaid torn at cs p p'
    → IsFrontLaid torn at (cs ++ ds) p p'
front_more torn at cs ds p p' h = record {
  laid = h.laid;
  within = omega (arith, h.within, length-append cs ds);
  long = h.long;
  kept = λ i out. h.kept i out ∙ ap (λ (l : List (Option ℕ)). slice_get (over p (from_place at l)) i)
      (sym (take-append-le h.laid cs ds h.within));
}

-- they follow others, which are all written
pub front_behind : (torn at : ℕ) (p0 p p' : List ℕ) (cs ds : List (Option ℕ)) → p ≡ over p0 cs → at ≡ length cs
    → IsFrontLaid torn at ds p p' → IsFrontLaid torn 0 (cs ++ ds) p0 p'
front_behind torn at p0 p p' cs ds before long h =
    let front : take (h.laid + at) (cs ++ ds) ≡ cs ++ take h.laid ds =
    ap (λ (k : ℕ). take k (cs ++ ds)) (let z : h.laid + at ≡ length cs + h.laid = omega (arith, long) in z)
    ∙ take-append-add cs ds h.laid in
    record {
      laid = h.laid + at;
      within = omega (arith, h.within, long, length-append cs ds);
      long = h.long ∙ ap length before ∙ length-over p0 cs;
      kept = λ i out. h.kept i (narrower (h.laid + at + 0) (h.laid + at) torn torn i (omega arith) (omega arith) out)
          ∙ ap (λ (l : List ℕ). slice_get l i) (over_more p0 p _ cs (take h.laid ds) at before long refl
          ∙ ap (over p0) (sym front));
    }

-- ---- the same of what is returned

pub breaks_none : {X : Type 0} (r : Result X FlashFault) (at : ℕ) (cs : List (Option ℕ)) (p p' : List ℕ) → p' ≡ p
    → BreaksOff r at cs p p'
breaks_none (Ok v) at cs p p' same = tt
breaks_none (Err (fails.Read d)) at cs p p' same = front_none 0 at cs p p' same
breaks_none (Err (fails.Write d)) at cs p p' same = front_none 65536 at cs p p' same
breaks_none (Err f) at cs p p' same = tt

-- the front has so many cells at least
pub record FrontAtLeast (least torn : ℕ) (cells : List (Option ℕ)) (p p' : List ℕ) : Type 0 where
  pub front : IsFrontLaid torn 0 cells p p'
  pub long : least ≤ front.laid

pub at_least_more : (least torn : ℕ) (cs ds : List (Option ℕ)) (p p' : List ℕ) → FrontAtLeast least torn cs p p'
    → FrontAtLeast least torn (cs ++ ds) p p'
unfolding front_more
at_least_more least torn cs ds p p' h = record { front = front_more torn 0 cs ds p p' h.front; long = h.long }

at_least_behind : (torn at : ℕ) (p0 p p' : List ℕ) (cs ds : List (Option ℕ)) → p ≡ over p0 cs → at ≡ length cs
    → IsFrontLaid torn at ds p p' → FrontAtLeast (length cs) torn (cs ++ ds) p0 p'
unfolding front_behind
at_least_behind torn at p0 p p' cs ds before long h =
    record { front = front_behind torn at p0 p p' cs ds before long h; long = omega (arith, long) }

-- the same of what is returned
abbrev pub BreaksPast : {X : Type 0} → Result X FlashFault → ℕ → List (Option ℕ) → List ℕ → List ℕ → Type 0
BreaksPast (Err (fails.Read d)) least cells p p' = FrontAtLeast least 0 cells p p'
BreaksPast (Err (fails.Write d)) least cells p p' = FrontAtLeast least 65536 cells p p'
BreaksPast r least cells p p' = Unit {0}

pub breaks_behind : {X : Type 0} (r : Result X FlashFault) (at : ℕ) (p0 p p' : List ℕ) (cs ds : List (Option ℕ))
    → p ≡ over p0 cs → at ≡ length cs → BreaksOff r at ds p p' → BreaksPast r (length cs) (cs ++ ds) p0 p'
breaks_behind (Ok v) at p0 p p' cs ds before long h = tt
breaks_behind (Err (fails.Read d)) at p0 p p' cs ds before long h = at_least_behind 0 at p0 p p' cs ds before long h
breaks_behind (Err (fails.Write d)) at p0 p p' cs ds before long h =
    at_least_behind 65536 at p0 p p' cs ds before long h
breaks_behind (Err f) at p0 p p' cs ds before long h = tt
