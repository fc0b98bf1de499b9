-- Where a step may write, and how it is charged.
use Rattle.std.proofs.Common.{◌≡◌, ℕ, ◌+◌, ◌*◌, ◌^◌, ◌<◌, ◌≤◌, Bool, true, false, refl, sym, ap, subst, ◌∙◌, arith, inl}
use Rattle.std.proofs.Common.{inr, nat_lt, ◌||◌, ◌&&◌, ltb-false}
use Rattle.std.proofs.lemmas.Bool.{cases_Bool}
use Rattle.std.proofs.Math.Nat.{mul-le-mul_right}
use Rattle.std.specs.Prelude.{IsTrue, if◌then◌else◌}
use Rattle.abt_chunks.specs.declared.walk.Phase.{Phase}
use Rattle.abt_chunks.specs.declared.walk.Phase.TheVariants as phases
use Rattle.abt_chunks.specs.declared.walk.Walk.{Walk}
use Rattle.abt_chunks.specs.declared.walk.Part.{Part}
use Rattle.abt_chunks.specs.declared.walk.Part.TheVariants as parts
use Rattle.abt_chunks.specs.Expanding.{IsGoing}
use Rattle.abt_chunks.specs.Parts.{Moved, Within, given_by, goes_on, PartLeaves}
use Rattle.abt_chunks.specs.Places.{place_in, place_of, upto_in, upto_of}
use Rattle.abt_chunks.specs.ListingAhead.{Numbers, at_end}
use Rattle.abt_flash.specs.Laying.{IsStill, put_by}
use Rattle.abt_flash.specs.Stepping.{IsFresh, IsFresh_in, is_short_of, need_of, passed_in}
use Rattle.abt_chunks.specs.Expanding.{OnMoreExpanding, answer_by}
use Rattle.abt_flash_faults.specs.Fault.{fault_of_sparse}

-- ---- room

pub put_le : (q : Part) → put_by q ≤ given_by q
put_le (parts.Raw n) = omega arith
put_le (parts.Words word n) = omega arith
put_le (parts.Skip n) = omega arith
put_le parts.Nothing = omega arith
put_le parts.End = omega arith
put_le (parts.Fault f) = omega arith

or_false : (a b : Bool) → (a || b) ≡ false → a ≡ false
or_false true b e = absurd (let f : true ≡ false = e in cc)
or_false false b e = refl

some_room : (s : Walk) (size place upto g put : ℕ)
    → ((nat_lt 0 s.index || at_end s) && nat_lt size (need_of s)) ≡ false → upto ≡ s.have * s.header.blk_sz
    → place + g ≤ upto → put ≤ g → place ≤ upto → need_of s < 2 ^ 64
    → (place + put ≤ size) × (place + put < 2 ^ 64)
some_room s size place upto g put short u inside le within small =
    let mono : s.have * s.header.blk_sz ≤ s.header.total_blks * s.header.blk_sz =
    mul-le-mul_right s.header.blk_sz s.room in
    elim (cases_Bool (nat_lt 0 s.index || at_end s)) [
      | inl t ↦
          let fits : need_of s ≤ size = ltb-false _ _ (ap (λ (b : Bool). b && nat_lt size (need_of s)) (sym t)
          ∙ short) in
          (omega (arith, mono, fits), omega (arith, mono, small))
      | inr t ↦
          let none : s.index ≤ 0 = ltb-false _ _ (or_false (nat_lt 0 s.index) (at_end s) t) in
          let have : s.have ≡ 0 = omega (arith, s.begun, none) in
          let zero : s.have * s.header.blk_sz ≡ 0 = ap (λ (n : ℕ). n * s.header.blk_sz) have ∙ omega arith in
          (omega (arith, zero), omega (arith, zero))
    ]

room_in : (p : Phase) (s : Walk) (size g put : ℕ) → (passed_in p s && nat_lt size (need_of s)) ≡ false
    → place_in p s + g ≤ upto_in p s → put ≤ g → need_of s < 2 ^ 64 → (place_in p s + put ≤ size)
    × (place_in p s + put < 2 ^ 64)
room_in phases.Header s size g put short inside le small = (omega arith, omega arith)
room_in phases.Body s size g put short inside le small =
    some_room s size _ _ g put short refl inside le (omega arith) small
room_in phases.Done s size g put short inside le small =
    some_room s size _ _ g put short refl inside le (omega arith) small
room_in (phases.Failed f) s size g put short inside le small =
    some_room s size _ _ g put short refl inside le (omega arith) small

-- a part that is not refused as too long for the partition fits it
pub room_for : (s : Walk) (q : Part) (size : ℕ) → is_short_of s size ≡ false → place_of s + given_by q ≤ upto_of s
    → need_of s < 2 ^ 64 → (place_of s + put_by q ≤ size) × (place_of s + put_by q < 2 ^ 64)
room_for s q size short inside small = room_in s.phase s size (given_by q) (put_by q) short inside (put_le q) small

-- ---- before the first chunk

-- where no chunk has been begun after a step, none had been before it, and nothing was given
fresh_before : (p : Phase) (s s' : Walk) (r g : ℕ) → IsGoing p → Numbers p s s' r → place_in p s + g ≤ upto_in p s
    → s'.index ≡ 0 → IsFresh_in p s × (g ≡ 0)
fresh_before phases.Header s s' r g going numbers inside none = (tt, omega arith)
fresh_before phases.Body s s' r g going numbers inside none = elim (cases_Bool (at_end s)) [
  | inl t ↦ let more : s'.index ≡ s.index + 1 = numbers.0 ∙ ap (λ (b : Bool). if b then s.index + 1 else s.index) t in
      absurd (omega (arith, more, none))
  | inr t ↦
      let same : s'.index ≡ s.index = numbers.0 ∙ ap (λ (b : Bool). if b then s.index + 1 else s.index) t in
      let first : s.index ≡ 0 = omega (arith, same, none) in
      let have : s.have ≡ 0 = omega (arith, s.begun, first) in
      let zero : s.have * s.header.blk_sz ≡ 0 = ap (λ (n : ℕ). n * s.header.blk_sz) have ∙ omega arith in
      (first, omega (arith, zero))
]
fresh_before phases.Done s s' r g going numbers inside none = absurd going
fresh_before (phases.Failed f) s s' r g going numbers inside none = absurd going

fresh_index : (s' : Walk) → s'.phase ≡ phases.Body → IsFresh s' → s'.index ≡ 0
fresh_index s' body f = let P : Phase → Type 0 = λ ph. IsFresh_in ph s' in subst P body f

-- so the partition is not called before the first chunk is begun
pub fresh_goes : (q : Part) (s s' : Walk) (r m : ℕ) (A : Type 0) → IsGoing s.phase
    → (IsTrue (goes_on q) → Numbers s.phase s s' r) → PartLeaves q s'.phase → Moved q r → Within q m m
    → place_of s + given_by q ≤ upto_of s → (IsStill q → A)
    → OnMoreExpanding (answer_by fault_of_sparse q) (IsFresh s' → IsFresh s × A)
fresh_goes (parts.Raw n) s s' r m A going numbers leaves moved within inside still = λ f. let b =
    fresh_before s.phase s s' r n going (numbers refl) inside (fresh_index s' leaves f) in
    absurd (omega (arith, b.1, moved.1))
fresh_goes (parts.Words word n) s s' r m A going numbers leaves moved within inside still = λ f. let b =
    fresh_before s.phase s s' r (4 * n) going (numbers refl) inside (fresh_index s' leaves f) in
    absurd (omega (arith, b.1, within.0))
fresh_goes (parts.Skip n) s s' r m A going numbers leaves moved within inside still = λ f. let b =
    fresh_before s.phase s s' r (4 * n) going (numbers refl) inside (fresh_index s' leaves f) in (b.0, still tt)
fresh_goes parts.Nothing s s' r m A going numbers leaves moved within inside still = λ f. let b =
    fresh_before s.phase s s' r 0 going (numbers refl) inside (fresh_index s' leaves f) in (b.0, still tt)
fresh_goes parts.End s s' r m A going numbers leaves moved within inside still = tt
fresh_goes (parts.Fault f) s s' r m A going numbers leaves moved within inside still = tt
