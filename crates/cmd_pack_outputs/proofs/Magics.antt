-- What is in a file whose magic was not written.
use Rattle.std.proofs.Common.{inl, inr, arith, ◌+◌, ◌-◌, ◌≡◌, ℕ, ◌<◌, ◌≤◌, List, [], ◌++◌, Option, Some, None}
use Rattle.std.proofs.Common.{sym, ◌∙◌, ap, subst, length, take, drop, get_or, replicate, length-append}
use Rattle.std.proofs.lemmas.Bool.{cases_lt}
use Rattle.std.proofs.lemmas.List.{get_or-drop, get_or-replicate, get_or-take, length-take, length-take-le}
use Rattle.std.proofs.Math.Seq.{get_or-append_right}
use Rattle.std.specs.Prelude.{Err, Ok, OnErr, Result}
use Rattle.abt_io.specs.Over.{WritesFront}
use Rattle.abt_sections.specs.Broken.{IsBrokenOff, OpensAsNothing}
use Rattle.sys_disk.specs.Images.{HasNoFront, Leaves}
use Rattle.sys_disk.specs.World.{World}
use Rattle.cmd_pack_outputs.specs.Magic.{HoldsNone, has_zero, is_short, opens_as_nothing}
use Rattle.cmd_pack_outputs.specs.Writing.{LeavesNoneOrAll}

pub empty_none : (x : List ℕ) → x ≡ [] → HoldsNone x
empty_none x e = is_short (let l : length x ≡ 0 = ap length e in omega (arith, l))

-- a boot image that was broken off
pub broken_none : (old x : List ℕ) → old ≡ [] → IsBrokenOff old x → HoldsNone x
broken_none old x e (inl same) = empty_none x (same ∙ e)
broken_none old x e (inr o) = opens_as_nothing (subst (λ y. OpensAsNothing (drop (length y) x)) e o)

-- zeros are in the place of what is written last
front_zero : (w : List ℕ) (k i : ℕ) → take k w ≡ replicate k 0 → i < k → get_or w i 0 ≡ 0
front_zero w k i zeros below =
    sym (get_or-take k w i 0 below) ∙ ap (λ l. get_or l i 0) zeros ∙ get_or-replicate k i 0 0 below

pub zeros_none : (w : List ℕ) (k : ℕ) → k ≤ length w → take k w ≡ replicate k 0 → (k < 8 → length w ≡ k) → HoldsNone w
zeros_none w k stand zeros next = elim (cases_lt k 8) [
  | inl small ↦ is_short (let e : length w ≡ k = next small in omega (arith, e, small))
  | inr large ↦ has_zero (record {
    at = 0;
    front = omega arith;
    there = omega (arith, stand, large);
    zero = front_zero w k 0 zeros (omega (arith, large));
  })
]

-- a prefix of it is written, and not all
pub laid_none : (w w' front : List ℕ) (k : ℕ) → k ≤ 8 → k ≤ length w → take k w ≡ replicate k 0
    → length w' ≡ length w → WritesFront w w' 0 (take k front) → HoldsNone w'
laid_none w w' front k most stand zeros long f =
    let all : length (take k front) ≤ k = omega (arith, length-take k front) in
    let below : f.count < k = omega (arith, f.short, all) in
    let b : length (take f.count (take k front)) ≡ f.count
    = length-take-le f.count (take k front) (omega (arith, f.short)) in
    let nil : length (take 0 w) ≡ 0 = omega (arith, length-take 0 w) in
    let past : length (take 0 w ++ take f.count (take k front)) ≤ f.count
    = omega (arith, b, nil, length-append (take 0 w) (take f.count (take k front))) in
    let spot : 0 + length (take f.count (take k front))
    + (f.count - length (take 0 w ++ take f.count (take k front))) ≡ f.count
    = omega (arith, b, nil, length-append (take 0 w) (take f.count (take k front))) in
    has_zero (record {
      at = f.count;
      front = omega (arith, below, most);
      there = omega (arith, below, stand, long);
      zero = ap (λ l. get_or l f.count 0) f.written
          ∙ get_or-append_right (take 0 w ++ take f.count (take k front))
          (drop (0 + length (take f.count (take k front))) w) f.count 0 past
          ∙ get_or-drop (0 + length (take f.count (take k front))) w
          (f.count - length (take 0 w ++ take f.count (take k front))) 0
          ∙ ap (λ i. get_or w i 0) spot ∙ front_zero w k f.count zeros below;
    })

-- where a call failed
pub on_err : {X F : Type 0} (r : Result X F) (A B : Type 0) → OnErr r A → (A → B) → OnErr r B
on_err (Ok x) A B a to = tt
on_err (Err e) A B a to = to a

-- ---- in the file that was open

no_front : (x : List ℕ) → HasNoFront x → HoldsNone x
no_front x (inl short) = is_short (omega (arith, short))
no_front x (inr zero) = elim (cases_lt (length x) 8) [
  | inl small ↦ is_short small
  | inr large ↦ has_zero (record {
    at = 0;
    front = omega arith;
    there = omega (arith, large);
    zero = sym (get_or-take 1 x 0 0 (omega arith)) ∙ ap (λ l. get_or l 0 0) zero;
  })
]

-- it holds what is no image
pub left_none : (o : Option ℕ) (x bytes : List ℕ) (new : World) → HoldsNone x → Leaves o x new
    → LeavesNoneOrAll o bytes new
left_none None x bytes new none left = tt
left_none (Some file) x bytes new none (inl same) = inl (subst HoldsNone (sym same) none)
left_none (Some file) x bytes new none (inr gone) = inl (no_front (new.holds file) gone)

-- or all, or nothing at its beginning
pub left_all : (o : Option ℕ) (x bytes : List ℕ) (new : World) → x ≡ bytes → Leaves o x new → LeavesNoneOrAll o bytes
    new
left_all None x bytes new all left = tt
left_all (Some file) x bytes new all (inl same) = inr (same ∙ all)
left_all (Some file) x bytes new all (inr gone) = inl (no_front (new.holds file) gone)
