-- What a write at an offset leaves of a list, and of a partition's intermediate states: outside its range nothing
-- changes.
use Rattle.std.proofs.Common.{◌≡◌, ℕ, ◌+◌, ◌-◌, ◌<◌, ◌≤◌, Bool, true, false, List, ◌++◌, length, take, drop}
use Rattle.std.proofs.Common.{get_or, refl, sym, ap, subst, ◌∙◌, arith, inl, inr, length-append}
use Rattle.std.proofs.Common.{◌||◌, nat_lt, ltb-true, ltb-false}
use Rattle.std.proofs.lemmas.Bool.{cases_Bool}
use Rattle.std.proofs.lemmas.Bool.Decides.{nat_tests}
use Rattle.std.proofs.lemmas.List.{get_or_append_left, get_or-append_right, get_or-take, get_or-drop}
use Rattle.std.proofs.lemmas.List.{length-take-le, length-drop}
use Rattle.std.proofs.lemmas.Option.{slice_get-get_or, slice_get_past}
use Rattle.std.specs.Prelude.{slice_get, Some}
use Rattle.abt_io.specs.Moment.{Past, Keeps, MayLeave, in_range, is_pending, moment_of, put_at, wrote}

front_long : (x b : List ℕ) (at : ℕ) → at ≤ length x → length (take at x ++ b) ≡ at + length b
front_long x b at le = omega (arith, length-append (take at x) b, length-take-le at x le)

pub put_long : (x b : List ℕ) (at : ℕ) → at + length b ≤ length x → length (put_at x at b) ≡ length x
put_long x b at le =
    omega (
      arith,
      front_long x b at (omega arith),
      length-append (take at x ++ b) (drop
          (at + length b) x),
      length-drop (at + length b) x,
    )

put_before : (x b : List ℕ) (at i : ℕ) → at ≤ length x → i < at → get_or (put_at x at b) i 0 ≡ get_or x i 0
put_before x b at i le lt =
    get_or_append_left (take at x ++ b) (drop (at + length b) x) 0 i (omega (arith, front_long x b at le))
    ∙ get_or_append_left (take at x) b 0 i (omega (arith, length-take-le at x le)) ∙ get_or-take at x i 0 lt

put_behind : (x b : List ℕ) (at i : ℕ) → at ≤ length x → at + length b ≤ i → get_or (put_at x at b) i 0 ≡ get_or x i 0
put_behind x b at i le ge =
    get_or-append_right (take at x ++ b) (drop (at + length b) x) (at + length b) i 0 (front_long x b at le) ge
    ∙ get_or-drop (at + length b) x (i - (at + length b)) 0
    ∙ ap (λ (j : ℕ). get_or x j 0) (let e : at + length b + (i - (at + length b)) ≡ i = omega arith in e)

pub put_inside : (x b : List ℕ) (at i : ℕ) → at ≤ length x → at ≤ i → i < at + length b
    → get_or (put_at x at b) i 0 ≡ get_or b (i - at) 0
put_inside x b at i le ge lt =
    get_or_append_left (take at x ++ b) (drop (at + length b) x) 0 i (omega (arith, front_long x b at le))
    ∙ get_or-append_right (take at x) b at i 0 (length-take-le at x le) ge

-- outside the range nothing changes
pub put_outside : (x b : List ℕ) (at i : ℕ) → at ≤ length x → in_range at (length b) i ≡ false
    → get_or (put_at x at b) i 0 ≡ get_or x i 0
put_outside x b at i le out = elim (cases_Bool (nat_lt i at)) [
  | inl s ↦ put_before x b at i le (ltb-true _ _ s)
  | inr s ↦ let here : at ≤ i = ltb-false _ _ s in let past : at + length b ≤ i = grind (arith, nat_tests) in
      put_behind x b at i le past
]

slice_outside : (x b : List ℕ) (at i : ℕ) → at + length b ≤ length x → in_range at (length b) i ≡ false
    → slice_get (put_at x at b) i ≡ slice_get x i
slice_outside x b at i fits out =
    let same = put_outside x b at i (omega arith) out in
    let long = put_long x b at fits in
    elim (cases_Bool (nat_lt i (length x))) [
      | inl s ↦
          let lt : i < length x = ltb-true _ _ s in
          slice_get-get_or (put_at x at b) i 0 (omega arith) ∙ ap (λ (v : ℕ). Some v) same
          ∙ sym (slice_get-get_or x i 0 lt)
      | inr s ↦
          let ge : length x ≤ i = ltb-false _ _ s in
          slice_get_past (put_at x at b) i (omega arith) ∙ sym (slice_get_past x i ge)
    ]

-- a write keeps every byte outside its range, which doesn't become pending
pub kept_wrote : (old new : Past) (x b : List ℕ) (at : ℕ) → at + length b ≤ length x
    → new ≡ wrote old (put_at x at b) at (length b)
    → Keeps (in_range at (length b)) (moment_of old x) (moment_of new (put_at x at b))
kept_wrote old new x b at fits e =
    subst (λ (p : Past). Keeps (in_range at (length b)) (moment_of old x) (moment_of p (put_at x at b))) (sym e)
    (record {
      same = refl;
      size = put_long x b at fits;
      bytes = λ i t. slice_outside x b at i fits t;
      pending = λ i t p. ap (λ (k : Bool). k || is_pending old.pending i) t ∙ p;
    })

-- what a write changed is pending: a crash may leave what stood before
pub unsettled_wrote : (old new : Past) (x b : List ℕ) (at : ℕ) → at + length b ≤ length x
    → new ≡ wrote old (put_at x at b) at (length b)
    → MayLeave (moment_of new (put_at x at b)) x
unsettled_wrote old new x b at fits e =
    subst (λ (p : Past). MayLeave (moment_of p (put_at x at b)) x) (sym e) (record {
      size = sym (put_long x b at fits);
      kept = λ i free. sym (slice_outside x b at i fits (outside i free));
    })
  where
    outside : (i : ℕ) → (in_range at (length b) i || is_pending old.pending i) ≡ false
        → in_range at (length b) i ≡ false
    outside i free = elim (cases_Bool (in_range at (length b) i)) [
      | inl t ↦ absurd (let w : true ≡ false = sym (ap (λ (k : Bool). k || is_pending old.pending i) t) ∙ free in cc)
      | inr f ↦ f
    ]
