-- What is read of a range of a file.
use Rattle.std.proofs.Common.{◌≡◌, ◌<◌, ◌≤◌, ◌+◌, ◌-◌, ◌^◌, ℕ, zero, suc, List, [], ◌∷◌, ◌++◌, length, take, drop}
use Rattle.std.proofs.Common.{Option, Some, None, refl, sym, ◌∙◌, ap, arith}
use Rattle.std.proofs.lemmas.List.{take-take, drop-take, drop-drop}
use Rattle.cmd_common_boot.specs.Ranges.{range_bytes, long_in}

-- n bytes from a place on, of a range
in_range : (n at A size : ℕ) (x : List ℕ) → n ≤ size - at → at ≤ size
    → take n (drop at (take size (drop A x))) ≡ take n (drop (A + at) x)
in_range n at A size x few below =
    let split : size ≡ at + (size - at) = omega (arith, below) in
    let one : drop at (take size (drop A x)) ≡ take (size - at) (drop at (drop A x)) =
    ap (λ k. drop at (take k (drop A x))) split ∙ drop-take at (size - at) (drop A x) in
    ap (take n) one ∙ take-take n (size - at) (drop at (drop A x)) few ∙ ap (take n) (drop-drop at A x)

drop_none : (n : ℕ) → drop {A = ℕ} n [] ≡ []
drop_none zero = refl
drop_none (suc n) = refl

take_front : (n : ℕ) (x y : List ℕ) → n ≤ length x → take n (x ++ y) ≡ take n x
take_front zero x y h = refl
take_front (suc n) [] y h = absurd (omega (arith, h))
take_front (suc n) (b ∷ x) y h = ap (λ l. b ∷ l) (take_front n x y (omega (arith, h)))

in_bytes : (o : Option (List ℕ)) (n at A size : ℕ) → n ≤ size - at → at ≤ size
    → take n (range_bytes o (A + at) n) ≡ take n (drop at (range_bytes o A size))
in_bytes None n at A size few below = ap (take n) (sym (drop_none at))
in_bytes (Some x) n at A size few below =
    take-take n n (drop (A + at) x) (omega arith) ∙ sym (in_range n at A size x few below)

-- what was read, of what the range has room for
pub read_bytes : (o : Option (List ℕ)) (n room at A size from left : ℕ) (new out : List ℕ) → A + size ≤ long_in o
    → long_in o < 2 ^ 64 → n ≤ length new → length new ≡ room → room ≤ left → left ≡ size - at
    → (A + at < 2 ^ 64 → from ≡ A + at)
    → take n new ≡ take n (range_bytes o from n) → take n (new ++ out) ≡ take n (drop at (range_bytes o A size))
read_bytes o zero room at A size from left new out lies short within long fits is sat bytes = refl
read_bytes o (suc k) room at A size from left new out lies short within long fits is sat bytes =
    let few : suc k ≤ size - at = omega (arith, within, long, fits, is) in
    let below : at ≤ size = omega (arith, few) in
    let low : A + at < 2 ^ 64 = omega (arith, few, lies, short) in
    let front : take (suc k) (new ++ out) ≡ take (suc k) new = take_front (suc k) new out within in
    front ∙ bytes ∙ ap (λ f. take (suc k) (range_bytes o f (suc k))) (sat low) ∙ in_bytes o (suc k) at A size few below
