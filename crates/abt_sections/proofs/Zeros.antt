-- Zeros that are there.
use Rattle.std.proofs.Common.{◌≡◌, ℕ, ◌+◌, ◌-◌, ◌≤◌, Bool, true, false, ◌&&◌, List, [], ◌∷◌, ◌++◌, length, take, drop}
use Rattle.std.proofs.Common.{refl, sym, ap, ◌∙◌, arith, drop-drop, ◌==◌}
use Rattle.abt_io.proofs.Parts.{take_plus}
use Rattle.abt_sections.specs.Check.{all_zero, zeros_there}

and_assoc : (a b c : Bool) → (a && (b && c)) ≡ ((a && b) && c)
and_assoc true b c = refl
and_assoc false b c = refl

and_false : (a : Bool) → (a && false) ≡ false
and_false true = refl
and_false false = refl

pub all_zero-append : (a b : List ℕ) → all_zero (a ++ b) ≡ (all_zero a && all_zero b)
all_zero-append [] b = refl
all_zero-append (x ∷ a) b = ap (λ (t : Bool). (x == 0) && t) (all_zero-append a b)
    ∙ and_assoc (x == 0) (all_zero a) (all_zero b)

back : (k n : ℕ) → k ≤ n → n ≡ k + (n - k)
back k n h = omega arith

next_zeros : (s s' : List ℕ) (at done got : ℕ) (part : List ℕ) → s' ≡ s → part ≡ take got (drop (at + done) s')
    → all_zero (take done (drop at s)) ≡ true → all_zero (take (done + got) (drop at s)) ≡ all_zero part
next_zeros s s' at done got part same is before =
    ap all_zero (sym (take_plus done got (drop at s)) ∙ ap (λ (l : List ℕ). take done (drop at s) ++ take got l)
    (drop-drop done at s) ∙ ap (λ (l : List ℕ). take done (drop at s) ++ take got (drop (at + done) l)) (sym same)
    ∙ ap (λ (l : List ℕ). take done (drop at s) ++ l) (sym is))
    ∙ all_zero-append (take done (drop at s)) part
    ∙ ap (λ (t : Bool). t && all_zero part) before

pub more_zeros : (s s' : List ℕ) (at done got : ℕ) (part : List ℕ) → s' ≡ s → part ≡ take got (drop (at + done) s')
    → all_zero (take done (drop at s)) ≡ true → all_zero part ≡ true → all_zero (take (done + got) (drop at s)) ≡ true
more_zeros s s' at done got part same is before e = next_zeros s s' at done got part same is before ∙ e

pub not_zeros : (s s' : List ℕ) (at done got n : ℕ) (part : List ℕ) → s' ≡ s → part ≡ take got (drop (at + done) s')
    → all_zero (take done (drop at s)) ≡ true → all_zero part ≡ false → done + got ≤ n → false ≡ zeros_there s at n
not_zeros s s' at done got n part same is before e h =
    let x = drop at s in
    let all : all_zero (take n x) ≡ false =
    ap (λ (k : ℕ). all_zero (take k x)) (back (done + got) n h)
    ∙ ap all_zero (sym (take_plus (done + got) (n - (done + got)) x))
    ∙ all_zero-append (take (done + got) x) (take (n - (done + got)) (drop (done + got) x))
    ∙ ap (λ (t : Bool). t && all_zero (take (n - (done + got)) (drop (done + got) x)))
    (next_zeros s s' at done got part same is before ∙ e) in
    sym (ap (λ (t : Bool). (length (take n x) == n) && t) all ∙ and_false (length (take n x) == n))
