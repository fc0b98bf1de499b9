-- A zero in the place of the first byte.
use Rattle.std.proofs.Common.{inl, inr, ◌≡◌, ◌<◌, ◌≤◌, ◌+◌, ℕ, zero, suc, List, [], ◌∷◌, ◌++◌, length, take}
use Rattle.std.proofs.Common.{replicate, refl, sym, ◌∙◌, ap, subst, arith}
use Rattle.std.proofs.lemmas.List.{length-take-le, replicate-append-replicate, take-replicate, take_all}
use Rattle.std.specs.Prelude.{Result, Ok, Err, OnErr}
use Rattle.abt_io.specs.Moment.{put_at}
use Rattle.abt_io.specs.Over.{WritesFront}
use Rattle.sys_disk.specs.Images.{HasNoFront}

-- ---- where it is kept back

zero_part : (t n : ℕ) → t ≤ n → n ≤ 1 → take {A = ℕ} t (take n (0 ∷ [])) ≡ replicate t 0
zero_part t n le most = ap (take t) (take-replicate n 1 0 most) ∙ take-replicate t n 0 le

pub one_zero : (w w' z : List ℕ) (k t n : ℕ) → take k w ≡ replicate k 0 → length w ≡ k → w' ≡ w ++ take t z
    → z ≡ take {A = ℕ} n (0 ∷ []) → t ≤ n → n ≤ 1 → w' ≡ replicate (k + t) 0
one_zero w w' z k t n zeros long e is le most =
    let all : w ≡ replicate k 0 = sym (take_all k w (omega arith)) ∙ zeros in
    let part : take t z ≡ replicate t 0 = ap (take t) is ∙ zero_part t n le most in
    e ∙ ap (λ (l : List ℕ). l ++ take t z) all ∙ ap (λ (l : List ℕ). replicate k 0 ++ l) part
    ∙ replicate-append-replicate k t 0

pub within_zero : (t n : ℕ) → n ≤ 1 → t ≤ length (take {A = ℕ} n (0 ∷ [])) → t ≤ n
within_zero t n most le = omega (arith, length-take-le {A = ℕ} n (0 ∷ []) most)

-- ---- where the work stopped

-- one byte was kept back, or nothing was written
pub no_front : (k : ℕ) (x : List ℕ) → k ≤ 1 → take k x ≡ replicate k 0 → (k < 1 → length x ≡ k) → HasNoFront x
no_front zero x most zeros next = inl (omega (arith, next (omega arith)))
no_front (suc zero) x most zeros next = inr zeros
no_front (suc (suc k)) x most zeros next = absurd (omega (arith, most))

put_none : (x : List ℕ) → put_at x 0 [] ≡ x
put_none x = refl

-- that byte could not be written: nothing was
pub still_none : (k : ℕ) (front old new : List ℕ) → k ≤ 1 → k ≤ length front → take k old ≡ replicate k 0
    → (k < 1 → length old ≡ k) → WritesFront old new 0 (take k front) → HasNoFront new
still_none k front old new most within zeros next w =
    let long : length (take k front) ≡ k = length-take-le k front within in
    let none : w.count ≡ 0 = omega (arith, long, most, w.short) in
    let same : new ≡ old = w.written ∙ ap (λ (n : ℕ). put_at old 0 (take n (take k front))) none ∙ put_none old in
    subst HasNoFront (sym same) (no_front k old most zeros next)

pub on_err : {X E : Type 0} (r : Result X E) {P Q : Type 0} → (P → Q) → OnErr r P → OnErr r Q
on_err (Ok x) go is = tt
on_err (Err e) go is = go is

pub any_err : {X E : Type 0} (r : Result X E) {P : Type 0} → P → OnErr r P
any_err (Ok x) is = tt
any_err (Err e) is = is
