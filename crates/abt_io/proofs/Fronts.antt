-- Zeros in the place of what is written last.
use Rattle.std.proofs.Common.{◌≡◌, ℕ, ◌+◌, ◌≤◌, List, ◌++◌, length, take, replicate, sym, ◌∙◌, ap, arith}
use Rattle.std.proofs.lemmas.List.{take_all, take-replicate, length-replicate, replicate-append-replicate}
use Rattle.std.proofs.lemmas.List.{length-take-le}

zeros_part : (t n : ℕ) → t ≤ n → n ≤ 8 → take {A = ℕ} t (take n (replicate 8 0)) ≡ replicate t 0
zeros_part t n le most = ap (take t) (take-replicate n 8 0 most) ∙ take-replicate t n 0 le

-- one write of zeros further
pub more_zeros : (w w' z : List ℕ) (k t n : ℕ) → take k w ≡ replicate k 0 → length w ≡ k → w' ≡ w ++ take t z
    → z ≡ take {A = ℕ} n (replicate 8 0) → t ≤ n → n ≤ 8 → w' ≡ replicate (k + t) 0
more_zeros w w' z k t n zeros long e is le most =
    let all : w ≡ replicate k 0 = sym (take_all k w (omega arith)) ∙ zeros in
    let part : take t z ≡ replicate t 0 = ap (take t) is ∙ zeros_part t n le most in
    e ∙ ap (λ (l : List ℕ). l ++ take t z) all ∙ ap (λ (l : List ℕ). replicate k 0 ++ l) part
    ∙ replicate-append-replicate k t 0

pub front_zeros : (w : List ℕ) (k : ℕ) → w ≡ replicate k 0 → take k w ≡ replicate k 0
front_zeros w k e = ap (take k) e ∙ take-replicate k k 0 (omega arith)

pub long_zeros : (w : List ℕ) (k : ℕ) → w ≡ replicate k 0 → length w ≡ k
long_zeros w k e = ap length e ∙ length-replicate k 0

pub within_zeros : (t n : ℕ) → n ≤ 8 → t ≤ length (take {A = ℕ} n (replicate 8 0)) → t ≤ n
within_zeros t n most le =
    omega (arith, length-take-le {A = ℕ} n (replicate 8 0) (omega (arith, length-replicate {A = ℕ} 8 0)))
