-- Zeros that are written from a slice of zeros.
use Rattle.std.proofs.Common.{◌≡◌, ℕ, ◌≤◌, List, ◌++◌, length, take, replicate, ap, ◌∙◌, arith, append-nil}
use Rattle.std.proofs.lemmas.List.{take-take, take-replicate}

-- a front of a front of zeros
pub zeros_front : (zeros : List ℕ) (k some : ℕ) → zeros ≡ replicate (length zeros) 0 → k ≤ some → some ≤ length zeros
    → take k (take some zeros) ≡ replicate k 0
zeros_front zeros k some e le room =
    take-take k some zeros le ∙ ap (λ (l : List ℕ). take k l) e ∙ take-replicate k (length zeros) 0 (omega arith)

-- no zeros were laid, and then some were written
pub none_laid : (old mid : List ℕ) (laid : ℕ) → mid ≡ old ++ replicate laid 0 → laid ≡ 0 → mid ≡ old
none_laid old mid laid e none = e ∙ ap (λ (j : ℕ). old ++ replicate j 0) none ∙ append-nil old

pub zeros_written : (old mid new zeros : List ℕ) (k some : ℕ) → mid ≡ old → new ≡ mid ++ take k (take some zeros)
    → zeros ≡ replicate (length zeros) 0 → k ≤ some → some ≤ length zeros
    → new ≡ old ++ replicate k 0
zeros_written old mid new zeros k some same e all le room =
    e ∙ ap (λ (l : List ℕ). l ++ take k (take some zeros)) same
    ∙ ap (λ (l : List ℕ). old ++ l) (zeros_front zeros k some all le room)
