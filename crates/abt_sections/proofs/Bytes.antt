-- Parts of lists.
use Rattle.std.proofs.Common.{◌≡◌, ℕ, ◌-◌, List, length, min, take, drop, ap, ◌∙◌}
use Rattle.std.proofs.lemmas.List.{take_min, drop_min}
use Rattle.abt_io.proofs.Parts.{rest_is}

pub front_filled : (n k : ℕ) (x : List ℕ) → k ≡ min n (length x) → take k x ≡ take n x
front_filled n k x e = ap (λ (j : ℕ). take j x) e ∙ take_min n x

pub back_filled : (n k : ℕ) (x : List ℕ) → k ≡ min n (length x) → take (length x - k) (drop k x) ≡ drop n x
back_filled n k x e = rest_is k x ∙ ap (λ (j : ℕ). drop j x) e ∙ drop_min n x
