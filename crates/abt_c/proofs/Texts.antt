-- Bytes with zeros after them.
use Rattle.std.proofs.Common.{◌≡◌, ℕ, ◌-◌, ◌++◌, List, drop, length, replicate, ◌∙◌}
use Rattle.std.proofs.lemmas.List.{drop-replicate, drop_at}

pub zeros_behind : (c : List ℕ) (n m : ℕ) → length c ≡ n → drop n (c ++ drop n (replicate m 0)) ≡ replicate (m - n) 0
zeros_behind c n m l = drop_at c (drop n (replicate m 0)) n l ∙ drop-replicate n m 0
