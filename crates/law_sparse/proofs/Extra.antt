-- A write behind what is laid.
use Rattle.std.proofs.Common.{◌≡◌, ℕ, ◌+◌, ◌≤◌, List, [], ◌∷◌, ◌++◌, length, take, drop, map, Some, refl, ap, arith}
use Rattle.abt_sparse.specs.Block.{over}

-- what a device holds after a write at a place
abbrev pub written : List ℕ → ℕ → List ℕ → List ℕ
written p place bytes = take place p ++ (bytes ++ drop (place + length bytes) p)

pub front_write : (p w : List ℕ) → length w ≤ length p → over p (map (λ x. Some x) w) ≡ w ++ drop (length w) p
front_write [] [] h = refl
front_write [] (x ∷ w) h = absurd (omega arith)
front_write (y ∷ p) [] h = refl
front_write (y ∷ p) (x ∷ w) h = ap (λ (r : List ℕ). x ∷ r) (front_write p w (omega arith))
