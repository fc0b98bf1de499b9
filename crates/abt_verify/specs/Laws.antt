-- How verifying and flashing are related; and that verifying has one result.
use Rattle.std.specs.Prelude.{◌≡◌, ℕ, ◌≤◌, ◌⊎◌, List, length, Option}
use Rattle.abt_sparse.specs.Block.{over}
use Rattle.abt_verify.specs.Standing.{FirstDiffers, Stands}

-- Cells as an image writes them, and a partition that holds p.
pub record VerifyingIsRight : Type 0 where
  -- where they stand, writing them changes nothing, and once they are written they stand
  pub unchanged : (p : List ℕ) (cs : List (Option ℕ)) → Stands p cs → over p cs ≡ p
  pub flashed : (p : List ℕ) (cs : List (Option ℕ)) → length cs ≤ length p → Stands (over p cs) cs
  -- they stand or there is a first byte that differs, and not both, and it is one byte
  pub either : (p : List ℕ) (cs : List (Option ℕ)) → Stands p cs ⊎ ((n : ℕ) × FirstDiffers p cs n)
  pub not_both : (p : List ℕ) (cs : List (Option ℕ)) (n : ℕ) → Stands p cs → FirstDiffers p cs n → ⊥
  pub one : (p : List ℕ) (cs : List (Option ℕ)) (m n : ℕ) → FirstDiffers p cs m → FirstDiffers p cs n → m ≡ n
