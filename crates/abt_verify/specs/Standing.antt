-- When an image stands on a partition, and which byte is the first that differs. An image stands on a partition where
-- each byte that its blocks give is at its place.
use Rattle.std.specs.Prelude.{◌≡◌, ℕ, ◌+◌, ◌<◌, List, [], ◌∷◌, Option, Some, None, slice_get, slice_index_or}
use Rattle.abt_sparse.specs.Block.{Block, Raw, Fill, Skip}

-- Byte i of a partition that holds p is what the cells say of it, or they say nothing. After its end no byte is there.
abbrev pub StandsAt : List ℕ → List (Option ℕ) → ℕ → Type 0
StandsAt p cs i = (x : ℕ) → slice_index_or cs i None ≡ Some x → slice_get p i ≡ Some x

-- each byte that the cells say is there
abbrev pub Stands : List ℕ → List (Option ℕ) → Type 0
Stands p cs = (i : ℕ) → StandsAt p cs i

-- byte n is the first that differs
pub record FirstDiffers (p : List ℕ) (cs : List (Option ℕ)) (n : ℕ) : Type 0 where
  pub byte : ℕ
  pub said : slice_index_or cs n None ≡ Some byte
  pub differs : slice_get p n ≡ Some byte → ⊥
  pub before : (i : ℕ) → i < n → StandsAt p cs i

-- how many blocks are raw or fill
abbrev pub held_in : List Block → ℕ
held_in [] = 0
held_in (Raw x ∷ l) = 1 + held_in l
held_in (Fill w ∷ l) = 1 + held_in l
held_in (Skip ∷ l) = held_in l
