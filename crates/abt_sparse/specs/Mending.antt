-- What a stop may leave on a device to which the pieces of an image are flashed, so that a later flash mends it.
use Rattle.std.specs.Prelude.{◌≡◌, ℕ, ◌*◌, ◌<◌, List, length, None, slice_index, slice_index_or}
use Rattle.abt_sparse.specs.Block.{Block, cells, over}

-- q is p where the image writes nothing, and p under the image in its first blocks; what else it writes may be anything
pub record Mendable (b : ℕ) (blocks : List Block) (p q : List ℕ) (first : ℕ) : Type 0 where
  pub long : length q ≡ length p
  pub outside : (i : ℕ) → i < length p → slice_index_or (cells b blocks) i None ≡ None
      → slice_index q i ≡ slice_index p i
  pub before : (i : ℕ) → i < length p → i < first * b → slice_index q i ≡ slice_index (over p (cells b blocks)) i
