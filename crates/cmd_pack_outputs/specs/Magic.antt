-- What a partial image leaves in its file.
use Rattle.std.specs.Prelude.{◌≡◌, ◌<◌, ℕ, List, length, slice_index}
use Rattle.abt_sections.specs.Broken.{OpensAsNothing}

-- one of its first eight bytes exists and is zero: no magic has a zero byte
pub record HasZeroInMagic (x : List ℕ) : Type 0 where
  pub at : ℕ
  pub front : at < 8
  pub there : at < length x
  pub zero : slice_index x at ≡ 0

-- no image: it is shorter than a magic, or has none, or opens as nothing whatever follows it
pub data HoldsNone (x : List ℕ) : Type 0 where
  is_short : length x < 8 → HoldsNone x
  has_zero : HasZeroInMagic x → HoldsNone x
  opens_as_nothing : OpensAsNothing x → HoldsNone x
