-- What an output holds where an image was broken off before its magic was whole.
use Rattle.std.specs.Prelude.{◌≡◌, ℕ, ◌<◌, ◌⊎◌, List, ◌++◌, length, drop, slice_index}
use Rattle.abt_io.specs.Bytes.{AreBytes}
use Rattle.abt_sections.specs.Header.{Header}
use Rattle.abt_sections.specs.Open.{HasImage}

-- one of the first eight bytes of x is there and zero: no magic has a zero byte
pub record HasNoMagic (x : List ℕ) : Type 0 where
  pub at : ℕ
  pub front : at < 8
  pub there : at < length x
  pub zero : slice_index x at ≡ 0
  pub bytes : (i : ℕ) → i < 8 → slice_index x i < 256

-- x is no beginning of an image, whatever bytes follow it
abbrev pub OpensAsNothing : List ℕ → Type 0
OpensAsNothing x = (rest : List ℕ) (h : Header) → AreBytes rest → HasImage (x ++ rest) h → ⊥

-- nothing is in now after old, or what opens as nothing
abbrev pub IsBrokenOff : List ℕ → List ℕ → Type 0
IsBrokenOff old now = (now ≡ old) ⊎ OpensAsNothing (drop (length old) now)
