-- The FRAGMENT arguments of `pack`.
use Rattle.std.specs.Prelude.{◌≡◌, ◌≢◌, ◌<◌, ◌≤◌, ◌^◌, ◌&&◌, nat_lt, ℕ, if◌then◌else◌, List, ◌∷◌, ◌++◌, Option, Some}
use Rattle.std.specs.Prelude.{None, codes, length, replicate, slice_index}
use Rattle.std.specs.Str.{all_ascii_digits, bytes_eq}
use Rattle.std.specs.Str.Parse.{digits_value}
use Rattle.abt_sections.specs.Fields.{filled}
use Rattle.abt_sections.specs.declared.spec.FragmentSpec.{FragmentSpec}
use Rattle.cmd_common_fields.specs.Unescaped.{unescaped}

-- the number that digits alone encode, at least one digit, where it fits 32 bits
abbrev pub decimal_u32 : List ℕ → Option ℕ
decimal_u32 text =
    if all_ascii_digits text && nat_lt 0 (length text) && nat_lt (digits_value 10 text) (2 ^ 32)
    then Some (digits_value 10 text)
    else None

-- the number of a TYPE: one of four names, or a number
abbrev pub type_number : List ℕ → Option ℕ
type_number text =
    if bytes_eq text (codes "none") then Some 0
    else if bytes_eq text (codes "platform") then Some 1
    else if bytes_eq text (codes "recovery") then Some 2
    else if bytes_eq text (codes "dlkm") then Some 3
    else decimal_u32 text

-- TYPE:NAME:FILE, cut at its first two colons
pub record IsFragment (word : List ℕ) (spec : FragmentSpec) (path : List ℕ) : Type 0 where
  pub kind : List ℕ
  pub name : List ℕ
  pub parts : word ≡ kind ++ (58 ∷ (name ++ (58 ∷ path)))
  pub number : type_number kind ≡ Some spec.kind
  pub no_colon : (i : ℕ) → i < length name → slice_index name i ≢ 58
  pub short : length name ≤ 31
  pub named : spec.name ≡ filled 32 name
  pub no_board : spec.board_id ≡ replicate 16 0

-- the fragment of TYPE and the bytes of a name
pub record IsOfParts (kind name : List ℕ) (spec : FragmentSpec) : Type 0 where
  pub number : type_number kind ≡ Some spec.kind
  pub short : length name ≤ 32
  pub named : spec.name ≡ filled 32 name
  pub no_board : spec.board_id ≡ replicate 16 0

-- TYPE:NAME:FILE, where NAME has escaped bytes
pub record IsEscapedFragment (word : List ℕ) (spec : FragmentSpec) (path : List ℕ) : Type 0 where
  pub kind : List ℕ
  pub name : List ℕ
  pub parts : word ≡ kind ++ (58 ∷ (name ++ (58 ∷ path)))
  pub no_colon : (i : ℕ) → i < length name → slice_index name i ≢ 58
  pub of_parts : IsOfParts kind (unescaped name) spec
