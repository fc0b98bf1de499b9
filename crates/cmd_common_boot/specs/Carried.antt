-- The options and fragments that an image of each kind takes.
use Rattle.std.specs.Prelude.{◌≡◌, ℕ, List, Contains, IsSome}
use Rattle.words_values.specs.declared.rows.Row.{Row}
use Rattle.cmd_common_fields.specs.Kind.{version_of}
use Rattle.cmd_common_fields.specs.declared.image_kind.ImageKind.{ImageKind}
use Rattle.cmd_common_fields.specs.declared.image_kind.ImageKind.TheVariants.{Boot, Vendor}
use Rattle.cmd_common_boot.specs.declared.pack_texts.FragmentText.{FragmentText}
use Rattle.cmd_common_boot.specs.declared.pack_texts.OptionText.{OptionText}

-- the header versions of this kind of image that carry the option of a row
abbrev pub carriers : ImageKind → Row → List ℕ
carriers (Boot n) row = row.boot.now
carriers (Vendor n) row = row.vendor.now

-- an image of this kind carries the option
abbrev pub IsCarried : ImageKind → OptionText → Type 0
IsCarried kind option = Contains (carriers kind option.row.now) (version_of kind)

-- an image of this kind takes the fragment: it has fragments, and the argument is valid
pub record IsTaken (kind : ImageKind) (fragment : FragmentText) : Type 0 where
  pub has_fragments : kind ≡ Vendor 4
  pub shape : IsSome fragment.spec
