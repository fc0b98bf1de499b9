-- The inputs from which an image is packed: the files that the arguments name, and else the image's own data.
use Rattle.std.specs.Prelude.{◌≡◌, ℕ, List, [], ◌∷◌, ◌++◌, Option, Some, None, Contains}
use Rattle.abt_headers.specs.declared.sections.Section.{Section}
use Rattle.abt_sections.specs.declared.spec.FragmentSpec.{FragmentSpec}
use Rattle.sys_disk.specs.World.{World}
use Rattle.sys_disk.specs.Among.{FileHolds}
use Rattle.cmd_common_fields.specs.Options.{option_of}
use Rattle.cmd_common_fields.specs.declared.image_kind.ImageKind.{ImageKind}
use Rattle.cmd_common_boot.specs.Given.{found}
use Rattle.cmd_common_boot.specs.Parts.{part_sections}
use Rattle.cmd_common_boot.specs.declared.pack_texts.OptionText.{OptionText}
use Rattle.cmd_common_boot.specs.declared.pack_texts.FragmentText.{FragmentText}
use Rattle.cmd_common_boot.specs.declared.pack_texts.PackTexts.{PackTexts}

-- the file that an option names holds these bytes; where the option is not given, they are the image's own
abbrev pub IsPartBy : World → Option OptionText → (List ℕ → Type 0) → List ℕ → Type 0
IsPartBy world (Some option) own bytes = FileHolds world option.bytes.items bytes
IsPartBy world None own bytes = own bytes

-- these are the parts of sections, one for each
abbrev pub ArePartsOf : World → List OptionText → (Section → List ℕ → Type 0) → List Section → List (List ℕ) → Type 0
ArePartsOf world options own [] [] = Unit {0}
ArePartsOf world options own [] (part ∷ parts) = ⊥
ArePartsOf world options own (section ∷ sections) [] = ⊥
ArePartsOf world options own (section ∷ sections) (part ∷ parts) =
    IsPartBy world (found options (option_of section)) (own section) part
    × ArePartsOf world options own sections parts

-- what a FRAGMENT describes, and what its file holds
pub record IsFragmentOf (world : World) (text : FragmentText) (spec : FragmentSpec) (ramdisk : List ℕ) : Type 0 where
  pub said : text.spec ≡ Some spec
  pub holds : FileHolds world text.path.items ramdisk

-- the same for all, in order
abbrev pub AreFragmentsOf : World → List FragmentText → List FragmentSpec → List (List ℕ) → Type 0
AreFragmentsOf world [] [] [] = Unit {0}
AreFragmentsOf world (text ∷ texts) (spec ∷ specs) (ramdisk ∷ ramdisks) =
    IsFragmentOf world text spec ramdisk × AreFragmentsOf world texts specs ramdisks
AreFragmentsOf world texts specs ramdisks = ⊥

-- one fragment more
pub record AddsFragment (world : World) (text : FragmentText) (specs specs' : List FragmentSpec)
    (ramdisks ramdisks' : List (List ℕ)) : Type 0 where
  pub spec : FragmentSpec
  pub ramdisk : List ℕ
  pub is : IsFragmentOf world text spec ramdisk
  pub more_specs : specs' ≡ specs ++ (spec ∷ [])
  pub more_ramdisks : ramdisks' ≡ ramdisks ++ (ramdisk ∷ [])

-- the path of the file that an option names
pub record IsPathOf (options : List OptionText) (name path : List ℕ) : Type 0 where
  pub option : OptionText
  pub given : found options name ≡ Some option
  pub is_path : path ≡ option.bytes.items

-- of a file that the arguments name for one of these sections
pub record IsPartInput (options : List OptionText) (sections : List Section) (path : List ℕ) : Type 0 where
  pub section : Section
  pub is_one : Contains sections section
  pub is_path : IsPathOf options (option_of section) path

-- of the file of a FRAGMENT
pub record IsFragmentInput (texts : List FragmentText) (path : List ℕ) : Type 0 where
  pub text : FragmentText
  pub is_one : Contains texts text
  pub is_path : path ≡ text.path.items

-- of a file that the arguments name for an image of this kind
pub data IsGivenPath (texts : PackTexts) (kind : ImageKind) (path : List ℕ) : Type 0 where
  of_part : IsPartInput texts.options.items (part_sections kind) path → IsGivenPath texts kind path
  of_fragment : IsFragmentInput texts.fragments.items path → IsGivenPath texts kind path
