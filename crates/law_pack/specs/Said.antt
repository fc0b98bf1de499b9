-- The order that words give to the command `pack`.
use Rattle.std.specs.Prelude.{◌≡◌, ℕ, Bool, true, false, if◌then◌else◌, List, [], ◌∷◌, Option, Some, None, codes, map}
use Rattle.std.specs.List.{AllByRecursion, AllZip}
use Rattle.abt_sections.specs.declared.spec.FragmentSpec.{FragmentSpec}
use Rattle.cmd_common_fields.specs.Fragment.{IsEscapedFragment, IsFragment}
use Rattle.cmd_common_fields.specs.OsWord.{IsNumberWord}
use Rattle.cmd_common_fields.specs.Unescaped.{unescaped}
use Rattle.cmd_common_boot.specs.Given.{found}
use Rattle.cmd_common_boot.specs.declared.pack_command.PackCommand.{PackCommand}
use Rattle.cmd_common_boot.specs.declared.pack_texts.FragmentText.{FragmentText}
use Rattle.cmd_common_boot.specs.declared.pack_texts.OptionText.{OptionText}
use Rattle.law_boot.specs.Said.{SaysNumber, is_said, value_of, values_of}

-- the options whose value is a number
abbrev pub number_options : List (List ℕ)
number_options = codes "kernel-addr" ∷ codes "ramdisk-addr" ∷ codes "second-addr" ∷ codes "tags-addr"
    ∷ codes "dtb-addr" ∷ codes "kernel-offset" ∷ codes "ramdisk-offset" ∷ codes "second-offset" ∷ codes "tags-offset"
    ∷ codes "dtb-offset" ∷ codes "base" ∷ codes "os-number" ∷ []

-- and those whose value is a text or the path of a file
abbrev pub text_options : List (List ℕ)
text_options = codes "kernel" ∷ codes "ramdisk" ∷ codes "second" ∷ codes "recovery-dtbo" ∷ codes "dtb"
    ∷ codes "signature" ∷ codes "bootconfig" ∷ codes "os" ∷ codes "name" ∷ codes "cmdline" ∷ []

-- the option has the number that the value encodes
abbrev pub GivesNumber : List ℕ → OptionText → Type 0
GivesNumber value option = (n : ℕ) → IsNumberWord value n → option.number ≡ n

-- the option has the value, and the bytes that it encodes: the value itself, if no bytes are escaped
pub record GivesText (is_escaped : Bool) (value : List ℕ) (option : OptionText) : Type 0 where
  pub word : option.word.now ≡ value
  pub bytes : option.bytes.items ≡ (if is_escaped then unescaped value else value)

-- an option is given exactly if a word has a value for it
abbrev pub IsGivenBy : (List ℕ → OptionText → Type 0) → Option (List ℕ) → Option OptionText → Type 0
IsGivenBy Has None None = Unit {0}
IsGivenBy Has None (Some option) = ⊥
IsGivenBy Has (Some value) None = ⊥
IsGivenBy Has (Some value) (Some option) = Has value option

-- the fragment is what a value TYPE:NAME:FILE says, and FILE encodes the path of its file
abbrev pub IsFragmentBy : Bool → List ℕ → FragmentText → Type 0
IsFragmentBy true value text = (spec : FragmentSpec) (path : List ℕ) → IsEscapedFragment value spec path
    → (text.spec ≡ Some spec) × (text.path.items ≡ unescaped path)
IsFragmentBy false value text = (spec : FragmentSpec) (path : List ℕ) → IsFragment value spec path
    → (text.spec ≡ Some spec) × (text.path.items ≡ path)

-- The order is what these words say, each of them `--NAME=VALUE` or `--NAME`. No word says that a zero ends the first
-- field of a long command line.
pub record SaysCommand (words : List (List ℕ)) (command : PackCommand) : Type 0 where
  pub vendor : command.is_vendor ≡ is_said (codes "vendor") words
  pub version : (n : ℕ) → SaysNumber words (codes "version") n → command.version ≡ n
  pub page : (n : ℕ) → SaysNumber words (codes "page") n → command.page ≡ Some n
  pub numbers : AllByRecursion (λ name. IsGivenBy GivesNumber (value_of name words)
      (found command.texts.options.items name)) number_options
  pub texts : AllByRecursion (λ name. IsGivenBy (GivesText (is_said (codes "escaped") words)) (value_of name words)
      (found command.texts.options.items name)) text_options
  pub fragments : AllZip (IsFragmentBy (is_said (codes "escaped") words)) (values_of (codes "fragment") words)
      command.texts.fragments.items
  pub board_ids : map (λ word. word.now) command.board_ids.items ≡ values_of (codes "board-id") words
  pub front : command.texts.is_front_ended ≡ false
