-- The command that an order of `pack` or `repack` becomes: the same, with the bytes that its arguments encode.
use Rattle.std.specs.Prelude.{◌≡◌, ℕ, List, Bool, true, false, Option, Some, None, map, option_map}
use Rattle.std.specs.Prelude.{if◌then◌else◌}
use Rattle.std.specs.List.{All, filter_map}
use Rattle.words_values.specs.declared.rows.Row.{Row}
use Rattle.words_orders.specs.declared.order.Given.{Given}
use Rattle.words_orders.specs.declared.order.PackOrder.{PackOrder}
use Rattle.abt_sections.specs.declared.spec.FragmentSpec.{FragmentSpec}
use Rattle.cmd_common_fields.specs.Fragment.{IsFragment, IsEscapedFragment}
use Rattle.cmd_common_fields.specs.Unescaped.{unescaped}
use Rattle.cmd_common_fields.specs.declared.fragment_word.FragmentWord.{FragmentWord}
use Rattle.cmd_common_boot.specs.declared.pack_command.PackCommand.{PackCommand}
use Rattle.cmd_common_boot.specs.declared.pack_texts.OptionText.{OptionText}
use Rattle.cmd_common_boot.specs.declared.pack_texts.FragmentText.{FragmentText}

-- the bytes that an argument encodes
abbrev pub bytes_for : Bool → List ℕ → List ℕ
bytes_for is_escaped word = if is_escaped then unescaped word else word

-- ---- options

-- an option that has an argument: its row and the name there, the argument with its number, and the bytes
pub record OptionWord : Type 0 where
  pub row : Row
  pub name : List ℕ
  pub word : List ℕ
  pub number : ℕ
  pub bytes : List ℕ

-- an option of the order, where it has an argument; and all of them
abbrev pub ordered_option : Bool → Given → Option OptionWord
ordered_option is_escaped given = option_map (λ word. record {
  row = given.row.now;
  name = given.row.now.name.now;
  word = word.now;
  number = given.number;
  bytes = bytes_for is_escaped word.now;
}) given.word

abbrev pub ordered_options : Bool → List Given → List OptionWord
ordered_options is_escaped given = filter_map (ordered_option is_escaped) given

-- an option of the command; and all of them
abbrev pub command_option : OptionText → OptionWord
command_option text = record {
  row = text.row.now;
  name = text.name.now;
  word = text.word.now;
  number = text.number;
  bytes = text.bytes.items;
}

abbrev pub command_options : List OptionText → List OptionWord
command_options texts = map command_option texts

-- ---- fragments

-- an argument describes this fragment, and its file has this path
abbrev pub WordSaysFragment : Bool → List ℕ → FragmentSpec → List ℕ → Type 0
WordSaysFragment true word spec path = IsEscapedFragment word spec path
WordSaysFragment false word spec path = IsFragment word spec path

-- an argument describes no fragment
abbrev pub SaysNone : Bool → List ℕ → Type 0
SaysNone is_escaped word = (spec : FragmentSpec) (path : List ℕ) → WordSaysFragment is_escaped word spec path → ⊥

-- what was read of an argument is what it describes
abbrev pub IsReadOf : Bool → List ℕ → Option FragmentWord → Type 0
IsReadOf is_escaped word None = SaysNone is_escaped word
IsReadOf is_escaped word (Some read) = WordSaysFragment is_escaped word read.spec read.path.now

-- a fragment is what its argument describes, and has the bytes of the path; or its argument describes none
abbrev pub IsFragmentOfWord : Bool → List ℕ → Option FragmentSpec → List ℕ → Type 0
IsFragmentOfWord is_escaped word None bytes = SaysNone is_escaped word
IsFragmentOfWord is_escaped word (Some spec) bytes =
    (path : List ℕ) × WordSaysFragment is_escaped word spec path × (bytes ≡ bytes_for is_escaped path)

-- the same for a fragment of the command
abbrev pub IsOfItsWord : Bool → FragmentText → Type 0
IsOfItsWord is_escaped text = IsFragmentOfWord is_escaped text.word.now text.spec text.path.items

-- ---- the command

-- everything in the order, the options in the order of the table, and each fragment in its place
pub record IsCommandOf (order : PackOrder) (command : PackCommand) : Type 0 where
  pub output : command.output.now ≡ order.output.now
  pub vendor : command.is_vendor ≡ order.is_vendor
  pub version : command.version ≡ order.version
  pub page : command.page ≡ order.page
  pub options : command_options command.texts.options.items ≡ ordered_options order.is_escaped order.given.items
  pub words : map (λ f. f.word.now) command.texts.fragments.items ≡ map (λ s. s.now) order.fragments.items
  pub fragments : All (IsOfItsWord order.is_escaped) command.texts.fragments.items
  pub board_ids : map (λ s. s.now) command.board_ids.items ≡ map (λ s. s.now) order.board_ids.items
  pub trailing : command.keeps_trailing ≡ order.keeps_trailing
  pub front : command.texts.is_front_ended ≡ order.is_front_ended
