-- Why words of AOSP's tools are rejected.
use Rattle.std.specs.Prelude.{◌≡◌, ◌≢◌, ◌⊎◌, ◌<◌, ◌≤◌, ◌^◌, ◌&&◌, ◌==◌, ℕ, List, [], ◌∷◌, ◌++◌, Bool, true, false}
use Rattle.std.specs.Prelude.{Option, Some, None, Contains, bytes_eq, codes, is_some, length, not}
use Rattle.std.specs.List.{list_any, starts_with}
use Rattle.std.specs.Option.{IsSomeAnd}
use Rattle.std.specs.Borrow.{Bor}
use Rattle.words_values.specs.NumberWord.{IsRead}
use Rattle.words_values.specs.declared.rows.Row.{Row}
use Rattle.words_values.specs.declared.rows.Value.{Value}
use Rattle.words_values.specs.declared.rows.Value.TheVariants as values
use Rattle.words_orders.specs.declared.answers.Answer.{Answer}
use Rattle.words_orders.specs.Asked.{AreAnswersOf, answer_named, is_named, word_named}
use Rattle.words_sayings.specs.Rows.{Shape, shape_of}
use Rattle.words_sayings.specs.Words.{begins_with, is_option}
use Rattle.words_tools.specs.declared.mkbootimg.Image.{Image}
use Rattle.words_tools.specs.declared.orders.Orders.{Orders}
use Rattle.words_tools.specs.declared.tools.Tool.{Tool}
use Rattle.words_tools.specs.declared.tools.Tool.TheVariants as tools
use Rattle.words_tools.specs.Fragments.{AreParting, AwaitsValue, FragmentSaid, IsNameOf, fragment_rows, fragments_said}
use Rattle.words_tools.specs.Fragments.{is_file_word, no_group}
use Rattle.words_tools.specs.Mkbootimg.{AreImagesOf, platform_asked}
use Rattle.words_tools.specs.Tools.{AreOrdersOf, ArePartedFor, tool_rows}

-- ---- ramdisk fragments that are not made

-- no type, or one that is no number of 32 bits
abbrev pub RejectsType : Option ℕ → Type 0
RejectsType None = Unit {0}
RejectsType (Some kind) = 2 ^ 32 ≤ kind

abbrev pub IsOfName : List ℕ → FragmentSaid → Type 0
IsOfName name f = f.group.name ≡ Some name

-- no name, `default`, one with a colon, or that of a fragment before it
abbrev pub RejectsName : List FragmentSaid → Option (List ℕ) → Type 0
RejectsName before None = Unit {0}
RejectsName before (Some name) = (name ≡ codes "default")
    ⊎ (((front : List ℕ) × ((behind : List ℕ) × (name ≡ front ++ (58 ∷ behind))))
    ⊎ ((f : FragmentSaid) × (Contains before f × IsOfName name f)))

-- one of them has such a type or name
pub record RejectsFragments (all : List FragmentSaid) : Type 0 where
  pub before : List FragmentSaid
  pub one : FragmentSaid
  pub behind : List FragmentSaid
  pub among : all ≡ before ++ (one ∷ behind)
  pub rejects : RejectsType one.group.kind ⊎ RejectsName before one.group.name

-- words of fragments whose last names no file
pub record EndsInGroup (said : List Answer) : Type 0 where
  pub front : List Answer
  pub last : Answer
  pub said_is : said ≡ front ++ (last ∷ [])
  pub no_file : is_file_word last ≡ false

-- ---- images that are not made, whatever their files are

-- a vendor boot image of version 3 without a ramdisk, or of version 4 with such fragments
abbrev pub RejectsVendor : List Answer → List Answer → ℕ → Type 0
RejectsVendor all said version = ((version ≡ 3) × (is_some (answer_named (codes "vendor_ramdisk") all) ≡ false))
    ⊎ ((version ≡ 4) × (RejectsFragments (platform_asked all ++ fragments_said no_group said) ⊎ EndsInGroup said))

-- a boot image that has no second stage by its version, or lacks its device tree blob, or has a command line that is
-- too long
abbrev pub RejectsBoot : List Answer → ℕ → Type 0
RejectsBoot all version = ((2 < version) × (is_some (answer_named (codes "second") all) ≡ true))
    ⊎ (((version ≡ 2) × (is_some (answer_named (codes "dtb") all) ≡ false))
    ⊎ ((version < 3) × (1534 < length (word_named (codes "cmdline") all))))

abbrev pub RejectsKind : Bool → List Answer → List Answer → ℕ → Type 0
RejectsKind true all said version = RejectsVendor all said version
RejectsKind false all said version = RejectsBoot all version

abbrev pub RejectsImage : List Answer → List Answer → Image → Type 0
RejectsImage all said image = RejectsKind image.is_vendor all said image.version

abbrev pub takes_file : Value → Bool
takes_file values.File = true
takes_file value = false

-- whether an option of another name than this one names this file
abbrev pub names_again : List ℕ → List ℕ → Answer → Bool
names_again name path a = takes_file a.row.now.value && (not (is_named name a) && bytes_eq a.word.now path)

abbrev pub version_of_vendor : Option Image → ℕ
version_of_vendor None = 0
version_of_vendor (Some image) = image.version

-- words of fragments without a vendor boot image that has any, or one whose file another option names too
abbrev pub RejectsTogether : List Answer → List Answer → Option Image → Type 0
RejectsTogether all said vendor = ((said ≢ []) × (version_of_vendor vendor ≤ 3))
    ⊎ IsSomeAnd vendor (λ image. list_any (names_again (codes "vendor_boot") image.output.now) all ≡ true)

-- the images that the answers ask for
pub record RejectsImages (all said : List Answer) : Type 0 where
  pub vendor : Option Image
  pub boot : Option Image
  pub images : AreImagesOf all vendor boot
  pub rejects : RejectsTogether all said vendor
      ⊎ (IsSomeAnd vendor (RejectsImage all said) ⊎ IsSomeAnd boot (RejectsImage all said))

-- ---- words with a hyphen that clap may refuse

-- an option by its name or a beginning of it, or by its letter
abbrev pub BeginsOption : List Shape → List ℕ → Type 0
BeginsOption table short = (row : Shape)
    × (Contains table row × ((is_option row.place ≡ true) × (starts_with ◌==◌ row.name short ≡ true)))

abbrev pub BeginsLetter : List Shape → List ℕ → Type 0
BeginsLetter table text = (row : Shape) × (Contains table row × (begins_with text row ≡ true))

-- a word that is an option alone, so its value is the next word
abbrev pub AwaitsNext : List Shape → List ℕ → Type 0
AwaitsNext table word = ((short : List ℕ) × ((word ≡ codes "--" ++ short) × BeginsOption table short))
    ⊎ ((text : List ℕ) × ((word ≡ 45 ∷ text) × ((length text ≡ 1) × BeginsLetter table text)))

-- the value behind such a word begins with a hyphen
pub record HasHyphenValue (table : List Shape) (words : List (List ℕ)) : Type 0 where
  pub front : List (List ℕ)
  pub option : List ℕ
  pub value : List ℕ
  pub behind : List (List ℕ)
  pub words_are : words ≡ front ++ (option ∷ ((45 ∷ value) ∷ behind))
  pub awaits : AwaitsNext table option

-- such a value; or `--` among the words of simg2img, of which all but the last go to one row
abbrev pub HasHyphens : Tool → List (List ℕ) → Type 0
HasHyphens tool words = HasHyphenValue (tool_rows tool) words
    ⊎ ((tool ≡ tools.Simg2img) × Contains words (codes "--"))

-- ---- words without those of ramdisk fragments

-- they are read, and ask for images that are not made
pub record AskForRejected (words : List (List ℕ)) (said : List Answer) : Type 0 where
  pub caller : List ℕ
  pub own : List (List ℕ)
  pub words_are : words ≡ caller ∷ own
  pub all : List Answer
  pub answers : AreAnswersOf (tool_rows tools.Mkbootimg) own all
  pub rejects : RejectsImages all said

-- They ask for no orders, or mkbootimg's ask for images that are not made. Or there is a hyphen: argparse takes a value
-- that begins with one only if it is a number or has a space, and clap takes several words for a row only in one run.
pub data AreRejected (tool : Tool) (words : List (List ℕ)) (said : List Answer) : Type 0 where
  ask_for_none : ((orders : Orders) → AreOrdersOf tool words said orders → ⊥) → AreRejected tool words said
  not_made : tool ≡ tools.Mkbootimg → AskForRejected words said → AreRejected tool words said
  hyphen : HasHyphens tool words → AreRejected tool words said

-- ---- words of ramdisk fragments

-- a value that begins with a hyphen, or gives the row no number
abbrev pub RejectsValue : Row → List ℕ → Type 0
RejectsValue row word = ((value : List ℕ) × (word ≡ 45 ∷ value)) ⊎ ((n : ℕ) → IsRead row.value word n → ⊥)

-- a word behind an option that awaits its value, or an option with its value
abbrev pub RejectsWord : Option (Bor Row) → List ℕ → Type 0
RejectsWord (Some row) word = RejectsValue row.now word
RejectsWord None word = (short : List ℕ) × (value : List ℕ) × (row : Row)
    × (word ≡ codes "--" ++ (short ++ (61 ∷ value))) × IsNameOf short row.name.now
    × Contains fragment_rows (shape_of row) × ((n : ℕ) → IsRead row.value value n → ⊥)

-- such a word, behind words that are separated
pub record RejectsPart (words : List (List ℕ)) : Type 0 where
  pub front : List (List ℕ)
  pub word : List ℕ
  pub behind : List (List ℕ)
  pub words_are : words ≡ front ++ (word ∷ behind)
  pub said : List Answer
  pub others : List (List ℕ)
  pub before : Option (Bor Row)
  pub parted : AreParting front said others before
  pub rejects : RejectsWord before word

-- or the last word is an option without its value
abbrev pub RejectsParts : List (List ℕ) → Type 0
RejectsParts words = RejectsPart words
    ⊎ ((said : List Answer) × ((others : List (List ℕ)) × ((row : Row) × AwaitsValue words said others row)))

abbrev pub RejectsPartsFor : Tool → List (List ℕ) → Type 0
RejectsPartsFor tools.Mkbootimg words = RejectsParts words
RejectsPartsFor tool words = ⊥

-- ---- all words of a call

-- those of fragments, or the others
pub data IsRejected (tool : Tool) (words : List (List ℕ)) : Type 0 where
  parts : RejectsPartsFor tool words → IsRejected tool words
  others : (others : List (List ℕ)) (said : List Answer) → ArePartedFor tool words others said
      → AreRejected tool others said → IsRejected tool words
