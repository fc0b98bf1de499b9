-- What the answers to mkbootimg's rows ask for: a vendor boot image, a boot image, or both.
use Rattle.std.specs.Prelude.{◌≡◌, ◌+◌, ◌*◌, ◌&&◌, ◌==◌, ◌++◌, ℕ, List, [], ◌∷◌, Bool, true, false}
use Rattle.std.specs.Prelude.{not, Option, Some, None, codes, length}
use Rattle.std.specs.Prelude.{bytes_eq, if◌then◌else◌, nat_le, nat_lt, option_map, unwrap_or, Contains}
use Rattle.std.specs.List.{AllZip}
use Rattle.words_values.specs.declared.rows.Row.{Row}
use Rattle.words_orders.specs.declared.answers.Answer.{Answer}
use Rattle.words_tools.specs.declared.mkbootimg.Filler.{Filler}
use Rattle.words_tools.specs.declared.mkbootimg.Image.{Image}
use Rattle.words_orders.specs.declared.order.BootTask.TheVariants as boot
use Rattle.words_orders.specs.declared.order.Given.{Given}
use Rattle.words_orders.specs.declared.order.PackOrder.{PackOrder}
use Rattle.words_orders.specs.declared.order.Task.{Task}
use Rattle.words_orders.specs.declared.order.Task.TheVariants as tasks
use Rattle.words_orders.specs.Asked.{answer_named, answer_number, flag_named, number_named}
use Rattle.words_orders.specs.Table.{option_rows}
use Rattle.words_sayings.specs.Rows.{shape_of}
use Rattle.words_tools.specs.Fragments.{BoardSaid, FragmentSaid, IsBoardText, IsFragmentText, boards_said}
use Rattle.words_tools.specs.Fragments.{fragments_said, no_group, of_platform}

-- ---- which of mkbootimg's options fill those of `pack`

-- an option of `pack`, what fills it of a boot image, what else may, and what fills it of a vendor boot image
pub record FillerNames : Type 0 where
  pub option : List ℕ
  pub boot : List ℕ
  pub other : List ℕ
  pub vendor : List ℕ

abbrev pub filler : List ℕ → List ℕ → List ℕ → List ℕ → FillerNames
filler option boot other vendor = record { option = option; boot = boot; other = other; vendor = vendor }

abbrev pub filler_of : Filler → FillerNames
filler_of f = filler f.option.now f.boot.now f.other.now f.vendor.now

-- of a boot image alone, and of both by the same name
abbrev pub in_boot : List ℕ → List ℕ → FillerNames
in_boot option name = filler option name [] []

abbrev pub in_both : List ℕ → List ℕ → FillerNames
in_both option name = filler option name [] name

abbrev pub fillers : List FillerNames
fillers =
    in_boot (codes "kernel") (codes "kernel")
    ∷ filler (codes "ramdisk") (codes "ramdisk") [] (codes "vendor_ramdisk")
    ∷ in_boot (codes "second") (codes "second")
    ∷ filler (codes "recovery-dtbo") (codes "recovery_dtbo") (codes "recovery_acpio") []
    ∷ in_both (codes "dtb") (codes "dtb")
    ∷ filler (codes "bootconfig") [] [] (codes "vendor_bootconfig")
    ∷ in_both (codes "base") (codes "base")
    ∷ in_both (codes "kernel-offset") (codes "kernel_offset")
    ∷ in_both (codes "ramdisk-offset") (codes "ramdisk_offset")
    ∷ in_boot (codes "second-offset") (codes "second_offset")
    ∷ in_both (codes "tags-offset") (codes "tags_offset")
    ∷ in_both (codes "dtb-offset") (codes "dtb_offset")
    ∷ in_boot (codes "os-number") (codes "os_version")
    ∷ in_both (codes "name") (codes "board")
    ∷ filler (codes "cmdline") (codes "cmdline") [] (codes "vendor_cmdline") ∷ []

-- ---- what an option was given

-- an image of this kind and version carries the option
abbrev pub Carries : Bool → ℕ → Row → Type 0
Carries true version row = Contains row.vendor.now version
Carries false version row = Contains row.boot.now version

abbrev pub either_answer : Option Answer → Option Answer → Option Answer
either_answer (Some a) other = Some a
either_answer None other = other

-- the answer that fills an option
abbrev pub filling : List Answer → Bool → FillerNames → Option Answer
filling all is_vendor f =
    if is_vendor then answer_named f.vendor all else either_answer (answer_named f.boot all) (answer_named f.other all)

-- an OS version and a patch level as the header has them: the version in the upper bits
abbrev pub os_number : List Answer → ℕ
os_number all = answer_number (answer_named (codes "os_version") all) * 2048
    + answer_number (answer_named (codes "os_patch_level") all)

abbrev pub number_filled : List Answer → FillerNames → Option Answer → ℕ
number_filled all f None = 0
number_filled all f (Some a) = if bytes_eq f.option (codes "os-number") then os_number all else a.number

pub record IsFillOf (all : List Answer) (is_vendor : Bool) (f : FillerNames) (given : Given) : Type 0 where
  pub word : option_map (λ s. s.now) given.word ≡ option_map (λ a. a.word.now) (filling all is_vendor f)
  pub number : given.number ≡ number_filled all f (filling all is_vendor f)

-- an option of `pack` was given what fills it, where the image carries it, and else nothing
pub record IsOptionOf (all : List Answer) (image : Image) (f : FillerNames) (given : Given) : Type 0 where
  pub named : given.row.now.name.now ≡ f.option
  pub stands : Contains option_rows (shape_of given.row.now)
  pub carried : Carries image.is_vendor image.version given.row.now → IsFillOf all image.is_vendor f given
  pub left : (Carries image.is_vendor image.version given.row.now → ⊥) → given.word ≡ None

-- ---- images

-- the page that is given; of a boot image from version 3 on always 4096
abbrev pub page_asked : List Answer → Bool → ℕ → Option ℕ
page_asked all is_vendor version =
    if not is_vendor && nat_le 3 version then Some 4096 else number_named (codes "pagesize") all

-- of a vendor boot image of version 4 its ramdisk, as a fragment of the platform without a name, and then those that
-- are said
abbrev pub platform_asked : List Answer → List FragmentSaid
platform_asked all = of_platform (answer_named (codes "vendor_ramdisk") all)

abbrev pub fragments_asked : List Answer → List Answer → Bool → ℕ → List FragmentSaid
fragments_asked all said is_vendor version =
    if is_vendor && version == 4 then platform_asked all ++ fragments_said no_group said else []

-- and their board ids
abbrev pub boards_asked : List Answer → List Answer → Bool → ℕ → List BoardSaid
boards_asked all said is_vendor version =
    if is_vendor && version == 4 then boards_said (length (platform_asked all)) said else []

-- `pack` of this image, with what the answers fill it by, and nothing else
pub record IsPackOf (all said : List Answer) (image : Image) (order : PackOrder) : Type 0 where
  pub output : order.output.now ≡ image.output.now
  pub vendor : order.is_vendor ≡ image.is_vendor
  pub version : order.version ≡ image.version
  pub page : order.page ≡ page_asked all image.is_vendor image.version
  pub given : AllZip (IsOptionOf all image) fillers order.given.items
  pub board_ids : AllZip (λ b text. IsBoardText b text.now) (boards_asked all said image.is_vendor image.version)
      order.board_ids.items
  pub fragments : AllZip (λ f text. IsFragmentText f text.now) (fragments_asked all said image.is_vendor image.version)
      order.fragments.items
  pub trailing : order.keeps_trailing ≡ false
  pub escaped : order.is_escaped ≡ false
  pub front : order.is_front_ended ≡ true

abbrev pub PacksImage : List Answer → List Answer → Image → Task → Type 0
PacksImage all said image (tasks.Boot (boot.Pack order)) = IsPackOf all said image order
PacksImage all said image task = ⊥

-- the word of `--output`, or of `-o`
abbrev pub word_first : Option Answer → Option Answer → Option (List ℕ)
word_first (Some a) other = Some a.word.now
word_first None other = option_map (λ a. a.word.now) other

abbrev pub output_word : List Answer → Option (List ℕ)
output_word all = word_first (answer_named (codes "output") all) (answer_named (codes "o") all)

abbrev pub version_asked : List Answer → ℕ
version_asked all = unwrap_or (number_named (codes "header_version") all) 0

-- the boot image whose id is asked for, where it has one
abbrev pub id_asked : List Answer → Option (List ℕ)
id_asked all = if flag_named (codes "id") all && nat_lt (version_asked all) 3 then output_word all else None

-- an image is asked for if its output is named
abbrev pub IsImageAsked : List Answer → Bool → Option (List ℕ) → Option Image → Type 0
IsImageAsked all is_vendor None None = Unit {0}
IsImageAsked all is_vendor (Some word) (Some image) =
    (image.is_vendor ≡ is_vendor) × (image.version ≡ version_asked all) × (image.output.now ≡ word)
IsImageAsked all is_vendor word image = ⊥

-- the vendor boot image and the boot image that are asked for
pub record AreImagesOf (all : List Answer) (vendor boot : Option Image) : Type 0 where
  pub first : IsImageAsked all true (option_map (λ a. a.word.now) (answer_named (codes "vendor_boot") all)) vendor
  pub second : IsImageAsked all false (output_word all) boot
