-- What the words of `pack` say of an image.
use Rattle.std.specs.Prelude.{◌≡◌, ◌<◌, ◌^◌, ℕ, suc, ◌==◌, ◌&&◌, ◌||◌, ◌⊎◌, if◌then◌else◌, Bool, true, false, List, []}
use Rattle.std.specs.Prelude.{◌∷◌, ◌++◌, Option, Some, None, codes, decimal, length, map, replicate, slice_index}
use Rattle.std.specs.Prelude.{slice_index_or}
use Rattle.abt_headers.specs.declared.boot.BootFront.{BootFront}
use Rattle.abt_headers.specs.declared.boot.ShortFront.{ShortFront}
use Rattle.abt_headers.specs.declared.boot.BootHeader.{BootHeader}
use Rattle.abt_headers.specs.declared.boot.BootHeader.TheVariants.{V0, V1, V2, V3, V4}
use Rattle.abt_headers.specs.declared.os.OsParts.{OsParts}
use Rattle.abt_headers.specs.declared.sections.SectionPlace.{SectionPlace}
use Rattle.abt_headers.specs.declared.sections.Section.{Section}
use Rattle.abt_headers.specs.Os.{IsOsVersion, os_raw}
use Rattle.abt_headers.specs.Page.{page_bytes}
use Rattle.abt_headers.specs.Places.{section_name}
use Rattle.abt_headers.specs.Vendor.{Vendor, vendor_page, vendor_version}
use Rattle.abt_io.specs.Bytes.{AreBytes}
use Rattle.abt_sections.specs.declared.spec.FragmentSpec.{FragmentSpec}
use Rattle.abt_sections.specs.Fields.{BootFields, VendorFields}
use Rattle.abt_sections.specs.Header.{Header, OfBoot, OfVendor}
use Rattle.cmd_common_fields.specs.Fields as fields
use Rattle.cmd_common_fields.specs.Board.{BoardFits, IsBoardWord}
use Rattle.cmd_common_fields.specs.Fragment.{IsEscapedFragment}
use Rattle.cmd_common_fields.specs.declared.board_word.BoardWord.{BoardWord}
use Rattle.cmd_common_fields.specs.declared.fields.Address.{Address}
use Rattle.cmd_common_fields.specs.declared.fields.TextField.{TextField}
use Rattle.cmd_common_fields.specs.OsWord.{IsNumberWord, IsOsWord}
use Rattle.cmd_common_fields.specs.Unescaped.{unescaped}
use Rattle.cmd_common_texts.specs.Words.{flag_word, option_front, section_option, text_of, text_over}

-- ---- the value of an option

-- what follows a prefix
abbrev pub without_front : List ℕ → List ℕ → Option (List ℕ)
without_front [] word = Some word
without_front (a ∷ front) [] = None
without_front (a ∷ front) (b ∷ word) = elim (a == b) [
  | true ↦ without_front front word
  | false ↦ None
]

abbrev pub with_value : Option (List ℕ) → List (List ℕ) → List (List ℕ)
with_value (Some value) values = value ∷ values
with_value None values = values

abbrev pub first_of : Option (List ℕ) → Option (List ℕ) → Option (List ℕ)
first_of (Some value) rest = Some value
first_of None rest = rest

-- the value in the first word `--NAME=VALUE`
abbrev pub value_of : List ℕ → List (List ℕ) → Option (List ℕ)
value_of name [] = None
value_of name (word ∷ words) = first_of (without_front (option_front name) word) (value_of name words)

-- the values in all words `--NAME=VALUE`, in order
abbrev pub values_of : List ℕ → List (List ℕ) → List (List ℕ)
values_of name [] = []
values_of name (word ∷ words) = with_value (without_front (option_front name) word) (values_of name words)

-- ---- what a word without a value says

-- nothing follows a prefix
abbrev pub is_whole : Option (List ℕ) → Bool
is_whole None = false
is_whole (Some []) = true
is_whole (Some (a ∷ rest)) = false

-- the word `--NAME` is one of these
abbrev pub is_said : List ℕ → List (List ℕ) → Bool
is_said name [] = false
is_said name (word ∷ words) = is_whole (without_front (flag_word name) word) || is_said name words

-- ---- what an option says

-- decimal digits
abbrev pub SaysNumber : List (List ℕ) → List ℕ → ℕ → Type 0
SaysNumber words name n = (value : List ℕ) × (value_of name words ≡ Some value) × IsNumberWord value n

-- a number that is 0 where it is not said
abbrev pub SaysNumberOr0 : List (List ℕ) → List ℕ → ℕ → Type 0
SaysNumberOr0 words name n = SaysNumber words name n ⊎ ((value_of name words ≡ None) × (n ≡ 0))

-- a text with escaped bytes
abbrev pub SaysText : List (List ℕ) → List ℕ → List ℕ → Type 0
SaysText words name text = (value : List ℕ) × (value_of name words ≡ Some value) × (unescaped value ≡ text)

-- a text that is empty where it is not said
abbrev pub SaysTextOrNone : List (List ℕ) → List ℕ → List ℕ → Type 0
SaysTextOrNone words name text = SaysText words name text ⊎ ((value_of name words ≡ None) × (text ≡ []))

-- A.B.C-YYYY-MM
pub record SaysOsWord (words : List (List ℕ)) (n : ℕ) : Type 0 where
  pub value : List ℕ
  pub said : value_of (codes "os") words ≡ Some value
  pub os : OsParts
  pub word : IsOsWord value os
  pub version : IsOsVersion os
  pub number : n ≡ os_raw os

-- the OS version and patch level: the number, or else the word
abbrev pub SaysOs : List (List ℕ) → ℕ → Type 0
SaysOs words n =
    SaysNumber words (codes "os-number") n ⊎ ((value_of (codes "os-number") words ≡ None) × SaysOsWord words n)

-- ---- what words say of an image

pub record SaysBoot (words : List (List ℕ)) (s : BootFields) : Type 0 where
  pub version : SaysNumber words (codes "version") s.version
  pub page : SaysNumber words (codes "page") s.page
  pub kernel_addr : SaysNumberOr0 words (codes "kernel-addr") s.kernel_addr
  pub ramdisk_addr : SaysNumberOr0 words (codes "ramdisk-addr") s.ramdisk_addr
  pub second_addr : SaysNumberOr0 words (codes "second-addr") s.second_addr
  pub tags_addr : SaysNumberOr0 words (codes "tags-addr") s.tags_addr
  pub dtb_addr : SaysNumberOr0 words (codes "dtb-addr") s.dtb_addr
  pub os : SaysOs words s.os.number
  pub name : SaysTextOrNone words (codes "name") s.name
  pub cmdline : SaysText words (codes "cmdline") s.cmdline

pub record SaysVendor (words : List (List ℕ)) (s : VendorFields) : Type 0 where
  pub version : SaysNumber words (codes "version") s.version
  pub page : SaysNumber words (codes "page") s.page
  pub kernel_addr : SaysNumber words (codes "kernel-addr") s.kernel_addr
  pub ramdisk_addr : SaysNumber words (codes "ramdisk-addr") s.ramdisk_addr
  pub tags_addr : SaysNumber words (codes "tags-addr") s.tags_addr
  pub dtb_addr : SaysNumber words (codes "dtb-addr") s.dtb_addr
  pub name : SaysText words (codes "name") s.name
  pub cmdline : SaysText words (codes "cmdline") s.cmdline

-- ---- what words say of the parts: each is a file of a folder

-- an option, where there is one, says that this section is the file of its name
abbrev pub SaysFile : List (List ℕ) → List ℕ → Option (List ℕ) → Section → Type 0
SaysFile words folder None section = Unit {0}
SaysFile words folder (Some name) section = SaysText words name (folder ++ (codes "/" ++ section_name section))

abbrev pub SaysFiles : List (List ℕ) → List ℕ → Bool → List SectionPlace → Type 0
SaysFiles words folder table [] = Unit {0}
SaysFiles words folder table (p ∷ ps) =
    SaysFile words folder (section_option table p.kind) p.kind × SaysFiles words folder table ps

-- ---- what words say of ramdisk fragments

-- what is said of a fragment by its own word
abbrev pub without_board : FragmentSpec → FragmentSpec
without_board f = record { kind = f.kind; name = f.name; board_id = replicate 16 0 }

-- a value TYPE:NAME:FILE says this of fragment i, whose file is `fragment.I` of the folder
pub record SaysFragment (folder value : List ℕ) (i : ℕ) (f : FragmentSpec) : Type 0 where
  pub path : List ℕ
  pub word : IsEscapedFragment value (without_board f) path
  pub file : unescaped path ≡ folder ++ (codes "/fragment." ++ decimal i)

-- each value says a fragment, the first of them fragment i
abbrev pub SaysEach : List ℕ → List (List ℕ) → ℕ → List FragmentSpec → Type 0
SaysEach folder [] i [] = Unit {0}
SaysEach folder [] i (f ∷ fs) = ⊥
SaysEach folder (value ∷ values) i [] = ⊥
SaysEach folder (value ∷ values) i (f ∷ fs) = SaysFragment folder value i f × SaysEach folder values (suc i) fs

-- each value is a word I:K=N, of one of this many fragments
abbrev pub AreBoards : ℕ → List (List ℕ) → List BoardWord → Type 0
AreBoards count [] [] = Unit {0}
AreBoards count [] (b ∷ bs) = ⊥
AreBoards count (value ∷ values) [] = ⊥
AreBoards count (value ∷ values) (b ∷ bs) =
    IsBoardWord value b × BoardFits b × (b.fragment < count) × AreBoards count values bs

-- what number k of the board id of fragment i is after these words, where it was n before
abbrev pub number_after : ℕ → List BoardWord → ℕ → ℕ → ℕ
number_after n [] i k = n
number_after n (b ∷ bs) i k = number_after (if (b.fragment == i) && (b.place == k) then b.number else n) bs i k

-- the numbers of the board id of fragment i
abbrev pub board_id_of : List FragmentSpec → ℕ → List ℕ
board_id_of fs i = slice_index_or (map (λ f. f.board_id) fs) i []

-- the words say these fragments, in order: a number of a board id that no word sets is 0
pub record SaysFragments (words : List (List ℕ)) (folder : List ℕ) (fs : List FragmentSpec) : Type 0 where
  pub each : SaysEach folder (values_of (codes "fragment") words) 0 fs
  pub boards : List BoardWord
  pub are_boards : AreBoards (length fs) (values_of (codes "board-id") words) boards
  pub board_ids : (i k : ℕ) → slice_index (board_id_of fs i) k ≡ number_after 0 boards i k

-- ---- the fields that a header has

-- of versions 0 to 2; version 2 alone has the address of a dtb
abbrev pub fields_of_front : ℕ → ℕ → BootFront → BootFields
fields_of_front version dtb_addr f = record {
  version = version;
  page = page_bytes f.page_size;
  kernel_addr = f.kernel_addr;
  ramdisk_addr = f.ramdisk_addr;
  second_addr = f.second_addr;
  tags_addr = f.tags_addr;
  dtb_addr = dtb_addr;
  os = f.os_version;
  name = text_of f.name;
  cmdline = text_over f.cmdline f.extra_cmdline;
}

-- of versions 3 and 4
abbrev pub fields_of_short : ℕ → ShortFront → BootFields
fields_of_short version f = record {
  version = version;
  page = 4096;
  kernel_addr = 0;
  ramdisk_addr = 0;
  second_addr = 0;
  tags_addr = 0;
  dtb_addr = 0;
  os = f.os_version;
  name = [];
  cmdline = text_of f.cmdline;
}

abbrev pub boot_fields_of : BootHeader → BootFields
boot_fields_of (V0 f) = fields_of_front 0 0 f
boot_fields_of (V1 f d) = fields_of_front 1 0 f
boot_fields_of (V2 f d t) = fields_of_front 2 t.dtb_addr f
boot_fields_of (V3 f) = fields_of_short 3 f
boot_fields_of (V4 f signature) = fields_of_short 4 f

abbrev pub vendor_fields_of : Vendor → VendorFields
vendor_fields_of v = record {
  version = vendor_version v;
  page = vendor_page v;
  kernel_addr = v.front.kernel_addr;
  ramdisk_addr = v.front.ramdisk_addr;
  tags_addr = v.front.tags_addr;
  dtb_addr = v.front.dtb_addr;
  name = text_of v.front.name;
  cmdline = text_of v.front.cmdline;
}

-- these words say the fields of a header
abbrev pub SaysHeader : List (List ℕ) → Header → Type 0
SaysHeader words (OfBoot h) = SaysBoot words (boot_fields_of h)
SaysHeader words (OfVendor v) = SaysVendor words (vendor_fields_of v)

-- the fields hold what fields can: numbers of 64 and 32 bits, and bytes
pub record IsHeld (h : Header) : Type 0 where
  pub addresses : (a : Address) (n : ℕ) → fields.address_of h a ≡ Some n → n < 2 ^ 64
  pub os : (n : ℕ) → fields.os_number_of h ≡ Some n → n < 2 ^ 32
  pub texts : (t : TextField) (field : List ℕ) → fields.field_of h t ≡ Some field → AreBytes field
