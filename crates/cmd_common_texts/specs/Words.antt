-- The arguments that pack an image again.
use Rattle.std.specs.Prelude.{ℕ, zero, suc, ◌==◌, ◌&&◌, nat_le, Bool, true, false, if◌then◌else◌, List, [], ◌∷◌, ◌++◌}
use Rattle.std.specs.Prelude.{Option, Some, None, codes, decimal, is_some, length, drop}
use Rattle.std.specs.List.{flat_map}
use Rattle.abt_headers.specs.declared.entry.RamdiskEntry.{RamdiskEntry}
use Rattle.abt_headers.specs.declared.os.OsParts.{OsParts}
use Rattle.abt_headers.specs.declared.sections.SectionPlace.{SectionPlace}
use Rattle.abt_headers.specs.declared.sections.Section.{Section}
use Rattle.abt_headers.specs.declared.sections.Section.TheVariants.{Kernel, Ramdisk, Second, RecoveryDtbo, Dtb}
use Rattle.abt_headers.specs.declared.sections.Section.TheVariants.{Signature, VendorRamdisk, Table, Bootconfig}
use Rattle.abt_headers.specs.Boot.{boot_page, boot_version}
use Rattle.abt_headers.specs.Os.{os_parts}
use Rattle.abt_headers.specs.Places.{section_name}
use Rattle.abt_headers.specs.Vendor.{vendor_page, vendor_version}
use Rattle.abt_sections.specs.Check.{all_zero}
use Rattle.abt_sections.specs.Header.{Header, OfBoot, OfVendor, places_of, fragment_count, entry_of}
use Rattle.cmd_common_fields.specs.Fields as fields
use Rattle.cmd_common_fields.specs.Options.{address_option, option_of}
use Rattle.cmd_common_texts.specs.Info as info
use Rattle.cmd_common_fields.specs.declared.fields.Address.{Address}
use Rattle.cmd_common_fields.specs.declared.fields.Address.TheVariants as addresses
use Rattle.cmd_common_fields.specs.declared.fields.TextField.TheVariants as texts

-- ---- single arguments

abbrev pub flag_word : List ℕ → List ℕ
flag_word name = codes "--" ++ name

-- the beginning of an argument with a value
abbrev pub option_front : List ℕ → List ℕ
option_front name = codes "--" ++ (name ++ codes "=")

abbrev pub number_word : List ℕ → ℕ → List ℕ
number_word name n = codes "--" ++ (name ++ (codes "=" ++ decimal n))

abbrev pub part_word : List ℕ → List ℕ → List ℕ → List ℕ
part_word name folder file =
    codes "--" ++ (name ++ (codes "=" ++ (flat_map info.escaped folder ++ (codes "/" ++ file))))

abbrev pub text_of : List ℕ → List ℕ
text_of x = fields.text_of x

-- the text that two fields hold together
abbrev pub text_over : List ℕ → List ℕ → List ℕ
text_over front back = text_of (front ++ back)

abbrev pub text_word : List ℕ → List ℕ → List ℕ → List ℕ
text_word name front back = codes "--" ++ (name ++ (codes "=" ++ flat_map info.escaped (text_over front back)))

abbrev pub is_month : ℕ → Bool
is_month n = nat_le 1 n && nat_le n 12

abbrev pub os_text : OsParts → List ℕ
os_text p = decimal p.a ++ (codes "." ++ (decimal p.b ++ (codes "." ++ (decimal p.c
    ++ (codes "-" ++ (decimal p.year ++ (codes "-" ++ info.two_digits p.month)))))))

abbrev pub os_option : ℕ → List ℕ
os_option n =
    if is_month (os_parts n).month
    then codes "--os=" ++ os_text (os_parts n)
    else codes "--os-number=" ++ decimal n

-- a colon would end the name
abbrev pub escaped_in_name : ℕ → List ℕ
escaped_in_name b = if b == 58 then codes "\\x3a" else info.escaped b

abbrev pub fragment_option : ℕ → ℕ → List ℕ → List ℕ → List ℕ
fragment_option i kind name folder = codes "--fragment=" ++ (decimal kind ++ (codes ":"
    ++ (flat_map escaped_in_name name
    ++ (codes ":" ++ (flat_map info.escaped folder ++ (codes "/fragment." ++ decimal i))))))

abbrev pub board_option : ℕ → ℕ → ℕ → List ℕ
board_option i k n = codes "--board-id=" ++ (decimal i ++ (codes ":" ++ (decimal k ++ (codes "=" ++ decimal n))))

-- ---- the arguments of a header

abbrev pub words_if : {X : Type 0} → (X → List ℕ) → Option X → List (List ℕ)
words_if word None = []
words_if word (Some x) = word x ∷ []

-- the kind of image, its version and its page
abbrev pub kind_words : Header → List (List ℕ)
kind_words (OfBoot h) = flag_word (codes "escaped")
    ∷ number_word (codes "version") (boot_version h) ∷ number_word (codes "page") (boot_page h) ∷ []
kind_words (OfVendor v) = flag_word (codes "escaped") ∷ flag_word (codes "vendor")
    ∷ number_word (codes "version") (vendor_version v) ∷ number_word (codes "page") (vendor_page v) ∷ []

-- the option that sets a section: a vendor ramdisk with a table is set by its fragments, and so is the table
abbrev pub section_option : Bool → Section → Option (List ℕ)
section_option table Kernel = Some (option_of Kernel)
section_option table Ramdisk = Some (option_of Ramdisk)
section_option table Second = Some (option_of Second)
section_option table RecoveryDtbo = Some (option_of RecoveryDtbo)
section_option table Dtb = Some (option_of Dtb)
section_option table Signature = Some (option_of Signature)
section_option true VendorRamdisk = None
section_option false VendorRamdisk = Some (option_of VendorRamdisk)
section_option table Table = None
section_option table Bootconfig = Some (option_of Bootconfig)

abbrev pub section_words : List ℕ → Bool → SectionPlace → List (List ℕ)
section_words folder table p =
    words_if (λ name. part_word name folder (section_name p.kind)) (section_option table p.kind)

abbrev pub has_table : Header → Bool
has_table (OfBoot h) = false
has_table (OfVendor v) = is_some v.tail

abbrev pub address_word : Header → Address → List (List ℕ)
address_word h a = words_if (number_word (address_option a)) (fields.address_of h a)

abbrev pub address_words : Header → List (List ℕ)
address_words h = address_word h addresses.Kernel ++ (address_word h addresses.Ramdisk
    ++ (address_word h addresses.Second ++ (address_word h addresses.Tags ++ address_word h addresses.Dtb)))

abbrev pub name_words : Header → List (List ℕ)
name_words h = words_if (λ name. text_word (codes "name") name []) (fields.field_of h texts.Name)

-- the rest of a field where there is one
abbrev pub or_empty : Option (List ℕ) → List ℕ
or_empty None = []
or_empty (Some x) = x

abbrev pub cmdline_word : Header → List ℕ
cmdline_word h =
    text_word (codes "cmdline") (or_empty (fields.field_of h texts.Cmdline)) (or_empty (fields.field_of h texts.Extra))

abbrev pub os_words : Header → List (List ℕ)
os_words h = words_if os_option (fields.os_number_of h)

abbrev pub header_words : List ℕ → Header → List (List ℕ)
header_words folder h = kind_words h ++ (flat_map (section_words folder (has_table h)) (places_of h)
    ++ (address_words h ++ (name_words h ++ (cmdline_word h ∷ os_words h))))

-- ---- the arguments of the fragments

-- a name up to its first zero byte, or all of it where it is no text
abbrev pub name_bytes : List ℕ → List ℕ
name_bytes name = if all_zero (drop (length (text_of name)) name) then text_of name else name

abbrev pub board_word : ℕ → ℕ → ℕ → List (List ℕ)
board_word i k n = if n == 0 then [] else board_option i k n ∷ []

-- the numbers of a board id that are not zero, of which the first is number k
abbrev pub board_words : ℕ → ℕ → List ℕ → List (List ℕ)
board_words i k [] = []
board_words i k (n ∷ ns) = board_word i k n ++ board_words i (suc k) ns

abbrev pub entry_words : List ℕ → ℕ → RamdiskEntry → List (List ℕ)
entry_words folder i e = fragment_option i e.ramdisk_type (name_bytes e.name) folder ∷ board_words i 0 e.board_id

-- the first k fragments of the image x
abbrev pub fragment_words : List ℕ → List ℕ → Header → ℕ → List (List ℕ)
fragment_words folder x h zero = []
fragment_words folder x h (suc k) = fragment_words folder x h k ++ entry_words folder k (entry_of x h k)

-- ---- all arguments

abbrev pub image_words : List ℕ → List ℕ → Header → List (List ℕ)
image_words folder x h = header_words folder h ++ fragment_words folder x h (fragment_count h)

-- one a line
abbrev pub words_text : List (List ℕ) → List ℕ
words_text ws = flat_map info.line ws
