-- The text of `info`: the lines of an opened image, and their order.
use Rattle.std.specs.Prelude.{◌≡◌, ℕ, zero, suc, ◌<◌, ◌≤◌, ◌/◌, ◌%◌, ◌==◌, ◌&&◌, not, nat_le, Bool, false}
use Rattle.std.specs.Prelude.{if◌then◌else◌, List, [], ◌∷◌, ◌++◌, Option, Some, None, Result, Ok, Err, codes, decimal}
use Rattle.std.specs.Prelude.{IsSome, IsTrue, IfErr, OnOk}
use Rattle.std.specs.Fmt.{digits}
use Rattle.std.specs.List.{flat_map}
use Rattle.hex.specs.Hex.{encode_lower}
use Rattle.abt_io.specs.declared.device.Source as sources
use Rattle.abt_io.specs.declared.device.Output as outputs
use Rattle.sys_text.specs.Printed.{Prints}
use Rattle.sys_text.specs.declared.text_output.Text.{Text}
use Rattle.abt_headers.specs.declared.entry.RamdiskEntry.{RamdiskEntry}
use Rattle.abt_headers.specs.declared.os.OsParts.{OsParts}
use Rattle.abt_headers.specs.declared.sections.SectionPlace.{SectionPlace}
use Rattle.abt_headers.specs.Boot.{boot_page, boot_version}
use Rattle.abt_headers.specs.Os.{os_parts}
use Rattle.abt_headers.specs.Places.{section_name}
use Rattle.abt_headers.specs.Vendor.{vendor_page, vendor_version}
use Rattle.abt_sections.specs.declared.checking.Verdict.{Verdict}
use Rattle.abt_sections.specs.Header.{Header, OfBoot, OfVendor, places_of, fragment_count, entry_of}
use Rattle.abt_sections.specs.Check.{IsVerdict}
use Rattle.abt_sections.specs.Open.{HasImage, IsOpened, RefusedAs}
use Rattle.abt_sections.specs.declared.image.Image.{Image}
use Rattle.abt_sections.specs.declared.fault.SectionFault.{SectionFault}
use Rattle.abt_sections.specs.declared.fault.SectionFault.TheVariants as faults
use Rattle.cmd_common_fields.specs.Fields.{address_name, address_of, field_name, field_of, id_field_of, os_number_of}
use Rattle.cmd_common_fields.specs.Fields.{text_of}
use Rattle.cmd_common_fields.specs.declared.fields.Address.{Address}
use Rattle.cmd_common_fields.specs.declared.fields.Address.TheVariants as addresses
use Rattle.cmd_common_fields.specs.declared.fields.TextField.{TextField}
use Rattle.cmd_common_fields.specs.declared.fields.TextField.TheVariants as texts
use Rattle.cmd_common_texts.specs.declared.info_lines.Notation.{Notation}
use Rattle.cmd_common_texts.specs.declared.info_lines.Notation.TheVariants as notations

-- ---- a text of the header, in quotes

-- printable ASCII but for the quote and the backslash
abbrev pub is_plain : ℕ → Bool
is_plain b = nat_le 0x20 b && nat_le b 0x7e && not (b == 0x22) && not (b == 0x5c)

-- a byte as it is, or as `\x` and two digits
abbrev pub escaped : ℕ → List ℕ
escaped b = if is_plain b then b ∷ [] else codes "\\x" ++ encode_lower (b ∷ [])

abbrev pub quoted : List ℕ → List ℕ
quoted x = codes "\"" ++ (flat_map escaped (text_of x) ++ codes "\"")

-- ---- the lines

-- a number of bytes, a place or an address
abbrev pub number_text : Notation → ℕ → List ℕ
number_text notations.Decimal n = decimal n
number_text notations.Hexadecimal n = codes "0x" ++ digits 16 false n

-- a kind with its version and its page
abbrev pub kind_line : Notation → List ℕ → ℕ → ℕ → List ℕ
kind_line o kind version page =
    codes "kind " ++ (kind ++ (codes " version " ++ (decimal version ++ (codes " page " ++ number_text o page))))

abbrev pub image_kind_text : Notation → Header → List ℕ
image_kind_text o (OfBoot h) = kind_line o (codes "boot") (boot_version h) (boot_page h)
image_kind_text o (OfVendor v) = kind_line o (codes "vendor") (vendor_version v) (vendor_page v)

abbrev pub section_text : Notation → SectionPlace → List ℕ
section_text o p = codes "section " ++ (section_name p.kind
    ++ (codes " at " ++ (number_text o p.at ++ (codes " size " ++ number_text o p.size))))

abbrev pub fragment_text : Notation → ℕ → RamdiskEntry → List ℕ
fragment_text o i e = codes "fragment " ++ (decimal i ++ (codes " at " ++ (number_text o e.ramdisk_offset
    ++ (codes " size "
    ++ (number_text o e.ramdisk_size
    ++ (codes " type " ++ (decimal e.ramdisk_type ++ (codes " name " ++ quoted e.name))))))))

abbrev pub address_text : Notation → Address → ℕ → List ℕ
address_text o a n = codes "address " ++ (address_name a ++ (codes " " ++ number_text o n))

-- the two digits of a number below 100
abbrev pub two_digits : ℕ → List ℕ
two_digits n = decimal (n / 10) ++ decimal (n % 10)

-- the text between a version and its patch level
abbrev pub mark_behind_version : Notation → List ℕ
mark_behind_version notations.Decimal = codes " "
mark_behind_version notations.Hexadecimal = codes "-"

abbrev pub os_info : Notation → OsParts → List ℕ
os_info o p = codes "os " ++ (decimal p.a ++ (codes "." ++ (decimal p.b ++ (codes "." ++ (decimal p.c
    ++ (mark_behind_version o ++ (decimal p.year ++ (codes "-" ++ two_digits p.month))))))))

abbrev pub field_text : TextField → List ℕ → List ℕ
field_text f x = field_name f ++ (codes " " ++ quoted x)

abbrev pub id_text : List ℕ → List ℕ
id_text id = codes "id " ++ encode_lower id

abbrev pub yes_no : Bool → List ℕ
yes_no b = if b then codes "yes" else codes "no"

abbrev pub check_text : Verdict → List ℕ
check_text v = codes "check canonical " ++ (yes_no v.canonical ++ (codes " padding " ++ (yes_no v.padding
    ++ (codes " id " ++ (yes_no v.id ++ (codes " offset " ++ yes_no v.offset))))))

-- ---- the whole text

-- a text and the end of its line
abbrev pub line : List ℕ → List ℕ
line t = t ++ (10 ∷ [])

-- the line of a field, where there is one
abbrev pub line_if : {X : Type 0} → (X → List ℕ) → Option X → List ℕ
line_if text None = []
line_if text (Some x) = line (text x)

abbrev pub section_line : Notation → SectionPlace → List ℕ
section_line o p = line (section_text o p)

-- the first k fragments of the image x
abbrev pub fragment_lines : Notation → List ℕ → Header → ℕ → List ℕ
fragment_lines o x h zero = []
fragment_lines o x h (suc k) = fragment_lines o x h k ++ line (fragment_text o k (entry_of x h k))

abbrev pub address_line : Notation → Header → Address → List ℕ
address_line o h a = line_if (address_text o a) (address_of h a)

abbrev pub os_line : Notation → Header → List ℕ
os_line o h = line_if (λ n. os_info o (os_parts n)) (os_number_of h)

abbrev pub field_line : Header → TextField → List ℕ
field_line h t = line_if (field_text t) (field_of h t)

abbrev pub id_line : Header → List ℕ
id_line h = line_if id_text (id_field_of h)

abbrev pub address_lines : Notation → Header → List ℕ
address_lines o h = address_line o h addresses.Kernel ++ (address_line o h addresses.Ramdisk
    ++ (address_line o h addresses.Second ++ (address_line o h addresses.Tags ++ address_line o h addresses.Dtb)))

-- the fields after the sections and the fragments
abbrev pub header_lines : Notation → Header → List ℕ
header_lines o h = address_lines o h ++ (os_line o h ++ (field_line h texts.Name ++ (field_line h texts.Cmdline
    ++ (field_line h texts.Extra ++ id_line h))))

unfoldable pub info_text : Notation → List ℕ → Header → Verdict → List ℕ
info_text o x h v = line (image_kind_text o h) ++ (flat_map (section_line o) (places_of h)
    ++ (fragment_lines o x h (fragment_count h) ++ (header_lines o h ++ line (check_text v))))

-- P holds of the text of the image x with the header h, and with its verdict
pub record Checked (o : Notation) (x : List ℕ) (h : Header) (P : List ℕ → Type 0) : Type 0 where
  pub verdict : Verdict
  pub checked : IsVerdict x h verdict
  pub holds : P (info_text o x h verdict)

-- ---- faults

abbrev pub IsSectionWrite : SectionFault → Type 0
IsSectionWrite (faults.Read d) = ⊥
IsSectionWrite (faults.Write d) = Unit {0}
IsSectionWrite faults.SourceChanged = ⊥
IsSectionWrite (faults.Header f) = ⊥
IsSectionWrite (faults.Entry i) = ⊥
IsSectionWrite faults.Name = ⊥
IsSectionWrite faults.CommandLine = ⊥
IsSectionWrite (faults.SectionTruncated s) = ⊥
IsSectionWrite (faults.SectionTooLarge s) = ⊥

-- the fault is Write exactly where the count of failed writes rose
abbrev pub SectionWriteTold : SectionFault → ℕ → ℕ → Type 0
SectionWriteTold (faults.Read d) w w' = w' ≡ w
SectionWriteTold (faults.Write d) w w' = w < w'
SectionWriteTold faults.SourceChanged w w' = w' ≡ w
SectionWriteTold (faults.Header f) w w' = w' ≡ w
SectionWriteTold (faults.Entry i) w w' = w' ≡ w
SectionWriteTold faults.Name w w' = w' ≡ w
SectionWriteTold faults.CommandLine w w' = w' ≡ w
SectionWriteTold (faults.SectionTruncated s) w w' = w' ≡ w
SectionWriteTold (faults.SectionTooLarge s) w w' = w' ≡ w

-- the fault is Read only where the count of failed reads rose, and after an Ok it has not risen
abbrev pub SectionReadTold : {X : Type 0} → Result X SectionFault → ℕ → ℕ → Type 0
SectionReadTold (Ok a) r r' = r' ≡ r
SectionReadTold (Err (faults.Read d)) r r' = r < r'
SectionReadTold (Err f) r r' = r ≤ r'

-- why printing an image that opened fails: the output failed, or the source, whose count of faults rose
abbrev pub PrintCause : SectionFault → ℕ → ℕ → Type 0
PrintCause (faults.Read d) r r' = r < r'
PrintCause (faults.Write d) r r' = Unit {0}
PrintCause faults.SourceChanged r r' = ⊥
PrintCause (faults.Header f) r r' = ⊥
PrintCause (faults.Entry i) r r' = ⊥
PrintCause faults.Name r r' = ⊥
PrintCause faults.CommandLine r r' = ⊥
PrintCause (faults.SectionTruncated s) r r' = ⊥
PrintCause (faults.SectionTooLarge s) r r' = ⊥

-- of the bytes x: a device failed; or they are no image, and then nothing was printed
abbrev pub InfoCause : SectionFault → List ℕ → ℕ → ℕ → Type 0 → Type 0
InfoCause (faults.Read d) x r r' nothing = r < r'
InfoCause (faults.Write d) x r r' nothing = Unit {0}
InfoCause faults.SourceChanged x r r' nothing = ⊥
InfoCause (faults.Header f) x r r' nothing = RefusedAs x (faults.Header f) × nothing
InfoCause (faults.Entry i) x r r' nothing = RefusedAs x (faults.Entry i) × nothing
InfoCause faults.Name x r r' nothing = ⊥
InfoCause faults.CommandLine x r r' nothing = ⊥
InfoCause (faults.SectionTruncated s) x r r' nothing = RefusedAs x (faults.SectionTruncated s) × nothing
InfoCause (faults.SectionTooLarge s) x r r' nothing = ⊥

-- new is old and then the text of the image x
pub record Reports (o : Notation) (x old new : List ℕ) : Type 0 where
  pub header : Header
  pub image : HasImage x header
  pub printed : Checked o x header (λ text. new ≡ old ++ text)

-- ---- what printing leaves of the devices

-- A call prints something of an opened image. After an Ok its source holds what it held. A fault of writing is in the
-- text. Where the image is unchanged, all faults are those of devices.
pub record PrintsImage {X : Type 0} (r : Result X SectionFault) {A : Type 0} (s : sources.Ghosts A) (old new : A)
    {B : Type 0} (o : outputs.Ghosts B) (before after : Text B) (image : Image) : Type 0 where
  pub content : IsTrue s.models → OnOk r (s.content new ≡ s.content old)
  pub prints : (done : List ℕ) × Prints o.written o.write_faults before after done
  pub told : IfErr r (λ f. IsSectionWrite f → IsSome after.fault)
  pub reads : SectionReadTold r (s.read_faults old) (s.read_faults new)
  pub refused : IsTrue s.models → IsOpened (s.content old) image
      → IfErr r (λ f. PrintCause f (s.read_faults old) (s.read_faults new))

-- All of it went to an output: after an Ok none of the two devices has failed.
pub record WritesImage {X : Type 0} (r : Result X SectionFault) {A : Type 0} (s : sources.Ghosts A) (old new : A)
    {B : Type 0} (o : outputs.Ghosts B) (before after : B) : Type 0 where
  pub content : IsTrue s.models → OnOk r (s.content new ≡ s.content old)
  pub reads : SectionReadTold r (s.read_faults old) (s.read_faults new)
  pub failed : IfErr r (λ f. SectionWriteTold f (o.write_faults before) (o.write_faults after))
  pub clean : OnOk r (o.write_faults after ≡ o.write_faults before)
