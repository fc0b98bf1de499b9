-- The words of an image are words of `pack`.
use Rattle.std.proofs.Common.{inl, inr, ◌≡◌, ℕ, zero, suc, ◌==◌, Bool, true, false, cond, List, [], ◌∷◌, ◌++◌, Option}
use Rattle.std.proofs.Common.{Some, None, codes, decimal, flat_map, refl, sym, subst}
use Rattle.std.proofs.lemmas.Bool.{cases_Bool}
use Rattle.std.proofs.lemmas.List.Concat.{flat_map-cons}
use Rattle.abt_headers.specs.declared.sections.SectionPlace.{SectionPlace}
use Rattle.abt_headers.specs.declared.sections.Section.{Section}
use Rattle.abt_headers.specs.declared.sections.Section.TheVariants.{Kernel, Ramdisk, Second, RecoveryDtbo, Dtb}
use Rattle.abt_headers.specs.declared.sections.Section.TheVariants.{Signature, VendorRamdisk, Table, Bootconfig}
use Rattle.abt_headers.specs.Boot.{boot_page, boot_version}
use Rattle.abt_headers.specs.Os.{os_parts}
use Rattle.abt_headers.specs.Places.{section_name}
use Rattle.abt_headers.specs.Vendor.{vendor_page, vendor_version}
use Rattle.abt_sections.specs.Header.{Header, OfBoot, OfVendor, entry_of, fragment_count, places_of}
use Rattle.words_values.specs.declared.rows.WordPlace.TheVariants as places
use Rattle.words_values.specs.declared.rows.Value.TheVariants as values
use Rattle.words_orders.specs.Table.{excludes, flag, number, part, required, row, usual}
use Rattle.words_sayings.specs.Rows.{Shape}
use Rattle.words_sayings.specs.Words.{nothing, of_row, step, step_of}
use Rattle.cmd_common_fields.specs.Fields as fields
use Rattle.cmd_common_fields.specs.declared.fields.Address.TheVariants as addresses
use Rattle.cmd_common_fields.specs.declared.fields.TextField.TheVariants as texts
use Rattle.cmd_common_texts.specs.Info as info
use Rattle.cmd_common_texts.specs.Words.{address_word, address_words, board_option, board_word, board_words}
use Rattle.cmd_common_texts.specs.Words.{cmdline_word, entry_words, escaped_in_name, flag_word, fragment_option}
use Rattle.cmd_common_texts.specs.Words.{fragment_words, has_table, header_words, image_words, is_month, kind_words}
use Rattle.cmd_common_texts.specs.Words.{name_bytes, name_words, number_word, or_empty, os_option, os_text, os_words}
use Rattle.cmd_common_texts.specs.Words.{part_word, section_option, section_words, text_over, text_word, words_if}
use Rattle.law_words.proofs.Reading.{ArePackWords, IsPackWord, is_flag_name, pack_rows}
use Rattle.law_words.proofs.Values.{has_no_mark}

words_both : (a b : List (List ℕ)) → ArePackWords a → ArePackWords b → ArePackWords (a ++ b)
words_both [] b h k = k
words_both (w ∷ a) b h k = (h.0, words_both a b h.1 k)

-- a word of an option that the table has
option_word : (own : Shape) (value : List ℕ) → has_no_mark own.name ≡ true → is_flag_name own.name ≡ false
    → step_of false pack_rows nothing (codes "--" ++ (own.name ++ (61 ∷ value))) ≡ step (of_row own value ∷ []) nothing
    → IsPackWord (codes "--" ++ (own.name ++ (61 ∷ value)))
option_word own value h k says =
    record { row = own; value = Some value; is = refl; unmarked = h; kind = k; says = says }

flag_is_word : (own : Shape) → has_no_mark own.name ≡ true → is_flag_name own.name ≡ true
    → step_of false pack_rows nothing (flag_word own.name) ≡ step (of_row own (codes "true") ∷ []) nothing
    → IsPackWord (flag_word own.name)
flag_is_word own h k says =
    record { row = own; value = None; is = refl; unmarked = h; kind = k; says = says }

-- ---- the words of a header

escaped_word : IsPackWord (flag_word (codes "escaped"))
escaped_word = flag_is_word (flag (codes "escaped")) refl refl refl

vendor_word : IsPackWord (flag_word (codes "vendor"))
vendor_word = flag_is_word (flag (codes "vendor")) refl refl refl

version_word : (n : ℕ) → IsPackWord (number_word (codes "version") n)
version_word n =
    option_word (required (row places.Option (values.Count 0) (codes "version"))) (decimal n) refl refl refl

page_word : (n : ℕ) → IsPackWord (number_word (codes "page") n)
page_word n = option_word (usual (codes "4096") (number (codes "page"))) (decimal n) refl refl refl

kind_are : (h : Header) → ArePackWords (kind_words h)
kind_are (OfBoot h) = (escaped_word, (version_word (boot_version h), (page_word (boot_page h), tt)))
kind_are (OfVendor v) =
    (escaped_word, (vendor_word, (version_word (vendor_version v), (page_word (vendor_page v), tt))))

-- the path of a section's file, escaped
abbrev path_text : List ℕ → Section → List ℕ
path_text folder kind = flat_map info.escaped folder ++ (codes "/" ++ section_name kind)

section_are : (folder : List ℕ) (table : Bool) (kind : Section)
    → ArePackWords (words_if (λ name. part_word name folder (section_name kind)) (section_option table kind))
section_are folder table Kernel = (option_word (part (codes "kernel")) (path_text folder Kernel) refl refl refl, tt)
section_are folder table Ramdisk = (option_word (part (codes "ramdisk")) (path_text folder Ramdisk) refl refl refl, tt)
section_are folder table Second = (option_word (part (codes "second")) (path_text folder Second) refl refl refl, tt)
section_are folder table RecoveryDtbo =
    (option_word (part (codes "recovery-dtbo")) (path_text folder RecoveryDtbo) refl refl refl, tt)
section_are folder table Dtb = (option_word (part (codes "dtb")) (path_text folder Dtb) refl refl refl, tt)
section_are folder table Signature =
    (option_word (part (codes "signature")) (path_text folder Signature) refl refl refl, tt)
section_are folder true VendorRamdisk = tt
section_are folder false VendorRamdisk =
    (option_word (part (codes "ramdisk")) (path_text folder VendorRamdisk) refl refl refl, tt)
section_are folder table Table = tt
section_are folder table Bootconfig =
    (option_word (part (codes "bootconfig")) (path_text folder Bootconfig) refl refl refl, tt)

sections_are : (folder : List ℕ) (table : Bool) (ps : List SectionPlace)
    → ArePackWords (flat_map (section_words folder table) ps)
sections_are folder table [] = tt
sections_are folder table (p ∷ ps) =
    subst ArePackWords (sym (flat_map-cons (section_words folder table) p ps))
    (words_both (section_words folder table p) (flat_map (section_words folder table) ps)
    (section_are folder table p.kind) (sections_are folder table ps))

address_are : (h : Header) → ArePackWords (address_words h)
address_are h =
    words_both (address_word h addresses.Kernel) _ (kernel (fields.address_of h addresses.Kernel))
    (words_both (address_word h addresses.Ramdisk) _ (ramdisk (fields.address_of h addresses.Ramdisk))
    (words_both (address_word h addresses.Second) _ (second (fields.address_of h addresses.Second))
    (words_both (address_word h addresses.Tags) _ (tags (fields.address_of h addresses.Tags))
    (dtb (fields.address_of h addresses.Dtb)))))
  where
    kernel : (o : Option ℕ) → ArePackWords (words_if (number_word (codes "kernel-addr")) o)
    kernel None = tt
    kernel (Some n) = (option_word (number (codes "kernel-addr")) (decimal n) refl refl refl, tt)

    ramdisk : (o : Option ℕ) → ArePackWords (words_if (number_word (codes "ramdisk-addr")) o)
    ramdisk None = tt
    ramdisk (Some n) = (option_word (number (codes "ramdisk-addr")) (decimal n) refl refl refl, tt)

    second : (o : Option ℕ) → ArePackWords (words_if (number_word (codes "second-addr")) o)
    second None = tt
    second (Some n) = (option_word (number (codes "second-addr")) (decimal n) refl refl refl, tt)

    tags : (o : Option ℕ) → ArePackWords (words_if (number_word (codes "tags-addr")) o)
    tags None = tt
    tags (Some n) = (option_word (number (codes "tags-addr")) (decimal n) refl refl refl, tt)

    dtb : (o : Option ℕ) → ArePackWords (words_if (number_word (codes "dtb-addr")) o)
    dtb None = tt
    dtb (Some n) =
        (option_word (row places.Option values.LongNumber (codes "dtb-addr")) (decimal n) refl refl refl, tt)

name_are : (o : Option (List ℕ)) → ArePackWords (words_if (λ name. text_word (codes "name") name []) o)
name_are None = tt
name_are (Some x) = (
  option_word (row places.Option values.Text (codes "name")) (flat_map info.escaped (text_over x [])) refl refl refl,
  tt,
)

cmdline_is : (h : Header) → IsPackWord (cmdline_word h)
cmdline_is h =
    let text = text_over (or_empty (fields.field_of h texts.Cmdline)) (or_empty (fields.field_of h texts.Extra)) in
    option_word (row places.Option values.CommandLine (codes "cmdline")) (flat_map info.escaped text) refl refl refl

os_is : (n : ℕ) → IsPackWord (os_option n)
os_is n = elim (cases_Bool (is_month (os_parts n).month)) [
  | inl e ↦
      let said : codes "--os=" ++ os_text (os_parts n) ≡ os_option n = rw e refl in
      subst IsPackWord said (option_word (excludes (codes "os-number") (row places.Option values.Os (codes "os")))
      (os_text (os_parts n)) refl refl refl)
  | inr e ↦
      let said : codes "--os-number=" ++ decimal n ≡ os_option n = rw e refl in
      subst IsPackWord said (option_word (number (codes "os-number")) (decimal n) refl refl refl)
]

os_are : (o : Option ℕ) → ArePackWords (words_if os_option o)
os_are None = tt
os_are (Some n) = (os_is n, tt)

header_are : (folder : List ℕ) (h : Header) → ArePackWords (header_words folder h)
header_are folder h =
    words_both (kind_words h) _ (kind_are h)
    (words_both (flat_map (section_words folder (has_table h)) (places_of h)) _
    (sections_are folder (has_table h) (places_of h))
    (words_both (address_words h) _ (address_are h)
    (words_both (name_words h) (cmdline_word h ∷ os_words h) (name_are (fields.field_of h texts.Name))
    (cmdline_is h, os_are (fields.os_number_of h)))))

-- ---- the words of the fragments

fragment_is : (i kind : ℕ) (name folder : List ℕ) → IsPackWord (fragment_option i kind name folder)
fragment_is i kind name folder =
    let file = flat_map info.escaped folder ++ (codes "/fragment." ++ decimal i) in
    let value = decimal kind ++ (codes ":" ++ (flat_map escaped_in_name name ++ (codes ":" ++ file))) in
    option_word (row places.Options values.Text (codes "fragment")) value refl refl refl

board_is : (i k n : ℕ) → IsPackWord (board_option i k n)
board_is i k n =
    let value = decimal i ++ (codes ":" ++ (decimal k ++ (codes "=" ++ decimal n))) in
    option_word (row places.Options values.Text (codes "board-id")) value refl refl refl

one_board : (left_out : Bool) (i k n : ℕ) → ArePackWords (cond left_out [] (board_option i k n ∷ []))
one_board true i k n = tt
one_board false i k n = (board_is i k n, tt)

boards_are : (i k : ℕ) (ns : List ℕ) → ArePackWords (board_words i k ns)
boards_are i k [] = tt
boards_are i k (n ∷ ns) =
    words_both (board_word i k n) (board_words i (suc k) ns) (one_board (n == 0) i k n) (boards_are i (suc k) ns)

fragments_are : (folder x : List ℕ) (h : Header) (k : ℕ) → ArePackWords (fragment_words folder x h k)
fragments_are folder x h zero = tt
fragments_are folder x h (suc k) =
    let e = entry_of x h k in
    words_both (fragment_words folder x h k) (entry_words folder k e) (fragments_are folder x h k)
    (fragment_is k e.ramdisk_type (name_bytes e.name) folder, boards_are k 0 e.board_id)

pub image_are : (folder x : List ℕ) (h : Header) → ArePackWords (image_words folder x h)
image_are folder x h = words_both (header_words folder h) (fragment_words folder x h (fragment_count h))
    (header_are folder h) (fragments_are folder x h (fragment_count h))
