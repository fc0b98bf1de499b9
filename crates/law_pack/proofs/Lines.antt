-- The words of an image stand one a line: the lines of their text are the words again.
use Rattle.std.proofs.Common.{inl, inr, ◌≡◌, ◌≢◌, ℕ, zero, suc, ◌+◌, ◌-◌, ◌/◌, ◌%◌, ◌<◌, ◌≤◌, ◌==◌, ◌&&◌, nat_le}
use Rattle.std.proofs.Common.{nat_lt, not, Bool, true, false, cond, List, [], ◌∷◌, ◌++◌, Option, Some, None, codes}
use Rattle.std.proofs.Common.{decimal, length, flat_map, slice_index, take, refl, sym, ap, subst, ◌∙◌, arith}
use Rattle.std.proofs.Common.{append_assoc, lit<}
use Rattle.std.proofs.lemmas.Bool.{and_parts, cases_Bool, eqb-true, le-leb, leb-true, true≢false}
use Rattle.std.proofs.lemmas.List.Concat.{flat_map-cons}
use Rattle.std.proofs.lemmas.List.{get_or_default}
use Rattle.std.proofs.lemmas.List.Splits.{slice_split_at}
use Rattle.std.specs.Fmt.{digit_glyph, digits, digits_onto}
use Rattle.std.specs.List.{All, AllByRecursion, filter, slice_split}
use Rattle.std.specs.Str.Lines.{lines, lines_of_parts, strip_carriage_return}
use Rattle.hex.specs.Hex.{encode_with, lower_digits}
use Rattle.abt_io.specs.Bytes.{AreBytes}
use Rattle.abt_headers.specs.declared.os.OsParts.{OsParts}
use Rattle.abt_headers.specs.declared.sections.SectionPlace.{SectionPlace}
use Rattle.abt_headers.specs.declared.sections.Section.{Section}
use Rattle.abt_headers.specs.declared.sections.Section.TheVariants.{Kernel, Ramdisk, Second, RecoveryDtbo, Dtb}
use Rattle.abt_headers.specs.declared.sections.Section.TheVariants.{Signature, VendorRamdisk, Table, Bootconfig}
use Rattle.abt_headers.specs.Boot.{boot_page, boot_version}
use Rattle.abt_headers.specs.Os.{os_parts}
use Rattle.abt_headers.specs.Places.{section_name}
use Rattle.abt_headers.specs.Vendor.{vendor_page, vendor_version}
use Rattle.abt_sections.specs.Header.{Header, OfBoot, OfVendor, entry_of, fragment_count, places_of}
use Rattle.words_values.specs.WordFile.{words_of}
use Rattle.cmd_common_fields.specs.Fields as fields
use Rattle.cmd_common_fields.specs.Options.{address_option, option_of}
use Rattle.cmd_common_fields.specs.declared.fields.Address.TheVariants as addresses
use Rattle.cmd_common_fields.specs.declared.fields.TextField.TheVariants as texts
use Rattle.cmd_common_texts.specs.Info as info
use Rattle.cmd_common_texts.specs.Words.{address_word, address_words, board_option, board_word, board_words}
use Rattle.cmd_common_texts.specs.Words.{cmdline_word}
use Rattle.cmd_common_texts.specs.Words.{entry_words, escaped_in_name, flag_word, fragment_option, fragment_words}
use Rattle.cmd_common_texts.specs.Words.{has_table}
use Rattle.cmd_common_texts.specs.Words.{header_words, image_words, is_month, kind_words, name_bytes, name_words}
use Rattle.cmd_common_texts.specs.Words.{number_word}
use Rattle.cmd_common_texts.specs.Words.{option_front, or_empty, os_option, os_text, os_words, part_word}
use Rattle.cmd_common_texts.specs.Words.{section_option}
use Rattle.cmd_common_texts.specs.Words.{section_words, text_over, text_word, words_if, words_text}
use Rattle.law_boot.specs.Said.{IsHeld}
use Rattle.law_boot.proofs.FragmentsSay.{entry_name, name_of_bytes}
use Rattle.law_boot.proofs.WordsSay.{none_are_bytes, over_bytes}

-- ---- letters that end no line

-- no letter is below the space
abbrev ends_none : List ℕ → Bool
ends_none [] = true
ends_none (c ∷ x) = nat_le 32 c && ends_none x

ends_both : (a b : List ℕ) → ends_none a ≡ true → ends_none b ≡ true → ends_none (a ++ b) ≡ true
ends_both [] b h k = k
ends_both (c ∷ a) b h k = let p = and_parts (nat_le 32 c) (ends_none a) h in rw p.0 (ends_both a b p.1 k)

high_at : (x : List ℕ) → ends_none x ≡ true → (i : ℕ) → i < length x → 32 ≤ slice_index x i
high_at [] h i l = absurd (let q : i < 0 = l in omega arith)
high_at (c ∷ x) h zero l = leb-true 32 c (and_parts (nat_le 32 c) (ends_none x) h).0
high_at (c ∷ x) h (suc i) l = high_at x (and_parts (nat_le 32 c) (ends_none x) h).1 i (omega (arith, l))

more_letters : (c : ℕ) (x : List ℕ) → 32 ≤ c → ends_none x ≡ true → ends_none (c ∷ x) ≡ true
more_letters c x h k = let high : nat_le 32 c ≡ true = le-leb 32 c h in rw high k

-- ---- numbers

glyph_high : (d : ℕ) → 32 ≤ digit_glyph false d
glyph_high d = elim (cases_Bool (nat_lt d 10)) [
  | inl e ↦ let q : digit_glyph false d ≡ 48 + d = rw e refl in omega (arith, q)
  | inr e ↦ let q : digit_glyph false d ≡ 87 + d = rw e refl in omega (arith, q)
]

digits_end_none : (k n : ℕ) (more : List ℕ) → ends_none more ≡ true → ends_none (digits_onto k 10 false n more) ≡ true
digits_end_none zero n more h = h
digits_end_none (suc k) n more h =
    let next = digit_glyph false (n % 10) ∷ more in
    let fine : ends_none next ≡ true = more_letters (digit_glyph false (n % 10)) more (glyph_high (n % 10)) h in
    both (n / 10 == 0) next (digits_onto k 10 false (n / 10) next) fine (digits_end_none k (n / 10) next fine)
  where
    both : (t : Bool) (a b : List ℕ) → ends_none a ≡ true → ends_none b ≡ true → ends_none (cond t a b) ≡ true
    both true a b h k = h
    both false a b h k = k

decimal_ends_none : (n : ℕ) → ends_none (decimal n) ≡ true
unfolding digits
decimal_ends_none n = digits_end_none 64 n [] refl

-- ---- escaped bytes

front_is : (a b c d : Bool) → (a && b && c && d) ≡ true → a ≡ true
front_is true b c d e = refl
front_is false b c d e = absurd (true≢false (sym e))

hex_high : (i : ℕ) → i < 16 → 32 ≤ slice_index lower_digits i
hex_high i l = high_at lower_digits refl i l

one_escaped : (b : ℕ) → b < 256 → ends_none (info.escaped b) ≡ true
unfolding encode_with
one_escaped b small = elim (cases_Bool (info.is_plain b)) [
  | inl e ↦
      let high : 32 ≤ b = leb-true 32 b
      (front_is (nat_le 0x20 b) (nat_le b 0x7e) (not (b == 0x22)) (not (b == 0x5c)) e) in
      rw e (more_letters b [] high refl)
  | inr e ↦
      let low = more_letters (slice_index lower_digits (b % 16)) [] (hex_high (b % 16) (omega arith)) refl in
      rw e (more_letters (slice_index lower_digits (b / 16)) (slice_index lower_digits (b % 16) ∷ [])
      (hex_high (b / 16) (omega (arith, small))) low)
]

escaped_ends_none : (x : List ℕ) → AreBytes x → ends_none (flat_map info.escaped x) ≡ true
escaped_ends_none [] h = refl
escaped_ends_none (b ∷ x) h =
    ap ends_none (flat_map-cons info.escaped b x) ∙ ends_both (info.escaped b) (flat_map info.escaped x)
    (one_escaped b (h 0)) (escaped_ends_none x (λ i. h (suc i)))

one_in_name : (b : ℕ) → b < 256 → ends_none (escaped_in_name b) ≡ true
one_in_name b small = elim (cases_Bool (b == 58)) [
  | inl e ↦ rw e refl
  | inr e ↦ rw e (one_escaped b small)
]

name_ends_none : (x : List ℕ) → AreBytes x → ends_none (flat_map escaped_in_name x) ≡ true
name_ends_none [] h = refl
name_ends_none (b ∷ x) h =
    ap ends_none (flat_map-cons escaped_in_name b x) ∙ ends_both (escaped_in_name b) (flat_map escaped_in_name x)
    (one_in_name b (h 0)) (name_ends_none x (λ i. h (suc i)))

-- ---- words

-- a word that is a line
record IsLine (word : List ℕ) : Type 0 where
  whole : ends_none word ≡ true
  some : 0 < length word

abbrev AreLines : List (List ℕ) → Type 0
AreLines words = AllByRecursion IsLine words

lines_both : (a b : List (List ℕ)) → AreLines a → AreLines b → AreLines (a ++ b)
lines_both [] b h k = k
lines_both (w ∷ a) b h k = (h.0, lines_both a b h.1 k)

-- one that begins with `--`
option_line : (rest : List ℕ) → ends_none rest ≡ true → IsLine (codes "--" ++ rest)
option_line rest h = record { whole = h; some = omega arith }

number_line : (name : List ℕ) (n : ℕ) → ends_none name ≡ true → IsLine (number_word name n)
number_line name n h = option_line (name ++ (codes "=" ++ decimal n))
    (ends_both name (codes "=" ++ decimal n) h (decimal_ends_none n))

part_line : (name folder file : List ℕ) → AreBytes folder → ends_none name ≡ true → ends_none file ≡ true
    → IsLine (part_word name folder file)
part_line name folder file bytes h k =
    option_line (name ++ (codes "=" ++ (flat_map info.escaped folder ++ (codes "/" ++ file))))
    (ends_both name (codes "=" ++ (flat_map info.escaped folder ++ (codes "/" ++ file))) h
    (ends_both (flat_map info.escaped folder) (codes "/" ++ file) (escaped_ends_none folder bytes) k))

text_line : (name front back : List ℕ) → AreBytes front → AreBytes back → ends_none name ≡ true
    → IsLine (text_word name front back)
text_line name front back f b h =
    let text = flat_map info.escaped (text_over front back) in
    option_line (name ++ (codes "=" ++ text))
    (ends_both name (codes "=" ++ text) h (escaped_ends_none (text_over front back) (over_bytes front back f b)))

os_text_line : (p : OsParts) → ends_none (os_text p) ≡ true
os_text_line p =
    let month_text = info.two_digits p.month in
    let year_text = decimal p.year ++ (codes "-" ++ month_text) in
    let c_text = decimal p.c ++ (codes "-" ++ year_text) in
    let b_text = decimal p.b ++ (codes "." ++ c_text) in
    let month : ends_none month_text ≡ true =
    ends_both (decimal (p.month / 10)) (decimal (p.month % 10)) (decimal_ends_none (p.month / 10))
    (decimal_ends_none (p.month % 10)) in
    let year : ends_none year_text ≡ true = ends_both (decimal p.year) (codes "-" ++ month_text)
    (decimal_ends_none p.year) month in
    let c : ends_none c_text ≡ true = ends_both (decimal p.c) (codes "-" ++ year_text) (decimal_ends_none p.c) year in
    let b : ends_none b_text ≡ true = ends_both (decimal p.b) (codes "." ++ c_text) (decimal_ends_none p.b) c in
    ends_both (decimal p.a) (codes "." ++ b_text) (decimal_ends_none p.a) b

os_line : (n : ℕ) → IsLine (os_option n)
os_line n = elim (cases_Bool (is_month (os_parts n).month)) [
  | inl e ↦
      let said : codes "--os=" ++ os_text (os_parts n) ≡ os_option n = rw e refl in
      subst IsLine said (option_line (codes "os=" ++ os_text (os_parts n)) (os_text_line (os_parts n)))
  | inr e ↦
      let said : codes "--os-number=" ++ decimal n ≡ os_option n = rw e refl in
      subst IsLine said (option_line (codes "os-number=" ++ decimal n) (decimal_ends_none n))
]

-- ---- the words of a header

module _ (folder : List ℕ) (bytes : AreBytes folder) where
  kind_lines : (h : Header) → AreLines (kind_words h)
  kind_lines (OfBoot h) = (
    option_line (codes "escaped") refl,
    (number_line (codes "version") (boot_version h) refl, (number_line (codes "page") (boot_page h) refl, tt)),
  )
  kind_lines (OfVendor v) = (
    option_line (codes "escaped") refl,
    (
      option_line (codes "vendor") refl,
      (
        number_line (codes "version") (vendor_version v) refl,
        (number_line (codes "page") (vendor_page v) refl, tt),
      ),
    ),
  )

  section_lines : (table : Bool) (kind : Section)
      → AreLines (words_if (λ name. part_word name folder (section_name kind)) (section_option table kind))
  section_lines table Kernel = (part_line (option_of Kernel) folder (section_name Kernel) bytes refl refl, tt)
  section_lines table Ramdisk = (part_line (option_of Ramdisk) folder (section_name Ramdisk) bytes refl refl, tt)
  section_lines table Second = (part_line (option_of Second) folder (section_name Second) bytes refl refl, tt)
  section_lines table RecoveryDtbo =
      (part_line (option_of RecoveryDtbo) folder (section_name RecoveryDtbo) bytes refl refl, tt)
  section_lines table Dtb = (part_line (option_of Dtb) folder (section_name Dtb) bytes refl refl, tt)
  section_lines table Signature = (part_line (option_of Signature) folder (section_name Signature) bytes refl refl, tt)
  section_lines true VendorRamdisk = tt
  section_lines false VendorRamdisk =
      (part_line (option_of VendorRamdisk) folder (section_name VendorRamdisk) bytes refl refl, tt)
  section_lines table Table = tt
  section_lines table Bootconfig =
      (part_line (option_of Bootconfig) folder (section_name Bootconfig) bytes refl refl, tt)

  all_sections : (table : Bool) (places : List SectionPlace) → AreLines (flat_map (section_words folder table) places)
  all_sections table [] = tt
  all_sections table (p ∷ places) =
      subst AreLines (sym (flat_map-cons (section_words folder table) p places))
      (lines_both (section_words folder table p) (flat_map (section_words folder table) places)
      (section_lines table p.kind) (all_sections table places))

  number_lines : (name : List ℕ) (o : Option ℕ) → ends_none name ≡ true → AreLines (words_if (number_word name) o)
  number_lines name None h = tt
  number_lines name (Some n) h = (number_line name n h, tt)

  address_lines : (h : Header) → AreLines (address_words h)
  address_lines h =
      let kernel = number_lines (address_option addresses.Kernel) (fields.address_of h addresses.Kernel) refl in
      let ramdisk = number_lines (address_option addresses.Ramdisk) (fields.address_of h addresses.Ramdisk) refl in
      let second = number_lines (address_option addresses.Second) (fields.address_of h addresses.Second) refl in
      let tags = number_lines (address_option addresses.Tags) (fields.address_of h addresses.Tags) refl in
      let dtb = number_lines (address_option addresses.Dtb) (fields.address_of h addresses.Dtb) refl in
      lines_both (address_word h addresses.Kernel) _ kernel (lines_both (address_word h addresses.Ramdisk) _ ramdisk
      (lines_both (address_word h addresses.Second) _ second
      (lines_both (address_word h addresses.Tags) (address_word h addresses.Dtb) tags dtb)))

  name_lines : (o : Option (List ℕ)) → ((x : List ℕ) → o ≡ Some x → AreBytes x)
      → AreLines (words_if (λ name. text_word (codes "name") name []) o)
  name_lines None h = tt
  name_lines (Some x) h = (text_line (codes "name") x [] (h x refl) none_are_bytes refl, tt)

  or_empty_bytes : (o : Option (List ℕ)) → ((x : List ℕ) → o ≡ Some x → AreBytes x) → AreBytes (or_empty o)
  or_empty_bytes None h = none_are_bytes
  or_empty_bytes (Some x) h = h x refl

  os_lines : (o : Option ℕ) → AreLines (words_if os_option o)
  os_lines None = tt
  os_lines (Some n) = (os_line n, tt)

  header_lines : (h : Header) → IsHeld h → AreLines (header_words folder h)
  header_lines h k =
      let cmdline = fields.field_of h texts.Cmdline in
      let extra = fields.field_of h texts.Extra in
      let text = text_line (codes "cmdline") (or_empty cmdline) (or_empty extra)
      (or_empty_bytes cmdline (k.texts texts.Cmdline)) (or_empty_bytes extra (k.texts texts.Extra)) refl in
      lines_both (kind_words h) _ (kind_lines h)
      (lines_both (flat_map (section_words folder (has_table h)) (places_of h)) _
      (all_sections (has_table h) (places_of h))
      (lines_both (address_words h) _ (address_lines h)
      (lines_both (name_words h) (cmdline_word h ∷ os_words h)
      (name_lines (fields.field_of h texts.Name) (k.texts texts.Name)) (text, os_lines (fields.os_number_of h)))))

  -- ---- and of the fragments

  fragment_line : (i kind : ℕ) (name : List ℕ) → AreBytes name → IsLine (fragment_option i kind name folder)
  fragment_line i kind name h =
      let file_text = flat_map info.escaped folder ++ (codes "/fragment." ++ decimal i) in
      let name_text = flat_map escaped_in_name name ++ (codes ":" ++ file_text) in
      let file : ends_none file_text ≡ true = ends_both (flat_map info.escaped folder)
      (codes "/fragment." ++ decimal i) (escaped_ends_none folder bytes) (decimal_ends_none i) in
      let rest : ends_none name_text ≡ true = ends_both (flat_map escaped_in_name name) (codes ":" ++ file_text)
      (name_ends_none name h) file in
      option_line (codes "fragment=" ++ (decimal kind ++ (codes ":" ++ name_text)))
      (ends_both (decimal kind) (codes ":" ++ name_text) (decimal_ends_none kind) rest)

  board_line : (i k n : ℕ) → IsLine (board_option i k n)
  board_line i k n =
      let place_text = decimal k ++ (codes "=" ++ decimal n) in
      let place : ends_none place_text ≡ true = ends_both (decimal k) (codes "=" ++ decimal n) (decimal_ends_none k)
      (decimal_ends_none n) in
      option_line (codes "board-id=" ++ (decimal i ++ (codes ":" ++ place_text)))
      (ends_both (decimal i) (codes ":" ++ place_text) (decimal_ends_none i) place)

  one_board : (left_out : Bool) (i k n : ℕ) → AreLines (cond left_out [] (board_option i k n ∷ []))
  one_board true i k n = tt
  one_board false i k n = (board_line i k n, tt)

  board_lines : (i k : ℕ) (ns : List ℕ) → AreLines (board_words i k ns)
  board_lines i k [] = tt
  board_lines i k (n ∷ ns) = lines_both (board_word i k n) (board_words i (suc k) ns) (one_board (n == 0) i k n)
      (board_lines i (suc k) ns)

  fragment_lines : (x : List ℕ) (h : Header) (k : ℕ) → AreBytes x → AreLines (fragment_words folder x h k)
  fragment_lines x h zero image = tt
  fragment_lines x h (suc k) image =
      let e = entry_of x h k in
      lines_both (fragment_words folder x h k) (entry_words folder k e) (fragment_lines x h k image) (
        fragment_line k e.ramdisk_type (name_bytes e.name)
            (name_of_bytes e.name (entry_name x h k image)),
        board_lines k 0 e.board_id,
      )

  image_lines : (x : List ℕ) (h : Header) → AreBytes x → IsHeld h → AreLines (image_words folder x h)
  image_lines x h image k = lines_both (header_words folder h) (fragment_words folder x h (fragment_count h))
      (header_lines h k) (fragment_lines x h (fragment_count h) image)

-- ---- the lines of their text

other_letter : (mark b : ℕ) → mark < 32 → 32 ≤ b → (b == mark) ≡ false
other_letter mark b low high = elim (cases_Bool (b == mark)) [
  | inl e ↦ let same = eqb-true b mark e in absurd (omega (arith, low, high, same))
  | inr e ↦ e
]

none_is_newline : (w : List ℕ) → ends_none w ≡ true → All (λ b. (b == 10) ≡ false) w
none_is_newline w h k d there =
    subst (λ (b : ℕ). (b == 10) ≡ false) (get_or_default w k 0 d there)
    (other_letter 10 (slice_index w k) (lit< tt) (high_at w h k there))

split_text : (ws : List (List ℕ)) → AreLines ws → slice_split (λ b. b == 10) (words_text ws) ≡ ws ++ ([] ∷ [])
split_text [] l = refl
split_text (w ∷ ws) l =
    let text : words_text (w ∷ ws) ≡ w ++ (10 ∷ words_text ws) = flat_map-cons info.line w ws ∙ append_assoc w
    (10 ∷ []) (words_text ws) in
    ap (slice_split (λ b. b == 10)) text
    ∙ slice_split_at (λ b. b == 10) w 10 (words_text ws) (none_is_newline w l.0.whole) refl
    ∙ ap (λ (ps : List (List ℕ)). w ∷ ps) (split_text ws l.1)

-- no carriage return ends one
strip_same : (w : List ℕ) → IsLine w → strip_carriage_return w ≡ w
strip_same w l =
    let some = l.some in
    let last : (slice_index w (length w - 1) == 13) ≡ false =
    other_letter 13 (slice_index w (length w - 1)) (lit< tt)
    (high_at w l.whole (length w - 1) (omega (arith, some))) in
    rw last refl

lines_parts : (ws : List (List ℕ)) → AreLines ws → lines_of_parts (ws ++ ([] ∷ [])) ≡ ws
lines_parts [] l = refl
lines_parts (w ∷ []) l = ap (λ (x : List ℕ). x ∷ []) (strip_same w l.0)
lines_parts (w ∷ v ∷ ws) l =
    ap (λ (x : List ℕ). x ∷ lines_of_parts (v ∷ (ws ++ ([] ∷ [])))) (strip_same w l.0)
    ∙ ap (λ (xs : List (List ℕ)). w ∷ xs) (lines_parts (v ∷ ws) l.1)

keep_all : (ws : List (List ℕ)) → AreLines ws → filter (λ line. not (length line == 0)) ws ≡ ws
keep_all [] l = refl
keep_all (w ∷ ws) l =
    let some = l.0.some in
    let e : (length w == 0) ≡ false = some_letter (length w) some in
    rw e (ap (λ (xs : List (List ℕ)). w ∷ xs) (keep_all ws l.1))
  where
    some_letter : (n : ℕ) → 0 < n → (n == 0) ≡ false
    some_letter n some = elim (cases_Bool (n == 0)) [
      | inl e ↦ let same = eqb-true n 0 e in absurd (omega (arith, some, same))
      | inr e ↦ e
    ]

pub words_again : (folder x : List ℕ) (h : Header) → AreBytes folder → AreBytes x → IsHeld h
    → words_of (words_text (image_words folder x h)) ≡ image_words folder x h
words_again folder x h bytes image k =
    let ws = image_words folder x h in
    let l = image_lines folder bytes x h image k in
    ap (filter (λ line. not (length line == 0))) (ap lines_of_parts (split_text ws l) ∙ lines_parts ws l)
    ∙ keep_all ws l
