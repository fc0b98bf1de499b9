-- The words of a header say its fields.
use Rattle.std.proofs.Common.{◌≡◌, ℕ, zero, suc, ◌+◌, ◌/◌, ◌%◌, ◌<◌, ◌≤◌, ◌^◌, nat_le, true, inl, inr, List, [], ◌∷◌}
use Rattle.std.proofs.Common.{◌++◌, Option, Some, None, codes, decimal, length, refl, sym, ap, subst, ◌∙◌, rules, arith}
use Rattle.std.proofs.Common.{append-nil, flat_map, length-append, lit<}
use Rattle.std.proofs.lemmas.Bool.{and_parts, cases_Bool, leb-true}
use Rattle.std.proofs.lemmas.Fmt.{decimal_digit, decimal_nonempty, decimal_step, digits_decimal, digits_value-decimal}
use Rattle.std.proofs.lemmas.Str.Parse.{IsNumeralModel, numerals_by_value}
use Rattle.std.specs.Str.{all_ascii_digits}
use Rattle.std.specs.Str.Parse.{digits_value}
use Rattle.abt_io.specs.Bytes.{AreBytes}
use Rattle.abt_io.specs.BytesLaws.{bytes_of_take}
use Rattle.abt_headers.specs.declared.boot.BootFront.{BootFront}
use Rattle.abt_headers.specs.declared.boot.DtboFields.{DtboFields}
use Rattle.abt_headers.specs.declared.boot.DtbFields.{DtbFields}
use Rattle.abt_headers.specs.declared.boot.ShortFront.{ShortFront}
use Rattle.abt_headers.specs.declared.boot.BootHeader.{BootHeader}
use Rattle.abt_headers.specs.declared.boot.BootHeader.TheVariants.{V0, V1, V2, V3, V4}
use Rattle.abt_headers.specs.declared.page.PageSize.{PageSize}
use Rattle.abt_headers.specs.declared.page.PageSize.TheVariants as pages
use Rattle.abt_headers.specs.declared.vendor.VendorFront.{VendorFront}
use Rattle.abt_headers.specs.Os.{IsOsVersion, os_parts, os_raw}
use Rattle.abt_headers.specs.Page.{page_bytes}
use Rattle.abt_headers.specs.Vendor.{Tail}
use Rattle.abt_sections.specs.Header.{Header, OfBoot, OfVendor}
use Rattle.cmd_common_fields.specs.declared.fields.Address.{Address}
use Rattle.cmd_common_fields.specs.declared.fields.Address.TheVariants as addresses
use Rattle.cmd_common_fields.specs.declared.fields.TextField.{TextField}
use Rattle.cmd_common_fields.specs.declared.fields.TextField.TheVariants as texts
use Rattle.cmd_common_texts.specs.Info as info
use Rattle.cmd_common_fields.specs.OsWord.{IsNumberWord, IsOsWord}
use Rattle.law_boot.specs.Said.{IsHeld, SaysBoot, SaysHeader, SaysNumber, SaysOs, SaysText, SaysVendor, boot_fields_of}
use Rattle.law_boot.specs.Said.{value_of, vendor_fields_of}
use Rattle.cmd_common_texts.specs.Words.{image_words, is_month, os_option, os_text, text_of, text_over}
use Rattle.law_boot.proofs.Escapes.{escaped_back}

own : IsNumeralModel (λ (ds : List ℕ). all_ascii_digits ds ≡ true) (digits_value 10)
own = numerals_by_value _ (search rules)

-- ---- numbers

pub number_word : (n : ℕ) → n < 2 ^ 64 → IsNumberWord (decimal n) n
number_word n small = record {
  digits = digits_decimal own n small;
  some = decimal_nonempty n small;
  value = digits_value-decimal own n small;
}

says_number : (words : List (List ℕ)) (name : List ℕ) (n : ℕ) → value_of name words ≡ Some (decimal n) → n < 2 ^ 64
    → SaysNumber words name n
says_number words name n e small = (decimal n, e, number_word n small)

page_small : (p : PageSize) → page_bytes p < 2 ^ 64
page_small pages.Of2048 = lit< tt
page_small pages.Of4096 = lit< tt
page_small pages.Of8192 = lit< tt
page_small pages.Of16384 = lit< tt
page_small pages.Of32768 = lit< tt
page_small pages.Of65536 = lit< tt
page_small pages.Of131072 = lit< tt

-- ---- texts

says_text : (words : List (List ℕ)) (name x y : List ℕ) → value_of name words ≡ Some (flat_map info.escaped x) → x ≡ y
    → AreBytes x → SaysText words name y
says_text words name x y e same h = (flat_map info.escaped x, e, escaped_back x h ∙ same)

cons_bytes : (b : ℕ) (y : List ℕ) → b < 256 → AreBytes y → AreBytes (b ∷ y)
cons_bytes b y h k zero = h
cons_bytes b y h k (suc i) = k i

both_bytes : (x y : List ℕ) → AreBytes x → AreBytes y → AreBytes (x ++ y)
both_bytes [] y h k = k
both_bytes (b ∷ x) y h k = cons_bytes b (x ++ y) (h 0) (both_bytes x y (λ n. h (suc n)) k)

pub none_are_bytes : AreBytes []
none_are_bytes i = lit< tt

pub over_bytes : (x y : List ℕ) → AreBytes x → AreBytes y → AreBytes (text_over x y)
over_bytes x y h k = bytes_of_take _ (x ++ y) (both_bytes x y h k)

-- of one field
alone : (x : List ℕ) → text_over x [] ≡ text_of x
alone x = ap text_of (append-nil x)

-- ---- the OS version and its patch level

-- one digit more
longer : (n : ℕ) → 10 ≤ n → n < 2 ^ 64 → length (decimal n) ≡ length (decimal (n / 10)) + 1
longer n h small = ap length (decimal_step n h small) ∙ length-append (decimal (n / 10)) ((48 + n % 10) ∷ [])

-- four digits of a year
four_digits : (n : ℕ) → 2000 ≤ n → n < 2128 → length (decimal n) ≡ 4
four_digits n low high =
    let b : length (decimal n) ≡ length (decimal (n / 10)) + 1 = longer n (omega (arith, low)) (omega (arith, high)) in
    let c : length (decimal (n / 10)) ≡ length (decimal (n / 10 / 10)) + 1 =
    longer (n / 10) (omega (arith, low)) (omega (arith, high)) in
    let d : length (decimal (n / 10 / 10)) ≡ length (decimal (n / 10 / 10 / 10)) + 1 =
    longer (n / 10 / 10) (omega (arith, low)) (omega (arith, high)) in
    let e : length (decimal (n / 10 / 10 / 10)) ≡ 1 =
    ap length (decimal_digit (n / 10 / 10 / 10) (omega (arith, high))) in
    omega (arith, b, c, d, e)

-- two digits of a month
two_are : (n : ℕ) → n ≤ 12 → info.two_digits n ≡ (48 + n / 10) ∷ (48 + n % 10) ∷ []
two_are n h =
    let tens : n / 10 < 10 = omega (arith, h) in
    let ones : n % 10 < 10 = omega arith in
    ap (λ (l : List ℕ). l ++ decimal (n % 10)) (decimal_digit (n / 10) tens)
    ∙ ap (λ (l : List ℕ). (48 + n / 10) ∷ l) (decimal_digit (n % 10) ones)

month_word : (n : ℕ) → n ≤ 12 → IsNumberWord (info.two_digits n) n
month_word n h =
    let e = two_are n h in
    subst (λ (l : List ℕ). IsNumberWord l n) (sym e) (record {
      digits = search (rules, arith, h);
      some = search (rules, arith);
      value = let q : digits_value 10 ((48 + n / 10) ∷ (48 + n % 10) ∷ []) ≡ n = search (rules, arith, h) in q;
    })

month_parts : (n : ℕ) → is_month n ≡ true → (1 ≤ n) × (n ≤ 12)
month_parts n e = let p = and_parts (nat_le 1 n) (nat_le n 12) e in (leb-true 1 n p.0, leb-true n 12 p.1)

-- the word of a number that has a month
os_is : (n : ℕ) → n < 2 ^ 32 → is_month (os_parts n).month ≡ true → IsOsWord (os_text (os_parts n)) (os_parts n)
os_is n small e =
    let p = os_parts n in
    let month = month_parts p.month e in
    let a : p.a < 2 ^ 64 = omega (arith, small) in
    let b : p.b < 2 ^ 64 = omega arith in
    let c : p.c < 2 ^ 64 = omega arith in
    let from : 2000 ≤ p.year = omega arith in
    let to : p.year < 2128 = omega arith in
    record {
      a = decimal p.a;
      b = decimal p.b;
      c = decimal p.c;
      year = decimal p.year;
      month = info.two_digits p.month;
      parts = refl;
      is_a = number_word p.a a;
      is_b = number_word p.b b;
      is_c = number_word p.c c;
      is_year = number_word p.year (omega (arith, to));
      is_month = month_word p.month month.1;
      four = four_digits p.year from to;
      two = ap length (two_are p.month month.1);
    }

os_version : (n : ℕ) → n < 2 ^ 32 → is_month (os_parts n).month ≡ true → IsOsVersion (os_parts n)
os_version n small e =
    let month = month_parts (os_parts n).month e in
    record {
      bits = record {
        a = omega (arith, small);
        b = omega arith;
        c = omega arith;
        from = omega arith;
        year = omega arith;
        month = omega arith;
      };
      first = month.0;
      last = month.1;
    }

os_again : (n : ℕ) → n < 2 ^ 32 → n ≡ os_raw (os_parts n)
os_again n small = omega (arith, small)

-- words of which those of an OS version are as of its word alone
says_os : (words : List (List ℕ)) (n : ℕ) → n < 2 ^ 32
    → value_of (codes "os-number") words ≡ value_of (codes "os-number") (os_option n ∷ [])
    → value_of (codes "os") words ≡ value_of (codes "os") (os_option n ∷ []) → SaysOs words n
says_os words n small number word = elim (cases_Bool (is_month (os_parts n).month)) [
  | inl e ↦
      let said : os_option n ≡ codes "--os=" ++ os_text (os_parts n) = rw e refl in
      inr (
        number ∙ ap (λ (w : List ℕ). value_of (codes "os-number") (w ∷ [])) said,
        record {
          value = os_text (os_parts n);
          said = word ∙ ap (λ (w : List ℕ). value_of (codes "os") (w ∷ [])) said;
          os = os_parts n;
          word = os_is n small e;
          version = os_version n small e;
          number = os_again n small;
        },
      )
  | inr e ↦
      let said : os_option n ≡ codes "--os-number=" ++ decimal n = rw e refl in
      inl (
        decimal n,
        number ∙ ap (λ (w : List ℕ). value_of (codes "os-number") (w ∷ [])) said,
        number_word n (omega (arith, small)),
      )
]

-- neither word is another option's
no_os : (name : List ℕ) (n : ℕ) → ((t : List ℕ) → value_of name ((codes "--os=" ++ t) ∷ []) ≡ None)
    → ((t : List ℕ) → value_of name ((codes "--os-number=" ++ t) ∷ []) ≡ None)
    → value_of name (os_option n ∷ []) ≡ None
no_os name n word number = elim (cases_Bool (is_month (os_parts n).month)) [
  | inl e ↦
      let said : os_option n ≡ codes "--os=" ++ os_text (os_parts n) = rw e refl in
      ap (λ (w : List ℕ). value_of name (w ∷ [])) said ∙ word (os_text (os_parts n))
  | inr e ↦
      let said : os_option n ≡ codes "--os-number=" ++ decimal n = rw e refl in
      ap (λ (w : List ℕ). value_of name (w ∷ [])) said ∙ number (decimal n)
]

-- ---- whole headers

module _ (folder x : List ℕ) where
  front_0 : (f : BootFront) → IsHeld (OfBoot (V0 f))
      → SaysBoot (image_words folder x (OfBoot (V0 f))) (boot_fields_of (V0 f))
  front_0 f k = record {
    version = says_number (image_words folder x (OfBoot (V0 f))) (codes "version") 0 refl (lit< tt);
    page = says_number (image_words folder x (OfBoot (V0 f))) (codes "page") (page_bytes f.page_size) refl
        (page_small f.page_size);
    kernel_addr = inl (says_number (image_words folder x (OfBoot (V0 f))) (codes "kernel-addr") f.kernel_addr refl
        (k.addresses addresses.Kernel f.kernel_addr refl));
    ramdisk_addr = inl (says_number (image_words folder x (OfBoot (V0 f))) (codes "ramdisk-addr") f.ramdisk_addr refl
        (k.addresses addresses.Ramdisk f.ramdisk_addr refl));
    second_addr = inl (says_number (image_words folder x (OfBoot (V0 f))) (codes "second-addr") f.second_addr refl
        (k.addresses addresses.Second f.second_addr refl));
    tags_addr = inl (says_number (image_words folder x (OfBoot (V0 f))) (codes "tags-addr") f.tags_addr refl
        (k.addresses addresses.Tags f.tags_addr refl));
    dtb_addr = inr (no_os (codes "dtb-addr") f.os_version.number (λ t. refl) (λ t. refl), refl);
    os = says_os (image_words folder x (OfBoot (V0 f))) f.os_version.number (k.os f.os_version.number refl) refl refl;
    name = inl (says_text (image_words folder x (OfBoot (V0 f))) (codes "name") (text_over f.name [])
        (text_of f.name) refl (alone f.name) (over_bytes f.name [] (k.texts texts.Name f.name refl) none_are_bytes));
    cmdline = says_text (image_words folder x (OfBoot (V0 f))) (codes "cmdline") (text_over f.cmdline f.extra_cmdline)
        (text_over f.cmdline f.extra_cmdline) refl refl
        (over_bytes f.cmdline f.extra_cmdline (k.texts texts.Cmdline f.cmdline refl)
        (k.texts texts.Extra f.extra_cmdline refl));
  }

  front_1 : (f : BootFront) (d : DtboFields) → IsHeld (OfBoot (V1 f d))
      → SaysBoot (image_words folder x (OfBoot (V1 f d))) (boot_fields_of (V1 f d))
  front_1 f d k = record {
    version = says_number (image_words folder x (OfBoot (V1 f d))) (codes "version") 1 refl (lit< tt);
    page = says_number (image_words folder x (OfBoot (V1 f d))) (codes "page") (page_bytes f.page_size) refl
        (page_small f.page_size);
    kernel_addr = inl (says_number (image_words folder x (OfBoot (V1 f d))) (codes "kernel-addr") f.kernel_addr refl
        (k.addresses addresses.Kernel f.kernel_addr refl));
    ramdisk_addr = inl (says_number (image_words folder x (OfBoot (V1 f d)))
        (codes "ramdisk-addr") f.ramdisk_addr refl (k.addresses addresses.Ramdisk f.ramdisk_addr refl));
    second_addr = inl (says_number (image_words folder x (OfBoot (V1 f d))) (codes "second-addr") f.second_addr refl
        (k.addresses addresses.Second f.second_addr refl));
    tags_addr = inl (says_number (image_words folder x (OfBoot (V1 f d))) (codes "tags-addr") f.tags_addr refl
        (k.addresses addresses.Tags f.tags_addr refl));
    dtb_addr = inr (no_os (codes "dtb-addr") f.os_version.number (λ t. refl) (λ t. refl), refl);
    os = says_os (image_words folder x (OfBoot (V1 f d))) f.os_version.number (k.os f.os_version.number refl) refl refl;
    name = inl (says_text (image_words folder x (OfBoot (V1 f d))) (codes "name") (text_over f.name [])
        (text_of f.name) refl (alone f.name) (over_bytes f.name [] (k.texts texts.Name f.name refl) none_are_bytes));
    cmdline = says_text (image_words folder x (OfBoot (V1 f d))) (codes "cmdline")
        (text_over f.cmdline f.extra_cmdline) (text_over f.cmdline f.extra_cmdline) refl refl
        (over_bytes f.cmdline f.extra_cmdline (k.texts texts.Cmdline f.cmdline refl)
        (k.texts texts.Extra f.extra_cmdline refl));
  }

  front_2 : (f : BootFront) (d : DtboFields) (t : DtbFields) → IsHeld (OfBoot (V2 f d t))
      → SaysBoot (image_words folder x (OfBoot (V2 f d t))) (boot_fields_of (V2 f d t))
  front_2 f d t k = record {
    version = says_number (image_words folder x (OfBoot (V2 f d t))) (codes "version") 2 refl (lit< tt);
    page = says_number (image_words folder x (OfBoot (V2 f d t))) (codes "page") (page_bytes f.page_size) refl
        (page_small f.page_size);
    kernel_addr = inl (says_number (image_words folder x (OfBoot (V2 f d t))) (codes "kernel-addr") f.kernel_addr refl
        (k.addresses addresses.Kernel f.kernel_addr refl));
    ramdisk_addr = inl (says_number (image_words folder x (OfBoot (V2 f d t)))
        (codes "ramdisk-addr") f.ramdisk_addr refl (k.addresses addresses.Ramdisk f.ramdisk_addr refl));
    second_addr = inl (says_number (image_words folder x (OfBoot (V2 f d t))) (codes "second-addr") f.second_addr refl
        (k.addresses addresses.Second f.second_addr refl));
    tags_addr = inl (says_number (image_words folder x (OfBoot (V2 f d t))) (codes "tags-addr") f.tags_addr refl
        (k.addresses addresses.Tags f.tags_addr refl));
    dtb_addr = inl (says_number (image_words folder x (OfBoot (V2 f d t))) (codes "dtb-addr") t.dtb_addr refl
        (k.addresses addresses.Dtb t.dtb_addr refl));
    os = says_os (image_words folder x (OfBoot (V2 f d t))) f.os_version.number
        (k.os f.os_version.number refl) refl refl;
    name = inl (says_text (image_words folder x (OfBoot (V2 f d t))) (codes "name") (text_over f.name [])
        (text_of f.name) refl (alone f.name) (over_bytes f.name [] (k.texts texts.Name f.name refl) none_are_bytes));
    cmdline = says_text (image_words folder x (OfBoot (V2 f d t))) (codes "cmdline")
        (text_over f.cmdline f.extra_cmdline) (text_over f.cmdline f.extra_cmdline) refl refl
        (over_bytes f.cmdline f.extra_cmdline (k.texts texts.Cmdline f.cmdline refl)
        (k.texts texts.Extra f.extra_cmdline refl));
  }

  short_3 : (f : ShortFront) → IsHeld (OfBoot (V3 f))
      → SaysBoot (image_words folder x (OfBoot (V3 f))) (boot_fields_of (V3 f))
  short_3 f k = record {
    version = says_number (image_words folder x (OfBoot (V3 f))) (codes "version") 3 refl (lit< tt);
    page = says_number (image_words folder x (OfBoot (V3 f))) (codes "page") 4096 refl (lit< tt);
    kernel_addr = inr (no_os (codes "kernel-addr") f.os_version.number (λ t. refl) (λ t. refl), refl);
    ramdisk_addr = inr (no_os (codes "ramdisk-addr") f.os_version.number (λ t. refl) (λ t. refl), refl);
    second_addr = inr (no_os (codes "second-addr") f.os_version.number (λ t. refl) (λ t. refl), refl);
    tags_addr = inr (no_os (codes "tags-addr") f.os_version.number (λ t. refl) (λ t. refl), refl);
    dtb_addr = inr (no_os (codes "dtb-addr") f.os_version.number (λ t. refl) (λ t. refl), refl);
    os = says_os (image_words folder x (OfBoot (V3 f))) f.os_version.number (k.os f.os_version.number refl) refl refl;
    name = inr (no_os (codes "name") f.os_version.number (λ t. refl) (λ t. refl), refl);
    cmdline = says_text (image_words folder x (OfBoot (V3 f))) (codes "cmdline") (text_over f.cmdline [])
        (text_of f.cmdline) refl (alone f.cmdline)
        (over_bytes f.cmdline [] (k.texts texts.Cmdline f.cmdline refl) none_are_bytes);
  }

  short_4 : (f : ShortFront) (signature : ℕ) → IsHeld (OfBoot (V4 f signature))
      → SaysBoot (image_words folder x (OfBoot (V4 f signature))) (boot_fields_of (V4 f signature))
  short_4 f signature k = record {
    version = says_number (image_words folder x (OfBoot (V4 f signature))) (codes "version") 4 refl (lit< tt);
    page = says_number (image_words folder x (OfBoot (V4 f signature))) (codes "page") 4096 refl (lit< tt);
    kernel_addr = inr (no_os (codes "kernel-addr") f.os_version.number (λ t. refl) (λ t. refl), refl);
    ramdisk_addr = inr (no_os (codes "ramdisk-addr") f.os_version.number (λ t. refl) (λ t. refl), refl);
    second_addr = inr (no_os (codes "second-addr") f.os_version.number (λ t. refl) (λ t. refl), refl);
    tags_addr = inr (no_os (codes "tags-addr") f.os_version.number (λ t. refl) (λ t. refl), refl);
    dtb_addr = inr (no_os (codes "dtb-addr") f.os_version.number (λ t. refl) (λ t. refl), refl);
    os = says_os (image_words folder x (OfBoot (V4 f signature))) f.os_version.number
        (k.os f.os_version.number refl) refl refl;
    name = inr (no_os (codes "name") f.os_version.number (λ t. refl) (λ t. refl), refl);
    cmdline = says_text (image_words folder x (OfBoot (V4 f signature))) (codes "cmdline") (text_over f.cmdline [])
        (text_of f.cmdline) refl (alone f.cmdline)
        (over_bytes f.cmdline [] (k.texts texts.Cmdline f.cmdline refl) none_are_bytes);
  }

  boot_says : (h : BootHeader) → IsHeld (OfBoot h) → SaysBoot (image_words folder x (OfBoot h)) (boot_fields_of h)
  boot_says (V0 f) k = front_0 f k
  boot_says (V1 f d) k = front_1 f d k
  boot_says (V2 f d t) k = front_2 f d t k
  boot_says (V3 f) k = short_3 f k
  boot_says (V4 f signature) k = short_4 f signature k

  vendor_3 : (f : VendorFront) → IsHeld (OfVendor (record { front = f; tail = None }))
      → SaysVendor (image_words folder x (OfVendor (record { front = f; tail = None })))
      (vendor_fields_of (record { front = f; tail = None }))
  vendor_3 f k = record {
    version = says_number (image_words folder x (OfVendor (record { front = f; tail = None })))
        (codes "version") 3 refl (lit< tt);
    page = says_number (image_words folder x (OfVendor (record { front = f; tail = None }))) (codes "page")
        (page_bytes f.page_size) refl (page_small f.page_size);
    kernel_addr = says_number (image_words folder x (OfVendor (record { front = f; tail = None })))
        (codes "kernel-addr") f.kernel_addr refl (k.addresses addresses.Kernel f.kernel_addr refl);
    ramdisk_addr = says_number (image_words folder x (OfVendor (record { front = f; tail = None })))
        (codes "ramdisk-addr") f.ramdisk_addr refl (k.addresses addresses.Ramdisk f.ramdisk_addr refl);
    tags_addr = says_number (image_words folder x (OfVendor (record { front = f; tail = None })))
        (codes "tags-addr") f.tags_addr refl (k.addresses addresses.Tags f.tags_addr refl);
    dtb_addr = says_number (image_words folder x (OfVendor (record { front = f; tail = None })))
        (codes "dtb-addr") f.dtb_addr refl (k.addresses addresses.Dtb f.dtb_addr refl);
    name = says_text (image_words folder x (OfVendor (record { front = f; tail = None }))) (codes "name")
        (text_over f.name []) (text_of f.name) refl (alone f.name)
        (over_bytes f.name [] (k.texts texts.Name f.name refl) none_are_bytes);
    cmdline = says_text (image_words folder x (OfVendor (record { front = f; tail = None }))) (codes "cmdline")
        (text_over f.cmdline []) (text_of f.cmdline) refl (alone f.cmdline)
        (over_bytes f.cmdline [] (k.texts texts.Cmdline f.cmdline refl) none_are_bytes);
  }

  vendor_4 : (f : VendorFront) (t : Tail) → IsHeld (OfVendor (record { front = f; tail = Some t }))
      → SaysVendor (image_words folder x (OfVendor (record { front = f; tail = Some t })))
      (vendor_fields_of (record { front = f; tail = Some t }))
  vendor_4 f t k = record {
    version = says_number (image_words folder x (OfVendor (record { front = f; tail = Some t })))
        (codes "version") 4 refl (lit< tt);
    page = says_number (image_words folder x (OfVendor (record { front = f; tail = Some t }))) (codes "page")
        (page_bytes f.page_size) refl (page_small f.page_size);
    kernel_addr = says_number (image_words folder x (OfVendor (record { front = f; tail = Some t })))
        (codes "kernel-addr") f.kernel_addr refl (k.addresses addresses.Kernel f.kernel_addr refl);
    ramdisk_addr = says_number (image_words folder x (OfVendor (record { front = f; tail = Some t })))
        (codes "ramdisk-addr") f.ramdisk_addr refl (k.addresses addresses.Ramdisk f.ramdisk_addr refl);
    tags_addr = says_number (image_words folder x (OfVendor (record { front = f; tail = Some t })))
        (codes "tags-addr") f.tags_addr refl (k.addresses addresses.Tags f.tags_addr refl);
    dtb_addr = says_number (image_words folder x (OfVendor (record { front = f; tail = Some t })))
        (codes "dtb-addr") f.dtb_addr refl (k.addresses addresses.Dtb f.dtb_addr refl);
    name = says_text (image_words folder x (OfVendor (record { front = f; tail = Some t }))) (codes "name")
        (text_over f.name []) (text_of f.name) refl (alone f.name)
        (over_bytes f.name [] (k.texts texts.Name f.name refl) none_are_bytes);
    cmdline = says_text (image_words folder x (OfVendor (record { front = f; tail = Some t }))) (codes "cmdline")
        (text_over f.cmdline []) (text_of f.cmdline) refl (alone f.cmdline)
        (over_bytes f.cmdline [] (k.texts texts.Cmdline f.cmdline refl) none_are_bytes);
  }

  vendor_says : (f : VendorFront) (o : Option Tail) → IsHeld (OfVendor (record { front = f; tail = o }))
      → SaysVendor (image_words folder x (OfVendor (record { front = f; tail = o })))
      (vendor_fields_of (record { front = f; tail = o }))
  vendor_says f None k = vendor_3 f k
  vendor_says f (Some t) k = vendor_4 f t k

  pub header_says : (h : Header) → IsHeld h → SaysHeader (image_words folder x h) h
  header_says (OfBoot h) k = boot_says h k
  header_says (OfVendor v) k = vendor_says v.front v.tail k

-- ---- what a header holds

pub each_address : (P : Address → Type 0) → P addresses.Kernel → P addresses.Ramdisk → P addresses.Second
    → P addresses.Tags → P addresses.Dtb → (a : Address) → P a
each_address P kernel ramdisk second tags dtb addresses.Kernel = kernel
each_address P kernel ramdisk second tags dtb addresses.Ramdisk = ramdisk
each_address P kernel ramdisk second tags dtb addresses.Second = second
each_address P kernel ramdisk second tags dtb addresses.Tags = tags
each_address P kernel ramdisk second tags dtb addresses.Dtb = dtb

pub each_text : (P : TextField → Type 0) → P texts.Name → P texts.Cmdline → P texts.Extra → (t : TextField) → P t
each_text P name cmdline extra texts.Name = name
each_text P name cmdline extra texts.Cmdline = cmdline
each_text P name cmdline extra texts.Extra = extra
