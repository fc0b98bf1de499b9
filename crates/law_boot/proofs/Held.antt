-- The fields of the header of an image hold what fields can.
use Rattle.std.proofs.Common.{◌≡◌, ℕ, zero, suc, ◌<◌, ◌^◌, List, [], ◌∷◌, ◌++◌, Option, Some, None, length}
use Rattle.std.proofs.Common.{slice_index_or, take, refl, sym, ap, subst, rules, arith, lit<}
use Rattle.std.specs.Option.{unwrap_or}
use Rattle.abt_io.specs.Bytes.{AreBytes}
use Rattle.abt_io.specs.BytesLaws.{bytes_of_take}
use Rattle.abt_headers.specs.Boot as boot
use Rattle.abt_headers.specs.Field.{joined_fields}
use Rattle.abt_headers.specs.Fits.{BootFits, FrontFits, ShortFits}
use Rattle.abt_headers.specs.Vendor as vendor
use Rattle.abt_headers.specs.Vendor.{Tail, Vendor, vendor_record}
use Rattle.abt_headers.specs.Boot.{boot_record}
use Rattle.abt_headers.specs.VendorFits.{VendorFits, VendorFrontFits}
use Rattle.abt_headers.specs.declared.boot.BootFront.{BootFront}
use Rattle.abt_headers.specs.declared.boot.BootHeader.{BootHeader}
use Rattle.abt_headers.specs.declared.boot.BootHeader.TheVariants.{V0, V1, V2, V3, V4}
use Rattle.abt_headers.specs.declared.boot.ShortFront.{ShortFront}
use Rattle.abt_headers.specs.declared.vendor.VendorFront.{VendorFront}
use Rattle.abt_sections.specs.Header.{Header, HeaderFits, OfBoot, OfVendor, record_of, size_of}
use Rattle.abt_sections.specs.Open.{IsWholeImage}
use Rattle.cmd_common_fields.specs.Fields as fields
use Rattle.cmd_common_fields.specs.declared.fields.Address.{Address}
use Rattle.cmd_common_fields.specs.declared.fields.TextField.{TextField}
use Rattle.law_boot.specs.Said.{IsHeld}
use Rattle.law_boot.proofs.WordsSay.{each_address, each_text}

-- ---- what stands in a record is bytes

no_bytes : AreBytes []
no_bytes i = lit< tt

one_more : (b : ℕ) (y : List ℕ) → b < 256 → AreBytes y → AreBytes (b ∷ y)
one_more b y h k zero = h
one_more b y h k (suc i) = k i

front_bytes : (a b : List ℕ) → AreBytes (a ++ b) → AreBytes a
front_bytes [] b h = no_bytes
front_bytes (c ∷ a) b h = one_more c a (h 0) (front_bytes a b (λ i. h (suc i)))

back_bytes : (a b : List ℕ) → AreBytes (a ++ b) → AreBytes b
back_bytes [] b h = h
back_bytes (c ∷ a) b h = back_bytes a b (λ i. h (suc i))

field_bytes : (fs : List (List ℕ)) → AreBytes (joined_fields fs) → (k : ℕ) (d : List ℕ) → k < length fs
    → AreBytes (slice_index_or fs k d)
field_bytes [] h k d l = absurd (let q : k < 0 = l in omega arith)
field_bytes (f ∷ fs) h zero d l = front_bytes f (joined_fields fs) h
field_bytes (f ∷ fs) h (suc k) d l = field_bytes fs (back_bytes f (joined_fields fs) h) k d (omega (arith, l))

-- ---- one field

some_32 : (m : ℕ) → m < 2 ^ 32 → (n : ℕ) → Some m ≡ Some n → n < 2 ^ 64
some_32 m l n e = let same : m ≡ n = ap (λ o. unwrap_or o m) e in omega (arith, l, same)

some_64 : (m : ℕ) → m < 2 ^ 64 → (n : ℕ) → Some m ≡ Some n → n < 2 ^ 64
some_64 m l n e = let same : m ≡ n = ap (λ o. unwrap_or o m) e in omega (arith, l, same)

no_number : (most n : ℕ) → None ≡ Some n → n < most
no_number most n e = absurd (search (rules, e))

some_os : (m : ℕ) → m < 2 ^ 32 → (n : ℕ) → Some m ≡ Some n → n < 2 ^ 32
some_os m l n e = let same : m ≡ n = ap (λ o. unwrap_or o m) e in omega (arith, l, same)

some_text : (x : List ℕ) → AreBytes x → (y : List ℕ) → Some x ≡ Some y → AreBytes y
some_text x h y e = subst AreBytes (let same : x ≡ y = ap (λ o. unwrap_or o x) e in same) h

no_text : (y : List ℕ) → None ≡ Some y → AreBytes y
no_text y e = absurd (search (rules, e))

-- ---- boot headers

abbrev AddressesHeld : Header → Type 0
AddressesHeld h = (a : Address) (n : ℕ) → fields.address_of h a ≡ Some n → n < 2 ^ 64

abbrev TextsHeld : Header → Type 0
TextsHeld h = (t : TextField) (field : List ℕ) → fields.field_of h t ≡ Some field → AreBytes field

front_addresses : (f : BootFront) → FrontFits f → AddressesHeld (OfBoot (V0 f))
front_addresses f s = each_address (λ a. (n : ℕ) → fields.address_of (OfBoot (V0 f)) a ≡ Some n → n < 2 ^ 64)
    (some_32 f.kernel_addr s.kernel_addr) (some_32 f.ramdisk_addr s.ramdisk_addr) (some_32 f.second_addr s.second_addr)
    (some_32 f.tags_addr s.tags_addr) (no_number (2 ^ 64))

-- the texts of a record that begins with these fields
front_texts : (f : BootFront) (version : ℕ) (more : List (List ℕ))
    → AreBytes (joined_fields (boot.front_fields version f ++ more)) → TextsHeld (OfBoot (V0 f))
front_texts f version more h =
    let fs = boot.front_fields version f ++ more in
    each_text (λ t. (field : List ℕ) → fields.field_of (OfBoot (V0 f)) t ≡ Some field → AreBytes field)
    (some_text f.name (field_bytes fs h 11 f.name (omega arith)))
    (some_text f.cmdline (field_bytes fs h 12 f.cmdline (omega arith)))
    (some_text f.extra_cmdline (field_bytes fs h 14 f.extra_cmdline (omega arith)))

short_addresses : (f : ShortFront) → AddressesHeld (OfBoot (V3 f))
short_addresses f = each_address (λ a. (n : ℕ) → fields.address_of (OfBoot (V3 f)) a ≡ Some n → n < 2 ^ 64)
    (no_number (2 ^ 64)) (no_number (2 ^ 64)) (no_number (2 ^ 64)) (no_number (2 ^ 64)) (no_number (2 ^ 64))

short_texts : (f : ShortFront) (fs : List (List ℕ)) → AreBytes (joined_fields fs) → 7 < length fs
    → slice_index_or fs 7 f.cmdline ≡ f.cmdline → TextsHeld (OfBoot (V3 f))
short_texts f fs h long there =
    each_text (λ t. (field : List ℕ) → fields.field_of (OfBoot (V3 f)) t ≡ Some field → AreBytes field) no_text
    (some_text f.cmdline (subst AreBytes there (field_bytes fs h 7 f.cmdline long))) no_text

boot_held : (h : BootHeader) → BootFits h → AreBytes (boot_record h) → IsHeld (OfBoot h)
unfolding boot_record
boot_held (V0 f) s h = record {
  addresses = front_addresses f s;
  os = some_os f.os_version.number s.os_version;
  texts = front_texts f 0 [] h;
}
boot_held (V1 f d) s h = record {
  addresses = front_addresses f s.0;
  os = some_os f.os_version.number s.0.os_version;
  texts = front_texts f 1 (boot.dtbo_fields d) h;
}
boot_held (V2 f d t) s h = record {
  addresses = each_address (λ a. (n : ℕ) → fields.address_of (OfBoot (V2 f d t)) a ≡ Some n → n < 2 ^ 64)
      (some_32 f.kernel_addr s.0.kernel_addr) (some_32 f.ramdisk_addr s.0.ramdisk_addr)
      (some_32 f.second_addr s.0.second_addr) (some_32 f.tags_addr s.0.tags_addr) (some_64 t.dtb_addr s.2.dtb_addr);
  os = some_os f.os_version.number s.0.os_version;
  texts = front_texts f 2 (boot.dtbo_fields d ++ boot.dtb_fields t) h;
}
boot_held (V3 f) s h = record {
  addresses = short_addresses f;
  os = some_os f.os_version.number s.os_version;
  texts = short_texts f (boot.boot_field_list (V3 f)) h (omega arith) refl;
}
boot_held (V4 f signature) s h = record {
  addresses = short_addresses f;
  os = some_os f.os_version.number s.0.os_version;
  texts = short_texts f (boot.boot_field_list (V4 f signature)) h (omega arith) refl;
}

-- ---- vendor boot headers

vendor_addresses : (f : VendorFront) (o : Option Tail) → VendorFrontFits f
    → AddressesHeld (OfVendor (record { front = f; tail = o }))
vendor_addresses f o s = each_address (λ a. (n : ℕ) → fields.vendor_address f a ≡ Some n → n < 2 ^ 64)
    (some_32 f.kernel_addr s.kernel_addr) (some_32 f.ramdisk_addr s.ramdisk_addr) (no_number (2 ^ 64))
    (some_32 f.tags_addr s.tags_addr) (some_64 f.dtb_addr s.dtb_addr)

vendor_texts : (f : VendorFront) (version : ℕ) (more : List (List ℕ))
    → AreBytes (joined_fields (vendor.vendor_field_list version f ++ more)) → (t : TextField) (field : List ℕ)
    → fields.vendor_field f t ≡ Some field → AreBytes field
vendor_texts f version more h =
    let fs = vendor.vendor_field_list version f ++ more in
    each_text (λ t. (field : List ℕ) → fields.vendor_field f t ≡ Some field → AreBytes field)
    (some_text f.name (field_bytes fs h 8 f.name (omega arith)))
    (some_text f.cmdline (field_bytes fs h 6 f.cmdline (omega arith))) no_text

vendor_held : (f : VendorFront) (o : Option Tail) → VendorFrontFits f
    → AreBytes (vendor_record (record { front = f; tail = o })) → IsHeld (OfVendor (record { front = f; tail = o }))
unfolding vendor_record
vendor_held f None s h = record
    { addresses = vendor_addresses f None s; os = no_number (2 ^ 32); texts = vendor_texts f 3 [] h }
vendor_held f (Some t) s h = record {
  addresses = vendor_addresses f (Some t) s;
  os = no_number (2 ^ 32);
  texts = vendor_texts f 4
      (vendor.tail_fields t) h;
}

header_held : (h : Header) → HeaderFits h → AreBytes (record_of h) → IsHeld h
header_held (OfBoot h) s r = boot_held h s r
header_held (OfVendor v) s r = vendor_held v.front v.tail s.0 r

pub image_held : (x : List ℕ) (h : Header) → AreBytes x → IsWholeImage x h → IsHeld h
image_held x h bytes whole = header_held h whole.image.fits
    (subst AreBytes whole.image.begins (bytes_of_take (size_of h) x bytes))
