-- The way back: an image is unpacked, with the words that say it, and packed again from both.
--
-- Its parts are what `unpack` and `unpack_fragment` write. Its words are what `write_words` writes. If packing takes
-- fields and parts, it writes the canonical image of them.
use Rattle.std.specs.Prelude.{◌≡◌, ℕ, zero, suc, Bool, true, false, List, [], ◌∷◌, ◌++◌, Option, Some, None, codes}
use Rattle.std.specs.Prelude.{slice_index_or}
use Rattle.abt_headers.specs.declared.boot.BootHeader.{BootHeader}
use Rattle.abt_headers.specs.declared.entry.RamdiskEntry.{RamdiskEntry}
use Rattle.abt_headers.specs.Vendor.{Tail, Vendor}
use Rattle.abt_sections.specs.BootCanon.{boot_canon}
use Rattle.abt_sections.specs.Canonical.{IsBootInput, IsVendorInput, StartsWith}
use Rattle.abt_sections.specs.Fields.{BootFields, VendorFields}
use Rattle.abt_sections.specs.Header.{Header, OfBoot, OfVendor, places_of, fragment_count, entry_of, fragment_of}
use Rattle.abt_sections.specs.Layout.{parts_of}
use Rattle.abt_sections.specs.VendorCanon.{VendorParts, vendor_canon, vendor_parts}
use Rattle.abt_sections.specs.declared.spec.FragmentSpec.{FragmentSpec}
use Rattle.law_boot.specs.Said.{SaysFiles, SaysFragments, SaysHeader, boot_fields_of, is_said, vendor_fields_of}
use Rattle.cmd_common_texts.specs.Words.{has_table}

-- ---- the parts that unpacking writes

-- what an entry of the table says of its fragment, except for the fragment's offset and length
abbrev pub spec_of : RamdiskEntry → FragmentSpec
spec_of e = record { kind = e.ramdisk_type; name = e.name; board_id = e.board_id }

-- what the table says of the first k fragments of the image x
abbrev pub specs_of : List ℕ → Header → ℕ → List FragmentSpec
specs_of x h zero = []
specs_of x h (suc k) = specs_of x h k ++ (spec_of (entry_of x h k) ∷ [])

-- and their bytes
abbrev pub ramdisks_of : List ℕ → Header → ℕ → List (List ℕ)
ramdisks_of x h zero = []
ramdisks_of x h (suc k) = ramdisks_of x h k ++ (fragment_of x h k ∷ [])

abbrev pub boot_parts_of : List ℕ → BootHeader → List (List ℕ)
boot_parts_of x h = parts_of x (places_of (OfBoot h))

-- the bytes of section i
abbrev pub vendor_part : List ℕ → Vendor → ℕ → List ℕ
vendor_part x v i = slice_index_or (parts_of x (places_of (OfVendor v))) i []

-- without a table the ramdisk is one part, and with one each fragment is
abbrev pub vendor_parts_with : List ℕ → Vendor → Option Tail → VendorParts
vendor_parts_with x v None = vendor_parts [] (vendor_part x v 0 ∷ []) (vendor_part x v 1) []
vendor_parts_with x v (Some t) =
    vendor_parts (specs_of x (OfVendor v) t.entry_num) (ramdisks_of x (OfVendor v) t.entry_num)
    (vendor_part x v 1) (vendor_part x v 3)

abbrev pub vendor_parts_of : List ℕ → Vendor → VendorParts
vendor_parts_of x v = vendor_parts_with x v v.tail

-- ---- the image again

-- packing takes these fields and parts, and x begins with the image that it packs of them
pub record PacksBoot (x : List ℕ) (s : BootFields) (parts : List (List ℕ)) : Type 0 where
  pub taken : IsBootInput s parts
  pub again : StartsWith x (boot_canon s parts)

pub record PacksVendor (x : List ℕ) (s : VendorFields) (p : VendorParts) : Type 0 where
  pub taken : IsVendorInput s p
  pub again : StartsWith x (vendor_canon s p)

-- the fields of its header and the parts in its sections pack an image again
abbrev pub PacksFromParts : List ℕ → Header → Type 0
PacksFromParts x (OfBoot h) = PacksBoot x (boot_fields_of h) (boot_parts_of x h)
PacksFromParts x (OfVendor v) = PacksVendor x (vendor_fields_of v) (vendor_parts_of x v)

-- ---- what the words say

-- the words of a vendor boot image
abbrev pub has_vendor_header : Header → Bool
has_vendor_header (OfBoot h) = false
has_vendor_header (OfVendor v) = true

-- the words say what packs the image x again: that bytes are escaped, its kind and its fields, for each part the file
-- that unpacking writes to a folder, and what the table says of each fragment
pub record SaysImage (words : List (List ℕ)) (folder x : List ℕ) (h : Header) : Type 0 where
  pub escaped : is_said (codes "escaped") words ≡ true
  pub vendor : is_said (codes "vendor") words ≡ has_vendor_header h
  pub fields : SaysHeader words h
  pub files : SaysFiles words folder (has_table h) (places_of h)
  pub fragments : SaysFragments words folder (specs_of x h (fragment_count h))
