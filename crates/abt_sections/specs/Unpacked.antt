-- What an image holds that is packed from some fields and parts.
use Rattle.std.specs.Prelude.{◌≡◌, ℕ, ◌<◌, List, [], length, take, slice_index_or}
use Rattle.std.specs.List.{concat}
use Rattle.abt_sections.specs.declared.spec.FragmentSpec.{FragmentSpec}
use Rattle.abt_sections.specs.Fields.{BootFields, VendorFields}
use Rattle.abt_sections.specs.Layout.{parts_of}
use Rattle.abt_sections.specs.Header.{Header, OfBoot, OfVendor, IsImage, places_of, fragment_count, entry_of}
use Rattle.abt_sections.specs.Header.{fragment_of}
use Rattle.abt_sections.specs.Open.{HasImage}
use Rattle.abt_sections.specs.BootCanon.{boot_header_of}
use Rattle.abt_sections.specs.VendorCanon.{VendorParts, entry_for, vendor_header_of, vendor_sections_for}

-- x is opened as this header, and is an image of it and these parts: what is stored in its sections is the parts
pub record HoldsParts (x : List ℕ) (h : Header) (parts : List (List ℕ)) : Type 0 where
  pub has : HasImage x h
  pub image : IsImage x h parts
  pub each : parts_of x (places_of h) ≡ parts

-- of a boot image
abbrev pub HoldsBoot : List ℕ → BootFields → List (List ℕ) → Type 0
HoldsBoot x s parts = HoldsParts x (OfBoot (boot_header_of s parts)) parts

-- of a vendor boot image, in whose vendor ramdisk the ramdisks lie end to end
abbrev pub HoldsVendor : List ℕ → VendorFields → VendorParts → Type 0
HoldsVendor x s p = HoldsParts x (OfVendor (vendor_header_of s p)) (vendor_sections_for s.version p)

-- fragment i of x is ramdisk i, and entry i of its table says of it what was given, its size, and how many bytes the
-- ramdisks before it have
pub record HoldsFragment (x : List ℕ) (h : Header) (fragments : List FragmentSpec) (ramdisks : List (List ℕ))
    (i : ℕ) : Type 0 where
  pub there : i < fragment_count h
  pub entry : (f : FragmentSpec) → f ≡ slice_index_or fragments i f
      → entry_of x h i ≡ entry_for f (length (slice_index_or ramdisks i [])) (length (concat (take i ramdisks)))
  pub bytes : fragment_of x h i ≡ slice_index_or ramdisks i []
