-- The sections of an image: their names and their places.
use Rattle.std.specs.Prelude.{◌≡◌, ℕ, ◌+◌, ◌*◌, ◌≤◌, ◌<◌, ◌^◌, List, [], ◌∷◌, length, get_or, codes}
use Rattle.abt_headers.specs.declared.sections.Section.{Section}
use Rattle.abt_headers.specs.declared.sections.Section.TheVariants.{Kernel, Ramdisk, Second, RecoveryDtbo, Dtb}
use Rattle.abt_headers.specs.declared.sections.Section.TheVariants.{Signature, VendorRamdisk, Table, Bootconfig}
use Rattle.abt_headers.specs.declared.sections.SectionPlace.{SectionPlace}
use Rattle.abt_headers.specs.Page.{pages}

abbrev pub section_name : Section → List ℕ
section_name Kernel = codes "kernel"
section_name Ramdisk = codes "ramdisk"
section_name Second = codes "second"
section_name RecoveryDtbo = codes "recovery_dtbo"
section_name Dtb = codes "dtb"
section_name Signature = codes "signature"
section_name VendorRamdisk = codes "vendor_ramdisk"
section_name Table = codes "table"
section_name Bootconfig = codes "bootconfig"

-- a section after k pages of p bytes
abbrev pub section_place : ℕ → ℕ → Section × ℕ → SectionPlace
section_place p k s = record { kind = s.0; at = p * k; size = s.1 }

-- sections of these sizes, the first after k pages of p bytes, each at the first page boundary after the one before
abbrev pub places_from : ℕ → ℕ → List (Section × ℕ) → List SectionPlace
places_from p k [] = []
places_from p k (s ∷ ss) = section_place p k s ∷ places_from p (k + pages s.1 p) ss

-- each place ends below 2^63, so that sums of offsets and sizes fit 64 bits
abbrev pub EachLow : List SectionPlace → Type 0
EachLow ps = (i : ℕ) (q : SectionPlace) → i < length ps → q ≡ get_or ps i q → q.at + q.size < 2 ^ 63

-- sections may be placed after k pages of p bytes: the places of five fit 64 bits
pub record MayLay (p k : ℕ) : Type 0 where
  pub low : 2048 ≤ p
  pub high : p ≤ 131072
  pub first : k ≤ 2
