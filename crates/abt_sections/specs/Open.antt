-- What opening an image finds.
use Rattle.std.specs.Prelude.{◌≡◌, ℕ, ◌+◌, ◌<◌, ◌&&◌, nat_lt, Bool, if◌then◌else◌, List, [], ◌∷◌, length, Option, Some}
use Rattle.std.specs.Prelude.{None, Result, Ok, Err}
use Rattle.abt_headers.specs.declared.sections.SectionPlace.{SectionPlace}
use Rattle.abt_headers.specs.declared.sections.Section.{Section}
use Rattle.abt_sections.specs.declared.fault.SectionFault.{SectionFault}
use Rattle.abt_sections.specs.declared.fault.SectionFault.TheVariants as faults
use Rattle.abt_sections.specs.declared.image.Image.{Image}
use Rattle.abt_sections.specs.Header.{Header, view_of, image_header_at, places_of, fragment_count, entry_of, IsWithin}
use Rattle.abt_sections.specs.Header.{EachWithin, IsImage}

-- a place isn't empty and ends past n bytes
abbrev pub ends_beyond : SectionPlace → ℕ → Bool
ends_beyond p n = nat_lt 0 p.size && nat_lt n (p.at + p.size)

-- the first such place
unfoldable pub beyond : List SectionPlace → ℕ → Option Section
beyond [] n = None
beyond (p ∷ ps) n = if ends_beyond p n then Some p.kind else beyond ps n

-- entry i is the first whose fragment ends past the vendor ramdisk
pub record IsFirstOutside (x : List ℕ) (h : Header) (i : ℕ) : Type 0 where
  pub there : i < fragment_count h
  pub before : (j : ℕ) → j < i → IsWithin h (entry_of x h j)
  pub outside : IsWithin h (entry_of x h i) → ⊥

-- x begins with the header h, every section is there, and every fragment is within the vendor ramdisk
pub record HasImage (x : List ℕ) (h : Header) : Type 0 where
  pub header : image_header_at x ≡ Ok h
  pub there : beyond (places_of h) (length x) ≡ None
  pub within : EachWithin x h

-- x is an image of h and some parts, each whole at its place, and every fragment is within the vendor ramdisk
pub record IsWholeImage (x : List ℕ) (h : Header) : Type 0 where
  pub parts : List (List ℕ)
  pub image : IsImage x h parts
  pub within : EachWithin x h

-- x begins with a header, and a section isn't whole
pub record IsTruncated (x : List ℕ) (h : Header) (s : Section) : Type 0 where
  pub header : image_header_at x ≡ Ok h
  pub truncated : beyond (places_of h) (length x) ≡ Some s

-- x begins with a header, every section is there, and entry i is the first that is bad
pub record HasBadEntry (x : List ℕ) (h : Header) (i : ℕ) : Type 0 where
  pub header : image_header_at x ≡ Ok h
  pub there : beyond (places_of h) (length x) ≡ None
  pub first : IsFirstOutside x h i

-- what a refusal of opening says of the bytes x
abbrev pub RefusedAs : List ℕ → SectionFault → Type 0
RefusedAs x (faults.Read f) = Unit {0}
RefusedAs x (faults.Header f) = image_header_at x ≡ Err f
RefusedAs x (faults.Entry i) = (h : Header) × HasBadEntry x h i
RefusedAs x (faults.SectionTruncated s) = (h : Header) × IsTruncated x h s
RefusedAs x _ = ⊥

-- a device failed
abbrev pub IsReadFault : SectionFault → Type 0
IsReadFault (faults.Read f) = Unit {0}
IsReadFault _ = ⊥

-- what a refusal of the table says
abbrev pub EntryRefusedAs : List ℕ → Header → SectionFault → Type 0
EntryRefusedAs x h (faults.Read f) = Unit {0}
EntryRefusedAs x h (faults.Entry i) = IsFirstOutside x h i
EntryRefusedAs x h _ = ⊥

-- an image that was opened from x, which has stayed as it was
pub record IsOpened (x : List ℕ) (image : Image) : Type 0 where
  pub has : HasImage x (view_of image.header)
  pub length : image.length ≡ length x

-- what opening says of the bytes x
abbrev pub OpensAs : List ℕ → Result Image SectionFault → Type 0
OpensAs x (Ok image) = IsOpened x image
OpensAs x (Err f) = RefusedAs x f
