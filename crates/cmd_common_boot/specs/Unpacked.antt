-- The files that `unpack` writes, in their order.
use Rattle.std.specs.Prelude.{◌≡◌, ◌<◌, ◌≤◌, ◌+◌, ℕ, Bool, length, slice_index_or, if◌then◌else◌}
use Rattle.abt_headers.specs.declared.sections.SectionPlace.{SectionPlace}
use Rattle.abt_sections.specs.Header.{Header, fragment_count, places_of}
use Rattle.cmd_common_boot.specs.declared.part_names.ImagePart.{ImagePart}
use Rattle.cmd_common_boot.specs.declared.part_names.ImagePart.TheVariants as parts

-- a file for each section and each fragment, and maybe one for the arguments
abbrev pub part_count : Header → Bool → ℕ
part_count h with_words = length (places_of h) + fragment_count h + (if with_words then 1 else 0)

-- sections are first, then fragments, then the arguments
pub record IsPart (h : Header) (i : ℕ) (part : ImagePart) : Type 0 where
  pub of_section : i < length (places_of h) → (place : SectionPlace) × (place ≡ slice_index_or (places_of h) i place)
      × (part ≡ parts.Section place.kind)
  pub of_fragment : (k : ℕ) → i ≡ length (places_of h) + k → k < fragment_count h → part ≡ parts.Fragment k
  pub of_words : length (places_of h) + fragment_count h ≤ i → part ≡ parts.Words
