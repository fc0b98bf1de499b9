-- The position of a section of an image.
use Rattle.std.specs.Prelude.{Bool, Option}
use Rattle.std.specs.List.{find}
use Rattle.std.specs.Str.{bytes_eq}
use Rattle.abt_headers.specs.declared.sections.SectionPlace.{SectionPlace}
use Rattle.abt_headers.specs.declared.sections.Section.{Section}
use Rattle.abt_headers.specs.Places.{section_name}
use Rattle.abt_sections.specs.Header.{Header, places_of}

-- the section is at this position
abbrev pub stands_at : Section → SectionPlace → Bool
stands_at section place = bytes_eq (section_name place.kind) (section_name section)

-- the first place of a section, if there is one
abbrev pub first_place_of : Header → Section → Option SectionPlace
first_place_of h section = find (stands_at section) (places_of h)
