-- What is printed of the parts that were written.
use Rattle.std.specs.Prelude.{◌≡◌, ℕ, zero, suc, ◌-◌, ◌^◌, Bool, true, false, List, [], ◌∷◌, ◌++◌, map, codes, decimal}
use Rattle.std.specs.Prelude.{length, min, slice_index_or}
use Rattle.abt_headers.specs.declared.sections.SectionPlace.{SectionPlace}
use Rattle.abt_headers.specs.Places.{section_name}
use Rattle.sys_report.specs.Shows.{IsSilent, ShowsBeside}
use Rattle.sys_report.specs.declared.report.Report.{Report}
use Rattle.abt_sections.specs.Header.{Header, places_of, fragment_count, entry_of}
use Rattle.cmd_common_boot.specs.declared.part_names.ImagePart.{ImagePart}
use Rattle.cmd_common_boot.specs.declared.part_names.ImagePart.TheVariants as parts

-- its name, and how many bytes it has
abbrev pub part_line : ImagePart → ℕ → List ℕ
part_line (parts.Section kind) bytes = section_name kind ++ (codes " " ++ decimal bytes)
part_line (parts.Fragment index) bytes = codes "fragment " ++ (decimal index ++ (codes " " ++ decimal bytes))
part_line parts.Words bytes = codes "pack.words " ++ decimal bytes

-- the same and the end of the line
abbrev pub told_part : ImagePart → ℕ → List ℕ
told_part part bytes = part_line part bytes ++ (10 ∷ [])

-- what is told of a part: how many bytes its file has
pub record ToldPart : Type 0 where
  pub part : ImagePart
  pub bytes : ℕ

-- of the section at a place
abbrev pub told_section : SectionPlace → ToldPart
told_section p = record { part = parts.Section p.kind; bytes = p.size }

-- of a fragment of an image x, and of the first n
abbrev pub told_fragment : List ℕ → Header → ℕ → ToldPart
told_fragment x h n = record { part = parts.Fragment n; bytes = (entry_of x h n).ramdisk_size }

abbrev pub told_fragments : List ℕ → Header → ℕ → List ToldPart
told_fragments x h zero = []
told_fragments x h (suc n) = told_fragments x h n ++ (told_fragment x h n ∷ [])

-- of the arguments, which are this text: its length as far as 64 bits count
abbrev pub told_text : List ℕ → ToldPart
told_text text = record { part = parts.Words; bytes = min (length text) (2 ^ 64 - 1) }

-- where they are requested
abbrev pub told_words : Bool → List ℕ → List ToldPart
told_words true text = told_text text ∷ []
told_words false text = []

-- of all parts, one after another
abbrev pub told_parts : List ℕ → Header → Bool → List ℕ → List ToldPart
told_parts x h with_words text =
    map told_section (places_of h) ++ (told_fragments x h (fragment_count h) ++ told_words with_words text)

-- Its line was printed: to standard error if data goes to standard output, as it does from now on if the part's file is
-- where that goes.
abbrev pub ShowsLineOf : (ImagePart → Bool) → ToldPart → Report → Report → Type 0
ShowsLineOf on_output told old new = ShowsBeside (on_output told.part) old new (told_part told.part told.bytes)

-- the lines of parts were printed, one after another, and nothing else
abbrev pub ShowsEach : (ImagePart → Bool) → List ToldPart → Report → Report → Type 0
ShowsEach on_output [] old new = IsSilent old new
ShowsEach on_output (told ∷ more) old new =
    (next : Report) × ShowsLineOf on_output told old next × ShowsEach on_output more next new

-- the line of section i was
abbrev pub ShowsSection : (ImagePart → Bool) → Header → ℕ → Report → Report → Type 0
ShowsSection on_output h i old new =
    (p : SectionPlace) → p ≡ slice_index_or (places_of h) i p → ShowsLineOf on_output (told_section p) old new
