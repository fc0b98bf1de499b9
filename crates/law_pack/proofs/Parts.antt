-- The parts of an order are those that the image was unpacked to.
use Rattle.std.proofs.Common.{◌≡◌, ℕ, ◌<◌, Bool, true, List, [], ◌∷◌, ◌++◌, map, length, slice_index_or, Option, Some}
use Rattle.std.proofs.Common.{codes, refl, sym, ap, subst, ◌∙◌, zero, suc, arith}
use Rattle.std.specs.List.{AllByRecursion}
use Rattle.abt_headers.specs.Places.{section_name}
use Rattle.abt_headers.specs.declared.sections.SectionPlace.{SectionPlace}
use Rattle.abt_headers.specs.declared.sections.Section.{Section}
use Rattle.abt_headers.specs.declared.sections.Section.TheVariants.{Kernel, Ramdisk, Second, RecoveryDtbo, Dtb}
use Rattle.abt_headers.specs.declared.sections.Section.TheVariants.{Signature, VendorRamdisk, Table, Bootconfig}
use Rattle.abt_sections.specs.Layout.{part_of}
use Rattle.sys_disk.specs.World.{World}
use Rattle.sys_disk.specs.Among.{FileHolds}
use Rattle.cmd_unpack.specs.Unpacking.{path_of_part, section_part}
use Rattle.cmd_common_fields.specs.Options.{option_of}
use Rattle.cmd_common_boot.specs.Given.{found}
use Rattle.cmd_common_boot.specs.declared.pack_texts.OptionText.{OptionText}
use Rattle.cmd_common_boot.specs.declared.part_names.ImagePart.TheVariants as files
use Rattle.law_boot.specs.Said.{SaysFile, SaysFiles, SaysText, value_of}
use Rattle.cmd_common_texts.specs.Words.{section_option}
use Rattle.cmd_pack.specs.Packing.{nothing}
use Rattle.cmd_pack_inputs.specs.Parts.{ArePartsOf, IsPartBy}
use Rattle.law_pack.specs.Said.{GivesText, IsGivenBy}
use Rattle.law_pack.proofs.Options.{Orders, one_given, same_number}

-- a path leads to one file
pub same_bytes : (world : World) (path a b : List ℕ) → FileHolds world path a → FileHolds world path b → a ≡ b
same_bytes world path a b f g = sym f.holds ∙ ap world.holds (same_number f.file g.file (sym f.there ∙ g.there))
    ∙ g.holds

pub each_place : (P : SectionPlace → Type 0) (ps : List SectionPlace)
    → ((i : ℕ) (p : SectionPlace) → i < length ps → p ≡ slice_index_or ps i p → P p) → AllByRecursion P ps
each_place P [] h = tt
each_place P (p ∷ ps) h = (h 0 p (omega arith) refl, each_place P ps (λ i q l e. h (suc i) q (omega (arith, l)) e))

-- a section that an option gives
abbrev pub HasOption : Section → Type 0
HasOption Table = ⊥
HasOption section = Unit {0}

-- and that the words give by it
abbrev pub IsListed : Bool → SectionPlace → Type 0
IsListed table p = HasOption p.kind × (section_option table p.kind ≡ Some (option_of p.kind))

module _ (words : List (List ℕ)) (options : List OptionText) (orders : Orders words options) where
  option_given : (section : Section) → HasOption section
      → IsGivenBy (GivesText true) (value_of (option_of section) words) (found options (option_of section))
  option_given Kernel h = orders.texts.0
  option_given Ramdisk h = orders.texts.1.0
  option_given Second h = orders.texts.1.1.0
  option_given RecoveryDtbo h = orders.texts.1.1.1.0
  option_given Dtb h = orders.texts.1.1.1.1.0
  option_given Signature h = orders.texts.1.1.1.1.1.0
  option_given VendorRamdisk h = orders.texts.1.0
  option_given Table h = absurd h
  option_given Bootconfig h = orders.texts.1.1.1.1.1.1.0

  module _ (world : World) (folder x : List ℕ) where
    part_is : (section : Section) → HasOption section
        → SaysText words (option_of section) (folder ++ (codes "/" ++ section_name section))
        → (part own : List ℕ) → IsPartBy world (found options (option_of section)) (nothing section) part
        → FileHolds world (path_of_part folder (files.Section section)) own → part ≡ own
    part_is section h s part own by holds =
        let g = one_given (GivesText true) (value_of (option_of section) words) (found options (option_of section)) s.0
        (option_given section h) s.1 in
        let file : FileHolds world g.option.bytes.items part = subst
        (λ (o : Option OptionText). IsPartBy world o (nothing section) part) g.is by in
        let path : g.option.bytes.items ≡ path_of_part folder (files.Section section) = g.has.bytes ∙ s.2 in
        same_bytes world (path_of_part folder (files.Section section)) part own
        (subst (λ (p : List ℕ). FileHolds world p part) path file) holds

    pub parts_are : (table : Bool) (places : List SectionPlace) (parts : List (List ℕ))
        → AllByRecursion (IsListed table) places → SaysFiles words folder table places
        → AllByRecursion (λ p. FileHolds world (path_of_part folder (section_part p)) (part_of x p)) places
        → ArePartsOf world options nothing (map (λ p. p.kind) places) parts → parts ≡ map (part_of x) places
    parts_are table [] [] l s h a = refl
    parts_are table [] (part ∷ parts) l s h a = absurd a
    parts_are table (p ∷ places) [] l s h a = absurd a
    parts_are table (p ∷ places) (part ∷ parts) l s h a =
        let said : SaysText words (option_of p.kind) (folder ++ (codes "/" ++ section_name p.kind)) = subst
        (λ (o : Option (List ℕ)). SaysFile words folder o p.kind) l.0.1 s.0 in
        ap (λ (q : List ℕ). q ∷ parts) (part_is p.kind l.0.0 said part (part_of x p) a.0 h.0)
        ∙ ap (λ (qs : List (List ℕ)). part_of x p ∷ qs) (parts_are table places parts l.1 s.1 h.1 a.1)
