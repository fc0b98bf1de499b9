-- The data from which an image is written.
use Rattle.std.specs.Prelude.{ℕ, ◌+◌, List, ◌++◌, Option, length, map}
use Rattle.abt_sections.specs.Cause.{total}
use Rattle.abt_sections.specs.declared.fault.SectionFault.{SectionFault}
use Rattle.abt_sections.specs.declared.spec.BootSpec.{BootSpec}
use Rattle.abt_sections.specs.declared.spec.FragmentSpec.{FragmentSpec}
use Rattle.cmd_common_fields.specs.declared.image_kind.ImageKind.{ImageKind}
use Rattle.cmd_common_boot.specs.Refused.{packed, refusal_of}
use Rattle.cmd_pack_outputs.specs.declared.contents.ImageContents.{ImageContents}

-- the fields and the parts of an image, and its ramdisk fragments
pub record Packing : Type 0 where
  pub fields : BootSpec
  pub parts : List (List ℕ)
  pub specs : List FragmentSpec
  pub ramdisks : List (List ℕ)

-- the image of a kind that is packed from them, and the fault of packing them
abbrev pub image_from : ImageKind → Packing → List ℕ
image_from kind p = packed kind p.fields p.parts p.specs p.ramdisks

abbrev pub refusal_from : ImageKind → Packing → Option SectionFault
refusal_from kind p = refusal_of kind p.fields (map length p.parts) (map length p.ramdisks)

-- ---- of sources, each with what it contains

abbrev pub packing_of : {P : Type 0} → (P → List ℕ) → ImageContents P → Packing
packing_of content c = record {
  fields = c.fields;
  parts = map content c.parts.items;
  specs = c.specs.items;
  ramdisks = map content c.sources.items;
}

-- the image, and the bytes after it
abbrev pub packed_image : {P : Type 0} → (P → List ℕ) → ImageContents P → List ℕ
packed_image content c = image_from c.kind (packing_of content c) ++ content c.trailing

-- the fault of packing, by the sizes of the sources
abbrev pub refusal_in : {P : Type 0} → (P → ℕ) → ImageContents P → Option SectionFault
refusal_in size c = refusal_of c.kind c.fields (map size c.parts.items) (map size c.sources.items)

-- how often a read of them has failed
abbrev pub faults_in : {P : Type 0} → (P → ℕ) → ImageContents P → ℕ
faults_in faults c = total faults c.parts.items + total faults c.sources.items + faults c.nothing + faults c.trailing

-- how many bytes they gave
abbrev pub bytes_given : {P : Type 0} → (P → ℕ) → ImageContents P → ℕ
bytes_given given c = total given c.parts.items + total given c.sources.items + given c.nothing + given c.trailing
