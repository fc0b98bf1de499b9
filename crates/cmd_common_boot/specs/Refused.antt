-- Which fields of an image and which sizes of its parts the packer rejects, and which bytes it writes of them.
use Rattle.std.specs.Prelude.{◌≡◌, ◌≤◌, ℕ, List, [], ◌∷◌, Option, Some, None, length, sum, ◌==◌, if◌then◌else◌, IsTrue}
use Rattle.std.specs.Prelude.{Result, IfErr, OnOk}
use Rattle.abt_io.specs.declared.device.Output as outputs
use Rattle.abt_io.specs.declared.device.Source as sources
use Rattle.abt_sections.specs.BootCanon.{boot_image_with}
use Rattle.abt_sections.specs.Cause.{PackCause}
use Rattle.abt_sections.specs.Fields.{VendorFields, cmd_common_fields}
use Rattle.abt_sections.specs.Refusal.{pack_boot_refusal, pack_vendor_refusal}
use Rattle.abt_sections.specs.VendorCanon.{VendorParts, vendor_canon, vendor_parts, vendor_sizes_for}
use Rattle.abt_sections.specs.declared.fault.SectionFault.{SectionFault}
use Rattle.abt_sections.specs.declared.fault.SectionFault.TheVariants as faults
use Rattle.abt_sections.specs.declared.spec.BootSpec.{BootSpec}
use Rattle.abt_sections.specs.declared.spec.FragmentSpec.{FragmentSpec}
use Rattle.cmd_common_fields.specs.Kind.{version_of}
use Rattle.cmd_common_fields.specs.declared.image_kind.ImageKind.{ImageKind}
use Rattle.cmd_common_fields.specs.declared.image_kind.ImageKind.TheVariants.{Boot, Vendor}
use Rattle.cmd_common_boot.specs.Parts.{row_count}

-- the fields that a vendor boot image has
abbrev pub vendor_fields_asked : BootSpec → VendorFields
vendor_fields_asked s = record {
  version = s.version;
  page = s.page;
  kernel_addr = s.kernel_addr;
  ramdisk_addr = s.ramdisk_addr;
  tags_addr = s.tags_addr;
  dtb_addr = s.dtb_addr;
  name = s.name.now;
  cmdline = s.cmdline.now;
}

-- in version 3 the parts are the ramdisk and the dtb, in version 4 the dtb and the bootconfig
abbrev pub vendor_sizes : ℕ → List ℕ → List ℕ → List ℕ
vendor_sizes version (a ∷ b ∷ parts) ramdisks =
    if version == 3 then vendor_sizes_for (sum (a ∷ [])) b 0 0 else vendor_sizes_for (sum ramdisks) a (length ramdisks)
    b
vendor_sizes version parts ramdisks = []

-- of parts and ramdisk fragments of these sizes
abbrev pub refusal_of : ImageKind → BootSpec → List ℕ → List ℕ → Option SectionFault
refusal_of (Boot n) s parts ramdisks = pack_boot_refusal (cmd_common_fields s) parts
refusal_of (Vendor n) s parts ramdisks = pack_vendor_refusal (vendor_fields_asked s)
    (vendor_sizes s.version parts ramdisks)

-- the parts from which a vendor boot image is packed: version 3 has no fragments, and no bootconfig
abbrev pub vendor_parts_asked : ℕ → List (List ℕ) → List FragmentSpec → List (List ℕ) → VendorParts
vendor_parts_asked version (a ∷ b ∷ parts) specs ramdisks =
    if version == 3 then vendor_parts [] (a ∷ []) b [] else vendor_parts specs ramdisks a b
vendor_parts_asked version parts specs ramdisks = vendor_parts [] [] [] []

-- the image of a kind: of these fields and parts, and of these ramdisk fragments
abbrev pub packed : ImageKind → BootSpec → List (List ℕ) → List FragmentSpec → List (List ℕ) → List ℕ
packed (Boot n) s parts specs ramdisks = boot_image_with s.is_front_ended (cmd_common_fields s) parts
packed (Vendor n) s parts specs ramdisks = vendor_canon (vendor_fields_asked s)
    (vendor_parts_asked s.version parts specs ramdisks)

-- the fields are of this kind, with this many parts, and this many ramdisks for the described fragments
pub record FitsKind (kind : ImageKind) (fields : BootSpec) (parts told ramdisks : ℕ) : Type 0 where
  pub versioned : fields.version ≡ version_of kind
  pub counted : parts ≡ row_count kind
  pub paired : told ≡ ramdisks

-- Packing fails for the fault of the fields and sizes, if there is one, or for a device whose count of faults rose. The
-- faults of all sources are counted together. After an Ok no count has risen. What no write changes is as it was.
pub record PacksParts {X : Type 0} (r : Result X SectionFault) (refusal : Option SectionFault) {A : Type 0}
    (s : sources.Ghosts A) (reads reads' : ℕ) {B : Type 0} (o : outputs.Ghosts B) (old new : B) : Type 0 where
  pub faults : reads ≤ reads'
  pub cause : IfErr r (λ f. PackCause refusal f reads reads' (o.write_faults old) (o.write_faults new)
      (IsTrue s.models → ⊥))
  pub clean : OnOk r ((reads' ≡ reads) × (o.write_faults new ≡ o.write_faults old))
  pub write_faults : o.write_faults old ≤ o.write_faults new
  pub frame : o.write_frame new ≡ o.write_frame old

-- a fault of moving bytes, rather than of the fields and sizes
abbrev pub IsOfMoving : SectionFault → Type 0
IsOfMoving (faults.Read f) = Unit {0}
IsOfMoving (faults.Write f) = Unit {0}
IsOfMoving faults.SourceChanged = Unit {0}
IsOfMoving (faults.Header f) = ⊥
IsOfMoving (faults.Entry i) = ⊥
IsOfMoving faults.Name = ⊥
IsOfMoving faults.CommandLine = ⊥
IsOfMoving (faults.SectionTruncated s) = ⊥
IsOfMoving (faults.SectionTooLarge s) = ⊥

-- it is the fault of the fields and sizes, or else one of moving bytes
abbrev pub IsRefusalOrMove : Option SectionFault → SectionFault → Type 0
IsRefusalOrMove None f = IsOfMoving f
IsRefusalOrMove (Some g) f = f ≡ g
