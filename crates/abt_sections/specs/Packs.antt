-- What packing a boot image leaves, whatever it returns.
use Rattle.std.specs.Prelude.{◌≡◌, ◌≤◌, ◌+◌, Bool, Result, Err, List, ◌++◌, length, map, IsTrue, OnOk, IfOk, IfErr}
use Rattle.abt_io.specs.Lent.{OnlyReadsAll, OnlyWrites}
use Rattle.abt_io.specs.declared.device.Source as sources
use Rattle.abt_io.specs.declared.device.Output as outputs
use Rattle.abt_sections.specs.declared.fault.SectionFault.{SectionFault}
use Rattle.abt_sections.specs.declared.spec.Packed.{Packed}
use Rattle.abt_sections.specs.BootCanon.{boot_image_size, boot_image_with}
use Rattle.abt_sections.specs.Cause.{PackCause, full_handed, total}
use Rattle.abt_sections.specs.Fields.{BootFields}
use Rattle.abt_sections.specs.Refusal.{IfRefused, pack_boot_refusal}

-- The parts are only read, and the image of the fields and the parts is appended to an output. Nothing is written where
-- the fields or the sizes are refused; else the call is refused where a device failed, or a part isn't what it was. The
-- caller says whether a zero ends the first field of the command line.
pub record AppendsBoot (r : Result Packed SectionFault) {A : Type 0} (s : sources.Ghosts A) (a a' : List A) {B : Type 0}
    (o : outputs.Ghosts B) (b b' : B) (is_ended : Bool) (fields : BootFields) : Type 0 where
  pub reads : OnlyReadsAll r s a a'
  pub writes : OnlyWrites r (full_handed r) o b b'
  pub refused : IfRefused (pack_boot_refusal fields (map s.size a)) (λ f. (r ≡ Err f) × (b' ≡ b))
  pub written : IsTrue s.models → OnOk r (o.written b' ≡ o.written b
      ++ boot_image_with is_ended fields (map s.content a))
  pub most : length (o.written b') ≤ length (o.written b) + boot_image_size fields (map s.size a)
  pub packed : IfOk r (λ p. (p.bytes ≡ boot_image_size fields (map s.size a)) × (length (o.written b') ≡ length
      (o.written b) + p.bytes))
  pub lasting : OnOk r (map s.size a' ≡ map s.size a)
  pub cause : IfErr r (λ e. PackCause (pack_boot_refusal fields (map s.size a)) e (total s.read_faults a)
      (total s.read_faults a') (o.write_faults b) (o.write_faults b') (IsTrue s.models → ⊥))
