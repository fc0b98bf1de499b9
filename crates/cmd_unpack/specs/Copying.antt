-- What copying a part of an image leaves of the image's source and of an output.
use Rattle.std.specs.Prelude.{◌≡◌, ◌++◌, ℕ, List, IsTrue, IfErr, OnOk, Result}
use Rattle.abt_io.specs.declared.device.Source as sources
use Rattle.abt_io.specs.declared.device.Output as outputs
use Rattle.abt_sections.specs.declared.fault.SectionFault.{SectionFault}
use Rattle.abt_sections.specs.declared.image.Image.{Image}
use Rattle.abt_sections.specs.Open.{IsOpened}
use Rattle.cmd_common_boot.specs.ImageFaults.{DeviceFails, IsFaultOf}

-- The output is to the same file. After an Ok these bytes were written, the source holds what it held, and neither it
-- nor the output has failed. Where the image is unchanged, an error is a fault of its bytes or of a device that failed.
pub record CopiesPart {X : Type 0} (r : Result X SectionFault) {A : Type 0} (s : sources.Ghosts A) (old new : A)
    {B : Type 0} (o : outputs.Ghosts B) (onto now : B) (image : Image) (bytes : List ℕ) : Type 0 where
  pub this : (o.write_frame now).file ≡ (o.write_frame onto).file
  pub written : IsTrue s.models → OnOk r (o.written now ≡ o.written onto ++ bytes)
  pub content : IsTrue s.models → OnOk r (s.content new ≡ s.content old)
  pub clean : OnOk r ((s.read_faults new ≡ s.read_faults old) × (o.write_faults now ≡ o.write_faults onto))
  pub refused : IsTrue s.models → IsOpened (s.content old) image → IfErr r (IsFaultOf (s.content old)
      (DeviceFails (s.read_faults old) (s.read_faults new) (o.write_faults onto) (o.write_faults now)))
