-- Why an image that is packed again does not take the arguments, or is not read again.
use Rattle.std.specs.Prelude.{◌≡◌, ◌<◌, IsTrue, Result, IfErr}
use Rattle.abt_io.specs.Lent.{OnlyReads}
use Rattle.abt_io.specs.declared.device.Source as sources
use Rattle.abt_sections.specs.Open.{IsOpened}
use Rattle.abt_sections.specs.declared.image.Image.{Image}
use Rattle.cmd_common_fields.specs.declared.image_kind.ImageKind.{ImageKind}
use Rattle.sys_disk.specs.Counts.{reading}
use Rattle.cmd_common_boot.specs.Fault.{IsCauseOf}
use Rattle.cmd_common_boot.specs.NotJudged.{OfFault}
use Rattle.cmd_common_boot.specs.Wrong.{IsUntaken}
use Rattle.cmd_common_boot.specs.declared.fault.BootCommandFault.{BootCommandFault}
use Rattle.cmd_common_boot.specs.declared.not_judged.NotJudged.{NotJudged}
use Rattle.cmd_common_boot.specs.declared.not_judged.NotJudged.TheVariants as not_judged
use Rattle.cmd_common_boot.specs.declared.pack_command.PackCommand.{PackCommand}

-- why an image is not read again: this is the fault of a read, which has failed, or memory was refused
abbrev pub IsUnread : Type 0 → NotJudged → Type 0
IsUnread Failed = OfFault (λ fault. IsCauseOf fault reading × Failed)

-- an image that was opened is only read again, or not read for such a fault
pub record ReadsOpened {X : Type 0} (r : Result X NotJudged) {S : Type 0} (s : sources.Ghosts S) (old new : S)
    (image : Image) : Type 0 where
  pub only : OnlyReads r s old new
  pub refused : IsTrue s.models → IsOpened (s.content old) image
      → IfErr r (IsUnread (s.read_faults old < s.read_faults new))

-- why an image of this kind does not take the arguments, or it is not read again
pub data StopsJudging (command : PackCommand) (kind : ImageKind) (Failed : Type 0) (why : NotJudged) : Type 0 where
  untaken : (fault : BootCommandFault) → why ≡ not_judged.Fault fault
      → IsUntaken kind command.texts.options.items command.texts.fragments.items fault
      → StopsJudging command kind Failed why
  not_read : IsUnread Failed why → StopsJudging command kind Failed why
