-- Why a command fails that works on a boot image that was opened from a file.
use Rattle.std.specs.Prelude.{◌≡◌, ◌<◌, ◌+◌, ◌⊎◌, ℕ, List, Some, Result, Ok, Err}
use Rattle.sys_refusals.specs.declared.refusal.HostFault.{HostFault}
use Rattle.sys_refusals.specs.declared.refusal.HostFault.TheVariants as hosts
use Rattle.sys_disk.specs.Counts.{Cause, call, of_reading, reading, writing}
use Rattle.abt_sections.specs.declared.fault.SectionFault.{SectionFault}
use Rattle.abt_sections.specs.declared.fault.SectionFault.TheVariants as sections
use Rattle.abt_sections.specs.Open.{RefusedAs}
use Rattle.sys_disk.specs.World.{World, OpenFiles}
use Rattle.cmd_common_boot.specs.declared.fault.BootCommandFault.{BootCommandFault}
use Rattle.cmd_common_boot.specs.declared.fault.BootCommandFault.TheVariants as faults

-- between two states this has failed: a call of the disk, or a device; the faults of a source that is open are counted
-- too
pub record SomeFailed (held : OpenFiles) (reads : ℕ) (held' : OpenFiles) (reads' : ℕ) (cause : Cause) : Type 0 where
  pub rises : held.counts.failed cause + of_reading reads cause < held'.counts.failed cause + of_reading reads' cause

-- and nothing has
pub record NoMoreFailed (held : OpenFiles) (reads : ℕ) (held' : OpenFiles) (reads' : ℕ) : Type 0 where
  pub stays : (cause : Cause) → held'.counts.failed cause + of_reading reads' cause
      ≡ held.counts.failed cause + of_reading reads cause

-- in a call of the engine this has failed: the device that is read, or the one that is written, by their counts before
-- and after it
abbrev pub DeviceFails : ℕ → ℕ → ℕ → ℕ → Cause → Type 0
DeviceFails reads reads' writes writes' (call fault) = ⊥
DeviceFails reads reads' writes writes' reading = reads < reads'
DeviceFails reads reads' writes writes' writing = writes < writes'

-- the bytes x have this fault, or a device has, which has failed
abbrev pub IsFaultOf : List ℕ → (Cause → Type 0) → SectionFault → Type 0
IsFaultOf x failed (sections.Read f) = failed reading
IsFaultOf x failed (sections.Write f) = failed writing
IsFaultOf x failed sections.SourceChanged = ⊥
IsFaultOf x failed (sections.Header f) = RefusedAs x (sections.Header f)
IsFaultOf x failed (sections.Entry i) = RefusedAs x (sections.Entry i)
IsFaultOf x failed sections.Name = ⊥
IsFaultOf x failed sections.CommandLine = ⊥
IsFaultOf x failed (sections.SectionTruncated s) = RefusedAs x (sections.SectionTruncated s)
IsFaultOf x failed (sections.SectionTooLarge s) = ⊥

-- the fault of a call of the disk, which has failed; or `Write`, where only a line could not be printed
abbrev pub IsHostFaultOf : (Cause → Type 0) → Type 0 → HostFault → Type 0
IsHostFaultOf failed unprinted f = failed (call f) ⊎ ((f ≡ hosts.Write) × unprinted)

-- a fault of the bytes x or of a device, or of files
abbrev pub IsRefusalOf : List ℕ → (Cause → Type 0) → Type 0 → BootCommandFault → Type 0
IsRefusalOf x failed unprinted (faults.Host f) = IsHostFaultOf failed unprinted f
IsRefusalOf x failed unprinted (faults.Section f) = IsFaultOf x failed f
IsRefusalOf x failed unprinted (faults.OptionNotCarried name) = ⊥
IsRefusalOf x failed unprinted (faults.BadFragment word) = ⊥
IsRefusalOf x failed unprinted (faults.BadNumber word) = ⊥
IsRefusalOf x failed unprinted (faults.BadBoardId word) = ⊥
IsRefusalOf x failed unprinted faults.CheckFailed = ⊥

-- a fault in the course of the command
pub record IsRefusedOver (x : List ℕ) (failed : Cause → Type 0) (unprinted : Type 0) (fault : BootCommandFault)
    : Type 0 where
  pub refuses : IsRefusalOf x failed unprinted fault

-- the same for what the file at this path holds
abbrev pub RefusesImage : List ℕ → World → (Cause → Type 0) → Type 0 → BootCommandFault → Type 0
RefusesImage path world failed unprinted (faults.Host f) = IsHostFaultOf failed unprinted f
RefusesImage path world failed unprinted (faults.Section f) =
    (file : ℕ) × (world.at path ≡ Some file) × IsFaultOf (world.holds file) failed f
RefusesImage path world failed unprinted (faults.OptionNotCarried name) = ⊥
RefusesImage path world failed unprinted (faults.BadFragment word) = ⊥
RefusesImage path world failed unprinted (faults.BadNumber word) = ⊥
RefusesImage path world failed unprinted (faults.BadBoardId word) = ⊥
RefusesImage path world failed unprinted faults.CheckFailed = ⊥

-- why a command fails after a call of the engine returned this: this call's own fault, or else one of files
abbrev pub IsAnswerOf : {X : Type 0} → Result X SectionFault → (Cause → Type 0) → Type 0 → BootCommandFault → Type 0
IsAnswerOf (Ok x) failed unprinted (faults.Host f) = IsHostFaultOf failed unprinted f
IsAnswerOf (Ok x) failed unprinted (faults.Section f) = ⊥
IsAnswerOf (Ok x) failed unprinted (faults.OptionNotCarried name) = ⊥
IsAnswerOf (Ok x) failed unprinted (faults.BadFragment word) = ⊥
IsAnswerOf (Ok x) failed unprinted (faults.BadNumber word) = ⊥
IsAnswerOf (Ok x) failed unprinted (faults.BadBoardId word) = ⊥
IsAnswerOf (Ok x) failed unprinted faults.CheckFailed = ⊥
IsAnswerOf (Err e) failed unprinted fault = fault ≡ faults.Section e
