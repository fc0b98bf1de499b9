-- Which faults concern the arguments, the number of each fault, and which of the files it concerns.
use Rattle.sys_text.specs.Shown.{as_shown}
use Rattle.sys_refusals.specs.Said.{TellsNumber, host_said, shortened}
use Rattle.sys_refusals.specs.declared.place.FileArg.{FileArg}
use Rattle.std.specs.Prelude.{◌≡◌, ◌⊎◌, ℕ, ◌==◌, ◌||◌, List, ◌++◌, Bool, true, false, Option, Some, None, codes}
use Rattle.std.specs.Prelude.{if◌then◌else◌}
use Rattle.sys_refusals.specs.Host.{is_not_text}
use Rattle.sys_refusals.specs.declared.refusal.HostFault.TheVariants as hosts
use Rattle.sys_refusals.specs.declared.told.Side.{Side}
use Rattle.sys_refusals.specs.declared.told.Side.TheVariants as sides
use Rattle.abt_sections.specs.Fault as section
use Rattle.abt_headers.specs.declared.fault.HeaderFault.TheVariants as headers
use Rattle.abt_sections.specs.declared.fault.SectionFault.TheVariants as sections
use Rattle.sys_disk.specs.Counts.{Cause, call, reading, writing}
use Rattle.abt_sections.specs.declared.fault.SectionFault.{SectionFault}
use Rattle.cmd_common_boot.specs.declared.fault.BootCommandFault.{BootCommandFault}
use Rattle.cmd_common_boot.specs.declared.fault.BootCommandFault.TheVariants as faults

-- the arguments are wrong, rather than what they name
abbrev pub is_usage : BootCommandFault → Bool
is_usage (faults.Host fault) = is_not_text fault
is_usage (faults.Section fault) = false
is_usage (faults.OptionNotCarried name) = true
is_usage (faults.BadFragment word) = true
is_usage (faults.BadNumber word) = true
is_usage (faults.BadBoardId word) = true
is_usage faults.CheckFailed = false

-- the number of a fault of an image or a device
abbrev pub boot_command_fault_number : BootCommandFault → Option ℕ
boot_command_fault_number (faults.Section fault) = Some (section.section_fault_number fault)
boot_command_fault_number (faults.Host fault) = None
boot_command_fault_number (faults.OptionNotCarried name) = None
boot_command_fault_number (faults.BadFragment word) = None
boot_command_fault_number (faults.BadNumber word) = None
boot_command_fault_number (faults.BadBoardId word) = None
boot_command_fault_number faults.CheckFailed = None

-- Of what is written: 12 is not written. Of the arguments: 26 no name, 27 no command line, 28 no OS version. All others
-- are of what is read.
abbrev pub boot_side_of_number : ℕ → Side
boot_side_of_number n = if n == 12 then sides.Output else (if n == 26 || (n == 27 || n == 28) then sides.Words
    else sides.Input)

-- which of the files in use a fault is about
abbrev pub boot_side_of : BootCommandFault → Side
boot_side_of (faults.Section fault) = boot_side_of_number (section.section_fault_number fault)
boot_side_of (faults.Host fault) = sides.Call
boot_side_of (faults.OptionNotCarried name) = sides.Words
boot_side_of (faults.BadFragment word) = sides.Words
boot_side_of (faults.BadNumber word) = sides.Words
boot_side_of (faults.BadBoardId word) = sides.Words
boot_side_of faults.CheckFailed = sides.Words

-- what is wrong, and the word that it concerns
abbrev pub about_word : List ℕ → List ℕ → List ℕ
about_word wrong word = wrong ++ shortened (as_shown word)

-- what the first line may say of a fault: the number and a text, or exactly what is wrong
abbrev pub boot_says : BootCommandFault → Option FileArg → List ℕ → Type 0
boot_says (faults.Section fault) place told = TellsNumber (section.section_fault_number fault) told
boot_says (faults.Host fault) place told = told ≡ host_said fault place
boot_says (faults.OptionNotCarried name) place told = told ≡ about_word (codes "option not carried: --") name.now
boot_says (faults.BadFragment word) place told = told ≡ about_word (codes "bad fragment ") word.now
boot_says (faults.BadNumber word) place told = told ≡ about_word (codes "bad number ") word.now
boot_says (faults.BadBoardId word) place told = told ≡ about_word (codes "bad board id ") word.now
boot_says faults.CheckFailed place told = told ≡ codes "check failed"

-- there is no such header version
abbrev pub of_version : ℕ → BootCommandFault
of_version n = faults.Section (sections.Header (headers.Version n))

-- an argument encodes no OS version
abbrev pub of_os_word : BootCommandFault
of_os_word = faults.Section (sections.Header headers.Os)

-- what has failed where this fault of the engine is told: the device that is read, or the one that is written
abbrev pub IsMoveCauseOf : SectionFault → Cause → Type 0
IsMoveCauseOf (sections.Read f) cause = cause ≡ reading
IsMoveCauseOf (sections.Write f) cause = cause ≡ writing
IsMoveCauseOf sections.SourceChanged cause = ⊥
IsMoveCauseOf (sections.Header f) cause = ⊥
IsMoveCauseOf (sections.Entry i) cause = ⊥
IsMoveCauseOf sections.Name cause = ⊥
IsMoveCauseOf sections.CommandLine cause = ⊥
IsMoveCauseOf (sections.SectionTruncated s) cause = ⊥
IsMoveCauseOf (sections.SectionTooLarge s) cause = ⊥

-- What has failed where this fault is told: such a device, or a call of the disk. `Write` is also told where the magic
-- of an image was not written, so that a device failed. No other fault has a cause.
abbrev pub IsCauseOf : BootCommandFault → Cause → Type 0
IsCauseOf (faults.Host f) cause = (cause ≡ call f) ⊎ ((f ≡ hosts.Write) × (cause ≡ writing))
IsCauseOf (faults.Section f) cause = IsMoveCauseOf f cause
IsCauseOf (faults.OptionNotCarried name) cause = ⊥
IsCauseOf (faults.BadFragment word) cause = ⊥
IsCauseOf (faults.BadNumber word) cause = ⊥
IsCauseOf (faults.BadBoardId word) cause = ⊥
IsCauseOf faults.CheckFailed cause = ⊥

-- this fault has a cause, and that has failed
pub record IsFailure (fault : BootCommandFault) (Failed : Cause → Type 0) : Type 0 where
  pub cause : Cause
  pub is_cause : IsCauseOf fault cause
  pub failed : Failed cause

-- memory was refused: so the fault states, and the refusal was counted
pub record LacksMemory (fault : BootCommandFault) (Failed : Cause → Type 0) : Type 0 where
  pub told : fault ≡ faults.Host hosts.Memory
  pub counted : Failed (call hosts.Memory)
