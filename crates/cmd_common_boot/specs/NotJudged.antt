-- Why an image is not judged, before the file for it is opened.
use Rattle.std.specs.Prelude.{◌≡◌, Option, Some}
use Rattle.sys_disk.specs.Counts.{Counts, call_of, no_counts}
use Rattle.sys_refusals.specs.declared.refusal.HostFault.TheVariants as hosts
use Rattle.abt_sections.specs.declared.fault.SectionFault.{SectionFault}
use Rattle.cmd_common_boot.specs.declared.fault.BootCommandFault.{BootCommandFault}
use Rattle.cmd_common_boot.specs.declared.fault.BootCommandFault.TheVariants as faults
use Rattle.cmd_common_boot.specs.declared.not_judged.NotJudged.{NotJudged}
use Rattle.cmd_common_boot.specs.declared.not_judged.NotJudged.TheVariants as not_judged

-- the fault that is told of it
abbrev pub fault_of : NotJudged → BootCommandFault
fault_of (not_judged.Fault fault) = fault
fault_of (not_judged.Memory refused) = faults.Host hosts.Memory

-- what is counted of it: a refusal of memory
abbrev pub refusals_of : NotJudged → Counts
refusals_of (not_judged.Fault fault) = no_counts
refusals_of (not_judged.Memory refused) = call_of hosts.Memory

-- a fault satisfies this, or memory was refused
abbrev pub OfFault : (BootCommandFault → Type 0) → NotJudged → Type 0
OfFault Is (not_judged.Fault fault) = Is fault
OfFault Is (not_judged.Memory refused) = Unit {0}

-- this is the fault of packing, where there is one
abbrev pub IsOfPacking : Option SectionFault → BootCommandFault → Type 0
IsOfPacking o (faults.Section f) = o ≡ Some f
IsOfPacking o fault = ⊥
