-- Which faults of files are about the words.
use Rattle.std.specs.Prelude.{Bool, true, false}
use Rattle.sys_refusals.specs.declared.refusal.HostFault.{HostFault}
use Rattle.sys_refusals.specs.declared.refusal.HostFault.TheVariants as faults

-- a file of words is no text, or too long
abbrev pub is_not_text : HostFault → Bool
is_not_text faults.CannotOpen = false
is_not_text faults.NoFolder = false
is_not_text faults.SameFile = false
is_not_text faults.Mounted = false
is_not_text faults.Changed = false
is_not_text faults.NotText = true
is_not_text faults.TooLong = true
is_not_text faults.Read = false
is_not_text faults.Write = false
is_not_text faults.Memory = false
