-- What the first line says of a fault, behind the name of the program.
use Rattle.std.specs.Prelude.{◌≡◌, ℕ, List, ◌++◌, Bool, true, false, Option, Some, None, codes, decimal, take}
use Rattle.std.specs.Prelude.{if◌then◌else◌}
use Rattle.sys_refusals.specs.Paths.{shown_place}
use Rattle.sys_refusals.specs.declared.place.FileArg.{FileArg}
use Rattle.sys_refusals.specs.declared.refusal.HostFault.{HostFault}
use Rattle.sys_refusals.specs.declared.refusal.HostFault.TheVariants as faults

-- a fault with a number: the number, and then a text
abbrev pub TellsNumber : ℕ → List ℕ → Type 0
TellsNumber n told = (rest : List ℕ) × (told ≡ decimal n ++ rest)

-- the beginning of a text: a name is shown with at most 8,192 bytes
abbrev pub shortened : List ℕ → List ℕ
shortened text = take 8192 text

-- a fault of files: what is wrong
abbrev pub host_words : HostFault → List ℕ
host_words faults.CannotOpen = codes "cannot open "
host_words faults.NoFolder = codes "cannot open "
host_words faults.SameFile = codes "same file "
host_words faults.Mounted = codes "mounted "
host_words faults.Changed = codes "14 SourceChanged"
host_words faults.NotText = codes "not UTF-8 "
host_words faults.TooLong = codes "too long "
host_words faults.Read = codes "11 Read"
host_words faults.Write = codes "12 Write"
host_words faults.Memory = codes "memory"

-- whether the file's name follows
abbrev pub names_its_file : HostFault → Bool
names_its_file faults.CannotOpen = true
names_its_file faults.NoFolder = true
names_its_file faults.SameFile = true
names_its_file faults.Mounted = true
names_its_file faults.Changed = false
names_its_file faults.NotText = true
names_its_file faults.TooLong = true
names_its_file faults.Read = false
names_its_file faults.Write = false
names_its_file faults.Memory = false

abbrev pub host_said : HostFault → Option FileArg → List ℕ
host_said fault None = host_words fault
host_said fault (Some place) =
    if names_its_file fault then host_words fault ++ shortened (shown_place place) else host_words fault
