-- What follows from what the system returns for a file.
use Rattle.std.specs.Prelude.{◌/◌, ◌%◌, ℕ, Option, Some, None, nat_eq, if◌then◌else◌}
use Rattle.sys_file.specs.declared.stat.Kind.{Kind}
use Rattle.sys_file.specs.declared.stat.Kind.TheVariants as kinds
use Rattle.sys_file.specs.declared.stat.Stat.{Stat}
use Rattle.sys_file.specs.declared.system_file.Stamp.{Stamp}

-- the kind that has this number, which is four bits of a mode
abbrev pub kind_numbered : ℕ → Kind
kind_numbered n =
    if nat_eq n 8 then kinds.File
    else if nat_eq n 6 then kinds.Block
    else if nat_eq n 4 then kinds.Folder
    else if nat_eq n 1 then kinds.Pipe
    else if nat_eq n 12 then kinds.Socket
    else kinds.Other

-- the kind of a file of this mode
abbrev pub kind_of_mode : ℕ → Kind
kind_of_mode mode = kind_numbered (mode / 4096 % 16)

abbrev pub stamp_as : Kind → Stat → Option Stamp
stamp_as kinds.File stat = Some (record { length = stat.length; second = stat.second; nanosecond = stat.nanosecond })
stamp_as kinds.Block stat = None
stamp_as kinds.Folder stat = None
stamp_as kinds.Pipe stat = None
stamp_as kinds.Socket stat = None
stamp_as kinds.Other stat = None

-- the stamp of a regular file
abbrev pub stamp_of : Stat → Option Stamp
stamp_of stat = stamp_as stat.kind stat
