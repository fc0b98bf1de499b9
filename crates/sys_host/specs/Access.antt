-- What a command does with a file.
use Rattle.std.specs.Prelude.{Bool, true, false}
use Rattle.sys_host.specs.declared.open_file.Access.{Access}
use Rattle.sys_host.specs.declared.open_file.Access.TheVariants as ways

-- it is written
abbrev pub may_write : Access → Bool
may_write ways.Forward = false
may_write ways.AnyPlace = false
may_write ways.InPlace = true
may_write ways.Create = true
may_write ways.CreateFile = true
may_write ways.Spool = true

-- it is created if it does not exist
abbrev pub may_create : Access → Bool
may_create ways.Forward = false
may_create ways.AnyPlace = false
may_create ways.InPlace = false
may_create ways.Create = true
may_create ways.CreateFile = true
may_create ways.Spool = true
