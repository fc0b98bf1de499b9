-- What an opening asks of the system.
use Rattle.std.specs.Prelude.{Bool, true, false}
use Rattle.sys_file.specs.declared.opening.Opening.{Opening}
use Rattle.sys_file.specs.declared.opening.Opening.TheVariants as ways

-- the file is read
abbrev pub opens_to_read : Opening → Bool
opens_to_read ways.Read = true
opens_to_read ways.Write = false
opens_to_read ways.Create = false
opens_to_read ways.CreateAndRead = true

-- the file is written
abbrev pub opens_to_write : Opening → Bool
opens_to_write ways.Read = false
opens_to_write ways.Write = true
opens_to_write ways.Create = true
opens_to_write ways.CreateAndRead = true

-- the file is created if it does not exist
abbrev pub creates : Opening → Bool
creates ways.Read = false
creates ways.Write = false
creates ways.Create = true
creates ways.CreateAndRead = true
