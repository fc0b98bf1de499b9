-- Into which files a report would be written.
use Rattle.std.specs.Prelude.{◌≡◌, ◌⊎◌, IsTrue}
use Rattle.sys_identity.specs.declared.identity.Identity.{Identity}
use Rattle.sys_host.specs.declared.streams.Streams.{Streams}

-- it holds data, and is standard output or standard error
abbrev pub Reported : Streams → Identity → Type 0
Reported streams file = IsTrue file.holds_data × ((streams.out ≡ file) ⊎ (streams.err ≡ file))

-- a message would be mixed with what others write there: it is standard error, and a file, a block device, a pipe or a
-- socket
abbrev pub Mixed : Streams → Identity → Type 0
Mixed streams file = IsTrue file.mixes × (streams.err ≡ file)
