use Rattle.std.proofs.Common.{◌≡◌, map, take}
use Rattle.std.specs.Prelude.{string_bytes}
use Rattle.mem_system.specs.Names.{names_of}
use Rattle.mem_system.proofs.names.MemoryNames.of.Given as goal

abbrev pub invariant-loop-path : goal.invariant-loop-path
invariant-loop-path l = map string_bytes l.names.items ≡ names_of (take l.path-index l.paths)
