use Rattle.std.proofs.Common.{◌≡◌, drop}
use Rattle.mem_files.specs.Stored.{leads}
use Rattle.mem_files.proofs.stored.file_at.Given as goal

abbrev pub invariant-loop-path : goal.invariant-loop-path
invariant-loop-path l = leads l.paths l.name ≡ leads (drop l.path-index l.paths) l.name
