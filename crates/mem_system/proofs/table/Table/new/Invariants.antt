use Rattle.std.proofs.Common.{◌≡◌, [], length}
use Rattle.mem_system.specs.Table.{stored_in}
use Rattle.mem_system.proofs.table.Table.new.Given as goal

abbrev pub invariant-loop : goal.invariant-loop
invariant-loop l = (length l.files.items ≡ l.counter) × (stored_in l.files.items 0 ≡ [])
