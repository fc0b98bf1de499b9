use Rattle.std.proofs.Common.{◌≡◌, drop, map}
use Rattle.std.specs.Prelude.{bytes_eq}
use Rattle.std.specs.List.{find}
use Rattle.words_orders.specs.Table.{name_of, work_named}
use Rattle.words_orders.proofs.reading.command_named.Given as goal

abbrev pub invariant-loop-command : goal.invariant-loop-command
invariant-loop-command l =
    find (λ work. bytes_eq (name_of work) l.name) (map (λ command. command.work) (drop l.command-index l.command-items))
    ≡ work_named l.name
