use Rattle.std.proofs.Common.{◌≡◌, ◌++◌, drop}
use Rattle.cmd_boot_dispatch.specs.Ordered.{command_options, ordered_options}
use Rattle.cmd_boot_dispatch.proofs.pack_order.options_of.Given as goal

abbrev pub invariant-loop-given : goal.invariant-loop-given
invariant-loop-given l =
    command_options l.options.items ++ ordered_options l.is_escaped (drop l.given-index l.given)
    ≡ ordered_options l.is_escaped l.given
