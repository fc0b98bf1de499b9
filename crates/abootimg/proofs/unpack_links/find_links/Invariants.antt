use Rattle.std.proofs.Common.{◌≡◌}
use Rattle.abootimg.proofs.unpack_links.find_links.Given as goal

abbrev pub invariant-loop-i : goal.invariant-loop-i
invariant-loop-i g l = g.S.Source.read_faults l.source ≡ g.S.Source.read_faults l.initial.source
