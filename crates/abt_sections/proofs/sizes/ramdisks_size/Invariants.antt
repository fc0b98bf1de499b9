use Rattle.std.proofs.Common.{◌≡◌, take}
use Rattle.abt_sections.specs.Cause.{total}
use Rattle.abt_sections.proofs.sizes.ramdisks_size.Given as goal

abbrev pub invariant-loop-i : goal.invariant-loop-i
invariant-loop-i g l = l.sum ≡ total g.S.Source.size (take l.i l.ramdisks)
