use Rattle.std.proofs.Common.{◌≡◌, map, take}
use Rattle.cmd_common_boot.proofs.contents.measures.Given as goal

abbrev pub invariant-loop-part : goal.invariant-loop-part
invariant-loop-part g l = map (λ s. s.size) l.sizes.items ≡ map g.P.Source.size (take l.part-index l.parts)
