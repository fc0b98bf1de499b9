use Rattle.std.proofs.Common.{take}
use Rattle.std.specs.List.{All}
use Rattle.cmd_common_boot.specs.Carried.{IsTaken}
use Rattle.cmd_common_boot.proofs.pack_texts.PackTexts.not_taken.Given as goal

abbrev pub invariant-loop-fragment : goal.invariant-loop-fragment
invariant-loop-fragment l = All (IsTaken l.kind) (take l.fragment-index l.self.fragments.items)
