use Rattle.std.proofs.Common.{take}
use Rattle.std.specs.List.{All}
use Rattle.cmd_common_boot.specs.Carried.{IsCarried}
use Rattle.cmd_common_boot.proofs.pack_texts.PackTexts.not_carried.Given as goal

abbrev pub invariant-loop-option : goal.invariant-loop-option
invariant-loop-option l = All (IsCarried l.kind) (take l.option-index l.self.options.items)
