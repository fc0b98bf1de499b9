use Rattle.std.proofs.Common.{◌≡◌, drop}
use Rattle.cmd_common_boot.specs.Given.{found}
use Rattle.cmd_common_boot.proofs.pack_texts.PackTexts.find.Given as goal

abbrev pub invariant-loop-option : goal.invariant-loop-option
invariant-loop-option l =
    found l.self.options.items l.name ≡ found (drop l.option-index l.self.options.items) l.name
