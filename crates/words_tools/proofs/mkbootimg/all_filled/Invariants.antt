use Rattle.std.proofs.Common.{take}
use Rattle.std.specs.List.{AllZip}
use Rattle.words_tools.specs.Mkbootimg.{IsOptionOf, fillers}
use Rattle.words_tools.proofs.mkbootimg.all_filled.Given as goal

abbrev pub invariant-loop-filler : goal.invariant-loop-filler
invariant-loop-filler l = AllZip (IsOptionOf l.answers.all.items l.image) (take l.filler-index fillers) l.given.items
