use Rattle.law_program.proofs.CutFiles.{cut_then_expanded, cut_then_flashed}
use Rattle.law_program.proofs.cut_in_turn.Goals as goal

pub returns-clause-flashed : goal.returns-clause-flashed
returns-clause-flashed c = cut_then_flashed

pub returns-clause-expanded : goal.returns-clause-expanded
returns-clause-expanded c = cut_then_expanded
