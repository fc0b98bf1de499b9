use Rattle.law_program.proofs.ProgramCuts.{expanded_together, flashed_in_turn_are}
use Rattle.law_program.proofs.pieces_in_turn.Goals as goal

pub returns-clause-flashed : goal.returns-clause-flashed
returns-clause-flashed c = flashed_in_turn_are

pub returns-clause-expanded : goal.returns-clause-expanded
returns-clause-expanded c = expanded_together
