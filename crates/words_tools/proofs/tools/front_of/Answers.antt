use Rattle.words_tools.proofs.tools.front_of.Goals as goal

pub returns-clause-none : goal.returns-clause-none
returns-clause-none c = λ none front e. (rw none at c.strip_suffix.ensures.cases) front e
