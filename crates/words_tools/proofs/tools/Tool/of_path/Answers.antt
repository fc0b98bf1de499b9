use Rattle.std.proofs.Common.{arith}
use Rattle.words_tools.proofs.Calling.{none_of_all}
use Rattle.words_tools.proofs.tools.Tool.of_path.Goals as goal

pub returns-clause-none : goal.returns-clause-none
returns-clause-none c = λ none.
    none_of_all c.args.path.now (λ k d below. c.loop-tool.invariant k d (omega (arith, below, c.loop-tool-test.false)))
