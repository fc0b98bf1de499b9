use Rattle.std.proofs.Common.{sym, ◌∙◌}
use Rattle.abt_sparse.specs.View.{view}
use Rattle.abt_runs.proofs.Opened.{few_ends, done_ends, failed_is, from_chunks}
use Rattle.abt_runs.proofs.opening_state.SparseOpening.end.Goals as goal

pub returns-then-self-clause-keeps : goal.returns-then-self-clause-keeps
returns-then-self-clause-keeps c x v old =
    let s = c.args.self.now in
    let o = from_chunks s.stage (view s.header) s.length s.index s.have s.at x v c.requires.here old in
    failed_is c.fail.new.self.stage _ _ _ _ _ _ x v c.fail.ensures.failed
    (sym (few_ends (view s.header) s.index s.have s.at x c.requires.last c.if-self.true) ∙ o.1)

pub returns-clause-keeps : goal.returns-clause-keeps
returns-clause-keeps c x v old =
    let s = c.args.self.now in
    let o = from_chunks s.stage (view s.header) s.length s.index s.have s.at x v c.requires.here old in
    (o.0, sym (done_ends (view s.header) s.index s.have s.at x c.requires.last c.if-self.false) ∙ o.1)
