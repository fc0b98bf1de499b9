use Rattle.std.proofs.Common.{arith}
use Rattle.cmd_cut.proofs.Fronts.{on_err, still_none}
use Rattle.cmd_cut.proofs.zero_first.ZeroFirst.finish.Goals as goal

pub returns-clause-broken : goal.returns-clause-broken
returns-clause-broken g c =
    on_err c.write_over_all-answer.result
    (λ w. still_none c.args.self.held c.args.self.front _ _ c.args.self.room (omega arith) c.args.self.zeros
    c.args.self.next w) c.write_over_all-answer.ensures.front
