use Rattle.cmd_pack_outputs.proofs.Magics.{laid_none, on_err}
use Rattle.cmd_pack_outputs.proofs.magic_last.MagicLast.finish.Goals as goal

pub returns-clause-broken : goal.returns-clause-broken
returns-clause-broken g c =
    on_err _ _ _ c.write_over_all-answer.ensures.front
    (λ f. laid_none _ _ _ c.args.self.kept c.args.self.room c.args.self.stand c.args.self.zeros
    c.write_over_all-answer.ensures.long f)
