use Rattle.cmd_pack_outputs.proofs.Magics.{zeros_none}
use Rattle.cmd_pack_outputs.proofs.magic_last.MagicLast.give_up.Goals as goal

pub returns-clause-broken : goal.returns-clause-broken
returns-clause-broken g c =
    zeros_none _ c.args.self.kept c.args.self.stand c.args.self.zeros c.args.self.next
