use Rattle.std.proofs.Common.{rules}
use Rattle.cmd_pack_outputs.proofs.Magics.{broken_none}
use Rattle.cmd_pack_outputs.proofs.write_over.lay_once.Goals as goal

pub returns-in-Err : goal.returns-in-Err
returns-in-Err g c = record {
  lays = record {
    packs = search rules;
    broken = broken_none (g.O.Output.written c.args.file) _ c.requires.empty c.in-Err.ensures.broken;
  };
  frame = search rules;
}
