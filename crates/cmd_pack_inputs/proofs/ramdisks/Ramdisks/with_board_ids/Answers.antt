use Rattle.std.proofs.Common.{ap, length}
use Rattle.cmd_pack_inputs.proofs.Gathered.{bad_board}
use Rattle.cmd_pack_inputs.proofs.ramdisks.Ramdisks.with_board_ids.Goals as goal

pub returns-clause-refused : goal.returns-clause-refused
returns-clause-refused g c =
    bad_board _ (length c.as_mut_slice.result.now) _ c.in-Err.word c.of.result.fault c.of.ensures
    (ap length c.as_mut_slice.ensures.value) c.in-Err.ensures.refused
