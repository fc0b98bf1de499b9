use Rattle.std.proofs.Common.{arith, rules}
use Rattle.cmd_common_texts.specs.Info.{escaped}
use Rattle.sys_text.proofs.Printing.{◌▸◌, as_text, printed_none}
use Rattle.cmd_common_texts.proofs.Turns.{one_more}
use Rattle.cmd_common_texts.proofs.info_lines.put_escaped.Goals as goal

pub loop-byte-init : goal.loop-byte-init
loop-byte-init g c = printed_none _ _ _

pub loop-byte-preserved : goal.loop-byte-preserved
loop-byte-preserved g c =
    as_text (one_more escaped c.args.bytes.now c.loop-byte.byte-index 0 (search (rules, arith)))
    (c.loop-byte.invariant ▸ c.put_byte.ensures)
