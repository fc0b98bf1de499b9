use Rattle.std.proofs.Common.{arith, rules}
use Rattle.sys_text.proofs.Printing.{◌▸◌, as_text, printed_none}
use Rattle.cmd_common_texts.proofs.Turns.{one_more}
use Rattle.cmd_unpack_aosp_texts.specs.Shell.{escaped_quote}
use Rattle.cmd_unpack_aosp_texts.proofs.shell.put_inside.Goals as goal

pub loop-byte-init : goal.loop-byte-init
loop-byte-init g c = printed_none _ _ _

pub loop-byte-preserved : goal.loop-byte-preserved
loop-byte-preserved g c = as_text (one_more escaped_quote c.args.bytes.now c.loop-byte.byte-index 0 (search (
  rules,
  arith,
)))
    (c.loop-byte.invariant ▸ c.put_byte_inside.ensures)
