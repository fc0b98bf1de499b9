use Rattle.std.proofs.Common.{take, flat_map}
use Rattle.cmd_common_texts.specs.Info.{escaped}
use Rattle.sys_text.specs.Printed.{Prints}
use Rattle.cmd_common_texts.proofs.info_lines.put_escaped.Given as goal

abbrev pub invariant-loop-byte : goal.invariant-loop-byte
invariant-loop-byte g l = Prints g.O.Output.written g.O.Output.write_faults l.initial.text l.text
    (flat_map escaped (take l.byte-index l.fn.bytes))
