use Rattle.std.proofs.Common.{take, flat_map}
use Rattle.sys_text.specs.Printed.{Prints}
use Rattle.cmd_unpack_aosp_texts.specs.Shell.{escaped_quote}
use Rattle.cmd_unpack_aosp_texts.proofs.shell.put_inside.Given as goal

abbrev pub invariant-loop-byte : goal.invariant-loop-byte
invariant-loop-byte g l = Prints g.O.Output.written g.O.Output.write_faults l.initial.text l.text
    (flat_map escaped_quote (take l.byte-index l.fn.bytes))
