use Rattle.std.proofs.Common.{take, flat_map}
use Rattle.abt_sections.specs.Header.{places_of, view_of}
use Rattle.cmd_common_texts.specs.Info.{section_line}
use Rattle.sys_text.specs.Printed.{Prints}
use Rattle.cmd_common_texts.proofs.info.section_lines.Given as goal

abbrev pub invariant-loop-i : goal.invariant-loop-i
invariant-loop-i g l = Prints g.O.Output.written g.O.Output.write_faults l.initial.text l.text
    (flat_map (section_line l.fn.notation) (take l.i (places_of (view_of l.fn.image.header))))
