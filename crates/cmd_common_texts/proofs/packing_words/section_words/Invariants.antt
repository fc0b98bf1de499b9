use Rattle.std.proofs.Common.{take, flat_map}
use Rattle.abt_sections.specs.Header.{places_of, view_of}
use Rattle.sys_text.specs.Printed.{Prints}
use Rattle.cmd_common_texts.specs.Words.{has_table, section_words, words_text}
use Rattle.cmd_common_texts.proofs.packing_words.section_words.Given as goal

abbrev pub invariant-loop-i : goal.invariant-loop-i
invariant-loop-i g l =
    let h = view_of l.fn.image.header in
    Prints g.O.Output.written g.O.Output.write_faults l.initial.text l.text
    (words_text (flat_map (section_words l.fn.folder (has_table h)) (take l.i (places_of h))))
