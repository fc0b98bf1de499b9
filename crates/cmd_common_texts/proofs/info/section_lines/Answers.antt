use Rattle.std.proofs.Common.{flat_map, take, ◌++◌, ap, ◌∙◌, arith, rules}
use Rattle.abt_sections.specs.Header.{places_of, view_of}
use Rattle.cmd_common_texts.specs.Info.{section_line}
use Rattle.sys_text.proofs.Printing.{◌▸◌, as_text, printed_none}
use Rattle.cmd_common_texts.proofs.Turns.{one_more}
use Rattle.cmd_common_texts.proofs.info.section_lines.Goals as goal

pub loop-i-init : goal.loop-i-init
loop-i-init g c = printed_none _ _ _

pub loop-i-preserved : goal.loop-i-preserved
loop-i-preserved g c =
    let places = places_of (view_of c.args.image.now.header) in
    let i = c.loop-i.i in
    as_text (ap (λ p. flat_map (section_line c.args.notation) (take i places)
    ++ section_line c.args.notation p) c.section.ensures.value
    ∙ one_more (section_line c.args.notation) places i c.section.result (search (rules, arith)))
    (c.loop-i.invariant ▸ c.put_section.ensures)
