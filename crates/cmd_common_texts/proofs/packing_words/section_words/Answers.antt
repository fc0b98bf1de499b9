use Rattle.std.proofs.Common.{◌++◌, sym, ap, ◌∙◌, arith, rules, flat_map, take}
use Rattle.sys_text.proofs.Printing.{◌▸◌, as_text, printed_none}
use Rattle.cmd_common_texts.specs.Words.{has_table, section_words, words_text}
use Rattle.std.proofs.lemmas.Grind.{flat_map-append}
use Rattle.abt_sections.specs.Header.{places_of, view_of}
use Rattle.cmd_common_texts.specs.Info.{line}
use Rattle.cmd_common_texts.proofs.Turns.{one_more}
use Rattle.cmd_common_texts.proofs.packing_words.section_words.Goals as goal

pub loop-i-init : goal.loop-i-init
loop-i-init g c = printed_none _ _ _

pub loop-i-preserved : goal.loop-i-preserved
loop-i-preserved g c =
    let h = view_of c.args.image.now.header in
    let places = places_of h in
    let folder = c.args.folder.now in
    let i = c.loop-i.i in
    let words = section_words folder (has_table h) in
    let more = ap (λ p. flat_map words (take i places) ++ words p) c.section.ensures.value
    ∙ one_more words places i c.section.result (search (rules, arith)) in
    as_text (sym (flat_map-append line (flat_map words (take i places)) (words c.section.result)) ∙ ap words_text more)
    (c.loop-i.invariant ▸ as_text
    (ap (λ t. words_text (section_words folder t c.section.result)) c.has_table-table.ensures)
    c.section_word.ensures)
