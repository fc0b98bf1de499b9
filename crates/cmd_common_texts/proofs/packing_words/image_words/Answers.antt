use Rattle.std.proofs.Common.{rules}
use Rattle.abt_sections.specs.Header.{fragment_count, view_of}
use Rattle.sys_text.proofs.Printing.{◌▸◌}
use Rattle.cmd_common_texts.specs.Words.{fragment_words, header_words}
use Rattle.cmd_common_texts.proofs.WordLists.{then_words}
use Rattle.cmd_common_texts.proofs.packing_words.image_words.Goals as goal

pub returns-clause-lines : goal.returns-clause-lines
returns-clause-lines g c = λ models.
    let h = view_of c.args.image.now.header in
    let folder = c.args.folder.now in
    then_words g.O.Output.written g.O.Output.write_faults c.args.text.now c.header_words.new.text
    c.fragment_words.new.text
    (header_words folder h) (fragment_words folder (g.S.Source.content c.args.source.now) h (fragment_count h))
    c.fragment_words.result c.header_words.ensures (c.fragment_words.ensures.lines models)

pub returns-clause-leaves : goal.returns-clause-leaves
returns-clause-leaves g c = record {
  content = search rules;
  prints = (_, c.header_words.ensures ▸ c.fragment_words.ensures.leaves.prints.1);
  told = search rules;
  reads = search rules;
  refused = search rules;
}
