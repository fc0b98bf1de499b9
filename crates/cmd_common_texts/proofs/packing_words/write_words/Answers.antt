use Rattle.std.proofs.Common.{ap, is_some, rules}
use Rattle.cmd_common_texts.proofs.Informing.{reads_rise}
use Rattle.cmd_common_texts.proofs.Refusing.{told_writes, writes_clean, writes_fail, writes_more}
use Rattle.cmd_common_texts.proofs.packing_words.write_words.Goals as goal

pub returns-in-Err-default-clause-leaves : goal.returns-in-Err-default-clause-leaves
returns-in-Err-default-clause-leaves g c = record {
  content = search rules;
  reads = reads_rise c.image_words-told.result _ _ c.image_words-told.ensures.leaves.reads;
  failed = writes_fail g.O.Output.written g.O.Output.write_faults c.new-text.result c.image_words-told.new.text
      c.finish.new.self _ _ _
      c.new-text.ensures.whole c.image_words-told.ensures.leaves.prints.1 c.finish.ensures.prints
      (ap is_some c.in-Err-default.ensures.failed) c.new-text.ensures.faults (search rules);
  clean = search rules;
}

pub returns-in-Ok-Err-clause-leaves : goal.returns-in-Ok-Err-clause-leaves
returns-in-Ok-Err-clause-leaves g c = record {
  content = search rules;
  reads = search rules;
  failed = told_writes g.O.Output.written g.O.Output.write_faults c.image_words-told.result c.in-Ok-Err.fault
      c.new-text.result c.image_words-told.new.text c.finish.new.self _ _ _
      c.in-Ok-Err.is-1 c.image_words-told.ensures.leaves.told c.image_words-told.ensures.leaves.prints.1
      c.finish.ensures.prints c.in-Ok-Err.ensures.done c.new-text.ensures.faults (search rules);
  clean = search rules;
}

pub returns-in-Ok-Ok-clause-leaves : goal.returns-in-Ok-Ok-clause-leaves
returns-in-Ok-Ok-clause-leaves g c = record {
  content = search rules;
  reads = search rules;
  failed = search rules;
  clean = writes_clean g.O.Output.written g.O.Output.write_faults c.new-text.result c.image_words-told.new.text
      c.finish.new.self _ _ _
      c.image_words-told.ensures.leaves.prints.1 c.finish.ensures.prints c.in-Ok-Ok.ensures.done
      c.new-text.ensures.faults (search rules);
}

pub returns-in-Err-default-clause-grown : goal.returns-in-Err-default-clause-grown
returns-in-Err-default-clause-grown g c =
    writes_more g.O.Output.written g.O.Output.write_faults c.new-text.result c.image_words-told.new.text
    c.finish.new.self _ _ _ c.image_words-told.ensures.leaves.prints.1 c.finish.ensures.prints
    c.new-text.ensures.written (search rules)

pub returns-in-Ok-Err-clause-grown : goal.returns-in-Ok-Err-clause-grown
returns-in-Ok-Err-clause-grown g c =
    writes_more g.O.Output.written g.O.Output.write_faults c.new-text.result c.image_words-told.new.text
    c.finish.new.self _ _ _ c.image_words-told.ensures.leaves.prints.1 c.finish.ensures.prints
    c.new-text.ensures.written (search rules)

pub returns-in-Ok-Ok-clause-grown : goal.returns-in-Ok-Ok-clause-grown
returns-in-Ok-Ok-clause-grown g c =
    writes_more g.O.Output.written g.O.Output.write_faults c.new-text.result c.image_words-told.new.text
    c.finish.new.self _ _ _ c.image_words-told.ensures.leaves.prints.1 c.finish.ensures.prints
    c.new-text.ensures.written (search rules)
