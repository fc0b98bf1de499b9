use Rattle.std.proofs.Common.{rules}
use Rattle.sys_text.proofs.Printing.{◌▸◌}
use Rattle.cmd_unpack_aosp_texts.proofs.text.image_text.Goals as goal

pub returns-in-Err-clause-leaves : goal.returns-in-Err-clause-leaves
returns-in-Err-clause-leaves g c = record {
  content = search rules;
  prints = (_, c.put_front.ensures ▸ c.put_fragments.ensures.leaves.prints.1);
  told = search rules;
  reads = search rules;
  refused = search rules;
}

pub returns-clause-leaves : goal.returns-clause-leaves
returns-clause-leaves g c = record {
  content = search rules;
  prints = (_, c.put_front.ensures ▸ c.put_fragments.ensures.leaves.prints.1 ▸ c.put_end.ensures);
  told = search rules;
  reads = search rules;
  refused = search rules;
}

pub returns-clause-lines : goal.returns-clause-lines
returns-clause-lines g c = λ models. c.put_front.ensures ▸ c.in-Ok.ensures.lines models ▸ c.put_end.ensures
