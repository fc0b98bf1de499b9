use Rattle.std.proofs.Common.{◌∙◌, ap, is_some, refl, rules, subst, sym, arith}
use Rattle.abt_sections.specs.Header.{view_of}
use Rattle.abt_sections.specs.Open.{IsOpened}
use Rattle.abt_sections.specs.Check.{IsVerdict}
use Rattle.cmd_common_texts.proofs.Informing.{info_begins, opening_told, reads_rise}
use Rattle.cmd_common_texts.proofs.Refusing.{begins_none, opening_caused, opening_writes, reports_all, told_caused}
use Rattle.cmd_common_texts.proofs.Refusing.{told_reads, told_writes, writes_clean, writes_fail}
use Rattle.cmd_common_texts.proofs.info.report_info.Goals as goal

pub returns-in-Ok-Ok-clause-begun : goal.returns-in-Ok-Ok-clause-begun
returns-in-Ok-Ok-clause-begun g c = λ models h image v right.
    let opened = c.in-Ok.ensures in
    info_begins c.args.notation g.O.Output.written g.O.Output.write_faults _ _ _ _ _ _ _ h _ v
    (opened.reads.only.content models) image (opened.opens models).has right
    (c.image_lines-told.ensures.begun models) c.finish.ensures.prints c.new-text.ensures.nothing_held
    c.new-text.ensures.written (search rules)

pub returns-in-Ok-Err-clause-begun : goal.returns-in-Ok-Err-clause-begun
returns-in-Ok-Err-clause-begun g c = λ models h image v right.
    let opened = c.in-Ok.ensures in
    info_begins c.args.notation g.O.Output.written g.O.Output.write_faults _ _ _ _ _ _ _ h _ v
    (opened.reads.only.content models) image (opened.opens models).has right
    (c.image_lines-told.ensures.begun models) c.finish.ensures.prints c.new-text.ensures.nothing_held
    c.new-text.ensures.written (search rules)

pub returns-in-Err-default-clause-begun : goal.returns-in-Err-default-clause-begun
returns-in-Err-default-clause-begun g c = λ models h image v right.
    let opened = c.in-Ok.ensures in
    info_begins c.args.notation g.O.Output.written g.O.Output.write_faults _ _ _ _ _ _ _ h _ v
    (opened.reads.only.content models) image (opened.opens models).has right
    (c.image_lines-told.ensures.begun models) c.finish.ensures.prints c.new-text.ensures.nothing_held
    c.new-text.ensures.written (search rules)

-- an image that does not open prints nothing
pub returns-in-Err-clause-begun : goal.returns-in-Err-clause-begun
returns-in-Err-clause-begun g c = λ models h image v right. begins_none _ _

pub returns-in-Err-clause-refused : goal.returns-in-Err-clause-refused
returns-in-Err-clause-refused g c = λ models.
    opening_caused c.in-Err.fault _ _ _ _ _ c.in-Err.ensures.reads.cause (λ changed. changed models)
    (c.in-Err.ensures.opens models) refl

-- the source fails
pub returns-in-Ok-Err-clause-refused : goal.returns-in-Ok-Err-clause-refused
returns-in-Ok-Err-clause-refused g c = λ models.
    let opened = subst (λ x. IsOpened x c.in-Ok.image) (sym (c.in-Ok.ensures.reads.only.content models))
    (c.in-Ok.ensures.opens models) in
    told_caused c.image_lines-told.result c.in-Ok-Err.fault _ _ _ _ _ c.in-Ok-Err.is-1 c.in-Ok.ensures.reads.only.clean
    (c.image_lines-told.ensures.leaves.refused models opened)

-- the output fails
-- neither does
pub returns-in-Ok-Ok-clause-printed : goal.returns-in-Ok-Ok-clause-printed
returns-in-Ok-Ok-clause-printed g c = λ models.
    reports_all g.O.Output.written g.O.Output.write_faults c.args.notation _ _ _ c.new-text.result
    c.image_lines-told.new.text c.finish.new.self _ _
    (c.in-Ok.ensures.reads.only.content models) (c.in-Ok.ensures.opens models).has
    (rw c.in-Ok-Ok.is-1 at (c.image_lines-told.ensures.lines models))
    c.finish.ensures.prints c.in-Ok-Ok.ensures.done c.finish.ensures.emptied c.new-text.ensures.nothing_held
    c.new-text.ensures.written (search rules)

pub returns-in-Ok-Ok-clause-reported : goal.returns-in-Ok-Ok-clause-reported
returns-in-Ok-Ok-clause-reported g c = λ models.
    let verdict = rw c.in-Ok-Ok.is-1 at (c.image_lines-told.ensures.verdict models) in (
      c.in-Ok.ensures.opens models,
      subst (λ x. IsVerdict x (view_of c.in-Ok.image.header) c.in-Ok-Ok.verdict)
          (c.in-Ok.ensures.reads.only.content models) verdict,
    )

pub returns-in-Err-clause-leaves : goal.returns-in-Err-clause-leaves
returns-in-Err-clause-leaves g c = record {
  content = search rules;
  reads = opening_told c.in-Err.fault _ _ _ c.in-Err.ensures.reads.cause
      c.in-Err.ensures.reads.only.faults;
  failed = opening_writes c.in-Err.fault _ _ _ _ c.in-Err.ensures.reads.cause;
  clean = search rules;
}

pub returns-in-Err-default-clause-leaves : goal.returns-in-Err-default-clause-leaves
returns-in-Err-default-clause-leaves g c = record {
  content = search rules;
  reads = omega (
    arith,
    c.in-Ok.ensures.reads.only.clean,
    reads_rise c.image_lines-told.result _ _
        c.image_lines-told.ensures.leaves.reads,
  );
  failed = writes_fail g.O.Output.written g.O.Output.write_faults c.new-text.result c.image_lines-told.new.text
      c.finish.new.self _ _ _
      c.new-text.ensures.whole c.image_lines-told.ensures.leaves.prints.1 c.finish.ensures.prints
      (ap is_some c.in-Err-default.ensures.failed) c.new-text.ensures.faults (search rules);
  clean = search rules;
}

pub returns-in-Ok-Err-clause-leaves : goal.returns-in-Ok-Err-clause-leaves
returns-in-Ok-Err-clause-leaves g c = record {
  content = search rules;
  reads = told_reads c.image_lines-told.result c.in-Ok-Err.fault _ _ _ c.in-Ok-Err.is-1
      c.in-Ok.ensures.reads.only.clean c.image_lines-told.ensures.leaves.reads;
  failed = told_writes g.O.Output.written g.O.Output.write_faults c.image_lines-told.result c.in-Ok-Err.fault
      c.new-text.result c.image_lines-told.new.text c.finish.new.self _ _ _
      c.in-Ok-Err.is-1 c.image_lines-told.ensures.leaves.told c.image_lines-told.ensures.leaves.prints.1
      c.finish.ensures.prints c.in-Ok-Err.ensures.done c.new-text.ensures.faults (search rules);
  clean = search rules;
}

pub returns-in-Ok-Ok-clause-leaves : goal.returns-in-Ok-Ok-clause-leaves
returns-in-Ok-Ok-clause-leaves g c = record {
  content = search rules;
  reads = (rw c.in-Ok-Ok.is-1 at c.image_lines-told.ensures.leaves.reads)
      ∙ c.in-Ok.ensures.reads.only.clean;
  failed = search rules;
  clean = writes_clean g.O.Output.written g.O.Output.write_faults c.new-text.result c.image_lines-told.new.text
      c.finish.new.self _ _ _
      c.image_lines-told.ensures.leaves.prints.1 c.finish.ensures.prints c.in-Ok-Ok.ensures.done
      c.new-text.ensures.faults (search rules);
}
