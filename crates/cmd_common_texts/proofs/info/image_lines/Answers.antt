use Rattle.std.proofs.Common.{subst, ap, rules}
use Rattle.abt_sections.specs.Header.{view_of}
use Rattle.abt_sections.specs.Check.{IsVerdict}
use Rattle.cmd_common_texts.specs.Info.{check_text, line}
use Rattle.cmd_common_texts.proofs.Informing.{all_printed, as_far_as_fields, as_far_as_fragments, reading_told}
use Rattle.cmd_common_texts.proofs.Informing.{same_verdict}
use Rattle.sys_text.proofs.Printing.{◌▸◌, as_text, front_exactly}
use Rattle.cmd_common_texts.proofs.info.image_lines.Goals as goal

pub returns-in-Err-clause-begun : goal.returns-in-Err-clause-begun
returns-in-Err-clause-begun g c = λ models v right. as_far_as_fragments _ _ _ _ c.put_kind.ensures
    c.section_lines.ensures (c.fragment_lines.ensures.begun models)

pub returns-in-Err-clause-leaves : goal.returns-in-Err-clause-leaves
returns-in-Err-clause-leaves g c = record {
  content = search rules;
  prints = (_, c.put_kind.ensures ▸ c.section_lines.ensures ▸ c.fragment_lines.ensures.leaves.prints.1);
  told = search rules;
  reads = search rules;
  refused = search rules;
}

pub returns-in-Err-check-clause-begun : goal.returns-in-Err-check-clause-begun
returns-in-Err-check-clause-begun g c = λ models v right.
    as_far_as_fields _ _ _ _ c.put_kind.ensures c.section_lines.ensures (c.in-Ok.ensures.lines models)
    c.header_lines.ensures

pub returns-in-Err-check-clause-leaves : goal.returns-in-Err-check-clause-leaves
returns-in-Err-check-clause-leaves g c = record {
  content = search rules;
  prints = (
    _,
    c.put_kind.ensures ▸ c.section_lines.ensures ▸ c.fragment_lines.ensures.leaves.prints.1
        ▸ c.header_lines.ensures,
  );
  told = search rules;
  reads = reading_told c.in-Err-check.fault _ _ _ _ c.in-Ok.ensures.leaves.reads
      c.in-Err-check.ensures.reads.cause c.in-Err-check.ensures.reads.only.faults;
  refused = search rules;
}

pub returns-clause-verdict : goal.returns-clause-verdict
returns-clause-verdict g c = λ models.
    let h = view_of c.args.image.now.header in
    subst (λ x. IsVerdict x h c.in-Ok-check.verdict) (c.in-Ok.ensures.leaves.content models)
    (c.in-Ok-check.ensures.verdict models)

pub returns-clause-lines : goal.returns-clause-lines
returns-clause-lines g c = λ models. record {
  verdict = c.in-Ok-check.verdict;
  checked = returns-clause-verdict g c models;
  holds = all_printed _ _ _ _ c.put_kind.ensures c.section_lines.ensures (c.in-Ok.ensures.lines models)
      c.header_lines.ensures c.put_check.ensures;
}

pub returns-clause-begun : goal.returns-clause-begun
returns-clause-begun g c = λ models v right.
    let h = view_of c.args.image.now.header in
    let x = g.S.Source.content c.args.source.now in
    let same = same_verdict x h c.in-Ok-check.verdict v (returns-clause-verdict g c models) right in
    front_exactly _ _ _ _ _ (all_printed c.args.notation x h v c.put_kind.ensures c.section_lines.ensures
    (c.in-Ok.ensures.lines models) c.header_lines.ensures
    (as_text (ap (λ u. line (check_text u)) same) c.put_check.ensures))

pub returns-clause-leaves : goal.returns-clause-leaves
returns-clause-leaves g c = record {
  content = search rules;
  prints = (
    _,
    c.put_kind.ensures ▸ c.section_lines.ensures ▸ c.fragment_lines.ensures.leaves.prints.1
        ▸ c.header_lines.ensures ▸ c.put_check.ensures,
  );
  told = search rules;
  reads = search rules;
  refused = search rules;
}
