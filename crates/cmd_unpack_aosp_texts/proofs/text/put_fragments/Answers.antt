use Rattle.std.proofs.Common.{◌≡◌, [], ◌++◌, suc, ◌+◌, sym, subst, refl, ap, ◌∙◌, arith, rules}
use Rattle.abt_sections.specs.Header.{entry_of, view_of}
use Rattle.abt_sections.specs.Open.{IsOpened}
use Rattle.sys_text.specs.Printed.{Prints}
use Rattle.sys_text.proofs.Printing.{◌▸◌, as_text, printed_none}
use Rattle.cmd_common_texts.proofs.Informing.{reading_told}
use Rattle.cmd_common_texts.proofs.Refusing.{read_refuses}
use Rattle.cmd_unpack_aosp_texts.specs.Texts.{fragment_part, fragment_texts}
use Rattle.cmd_unpack_aosp_texts.proofs.text.put_fragments.Goals as goal

pub loop-i-init : goal.loop-i-init
loop-i-init g c = record {
  faults = refl;
  prints = ([], printed_none _ _ _);
  lines = λ models. (refl, printed_none _ _ _);
}

pub loop-i-preserved : goal.loop-i-preserved
loop-i-preserved g c =
    let x = g.S.Source.content c.args.source.now in
    let h = view_of c.args.image.now.header in
    let which = c.args.which in
    let folder = c.args.folder.now in
    let i = c.loop-i.i in
    let found = c.in-Ok-fragment.ensures in
    record {
      faults = found.reads.only.clean ∙ c.loop-i.invariant.faults;
      prints = (
        c.loop-i.invariant.prints.0 ++ fragment_part which folder i c.in-Ok-fragment.entry,
        c.loop-i.invariant.prints.1 ▸ c.put_entry.ensures,
      );
      lines = λ models.
          let before = c.loop-i.invariant.lines models in
          let entry : c.in-Ok-fragment.entry ≡ entry_of x h i = found.entry models
          ∙ ap (λ y. entry_of y h i) before.0 in
          let next : suc i ≡ i + 1 = omega arith in
          let all : Prints g.O.Output.written g.O.Output.write_faults c.args.text.now c.put_entry.new.text
          (fragment_texts which folder x h (suc i))
          = before.1 ▸ as_text (ap (fragment_part which folder i) entry) c.put_entry.ensures in (
            found.reads.only.content models ∙ before.0,
            subst
                (λ k. Prints g.O.Output.written g.O.Output.write_faults c.args.text.now c.put_entry.new.text
                (fragment_texts which folder x h k)) next all,
          );
    }

pub returns-in-Err-fragment-clause-leaves : goal.returns-in-Err-fragment-clause-leaves
returns-in-Err-fragment-clause-leaves g c = record {
  content = search rules;
  prints = search rules;
  told = search rules;
  reads = reading_told c.in-Err-fragment.fault _ _ _ _ c.loop-i.invariant.faults
      c.in-Err-fragment.ensures.reads.cause c.in-Err-fragment.ensures.reads.only.faults;
  refused = λ models opened.
      let before = (c.loop-i.invariant.lines models).0 in
      let now = subst (λ x. IsOpened x c.args.image.now) (sym before) opened in
      read_refuses c.in-Err-fragment.fault _ _ _ _ (omega (arith, c.loop-i.invariant.faults))
      c.in-Err-fragment.ensures.reads.cause (λ changed. changed models now);
}
