use Rattle.std.proofs.Common.{◌≡◌, ◌≤◌, suc, ◌+◌, [], ◌++◌, IsTrue, subst, refl, ap, ◌∙◌, arith, rules}
use Rattle.abt_sections.specs.Header.{entry_of, fragment_count, view_of}
use Rattle.cmd_common_texts.specs.Info.{fragment_lines, fragment_text, line}
use Rattle.sys_text.specs.Printed.{Prints}
use Rattle.cmd_common_texts.proofs.Informing.{front_of_fragments, reading_told}
use Rattle.sys_text.proofs.Printing.{◌▸◌, as_text, printed_none}
use Rattle.cmd_common_texts.proofs.info.fragment_lines.Goals as goal

pub loop-i-init : goal.loop-i-init
loop-i-init g c = record {
  faults = refl;
  prints = ([], printed_none _ _ _);
  lines = λ models. (refl, printed_none _ _ _);
}

pub loop-i-preserved : goal.loop-i-preserved
loop-i-preserved g c =
    let x = g.S.Source.content c.args.source.now in
    let h = view_of c.args.image.now.header in
    let i = c.loop-i.i in
    let found = c.in-Ok.ensures in
    let risen = c.loop-i.invariant.faults in
    record {
      faults = found.reads.only.clean ∙ risen;
      prints = (
        c.loop-i.invariant.prints.0 ++ line (fragment_text c.args.notation i c.in-Ok.entry),
        c.loop-i.invariant.prints.1 ▸ c.put_fragment.ensures,
      );
      lines = λ models.
          let before = c.loop-i.invariant.lines models in
          let entry : c.in-Ok.entry ≡ entry_of x h i = found.entry models ∙ ap (λ y. entry_of y h i) before.0 in
          let next : suc i ≡ i + 1 = omega arith in
          let all : Prints g.O.Output.written g.O.Output.write_faults c.args.text.now c.put_fragment.new.text
          (fragment_lines c.args.notation x h (suc i))
          = before.1 ▸ as_text (ap (λ e. line (fragment_text c.args.notation i e)) entry) c.put_fragment.ensures in (
            found.reads.only.content models ∙ before.0,
            subst
                (λ k. Prints g.O.Output.written g.O.Output.write_faults c.args.text.now c.put_fragment.new.text
                (fragment_lines c.args.notation x h k)) next all,
          );
    }

pub returns-in-Err-clause-begun : goal.returns-in-Err-clause-begun
returns-in-Err-clause-begun g c = λ models.
    let h = view_of c.args.image.now.header in
    let within : c.loop-i.i ≤ fragment_count h = search (rules, arith) in
    front_of_fragments c.args.notation (g.S.Source.content c.args.source.now) h c.loop-i.i (fragment_count h) within
    (c.loop-i.invariant.lines models).1

pub returns-in-Err-is_whole-clause-begun : goal.returns-in-Err-is_whole-clause-begun
returns-in-Err-is_whole-clause-begun g c = λ models.
    let x = g.S.Source.content c.args.source.now in
    let h = view_of c.args.image.now.header in
    let i = c.loop-i.i in
    let before = c.loop-i.invariant.lines models in
    let entry : c.in-Ok.entry ≡ entry_of x h i = c.in-Ok.ensures.entry models ∙ ap (λ y. entry_of y h i) before.0 in
    let within : suc i ≤ fragment_count h = search (rules, arith) in
    front_of_fragments c.args.notation x h (suc i) (fragment_count h) within
    (before.1 ▸ as_text (ap (λ e. line (fragment_text c.args.notation i e)) entry) c.put_fragment.ensures)

pub returns-in-Err-clause-leaves : goal.returns-in-Err-clause-leaves
returns-in-Err-clause-leaves g c = record {
  content = search rules;
  prints = search rules;
  told = search rules;
  reads = reading_told c.in-Err.fault _ _ _ _ c.loop-i.invariant.faults
      c.in-Err.ensures.reads.cause c.in-Err.ensures.reads.only.faults;
  refused = search rules;
}

pub returns-in-Err-is_whole-clause-leaves : goal.returns-in-Err-is_whole-clause-leaves
returns-in-Err-is_whole-clause-leaves g c = record {
  content = search rules;
  prints = (_, c.loop-i.invariant.prints.1 ▸ c.put_fragment.ensures);
  told = search rules;
  reads = omega (arith, c.loop-i.invariant.faults, c.in-Ok.ensures.reads.only.clean);
  refused = search rules;
}

pub returns : goal.returns
returns g c =
    let x = g.S.Source.content c.args.source.now in
    let h = view_of c.args.image.now.header in
    let n = fragment_count h in
    let o = c.args.notation in
    let i = c.loop-i.invariant in
    let end : c.loop-i.i ≡ n = search (rules, arith) in
    let all : IsTrue g.S.Source.models → Prints g.O.Output.written g.O.Output.write_faults c.args.text.now
    c.loop-i.text (fragment_lines o x h n)
    = λ models. subst
    (λ k. Prints g.O.Output.written g.O.Output.write_faults c.args.text.now c.loop-i.text (fragment_lines o x h k))
    end (i.lines models).1 in
    record {
      leaves = record {
        content = λ models. (i.lines models).0;
        prints = i.prints;
        told = tt;
        reads = i.faults;
        refused = λ models opened. tt;
      };
      lines = all;
      begun = λ models. front_of_fragments o x h n n (omega arith) (all models);
    }
