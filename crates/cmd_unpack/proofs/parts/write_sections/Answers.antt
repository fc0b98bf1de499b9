use Rattle.std.proofs.Common.{◌≤◌, ◌+◌, refl, sym, subst, arith, rules}
use Rattle.abt_sections.specs.Open.{IsOpened}
use Rattle.sys_disk.proofs.Amongs.{goes_more, goes_then}
use Rattle.cmd_common_boot.proofs.Causes.{refused_more}
use Rattle.cmd_unpack.proofs.Counts.{some_then}
use Rattle.cmd_unpack.proofs.Loops.{no_sections, section_any, section_under, sections_later, sections_more}
use Rattle.cmd_unpack.proofs.Shown.{cannot_behind, rises_then, section_shown, silent}
use Rattle.cmd_unpack.proofs.UnpackSteps.{parts_more, parts_none, parts_then, stop_more, stop_then}
use Rattle.cmd_unpack.proofs.parts.write_sections.Goals as goal

pub loop-i-init : goal.loop-i-init
loop-i-init g c = record {
  shown = λ t. silent c.args.report.now;
  rises = omega arith;
  told = λ t. (parts_none (c.requires.one t), no_sections _ _ _ _ _);
}

pub loop-i-preserved : goal.loop-i-preserved
loop-i-preserved g c =
    let under : c.loop-i.i ≤ c.loop-i.i + 1 = omega arith in
    record {
      shown = λ t. section_shown _ _ _ c.args.report.now c.loop-i.report c.write_section.new.report
          (search (rules, arith)) (c.loop-i.invariant.shown t) (c.in-Ok.ensures.shown t);
      rises = rises_then c.args.report.now c.loop-i.report c.write_section.new.report c.loop-i.invariant.rises
          c.in-Ok.ensures.rises;
      told = λ t.
          let i = c.loop-i.invariant.told t in
          let e = c.in-Ok.ensures.writes t in (
            parts_then (parts_more refl (section_under under) i.0) (parts_more refl (λ p named. named) e),
            sections_more _ _ _ _ _ _ _ _ _ i.0.content e.keeps i.1 (c.in-Ok.ensures.done t),
          );
    }

pub returns-in-Err : goal.returns-in-Err
returns-in-Err g c = record {
  writes = λ t.
      stop_then (parts_more refl section_any (c.loop-i.invariant.told t).0)
      (stop_more section_any (c.in-Err.ensures.writes t));
  done = λ t. tt;
  stands = λ t.
      let i = c.loop-i.invariant.told t in
      let e = c.in-Err.ensures.writes t in
      let under : c.loop-i.i ≤ c.loop-i.i + 1 = omega arith in (
        c.loop-i.i,
        c.in-Err.ensures.told_of_part,
        sections_later _ _ _ _ _ _ _ _ e.keeps i.1,
        goes_then _ _ _ _ _ _ _ (goes_more _ _ _ _ _ _ (section_under under) i.0.only) e.only,
      );
  shown = λ t. tt;
  rises = tt;
  refused = λ t opened.
      let i = c.loop-i.invariant.told t in
      refused_more _ _ _ _ _ _ c.in-Err.refusal.fault i.0.content
      (c.in-Err.ensures.refused t (subst (λ x. IsOpened x c.args.image.now) (sym i.0.content) opened))
      (λ cause failed. some_then _ _ _ _ _ _ i.0.clean cause failed)
      (λ stands. (
        c.loop-i.i,
        search (rules, arith),
        sections_more _ _ _ _ _ _ _ _ _ i.0.content (c.in-Err.ensures.writes t).keeps i.1 stands.0,
        cannot_behind c.args.report.now c.loop-i.report c.write_section.new.report c.loop-i.invariant.rises stands.1,
      ));
  told_of = c.in-Err.ensures.told_of;
}

pub returns-clause-done : goal.returns-clause-done
returns-clause-done g c = λ t k below.
    (c.loop-i.invariant.told t).1 k (omega (arith, below, c.sections-i-end.ensures.value, c.loop-i-test.false))

pub returns-clause-writes : goal.returns-clause-writes
returns-clause-writes g c = λ t. parts_more (search (rules, arith)) section_any (c.loop-i.invariant.told t).0
