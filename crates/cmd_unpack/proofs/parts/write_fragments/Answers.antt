use Rattle.std.proofs.Common.{◌≡◌, ◌≤◌, ◌+◌, refl, sym, subst, arith, rules}
use Rattle.abt_sections.specs.Header.{fragment_count, view_of}
use Rattle.abt_sections.specs.Open.{IsOpened}
use Rattle.sys_disk.proofs.Amongs.{goes_more, goes_then}
use Rattle.cmd_common_boot.proofs.Causes.{refused_more}
use Rattle.cmd_unpack.specs.Lines.{ShowsEach, told_fragments}
use Rattle.cmd_unpack.specs.Unpacking.{path_of_part}
use Rattle.cmd_unpack.proofs.Counts.{some_then}
use Rattle.cmd_unpack.proofs.Loops.{fragment_any, fragment_under, fragments_later, fragments_more, no_fragments}
use Rattle.cmd_unpack.proofs.Shown.{cannot_behind, fragment_shown, rises_then, silent}
use Rattle.cmd_unpack.proofs.UnpackSteps.{parts_more, parts_none, parts_then, stop_more, stop_then}
use Rattle.cmd_unpack.proofs.parts.write_fragments.Goals as goal

pub loop-i-init : goal.loop-i-init
loop-i-init g c = λ t. (parts_none (c.requires.one t), no_fragments _ _ _ _ _, silent c.args.report.now, omega arith)

pub loop-i-preserved : goal.loop-i-preserved
loop-i-preserved g c = λ t.
    let i = c.loop-i.invariant t in
    let e = c.in-Ok.ensures.writes t in
    let under : c.loop-i.i ≤ c.loop-i.i + 1 = omega arith in (
      parts_then (parts_more refl (fragment_under under) i.0) (parts_more refl (λ p named. named) e),
      fragments_more _ _ _ _ _ _ _ _ _ i.0.content e.keeps i.1 (c.in-Ok.ensures.done t),
      fragment_shown _ _ _ _ _ c.args.report.now c.loop-i.report c.write_fragment.new.report i.0.content i.2
          (c.in-Ok.ensures.shown t),
      rises_then c.args.report.now c.loop-i.report c.write_fragment.new.report i.3 c.in-Ok.ensures.rises,
    )

pub returns-in-Err : goal.returns-in-Err
returns-in-Err g c = record {
  writes = λ t.
      stop_then (parts_more refl fragment_any (c.loop-i.invariant t).0)
      (stop_more fragment_any (c.in-Err.ensures.writes t));
  done = λ t. tt;
  stands = λ t.
      let i = c.loop-i.invariant t in
      let e = c.in-Err.ensures.writes t in
      let under : c.loop-i.i ≤ c.loop-i.i + 1 = omega arith in (
        c.loop-i.i,
        c.in-Err.ensures.told_of_part,
        fragments_later _ _ _ _ _ _ _ _ e.keeps i.1,
        goes_then _ _ _ _ _ _ _ (goes_more _ _ _ _ _ _ (fragment_under under) i.0.only) e.only,
      );
  shown = λ t. tt;
  rises = λ t. tt;
  refused = λ t opened.
      let i = c.loop-i.invariant t in
      refused_more _ _ _ _ _ _ c.in-Err.refusal.fault i.0.content
      (c.in-Err.ensures.refused t (subst (λ x. IsOpened x c.args.image.now) (sym i.0.content) opened))
      (λ cause failed. some_then _ _ _ _ _ _ i.0.clean cause failed)
      (λ stands. (
        c.loop-i.i,
        search (rules, arith),
        fragments_more _ _ _ _ _ _ _ _ _ i.0.content (c.in-Err.ensures.writes t).keeps i.1 stands.0,
        cannot_behind c.args.report.now c.loop-i.report c.write_fragment.new.report i.3 stands.1,
      ));
  told_of = c.in-Err.ensures.told_of;
}

pub returns-clause-done : goal.returns-clause-done
returns-clause-done g c = λ t k below.
    (c.loop-i.invariant t).1 k (omega (arith, below, c.fragments-i-end.ensures, c.loop-i-test.false))

pub returns-clause-writes : goal.returns-clause-writes
returns-clause-writes g c = λ t. parts_more (search (rules, arith)) fragment_any (c.loop-i.invariant t).0

pub returns-clause-shown : goal.returns-clause-shown
returns-clause-shown g c = λ t.
    let same : c.loop-i.i ≡ fragment_count (view_of c.args.image.now.header) = search (rules, arith) in
    subst (λ n. ShowsEach (λ part. g.D.Disk.on_output (path_of_part c.args.folder.now part))
    (told_fragments (g.D.At.Source.content c.args.source.now) (view_of c.args.image.now.header) n) c.args.report.now
    c.loop-i.report) same (c.loop-i.invariant t).2
