use Rattle.std.proofs.Common.{◌≤◌, ◌+◌, refl, sym, subst, arith, rules}
use Rattle.abt_sections.specs.Open.{IsOpened}
use Rattle.cmd_unpack.proofs.Counts.{some_then}
use Rattle.cmd_unpack.proofs.UnpackSteps.{parts_more, parts_none, parts_then, stop_more, stop_then}
use Rattle.cmd_unpack_aosp.proofs.Files.{files_more, no_files, part_more, path_any, path_under}
use Rattle.cmd_unpack_aosp.proofs.unpack.write_files.Goals as goal

pub loop-i-init : goal.loop-i-init
loop-i-init g c = λ t. ((0, parts_none (c.requires.one t)), no_files _ _ _ _ _)

pub loop-i-preserved : goal.loop-i-preserved
loop-i-preserved g c = λ t.
    let i = c.loop-i.invariant t in
    let e = (c.in-Ok.ensures.writes t).1 in
    let under : c.loop-i.i ≤ c.loop-i.i + 1 = omega arith in (
      (_, parts_then (parts_more refl (path_under under) i.0.1) (parts_more refl (λ p named. named) e)),
      files_more _ _ _ _ _ _ _ _ _ i.0.1.content e.keeps i.1 (c.in-Ok.ensures.done t),
    )

pub returns-in-Err : goal.returns-in-Err
returns-in-Err g c = record {
  writes = λ t. (
    0,
    stop_then (parts_more refl path_any (c.loop-i.invariant t).0.1) (stop_more path_any
        (c.in-Err.ensures.writes t).1),
  );
  done = λ t. tt;
  refused = λ t opened.
      let i = c.loop-i.invariant t in
      part_more _ _ _ _ _ c.in-Err.refusal.fault i.0.1.content
      (c.in-Err.ensures.refused t (subst (λ x. IsOpened x c.args.image.now) (sym i.0.1.content) opened))
      (λ cause failed. some_then _ _ _ _ _ _ i.0.1.clean cause failed);
}

pub returns : goal.returns
returns g c = record {
  writes = λ t. ((c.loop-i.invariant t).0.0, parts_more refl path_any (c.loop-i.invariant t).0.1);
  done = λ t k below. (c.loop-i.invariant t).1 k (search (rules, arith));
  refused = λ t opened. tt;
}
