use Rattle.std.proofs.Common.{◌≡◌, ◌≤◌, ◌+◌, ◌-◌, ap, ◌∙◌, arith, rules, length, take, drop}
use Rattle.abt_io.proofs.Lent.{reads_ok, reads_then}
use Rattle.cmd_common_findings.specs.LeftOut.{set_in}
use Rattle.cmd_common_findings.proofs.Counts.{counted_all, counted_on}
use Rattle.cmd_common_findings.proofs.set_bytes.set_between.Goals as goal

pub returns-then-seen-ask-clause-finds : goal.returns-then-seen-ask-clause-finds
returns-then-seen-ask-clause-finds g c = record {
  reads = search rules;
  value = λ models.
      let v = c.loop-done.invariant in
      let e = c.in-Ok.ensures in
      let is = e.finds.value models in
      let x = g.S.Source.content c.args.source.now in
      let from = c.args.from in
      let done = c.loop-done.done in
      let came = c.in-Ok.seen.came in
      let same = v.reads.content models in
      let ended : length x - from ≤ done + came = omega (arith, is.0, ap length same, c.if-seen-ask.true) in
      let within : done + came ≤ c.args.end - from = omega
      (arith, e.few.1, c.min-ask.ensures, c.saturating_sub-all.ensures, v.within, c.loop-done-test.true) in
      ap (λ k. k + c.in-Ok.seen.set) (v.value models) ∙ counted_on x _ from done came _ same is.1
      ∙ counted_all x from (done + came) (c.args.end - from) within ended;
}

pub loop-done-preserved : goal.loop-done-preserved
loop-done-preserved g c =
    let v = c.loop-done.invariant in
    let e = c.in-Ok.ensures in
    let from = c.args.from in
    let done = c.loop-done.done in
    let came = c.in-Ok.seen.came in
    let ask = c.min-ask.result in
    let full : came ≡ ask = omega (arith, e.few.1, c.if-seen-ask.false) in
    record {
      within = omega (arith, c.min-ask.ensures, v.within, c.loop-done-test.true);
      reads = reads_ok tt (reads_then v.reads e.finds.reads.only);
      few = omega (arith, e.few.0, e.few.1, v.few);
      value = λ models.
          let x = g.S.Source.content c.args.source.now in
          ap (λ k. k + c.in-Ok.seen.set) (v.value models)
          ∙ counted_on x _ from done came _ (v.reads.content models) (e.finds.value models).1
          ∙ ap (λ k. set_in (take (done + k) (drop from x))) full;
    }
