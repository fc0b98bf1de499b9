use Rattle.std.proofs.Common.{rules, arith}
use Rattle.abt_io.proofs.Lent.{reads_ok, reads_then}
use Rattle.cmd_common_findings.proofs.LeadingZeros.{goes_on, stops}
use Rattle.cmd_common_findings.proofs.set_bytes.first_set.Goals as goal

pub returns-then-zeros-ask : goal.returns-then-zeros-ask
returns-then-zeros-ask g c =
    let e = c.in-Ok.ensures in
    let v = c.loop-done.invariant in
    record {
      finds = record {
        reads = search rules;
        value = λ models.
            stops _ _ c.args.from c.loop-done.done c.min-ask.result c.args.all c.in-Ok.zeros (v.reads.content models)
            (omega (arith, c.min-ask.ensures, v.within, c.loop-done-test.true)) (v.zeros models) (e.finds.value models)
            (omega (arith, c.if-zeros-ask.true));
      };
    }

pub loop-done-preserved : goal.loop-done-preserved
loop-done-preserved g c =
    let e = c.in-Ok.ensures in
    let v = c.loop-done.invariant in
    record {
      within = omega (arith, c.min-ask.ensures, v.within, c.loop-done-test.true);
      reads = reads_ok tt (reads_then v.reads e.finds.reads.only);
      zeros = λ models.
          goes_on _ _ c.args.from c.loop-done.done c.min-ask.result c.in-Ok.zeros (v.reads.content models)
          (v.zeros models) (e.finds.value models) (omega (arith, e.few, c.if-zeros-ask.false));
    }
