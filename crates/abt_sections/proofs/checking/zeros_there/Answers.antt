use Rattle.std.proofs.Common.{arith, ap, length, sym, refl, ◌∙◌}
use Rattle.abt_io.proofs.Lent.{reads_ok, reads_then}
use Rattle.abt_sections.proofs.Refusals.{reads_on}
use Rattle.abt_sections.proofs.Zeros.{more_zeros, not_zeros}
use Rattle.abt_sections.proofs.checking.zeros_there.Goals as goal

pub returns-then-not-zero : goal.returns-then-not-zero
returns-then-not-zero g c =
    let e = c.in-Ok.ensures in
    let v = c.loop-done.invariant in
    let ask = c.next_ask-ask.result in
    record {
      found = record {
        reads = record { only = reads_ok _ (reads_then v.reads e.reads.only); cause = tt; failed = refl };
        value = λ models. not_zeros _ _ c.args.at c.loop-done.done ask c.args.n c.part.result.now
            (v.reads.content models) (c.part.ensures.value ∙ e.bytes models) (v.zeros models)
            (sym c.all_zero-zero.ensures ∙ c.if-not-zero.true) (omega arith);
      };
    }

pub loop-done-preserved : goal.loop-done-preserved
loop-done-preserved g c =
    let e = c.in-Ok.ensures in
    let v = c.loop-done.invariant in
    let ask = c.next_ask-ask.result in
    record {
      within = omega arith;
      reads = reads_ok tt (reads_then v.reads e.reads.only);
      zeros = λ models.
          more_zeros _ _ c.args.at c.loop-done.done ask c.part.result.now (v.reads.content models)
          (c.part.ensures.value ∙ e.bytes models) (v.zeros models) (sym c.all_zero-zero.ensures ∙ c.if-not-zero.false);
    }

pub returns-in-Err : goal.returns-in-Err
returns-in-Err g c =
    let v = c.loop-done.invariant in
    record {
      found = record {
        reads = reads_on v.reads c.in-Err.ensures.reads (λ changed models. changed models (λ some. omega (
          arith,
          c.length-length.ensures.told models,
          ap length (v.reads.content models),
          c.next_ask-ask.ensures.within,
        )));
        value = λ models. tt;
      };
    }
