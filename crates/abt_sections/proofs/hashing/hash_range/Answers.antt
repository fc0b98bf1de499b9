use Rattle.std.proofs.Common.{arith, ap, length}
use Rattle.abt_io.proofs.Lent.{reads_then}
use Rattle.abt_sections.proofs.Digests.{hashed_next}
use Rattle.abt_sections.proofs.hashing.hash_range.Goals as goal

pub loop-at-preserved : goal.loop-at-preserved
loop-at-preserved g c =
    let e = c.in-Ok.ensures in
    let i = c.loop-at.invariant in
    let k = c.next_ask-ask.ensures in
    record {
      within = omega arith;
      reads = reads_then i.reads e.reads.only;
      present = λ models h. omega (arith, e.present models (k.some (omega arith)), ap length (i.reads.content models));
      hashed = λ models t h. hashed_next _ _ _ t c.args.from c.loop-at.at c.next_ask-ask.result (i.reads.content models)
          (rw (c.part.ensures.value, e.bytes models) at (c.update.ensures _ (i.hashed models t h)));
    }
