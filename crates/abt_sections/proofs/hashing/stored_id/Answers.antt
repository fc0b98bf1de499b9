use Rattle.std.proofs.Common.{arith, ap, length}
use Rattle.abt_io.proofs.Lent.{reads_then}
use Rattle.abt_sections.specs.Layout.{part_of}
use Rattle.abt_sections.proofs.Digests.{hash_stored, id_is}
use Rattle.abt_sections.proofs.Refusals.{reads_on}
use Rattle.abt_sections.proofs.Tables.{place_there}
use Rattle.abt_sections.proofs.hashing.stored_id.Goals as goal

pub loop-i-preserved : goal.loop-i-preserved
loop-i-preserved g c =
    let i = c.loop-i.invariant in
    let e = c.in-Ok.ensures in
    record {
      reads = reads_then i.reads e.reads.only;
      hashed = λ models.
          hash_stored c.hash_size.new.hasher _ _ c.args.sections.now c.loop-i.i c.place-place.result
          (i.reads.content models) (omega arith) c.place-place.ensures (e.present models)
          (c.hash_size.ensures _ (e.hashed models _ (i.hashed models)));
    }

pub returns-clause-id : goal.returns-clause-id
returns-clause-id g c = λ models.
    let x = g.S.Source.content c.args.source.now in
    id_is (part_of x) c.args.sections.now c.loop-i.i c.finalize-digest.result c.id_field.result (omega arith)
    (c.finalize-digest.ensures _ (c.loop-i.invariant.hashed models)) c.id_field.ensures

pub returns-in-Err-clause-reads : goal.returns-in-Err-clause-reads
returns-in-Err-clause-reads g c =
    let v = c.loop-i.invariant.reads in
    let p = c.place-place.result in
    let x = g.S.Source.content c.args.source.now in
    reads_on v c.in-Err.ensures.reads (λ changed models there. changed models (λ some. omega (
      arith,
      place_there c.args.sections.now (length x) c.loop-i.i p there (omega arith) c.place-place.ensures some,
      ap length (v.content models),
    )))
