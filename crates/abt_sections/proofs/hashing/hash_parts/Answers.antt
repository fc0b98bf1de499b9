use Rattle.std.proofs.Common.{arith, length-set}
use Rattle.abt_sections.proofs.Digests.{hash_next, id_is}
use Rattle.abt_sections.proofs.MoreExits.{reads_part}
use Rattle.abt_sections.proofs.Parts.{all_part, next_part, part_size}
use Rattle.abt_sections.proofs.hashing.hash_parts.Goals as goal

pub loop-i-preserved : goal.loop-i-preserved
loop-i-preserved g c =
    let s = g.S.Source in
    let v = c.loop-i.invariant in
    let ps = c.loop-i.parts in
    let d = c.index-parts-i.result in
    let e = c.in-Ok.ensures in
    record {
      long = simp length-set v.long;
      reads = all_part s _ ps c.loop-i.i d c.hash_part.new.part (omega arith) v.reads e.reads.only;
      hashed = λ models. hash_next _ _ _
          (next_part s.content ps c.args.parts.now c.loop-i.i d (v.reads.content models) (omega arith))
          (e.hashed models _ (v.hashed models));
    }

pub returns-in-Err-clause-reads : goal.returns-in-Err-clause-reads
returns-in-Err-clause-reads g c =
    let v = c.loop-i.invariant in
    let ps = c.loop-i.parts in
    let i = c.loop-i.i in
    let d = c.index-parts-i.result in
    reads_part ps i d _ (omega arith) v.reads c.in-Err.ensures.reads
    (λ changed models same. changed models
    (part_size g.S.Source.size ps c.args.parts.now i d c.args.sizes.now (v.reads.size models) same (omega arith)))

pub returns-clause-id : goal.returns-clause-id
returns-clause-id g c = λ models.
    id_is g.S.Source.content c.args.parts.now c.loop-i.i c.finalize-digest.result c.id_field.result (omega arith)
    (c.finalize-digest.ensures _ (c.loop-i.invariant.hashed models)) c.id_field.ensures
