use Rattle.std.proofs.Common.{arith, ap, length}
use Rattle.abt_io.proofs.Lent.{reads_then, writes_then}
use Rattle.abt_sections.proofs.Digests.{hashed_front}
use Rattle.abt_sections.proofs.Growing.{grows_on, written_next}
use Rattle.abt_sections.proofs.MoreExits.{moves_after}
use Rattle.abt_sections.proofs.Refusals.{moves_on}
use Rattle.abt_sections.proofs.moving.move_bytes.Goals as goal

pub loop-at-preserved : goal.loop-at-preserved
loop-at-preserved g c =
    let e = c.in-Ok.ensures in
    let i = c.loop-at.invariant in
    let k = c.next_ask-ask.ensures in
    let s = g.S.Source in
    let o = g.O.Output in
    record {
      within = omega arith;
      reads = reads_then i.reads e.moves.reads;
      once = omega (arith, e.once, i.once);
      present = λ models. omega (arith, e.present models (k.some (omega arith)), ap length (i.reads.content models));
      written = λ models. written_next _ _ _ _ _ c.loop-at.at c.next_ask-ask.result (i.reads.content models)
          (i.written models) (e.written models);
      hashed = λ wanted models t h. hashed_front _ _ _ t c.loop-at.at c.next_ask-ask.result (i.reads.content models)
          (e.hashed wanted models _ (i.hashed wanted models t h));
      grown = grows_on _ _ _ i.grown e.bytes.grown (omega (arith, i.all));
      all = omega (arith, e.bytes.all, i.all);
      writes = writes_then i.writes e.moves.writes;
    }

pub returns-in-Err-clause-bytes : goal.returns-in-Err-clause-bytes
returns-in-Err-clause-bytes g c =
    let i = c.loop-at.invariant in
    let e = c.in-Err.ensures.bytes in
    record {
      grown = grows_on _ _ _ i.grown e.grown (omega (arith, i.all));
      most = omega (arith, i.all, e.most, c.next_ask-ask.ensures.within);
      all = tt;
    }

pub returns-in-Err-clause-moves : goal.returns-in-Err-clause-moves
returns-in-Err-clause-moves g c =
    let i = c.loop-at.invariant in
    moves_after i.writes (moves_on i.reads c.in-Err.ensures.moves (λ changed models there. changed models (λ some. omega
    (arith, there, c.next_ask-ask.ensures.within, ap length (i.reads.content models))))) (λ changed. changed)
