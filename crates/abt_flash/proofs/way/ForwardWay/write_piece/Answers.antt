use Rattle.std.proofs.Common.{arith}
use Rattle.abt_flash.proofs.Spooled.{begins_front}
use Rattle.abt_flash.proofs.way.ForwardWay.write_piece.Goals as goal
use Rattle.abt_io.proofs.Lent.{reads_err, reads_ok, writes_ok, writes_err}

pub returns-in-Err-clause-begins : goal.returns-in-Err-clause-begins
returns-in-Err-clause-begins g c forward models =
    rw c.requires.between at (begins_front _ _ _ _ (c.next_piece.ensures.front models))

pub returns-in-Ok-Some-clause-made : goal.returns-in-Ok-Some-clause-made
returns-in-Ok-Some-clause-made g c =
    let e = c.next_piece.ensures in
    let p = rw c.in-Ok-Some.field-0-is at c.in-Ok-Some.ensures.made in
    record {
      image = p.image;
      piece = p.piece;
      words = omega (arith, p.words, e.costs.given, e.writes.least);
      takes = omega (arith, p.takes, p.long);
    }

pub returns-in-Err-clause-source : goal.returns-in-Err-clause-source
returns-in-Err-clause-source g c = reads_err _ c.in-Err.ensures.left.reads

pub returns-in-Ok-Some-clause-source : goal.returns-in-Ok-Some-clause-source
returns-in-Ok-Some-clause-source g c = reads_ok _ c.in-Ok-Some.ensures.left.reads

pub returns-in-Err-clause-writes : goal.returns-in-Err-clause-writes
returns-in-Err-clause-writes g c = writes_err _ (rw c.requires.between at c.in-Err.ensures.writes)

pub returns-in-Ok-Some-clause-writes : goal.returns-in-Ok-Some-clause-writes
returns-in-Ok-Some-clause-writes g c = writes_ok _ (rw c.requires.between at c.in-Ok-Some.ensures.writes)

pub next_piece-requires-clause-ready : goal.next_piece-requires-clause-ready
next_piece-requires-clause-ready g c = c.requires.ready
