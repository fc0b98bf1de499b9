use Rattle.std.proofs.Common.{arith}
use Rattle.abt_io.proofs.Lent.{reads_none, reads_ok, reads_then, writes_err, writes_ok}
use Rattle.abt_sections.proofs.MoreExits.{reads_alone}
use Rattle.abt_sections.proofs.PackExits.{grows_none}
use Rattle.abt_sections.proofs.moving.move_step.Goals as goal

-- the bytes are not read
pub returns-in-Err : goal.returns-in-Err
returns-in-Err g c =
    let e = c.in-Err.ensures in
    record {
      moves = reads_alone g.O.Output c.args.output.now e.reads;
      once = e.given;
      present = λ models. tt;
      written = λ models. tt;
      hashed = λ wanted models. tt;
      bytes = record { grown = grows_none (g.O.Output.written c.args.output.now); most = omega arith; all = tt };
    }

pub returns-in-Ok-done-clause-moves : goal.returns-in-Ok-done-clause-moves
returns-in-Ok-done-clause-moves g c = record {
  reads = reads_ok _ c.in-Ok.ensures.reads.only;
  writes = writes_ok _ c.in-Ok-done.ensures.writes;
  cause = tt;
}

pub returns-in-Err-done-clause-moves : goal.returns-in-Err-done-clause-moves
returns-in-Err-done-clause-moves g c = record {
  reads = reads_then c.in-Ok.ensures.reads.only (reads_none _ _ _);
  writes = writes_err _ c.in-Err-done.ensures.writes;
  cause = c.in-Err-done.ensures.cause;
}
