use Rattle.std.proofs.Common.{◌∙◌, arith}
use Rattle.abt_io.proofs.Lent.{reads_none, reads_then, writes_none, writes_then}
use Rattle.abt_sections.proofs.MoreExits.{copy_refused}
use Rattle.abt_sections.proofs.PackExits.{begins_none, grows_none}
use Rattle.abt_sections.proofs.write_padded.write_bytes.Goals as goal

-- the part has another size
pub returns-then-length-size : goal.returns-then-length-size
returns-then-length-size g c = record {
  part = record {
    moves = record {
      reads = reads_none _ g.S.Source c.args.part.now;
      writes = writes_none _ g.O.Output c.args.output.now;
      cause = λ models same. c.if-length-size.true (c.length.ensures.size ∙ same);
    };
    written = λ models. tt;
    bytes = record { grown = grows_none (g.O.Output.written c.args.output.now); most = omega arith; all = tt };
    lasting = tt;
  };
  front = λ models. begins_none _ _;
  sized = λ models. tt;
}

-- the copy is refused
pub returns-in-Err-clause-part : goal.returns-in-Err-clause-part
returns-in-Err-clause-part g c =
    let e = c.in-Err.ensures in
    record {
      moves = rw c.of_copy.ensures (copy_refused c.in-Err.fault e.reads e.writes e.cause
          (λ short models same. absurd (omega
          (arith, short models, same, g.met.S.Source.sized c.args.part.now models))));
      written = λ models. tt;
      bytes = record { grown = e.grown; most = e.most; all = tt };
      lasting = tt;
    }

-- the part has another size after the copy
pub returns-then-last-size-clause-part : goal.returns-then-last-size-clause-part
returns-then-last-size-clause-part g c =
    let e = c.in-Ok.ensures in
    record {
      moves = record {
        reads = reads_then e.reads (reads_none _ _ _);
        writes = writes_then e.writes (writes_none _ _ _);
        cause = λ models same. c.if-last-size.true (c.length-last.ensures.size ∙ e.reads.size models ∙ same);
      };
      written = λ models. tt;
      bytes = record { grown = e.grown; most = e.most; all = tt };
      lasting = tt;
    }
