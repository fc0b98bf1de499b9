use Rattle.std.proofs.Common.{arith}
use Rattle.abt_sections.proofs.MoreExits.{copy_refused}
use Rattle.abt_sections.proofs.unpacking.copy_part.Goals as goal

-- the copy is refused
pub returns-in-Err : goal.returns-in-Err
returns-in-Err g c =
    let e = c.in-Err.ensures in
    record {
      moves = rw c.of_copy.ensures (copy_refused c.in-Err.fault e.reads e.writes e.cause
          (λ short models there. absurd (omega (arith, short models, there (omega arith)))));
      written = λ models. tt;
      front = e.front;
      bytes = record { most = e.most; all = tt };
    }
