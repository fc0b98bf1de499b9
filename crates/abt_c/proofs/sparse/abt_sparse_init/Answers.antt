use Rattle.std.proofs.Common.{◌≡◌, arith, ap, ◌∙◌}
use Rattle.abt_c.specs.Standing.{kept_fault}
use Rattle.abt_c.proofs.sparse.abt_sparse_init.Goals as goal

pub returns-clause-left : goal.returns-clause-left
returns-clause-left c =
    let o = c.state_of.ensures in
    let none : c.state_of.result.fault ≡ 0 = o.fault ∙ ap kept_fault c.new.ensures.phase in
    record {
      puller = c.new.result;
      keeps = record {
        stands = o.stands;
        fault = o.fault;
        detail = o.detail;
        own = omega (arith, none);
        bits = o.bits;
      };
    }
