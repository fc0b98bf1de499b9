-- From words without those of ramdisk fragments to all words of a call.
use Rattle.std.proofs.Common.{◌≡◌, ℕ, List, Bool}
use Rattle.std.specs.Prelude.{Result, Ok, Err, IfErr, IfOk}
use Rattle.sys_report.specs.declared.report.Report.{Report}
use Rattle.words_orders.specs.declared.answers.Answer.{Answer}
use Rattle.words_orders.specs.declared.fault.WordsFault.{WordsFault}
use Rattle.words_tools.specs.declared.orders.Orders.{Orders}
use Rattle.words_tools.specs.declared.tools.Tool.{Tool}
use Rattle.words_tools.specs.Rejected.{AreRejected, IsRejected, others}
use Rattle.words_tools.specs.Tools.{AreOrdersOf, AreToolOrders, ArePartedFor}
use Rattle.abootimg.specs.Stored.{Stored}
use Rattle.abootimg.specs.ToolEnds.{CalledEnds, PartedEnds}

tool_orders : (tool : Tool) (words rest : List (List ℕ)) (said : List Answer) (found : Result Orders WordsFault)
    → ArePartedFor tool words rest said → IfOk found (AreOrdersOf tool rest said)
    → IfOk found (AreToolOrders tool words)
tool_orders tool words rest said (Ok orders) parted is = record {
  others = rest;
  said = said;
  parted = parted;
  give = is;
}
tool_orders tool words rest said (Err fault) parted is = tt

all_rejected : (tool : Tool) (words rest : List (List ℕ)) (said : List Answer) (found : Result Orders WordsFault)
    (status : ℕ) → ArePartedFor tool words rest said → IfErr found (λ fault. status ≡ 2 → AreRejected tool rest said)
    → IfErr found (λ fault. status ≡ 2 → IsRejected tool words)
all_rejected tool words rest said (Ok orders) status parted is = tt
all_rejected tool words rest said (Err fault) status parted is = λ two. others rest said parted (is two)

pub called_from : (on is_file : List ℕ → Bool) (tool : Tool) (words rest : List (List ℕ)) (said : List Answer)
    (w : Stored) (r : Report) (w' : Stored) (r' : Report) (status : ℕ) → ArePartedFor tool words rest said
    → PartedEnds on is_file tool rest said w r w' r' status → CalledEnds on is_file tool words w r w' r' status
called_from on is_file tool words rest said w r w' r' status parted ends = record {
  found = ends.found;
  asked = tool_orders tool words rest said ends.found parted ends.asked;
  none = all_rejected tool words rest said ends.found status parted ends.none;
  ends = ends.ends;
}
