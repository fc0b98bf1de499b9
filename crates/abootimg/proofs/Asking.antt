-- What a run without an order says of the words.
use Rattle.std.proofs.Common.{◌≡◌, ℕ, List, Bool}
use Rattle.std.specs.Prelude.{Result, Ok, Err, IfErr}
use Rattle.words_orders.specs.declared.answers.Answer.{Answer}
use Rattle.words_tools.specs.declared.orders.Orders.{Orders}
use Rattle.words_tools.specs.declared.tools.Tool.{Tool}
use Rattle.words_tools.specs.Rejected.{AreRejected}
use Rattle.abootimg.specs.Stored.{Stored}
use Rattle.abootimg.specs.ToolEnds.{OrdersFoundEnd}
use Rattle.sys_disk.specs.World.{World, OpenFiles}
use Rattle.sys_report.specs.declared.report.Report.{Report}
use Rattle.words_orders.specs.Asked.{AskForNone}
use Rattle.words_orders.specs.Refused.{IsOfWords}
use Rattle.words_orders.specs.declared.fault.WordsFault.{WordsFault}
use Rattle.words_orders.specs.declared.order.Order.{Order}
use Rattle.abootimg.specs.WordsEnd.{FoundEnds}

-- it ends with status 2 only if they ask for none
pub none_asked : (on_output : List ℕ → Bool) (found : Result Order WordsFault) (all : List (List ℕ)) (world : World)
    (held : OpenFiles) (report : Report) (world' : World) (held' : OpenFiles) (report' : Report) (status : ℕ)
    → IfErr found (λ fault. IsOfWords fault → AskForNone all)
    → FoundEnds on_output found world held report world' held' report' status
    → IfErr found (λ fault. status ≡ 2 → AskForNone all)
none_asked on_output (Ok order) all world held report world' held' report' status none ends = tt
none_asked on_output (Err fault) all world held report world' held' report' status none ends =
    λ two. none (ends.1.1.1 two)

-- the same of the words of a tool, which are rejected
pub none_given : (on_output is_file : List ℕ → Bool) (found : Result Orders WordsFault) (tool : Tool)
    (others : List (List ℕ)) (said : List Answer) (a : Stored) (report : Report) (z : Stored) (report' : Report)
    (status : ℕ) → IfErr found (λ fault. IsOfWords fault → AreRejected tool others said)
    → OrdersFoundEnd on_output is_file found a report z report' status
    → IfErr found (λ fault. status ≡ 2 → AreRejected tool others said)
none_given on_output is_file (Ok orders) tool others said a report z report' status none ends = tt
none_given on_output is_file (Err fault) tool others said a report z report' status none ends =
    λ two. none (ends.1.1 two)
