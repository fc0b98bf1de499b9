-- How an order begins, and how orders end in turn.
use Rattle.std.proofs.Common.{◌≡◌, ◌∙◌, Bool, ℕ, List, Option, ap, inr, subst}
use Rattle.sys_disk.specs.Counts.{call_of}
use Rattle.sys_disk.specs.World.{OpenFiles, World, counting}
use Rattle.sys_refusals.specs.declared.refusal.HostFault.TheVariants.{Memory}
use Rattle.sys_report.specs.declared.report.Report.{Report}
use Rattle.words_orders.specs.declared.order.Order.{Order}
use Rattle.words_orders.specs.declared.order.BootTask.{BootTask}
use Rattle.words_orders.specs.declared.order.Task.{Task}
use Rattle.words_orders.specs.declared.order.Task.TheVariants as tasks
use Rattle.cmd_common_boot.proofs.Causes.{source_failed}
use Rattle.cmd_sparse_dispatch.specs.Commands.{State, state}
use Rattle.abootimg.specs.InTurn.{TurnsEnd}
use Rattle.abootimg.specs.OrderDone.{mounted_if, synced_if}
use Rattle.abootimg.specs.OrderEnds.{TaskEnds}
use Rattle.abootimg.proofs.Refusals.{not_one}

-- both settings of an order
pub settings_then : (is_synced is_allowed : Bool) (h h' h'' : OpenFiles) → h' ≡ synced_if is_synced h
    → h'' ≡ mounted_if is_allowed h' → h'' ≡ mounted_if is_allowed (synced_if is_synced h)
settings_then is_synced is_allowed h h' h'' one two = two ∙ ap (mounted_if is_allowed) one

-- a task ends from the state in which its order has begun
pub ends_from : (on : List ℕ → Bool) (task : Task) (w w' z : World) (h h' k : OpenFiles) (r r' : Report) (status : ℕ)
    → w' ≡ w → h' ≡ h → TaskEnds on task w' h' r z k r' status → TaskEnds on task w h r z k r' status
ends_from on task w w' z h h' k r r' status world held ends =
    subst (λ (l : OpenFiles). TaskEnds on task w l r z k r' status) held
    (subst (λ (x : World). TaskEnds on task x h' r z k r' status) world ends)

-- memory was refused for the arguments of a command
pub lacks_arguments : (on : List ℕ → Bool) (task : BootTask) (w w' : World) (h h' : OpenFiles) (r r' : Report) (n : ℕ)
    → w' ≡ w → h' ≡ counting (call_of Memory) h → n ≡ 1 → TaskEnds on (tasks.Boot task) w h r w' h' r' n
lacks_arguments on task w w' h h' r r' n same counted one = record {
  done = λ done. absurd (not_one n one done);
  clean = λ done. absurd (not_one n one done);
  refused = λ not. inr (record { counted = source_failed h h' Memory counted; same = same; status_is = one });
  spares = inr same;
  wrong = λ two. same;
}

-- orders in turn from the world in which they begin
pub turns_from : (on : List ℕ → Bool) (first second : Option Order) (w w' : World) (h : OpenFiles) (r : Report)
    (z : State) (status : ℕ) → w' ≡ w → TurnsEnd on first second (state w' h r) z status
    → TurnsEnd on first second (state w h r) z status
turns_from on first second w w' h r z status world turns =
    subst (λ (x : World). TurnsEnd on first second (state x h r) z status) world turns
