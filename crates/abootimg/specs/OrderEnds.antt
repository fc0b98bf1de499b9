-- How an order ends, whatever its status.
use Rattle.std.specs.Prelude.{◌≡◌, ◌≢◌, ◌⊎◌, ℕ, List, Bool}
use Rattle.sys_disk.specs.Counts.{call}
use Rattle.sys_disk.specs.World.{World, OpenFiles, HasFailed, HasNotFailed}
use Rattle.sys_refusals.specs.declared.refusal.HostFault.TheVariants.{Memory}
use Rattle.sys_report.specs.Shows.{IsTold}
use Rattle.sys_report.specs.declared.report.Report.{Report}
use Rattle.words_orders.specs.declared.order.Order.{Order}
use Rattle.words_orders.specs.declared.order.SparseTask.{SparseTask}
use Rattle.words_orders.specs.declared.order.Task.{Task}
use Rattle.words_orders.specs.declared.order.Task.TheVariants as tasks
use Rattle.cmd_common_sparse.specs.declared.fault.SparseCommandFault.{SparseCommandFault}
use Rattle.cmd_common_boot.specs.declared.fault.BootCommandFault.{BootCommandFault}
use Rattle.cmd_common_boot.specs.declared.fault.BootCommandFault.TheVariants as faults
use Rattle.cmd_boot_dispatch.specs.Commands.{IsKindOf, RefusesKind, SparesKind}
use Rattle.cmd_boot_dispatch.specs.declared.command.BootCommandKind.{BootCommandKind}
use Rattle.cmd_sparse_dispatch.specs.Commands.{RefusesTask, SparesFiles, state}
use Rattle.abootimg.specs.OrderDone.{TaskDone, mounted_if, synced_if}

-- ---- why a task is not done

-- the highest status of a fault: that of a file is none of words, which are read before
abbrev pub highest : BootCommandFault → ℕ
highest (faults.Host fault) = 1
highest (faults.Section fault) = 2
highest (faults.OptionNotCarried name) = 2
highest (faults.BadFragment word) = 2
highest (faults.BadNumber word) = 2
highest (faults.BadBoardId word) = 2
highest faults.CheckFailed = 2

-- the status of a refusal: 2 if an argument of `pack` or `repack` is wrong, and else 1
abbrev pub status_of_boot : BootCommandFault → ℕ
status_of_boot (faults.Host fault) = 1
status_of_boot (faults.Section fault) = 1
status_of_boot (faults.OptionNotCarried name) = 2
status_of_boot (faults.BadFragment word) = 2
status_of_boot (faults.BadNumber word) = 2
status_of_boot (faults.BadBoardId word) = 2
status_of_boot faults.CheckFailed = 1

-- The command refuses it for a fault that it may have, with status 1. The report is the one before the message.
pub record SparseTaskRefused (task : SparseTask) (world : World) (held : OpenFiles) (report : Report) (world' : World)
    (held' : OpenFiles) (report' : Report) (status : ℕ) : Type 0 where
  pub fault : SparseCommandFault
  pub told : Report
  pub behind : IsTold told report'
  pub refuses : RefusesTask fault task (state world held report) (state world' held' told)
  pub status_is : status ≡ 1

-- the same of a command over boot images, with the status of the fault
pub record BootTaskRefused (kind : BootCommandKind) (world : World) (held : OpenFiles) (report : Report)
    (world' : World) (held' : OpenFiles) (report' : Report) (status : ℕ) : Type 0 where
  pub fault : BootCommandFault
  pub told : Report
  pub behind : IsTold told report'
  pub refuses : RefusesKind fault kind world held report world' held' told
  pub status_is : status ≡ status_of_boot fault

-- memory was refused for the arguments of its command, which is counted, and every file is as before
pub record ArgumentsRefused (world : World) (held : OpenFiles) (world' : World) (held' : OpenFiles) (status : ℕ)
    : Type 0 where
  pub counted : HasFailed (call Memory) held held'
  pub same : world' ≡ world
  pub status_is : status ≡ 1

-- its command refuses it, or memory is refused for that; or the completions are not printed, and every file is as
-- before
abbrev pub TaskRefused : Task → World → OpenFiles → Report → World → OpenFiles → Report → ℕ → Type 0
TaskRefused (tasks.Sparse task) world held report world' held' report' status =
    SparseTaskRefused task world held report world' held' report' status
TaskRefused (tasks.Boot task) world held report world' held' report' status =
    ((kind : BootCommandKind)
    × (IsKindOf task kind × BootTaskRefused kind world held report world' held' report' status))
    ⊎ ArgumentsRefused world held world' held' status
TaskRefused (tasks.Completions shell) world held report world' held' report' status = world' ≡ world

-- ---- what stays, whatever the status

-- as the task's command says it; or every file is as before
abbrev pub TaskSpares : Task → World → OpenFiles → Report → World → OpenFiles → Report → Type 0
TaskSpares (tasks.Sparse task) world held report world' held' report' =
    SparesFiles task (state world held report) (state world' held' report')
TaskSpares (tasks.Boot task) world held report world' held' report' =
    ((kind : BootCommandKind) × (IsKindOf task kind × SparesKind kind world held world' held')) ⊎ (world' ≡ world)
TaskSpares (tasks.Completions shell) world held report world' held' report' = world' ≡ world

-- ---- how a task ends, and an order

pub record TaskEnds (on_output : List ℕ → Bool) (task : Task) (world : World) (held : OpenFiles) (report : Report)
    (world' : World) (held' : OpenFiles) (report' : Report) (status : ℕ) : Type 0 where
  -- status 0: it is done, and nothing has failed
  pub done : status ≡ 0 → TaskDone on_output task world held report world' held' report'
  pub clean : status ≡ 0 → HasNotFailed held held'
  -- else it is refused
  pub refused : status ≢ 0 → TaskRefused task world held report world' held' report' status
  -- whatever the status, only its outputs may have changed; after status 2 every file is as before
  pub spares : TaskSpares task world held report world' held' report'
  pub wrong : status ≡ 2 → world' ≡ world

-- as its task does, with outputs synced if it says so, and with devices in use written only if it says so
abbrev pub OrderEnds : (List ℕ → Bool) → Order → World → OpenFiles → Report → World → OpenFiles → Report → ℕ → Type 0
OrderEnds on_output order world held report world' held' report' status =
    TaskEnds on_output order.task world (mounted_if order.is_mounted_allowed (synced_if order.is_synced held)) report
    world' held' report' status
