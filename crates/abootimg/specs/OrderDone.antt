-- What status 0 means for an order.
use Rattle.std.specs.Prelude.{◌≡◌, ◌++◌, ℕ, List, None, Bool, true, if◌then◌else◌}
use Rattle.sys_disk.specs.World.{World, OpenFiles, IsReading}
use Rattle.sys_report.specs.declared.report.Report.{Report}
use Rattle.words_orders.specs.declared.order.Task.{Task}
use Rattle.words_orders.specs.declared.order.Task.TheVariants as tasks
use Rattle.cmd_boot_dispatch.specs.Commands.{IsKindOf}
use Rattle.cmd_boot_dispatch.specs.declared.command.BootCommandKind.{BootCommandKind}
use Rattle.cmd_sparse_dispatch.specs.Commands.{DoesTask, state}
use Rattle.abootimg.specs.BootDone.{BootDone}

-- no file is open to be written, and none was begun
pub record IsReadyForOrder (held : OpenFiles) : Type 0 where
  pub reading : IsReading held
  pub part : held.part ≡ None
  pub spool : held.spool ≡ None

-- outputs are synced at their end, if that is asked for
abbrev pub synced_if : Bool → OpenFiles → OpenFiles
synced_if is_synced held = if is_synced then record held { is_synced = true } else held

-- devices that are in use may be written, or may not
abbrev pub mounted_if : Bool → OpenFiles → OpenFiles
mounted_if is_allowed held = record held { allows_mounted = is_allowed }

-- what a task asks for is done, as its command says it
abbrev pub TaskDone : (List ℕ → Bool) → Task → World → OpenFiles → Report → World → OpenFiles → Report → Type 0
TaskDone on_output (tasks.Sparse task) world held report world' held' report' =
    DoesTask on_output task (state world held report) (state world' held' report')
TaskDone on_output (tasks.Boot task) world held report world' held' report' =
    (kind : BootCommandKind) × (IsKindOf task kind × BootDone on_output kind world held report world' held' report')
TaskDone on_output (tasks.Completions shell) world held report world' held' report' =
    (text : List ℕ) × (report'.out.log.state.bytes ≡ report.out.log.state.bytes ++ text)
