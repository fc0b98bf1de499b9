-- How a run ends that these words of the command line ask for.
use Rattle.std.specs.Prelude.{◌≡◌, ◌≢◌, ◌⊎◌, ℕ, List, Bool, Result, Ok, Err, IfOk, IfErr, IsTrue, if◌then◌else◌}
use Rattle.sys_disk.specs.Counts.{call}
use Rattle.sys_disk.specs.World.{World, OpenFiles, HasFailed}
use Rattle.sys_refusals.specs.Host.{is_not_text}
use Rattle.sys_refusals.specs.declared.refusal.HostFault.{HostFault}
use Rattle.sys_refusals.specs.declared.refusal.HostFault.TheVariants.{Memory}
use Rattle.sys_report.specs.declared.report.Report.{Report}
use Rattle.sys_host.specs.Answering.{PrintsNothing}
use Rattle.words_values.specs.WordFile.{expansion}
use Rattle.words_orders.specs.Asked.{AskForNone, IsOrderOf}
use Rattle.words_orders.specs.Refused.{IsOfWords}
use Rattle.words_orders.specs.declared.fault.WordsFault.{WordsFault}
use Rattle.words_orders.specs.declared.order.Order.{Order}
use Rattle.words_program.specs.Mistake.{IsMistake}
use Rattle.words_program.specs.WordFiles.{ReadsWordFiles}
use Rattle.abootimg.specs.OrderEnds.{OrderEnds}

-- these are the words, where each `@FILE` is replaced by the lines of its file, which was read
pub record AreExpanded (words all : List (List ℕ)) (world : World) (held held' : OpenFiles) : Type 0 where
  pub texts : List (List ℕ)
  pub reads : ReadsWordFiles words texts world held held'
  pub are : all ≡ expansion words texts

-- An order was found and carried out, after progress may have been shown, unless the order says not to. Or none was
-- found: then no file was opened or changed, a mistake does not end with status 0, and only one of the words themselves
-- ends with status 2.
abbrev pub FoundEnds : (List ℕ → Bool) → Result Order WordsFault → World → OpenFiles → Report → World → OpenFiles
    → Report → ℕ → Type 0
FoundEnds on_output (Ok order) world held report world' held' report' status = (begun : Report)
    × (PrintsNothing report begun × ((IsTrue order.is_quiet → begun ≡ report)
    × OrderEnds on_output order world held begun world' held' report' status))
FoundEnds on_output (Err fault) world held report world' held' report' status =
    (world' ≡ world) × ((held' ≡ held) × ((IsMistake fault → status ≢ 0) × (status ≡ 2 → IsOfWords fault)))

-- a file of words was not read, or there is no memory for the words: every file is as before
pub record WordsUnread (world : World) (held : OpenFiles) (world' : World) (held' : OpenFiles) (status : ℕ) : Type 0
  where
    pub fault : HostFault
    pub same : world' ≡ world
    pub cause : HasFailed (call fault) held held' ⊎ (fault ≡ Memory)
    pub status_is : status ≡ (if is_not_text fault then 2 else 1)

-- An order that is found is what the words ask for. Where none is found, status 2 says that they ask for none.
pub record WordsAnswered (on_output : List ℕ → Bool) (words : List (List ℕ)) (world : World) (held : OpenFiles)
    (report : Report) (world' : World) (held' : OpenFiles) (report' : Report) (status : ℕ) : Type 0 where
  pub all : List (List ℕ)
  pub between : OpenFiles
  pub expanded : AreExpanded words all world held between
  pub found : Result Order WordsFault
  pub asked : IfOk found (IsOrderOf all)
  pub none : IfErr found (λ fault. status ≡ 2 → AskForNone all)
  pub ends : FoundEnds on_output found world between report world' held' report' status

abbrev pub WordsEnd : (List ℕ → Bool) → List (List ℕ) → World → OpenFiles → Report → World → OpenFiles → Report → ℕ
    → Type 0
WordsEnd on_output words world held report world' held' report' status =
    WordsUnread world held world' held' status
    ⊎ WordsAnswered on_output words world held report world' held' report' status
