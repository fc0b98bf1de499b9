-- What is done, and what stays, whatever is printed after it.
use Rattle.std.proofs.Common.{ℕ, List, [], ◌∷◌, Bool, Some, None, map, sym, subst}
use Rattle.std.specs.Prelude.{Result, Ok, Err, OnOk}
use Rattle.words_orders.specs.declared.order.SparseTask.{SparseTask}
use Rattle.words_orders.specs.declared.order.SparseTask.TheVariants as tasks
use Rattle.sys_disk.specs.World.{World, OpenFiles}
use Rattle.sys_report.specs.declared.report.Report.{Report}
use Rattle.sys_report.specs.declared.progress.Progress.{Progress}
use Rattle.sys_host.specs.Answering.{PrintsNothing}
use Rattle.cmd_common_sparse.specs.PieceNames.{naming}
use Rattle.cmd_sparse_dispatch.proofs.Told.{cuts_as}
use Rattle.cmd_sparse_dispatch.specs.Commands.{DoesTask, ExpandsImages, SparesExpanded, SparesFiles, State, state}

-- ---- how far it is has no part in what is done, nor in what stays

expands_as : (on : List ℕ → Bool) (words : List (List ℕ)) (output : List ℕ) (a : State) (w : World) (h : OpenFiles)
    (r : Report) (p : Progress)
    → ExpandsImages on words output a (state w h r)
    → ExpandsImages on words output a (state w h (record r { progress = p }))
expands_as on [] output a w h r p is = is
expands_as on (x ∷ []) output a w h r p is = is
expands_as on (x ∷ (y ∷ rest)) output a w h r p is = is

does_as : (on : List ℕ → Bool) (task : SparseTask) (a : State) (w : World) (h : OpenFiles) (r : Report) (p : Progress)
    → DoesTask on task a (state w h r) → DoesTask on task a (state w h (record r { progress = p }))
does_as on (tasks.Expand inputs output) a w h r p is =
    expands_as on (map (λ word. word.now) inputs.items) output.now a w h r p is
does_as on (tasks.List input) a w h r p is = is
does_as on (tasks.Sparse input output block tail) a w h r p is = is
does_as on (tasks.Cut input limit prefix from_zero raw) a w h r p is =
    cuts_as on input.now limit (naming prefix.now from_zero) raw a w h r p is
does_as on (tasks.Flash input partition None None) a w h r p is = is
does_as on (tasks.Flash input partition (Some size) None) a w h r p is = is
does_as on (tasks.Flash input partition None (Some pieces)) a w h r p is = is
does_as on (tasks.Flash input partition (Some size) (Some pieces)) a w h r p is = is
does_as on (tasks.Verify input partition None) a w h r p is = is
does_as on (tasks.Verify input partition (Some size)) a w h r p is = is

spares_expanded_as : (words : List (List ℕ)) (output : List ℕ) (a : State) (w : World) (h : OpenFiles) (r r' : Report)
    → SparesExpanded words output a (state w h r) → SparesExpanded words output a (state w h r')
spares_expanded_as [] output a w h r r' is = is
spares_expanded_as (x ∷ []) output a w h r r' is = is
spares_expanded_as (x ∷ (y ∷ rest)) output a w h r r' is = is

pub spares_as : (task : SparseTask) (a : State) (w : World) (h : OpenFiles) (r r' : Report)
    → SparesFiles task a (state w h r) → SparesFiles task a (state w h r')
spares_as (tasks.Expand inputs output) a w h r r' is =
    spares_expanded_as (map (λ word. word.now) inputs.items) output.now a w h r r' is
spares_as (tasks.List input) a w h r r' is = is
spares_as (tasks.Sparse input output block tail) a w h r r' is = is
spares_as (tasks.Cut input limit prefix from_zero raw) a w h r r' is = is
spares_as (tasks.Flash input partition raw None) a w h r r' is = is
spares_as (tasks.Flash input partition raw (Some pieces)) a w h r r' is = is
spares_as (tasks.Verify input partition raw) a w h r r' is = is

pub both_told : {X E : Type 0} (r : Result X E) (P Q R : Type 0) → (P → Q → R) → OnOk r P → OnOk r Q → OnOk r R
both_told (Ok x) P Q R join p q = join p q
both_told (Err e) P Q R join p q = tt

-- the answer behind it prints nothing
pub told_done : {X E : Type 0} (on : List ℕ → Bool) (result : Result X E) (task : SparseTask) (a : State) (w : World)
    (h : OpenFiles)
    (r r' : Report) → OnOk result (DoesTask on task a (state w h r)) → OnOk result (PrintsNothing r r')
    → OnOk result (DoesTask on task a (state w h r'))
told_done on result task a w h r r' done quiet = both_told result _ _ _
    (λ is same. subst (λ q. DoesTask on task a (state w h q)) (sym same)
    (does_as on task a w h r r'.progress is)) done quiet
