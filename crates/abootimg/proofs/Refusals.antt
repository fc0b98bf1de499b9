-- What a status above 0 means for a command.
use Rattle.std.proofs.Common.{arith, ◌≡◌, ◌≢◌, ℕ, List, Bool, true, false, ap, refl, sym, ◌∙◌, cond, min}
use Rattle.std.specs.Prelude.{Result, Ok, Err, IfErr, OnOk}
use Rattle.sys_disk.specs.World.{World, OpenFiles}
use Rattle.sys_report.specs.Shows.{IsTold}
use Rattle.sys_report.specs.declared.report.Report.{Report}
use Rattle.sys_refusals.specs.Host.{is_not_text}
use Rattle.words_orders.specs.declared.order.SparseTask.{SparseTask}
use Rattle.cmd_common_sparse.specs.declared.fault.SparseCommandFault.{SparseCommandFault}
use Rattle.sys_disk.specs.Counts.{Cause}
use Rattle.cmd_common_boot.specs.Fault.{IsCauseOf, is_usage}
use Rattle.cmd_common_boot.specs.declared.fault.BootCommandFault.{BootCommandFault}
use Rattle.cmd_common_boot.specs.declared.fault.BootCommandFault.TheVariants as faults
use Rattle.cmd_common_boot.specs.declared.pack_command.PackCommand.{PackCommand}
use Rattle.abt_sections.specs.Header.{Header}
use Rattle.cmd_pack.specs.Refusing as packing
use Rattle.cmd_pack.specs.Refusing.{RefusesPack}
use Rattle.cmd_pack.specs.RefusingAgain as again
use Rattle.cmd_pack.specs.RefusingAgain.{RefusesAgain, RefusesRepack}
use Rattle.cmd_boot_dispatch.specs.Commands.{RefusesKind, SparesKind}
use Rattle.cmd_boot_dispatch.specs.declared.command.BootCommandKind.{BootCommandKind}
use Rattle.cmd_boot_dispatch.specs.declared.command.BootCommandKind.TheVariants as kinds
use Rattle.cmd_sparse_dispatch.specs.Commands.{RefusesTask, state}
use Rattle.abootimg.specs.OrderEnds.{BootTaskRefused, SparseTaskRefused, highest, status_of_boot}

-- ---- statuses

pub capped : (wrong : Bool) → min (cond wrong 2 1) 1 ≡ 1
capped true = refl
capped false = refl

pub boot_status : (fault : BootCommandFault) (n most : ℕ) → most ≡ highest fault
    → n ≡ min (cond (is_usage fault) 2 1) most → n ≡ status_of_boot fault
boot_status (faults.Host f) n most m is = is ∙ ap (min (cond (is_not_text f) 2 1)) m ∙ capped (is_not_text f)
boot_status (faults.Section f) n most m is = is ∙ ap (min 1) m
boot_status (faults.OptionNotCarried name) n most m is = is ∙ ap (min 2) m
boot_status (faults.BadFragment word) n most m is = is ∙ ap (min 2) m
boot_status (faults.BadNumber word) n most m is = is ∙ ap (min 2) m
boot_status (faults.BadBoardId word) n most m is = is ∙ ap (min 2) m
boot_status faults.CheckFailed n most m is = is ∙ ap (min 1) m

pub not_one : (n : ℕ) → n ≡ 1 → n ≡ 0 → ⊥
not_one n one zero_is = omega (arith, one, zero_is)

pub not_two : (n : ℕ) → n ≡ 2 → n ≡ 0 → ⊥
not_two n two zero_is = omega (arith, two, zero_is)

pub boot_not_zero : (fault : BootCommandFault) (n : ℕ) → n ≡ status_of_boot fault → n ≡ 0 → ⊥
boot_not_zero (faults.Host f) n is zero_is = not_one n is zero_is
boot_not_zero (faults.Section f) n is zero_is = not_one n is zero_is
boot_not_zero (faults.OptionNotCarried name) n is zero_is = not_two n is zero_is
boot_not_zero (faults.BadFragment word) n is zero_is = not_two n is zero_is
boot_not_zero (faults.BadNumber word) n is zero_is = not_two n is zero_is
boot_not_zero (faults.BadBoardId word) n is zero_is = not_two n is zero_is
boot_not_zero faults.CheckFailed n is zero_is = not_one n is zero_is

-- the status of each error is this one, and no error has status 0
pub zero_of : {X E : Type 0} (r : Result X E) (n : ℕ) (P : Type 0) (status : E → ℕ)
    → ((e : E) → n ≡ status e → n ≡ 0 → ⊥) → IfErr r (λ e. n ≡ status e) → n ≡ 0 → OnOk r P → P
zero_of (Ok x) n P status some is zero_is done = done
zero_of (Err e) n P status some is zero_is done = absurd (some e is zero_is)

-- ---- sparse images

pub sparse_statuses : {X E : Type 0} (r : Result X E) (n : ℕ) (wrong : E → Bool)
    → IfErr r (λ e. n ≡ min (cond (wrong e) 2 1) 1) → IfErr r (λ e. n ≡ 1)
sparse_statuses (Ok x) n wrong is = tt
sparse_statuses (Err e) n wrong is = is ∙ capped (wrong e)

pub sparse_refused : {X E : Type 0} (fault : E → SparseCommandFault) (r : Result X E) (n : ℕ) (task : SparseTask)
    (w w' : World) (h h' : OpenFiles) (report told report' : Report)
    → OnOk r (n ≡ 0) → IfErr r (λ e. n ≡ 1)
    → IfErr r (λ e. RefusesTask (fault e) task (state w h report) (state w' h' told)) → IsTold told report' → n ≢ 0
    → SparseTaskRefused task w h report w' h' report' n
sparse_refused fault (Ok x) n task w w' h h' report told report' none is refuses behind not = absurd (not none)
sparse_refused fault (Err e) n task w w' h h' report told report' none is refuses behind not = record {
  fault = fault e;
  told = told;
  behind = behind;
  refuses = refuses;
  status_is = is;
}

-- ---- boot images

pub boot_statuses : {X E : Type 0} (fault : E → BootCommandFault) (r : Result X E) (n most : ℕ)
    → IfErr r (λ e. most ≡ highest (fault e)) → IfErr r (λ e. n ≡ min (cond (is_usage (fault e)) 2 1) most)
    → IfErr r (λ e. n ≡ status_of_boot (fault e))
boot_statuses fault (Ok x) n most m is = tt
boot_statuses fault (Err e) n most m is = boot_status (fault e) n most m is

pub boot_refused : {X E : Type 0} (fault : E → BootCommandFault) (r : Result X E) (n : ℕ) (kind : BootCommandKind)
    (w w' : World) (h h' : OpenFiles) (report told report' : Report)
    → OnOk r (n ≡ 0) → IfErr r (λ e. n ≡ status_of_boot (fault e))
    → IfErr r (λ e. RefusesKind (fault e) kind w h report w' h' told) → IsTold told report' → n ≢ 0
    → BootTaskRefused kind w h report w' h' report' n
boot_refused fault (Ok x) n kind w w' h h' report told report' none is refuses behind not = absurd (not none)
boot_refused fault (Err e) n kind w w' h h' report told report' none is refuses behind not = record {
  fault = fault e;
  told = told;
  behind = behind;
  refuses = refuses;
  status_is = is;
}

-- ---- after status 2 every file is as before

one_is_two : ◌≡◌ {A = ℕ} 1 2 → ⊥
one_is_two is = omega (arith, is)

outside : (fault : BootCommandFault) (cause : Cause) → IsCauseOf fault cause → status_of_boot fault ≡ 2 → ⊥
outside (faults.Host f) cause is two = one_is_two two
outside (faults.Section f) cause is two = one_is_two two
outside (faults.OptionNotCarried name) cause is two = is
outside (faults.BadFragment word) cause is two = is
outside (faults.BadNumber word) cause is two = is
outside (faults.BadBoardId word) cause is two = is
outside faults.CheckFailed cause is two = is

pack_same : (command : PackCommand) (w w' : World) (h h' : OpenFiles) (Done : Type 0) (fault : BootCommandFault)
    → RefusesPack command w w' h h' Done fault → status_of_boot fault ≡ 2 → w' ≡ w
pack_same command w w' h h' Done fault (packing.wrong_words wrong held same) two = same
pack_same command w w' h h' Done fault (packing.bad_board bad same) two = same
pack_same command w w' h h' Done fault (packing.not_packed f is not same) two = same
pack_same command w w' h h' Done fault (packing.no_path path given not is same) two = same
pack_same command w w' h h' Done fault (packing.too_little is same) two = same
pack_same command w w' h h' Done fault (packing.failed is) two =
    absurd (outside fault is.cause is.is_cause two)
pack_same command w w' h h' Done fault (packing.untold is done) two =
    absurd (one_is_two (sym (ap status_of_boot is) ∙ two))

again_same : (command : PackCommand) (x : List ℕ) (header : Header) (w w' : World) (Failed : Cause → Type 0)
    (Done : Type 0) (fault : BootCommandFault)
    → RefusesAgain command x header w w' Failed Done fault → status_of_boot fault ≡ 2 → w' ≡ w
again_same command x header w w' Failed Done fault (again.wrong_words wrong same) two = same
again_same command x header w w' Failed Done fault (again.wrong_board bad same) two = same
again_same command x header w w' Failed Done fault (again.not_packed f is not same) two = same
again_same command x header w w' Failed Done fault (again.no_text path given not is same) two = same
again_same command x header w w' Failed Done fault (again.no_memory is same) two = same
again_same command x header w w' Failed Done fault (again.failed is) two =
    absurd (outside fault is.cause is.is_cause two)
again_same command x header w w' Failed Done fault (again.untold is done) two =
    absurd (one_is_two (sym (ap status_of_boot is) ∙ two))

repack_same : (input : List ℕ) (command : PackCommand) (w w' : World) (h h' : OpenFiles) (Done : Type 0)
    (fault : BootCommandFault)
    → RefusesRepack input command w w' h h' Done fault → status_of_boot fault ≡ 2 → w' ≡ w
repack_same input command w w' h h' Done fault (again.no_image image same) two = same
repack_same input command w w' h h' Done fault (again.not_again x header begins refuses) two =
    again_same command x header w w' _ Done fault refuses two

-- `info` changes no file, whatever its status, and no fault of `unpack` has status 2
pub kind_same : (fault : BootCommandFault) (kind : BootCommandKind) (w w' : World) (h h' : OpenFiles)
    (report told : Report)
    → SparesKind kind w h w' h' → RefusesKind fault kind w h report w' h' told → status_of_boot fault ≡ 2 → w' ≡ w
kind_same fault (kinds.Pack command) w w' h h' report told spares is two =
    pack_same command w w' h h' _ fault is two
kind_same fault (kinds.Repack input command) w w' h h' report told spares is two =
    repack_same input.now command w w' h h' _ fault is two
kind_same (faults.Host f) (kinds.Unpack input folder words) w w' h h' report told spares is two =
    absurd (one_is_two two)
kind_same (faults.Section f) (kinds.Unpack input folder words) w w' h h' report told spares is two =
    absurd (one_is_two two)
kind_same (faults.OptionNotCarried name) (kinds.Unpack input folder words) w w' h h' report told spares is two =
    absurd is
kind_same (faults.BadFragment word) (kinds.Unpack input folder words) w w' h h' report told spares is two =
    absurd is
kind_same (faults.BadNumber word) (kinds.Unpack input folder words) w w' h h' report told spares is two =
    absurd is
kind_same (faults.BadBoardId word) (kinds.Unpack input folder words) w w' h h' report told spares is two =
    absurd is
kind_same faults.CheckFailed (kinds.Unpack input folder words) w w' h h' report told spares is two =
    absurd is
kind_same fault (kinds.Info input check hex) w w' h h' report told spares is two = spares

pub boot_same : {X E : Type 0} (fault : E → BootCommandFault) (r : Result X E) (n : ℕ) (kind : BootCommandKind)
    (w w' : World) (h h' : OpenFiles) (report told : Report)
    → SparesKind kind w h w' h' → OnOk r (n ≡ 0) → IfErr r (λ e. n ≡ status_of_boot (fault e))
    → IfErr r (λ e. RefusesKind (fault e) kind w h report w' h' told) → n ≡ 2 → w' ≡ w
boot_same fault (Ok x) n kind w w' h h' report told spares none is refuses two = absurd (not_two n two none)
boot_same fault (Err e) n kind w w' h h' report told spares none is refuses two =
    kind_same (fault e) kind w w' h h' report told spares refuses (sym is ∙ two)
