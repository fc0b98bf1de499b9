-- What has failed, counted over the calls of a run.
use Rattle.std.proofs.Common.{arith, ◌+◌, ◌≡◌, ℕ, ◌≤◌, List, None, inl, inr}
use Rattle.std.proofs.Common.{Bool, true, false, refl, sym, ◌∙◌, ap, subst}
use Rattle.std.specs.Prelude.{IsTrue, IsOk, IfErr, IfOk, OnOk, Result, Ok, Err, is_ok, if◌then◌else◌, ◌&&◌}
use Rattle.std.proofs.lemmas.Bool.{false≢true}
use std.Path.{fun_ext}
use Rattle.abt_pieces.specs.declared.fault.PieceFault.{PieceFault}
use Rattle.abt_pieces.specs.declared.fault.PieceFault.TheVariants as pieces
use Rattle.sys_refusals.specs.declared.refusal.HostFault.{HostFault}
use Rattle.sys_disk.specs.Counts.{Cause, Counts, HasNone, added, call, call_of, calls, no_counts, of_reading}
use Rattle.sys_disk.specs.Counts.{of_writing, reading, reads, writes, writing}
use Rattle.sys_disk.specs.World.{World, OpenFiles, OpensFile, Creates, EndsOutput, HasFailed, HasNotFailed, counting}
use Rattle.sys_disk.specs.World.{ClosesOutput, ended}
use Rattle.sys_disk.proofs.Failings.{counts_one}
use Rattle.cmd_common_sparse.specs.declared.fault.SparseCommandFault.{SparseCommandFault}
use Rattle.cmd_common_sparse.specs.declared.fault.SparseCommandFault.TheVariants as faults
use Rattle.cmd_cut.specs.Cutting.{IsOutsideCut}
use Rattle.cmd_cut.specs.Sparsing.{DevicesFail, GivesUp, IsOfPieceDevices, IsOutsideSparse, TellsFirst, earlier, itself}

-- ---- which fault is told

-- where more has failed
pub devices_more : (P Q : Cause → Type 0) → ((cause : Cause) → P cause → Q cause) → (f : PieceFault)
    → IsOfPieceDevices P f → IsOfPieceDevices Q f
devices_more P Q more (pieces.Read f) is = more reading is
devices_more P Q more (pieces.Write f) is = more writing is
devices_more P Q more pieces.SourceChanged is = absurd is
devices_more P Q more pieces.TooLarge is = absurd is
devices_more P Q more (pieces.BadBlock n) is = absurd is
devices_more P Q more (pieces.LimitTooSmall n) is = absurd is

pub outside_more : (P Q : Cause → Type 0) → ((cause : Cause) → P cause → Q cause) → (f : SparseCommandFault)
    → IsOutsideSparse P f → IsOutsideSparse Q f
outside_more P Q more (faults.Sparse f) is = absurd is
outside_more P Q more (faults.Run f) is = absurd is
outside_more P Q more (faults.Piece f) is = devices_more P Q more f is
outside_more P Q more (faults.Flash f) is = absurd is
outside_more P Q more (faults.Verify f) is = absurd is
outside_more P Q more (faults.OtherBlocks image) is = absurd is
outside_more P Q more (faults.OtherCut image) is = absurd is
outside_more P Q more (faults.Host f) is = more (call f) is

pub outside_cut_more : (P Q : Cause → Type 0) → ((cause : Cause) → P cause → Q cause) → (f : SparseCommandFault)
    → IsOutsideCut P f → IsOutsideCut Q f
outside_cut_more P Q more f (inl is) = inl (outside_more P Q more f is)
outside_cut_more P Q more f (inr is) = inr (is.0, more writing is.1)

-- a fault of files is that of a call
pub outside_host : (P : Cause → Type 0) (fault : SparseCommandFault) (f : HostFault) → fault ≡ faults.Host f
    → P (call f) → IsOutsideSparse P fault
outside_host P fault f told is = subst (IsOutsideSparse P) (sym told) is

-- this fault, or that of an earlier write
pub outside_first : (P Q : Cause → Type 0) (Earlier : Type 0) → ((cause : Cause) → P cause → Q cause)
    → (Earlier → Q writing) → (fault told : SparseCommandFault) → TellsFirst fault told Earlier
    → IsOutsideSparse P fault → IsOutsideSparse Q told
outside_first P Q Earlier more late fault told (itself same) is =
    subst (IsOutsideSparse Q) (sym same) (outside_more P Q more fault is)
outside_first P Q Earlier more late fault told (earlier f same before) is =
    subst (IsOutsideSparse Q) (sym same) (late before)

-- ---- one call, and devices

-- a call that was refused
pub call_failed : (f : HostFault) (h h' : OpenFiles) → h' ≡ counting (call_of f) h → HasFailed (call f) h h'
call_failed f h h' same =
    let more : h'.counts.failed (call f) ≡ (counting (call_of f) h).counts.failed (call f)
    = ap (λ k. k.counts.failed (call f)) same in
    let one = counts_one f in omega (arith, more, one)

-- a device that has not failed
pub none_read : (r : ℕ) → r ≡ 0 → (cause : Cause) → of_reading r cause ≡ 0
none_read r none (call f) = refl
none_read r none reading = none
none_read r none writing = refl

pub none_written : (w : ℕ) → w ≡ 0 → (cause : Cause) → of_writing w cause ≡ 0
none_written w none (call f) = refl
none_written w none reading = refl
none_written w none writing = none

-- the one that was read was given back, and then the one that was written
pub devices_failed : (r0 r w0 w g : ℕ) (d : Bool) (k : Counts) (h h' h'' : OpenFiles) → r0 ≡ 0 → w0 ≡ 0
    → h' ≡ counting (reads g r) h → h'' ≡ ended d k h' → w ≤ k.failed writing
    → (cause : Cause) → DevicesFail r0 r w0 w cause → HasFailed cause h h''
devices_failed r0 r w0 w g d k h h' h'' zero_r zero_w before end least (call f) more = absurd more
devices_failed r0 r w0 w g d k h h' h'' zero_r zero_w before end least reading more =
    let first : h'.counts.failed reading ≡ h.counts.failed reading + r = ap (λ q. q.counts.failed reading) before in
    let then_ : h''.counts.failed reading ≡ h'.counts.failed reading + k.failed reading
    = ap (λ q. q.counts.failed reading) end in
    omega (arith, first, then_, more)
devices_failed r0 r w0 w g d k h h' h'' zero_r zero_w before end least writing more =
    let first : h'.counts.failed writing ≡ h.counts.failed writing + 0 = ap (λ q. q.counts.failed writing) before in
    let then_ : h''.counts.failed writing ≡ h'.counts.failed writing + k.failed writing
    = ap (λ q. q.counts.failed writing) end in
    omega (arith, first, then_, more, least)

-- what failed since the one that was read was given back
pub failed_since : (g r : ℕ) (cause : Cause) (h h' h'' : OpenFiles) → h' ≡ counting (reads g r) h
    → HasFailed cause h' h'' → HasFailed cause h h''
failed_since g r cause h h' h'' before more =
    let first : h'.counts.failed cause ≡ h.counts.failed cause + of_reading r cause
    = ap (λ q. q.counts.failed cause) before in
    omega (arith, first, more)

-- ---- of an output that is closed

-- with this counted before
pub added_behind : (a b c : Counts) → added (added a b) c ≡ added a (added b c)
added_behind a b c =
    let failed : (λ (cause : Cause). (a.failed cause + b.failed cause) + c.failed cause)
    ≡ (λ (cause : Cause). a.failed cause + (b.failed cause + c.failed cause)) = fun_ext (λ cause. omega arith) in
    let given : (a.given + b.given) + c.given ≡ a.given + (b.given + c.given) = omega arith in
    ap (λ (f : Cause → ℕ). record { failed = f; given = (a.given + b.given) + c.given }) failed
    ∙ ap (λ (n : ℕ). record { failed = λ cause. a.failed cause + (b.failed cause + c.failed cause); given = n }) given

pub ended_behind : (d : Bool) (r n : Counts) (h : OpenFiles) → ended d n (counting r h) ≡ ended d (added r n) h
ended_behind d r n h =
    ap (λ (k : Counts). record h { output = None; syncs = h.syncs + (if d && h.is_synced then 1 else 0); counts = k })
    (added_behind h.counts r n)

-- more was counted after something else
pub counting_behind : (m n : Counts) (h : OpenFiles) → counting n (counting m h) ≡ counting (added m n) h
counting_behind m n h = ap (λ (k : Counts). record h { counts = k }) (added_behind h.counts m n)

-- nothing was counted
pub counting_none : (h : OpenFiles) → counting no_counts h ≡ h
counting_none h =
    let failed : (λ (cause : Cause). h.counts.failed cause + 0) ≡ h.counts.failed = fun_ext (λ cause. omega arith) in
    let given : h.counts.given + 0 ≡ h.counts.given = omega arith in
    ap (λ (f : Cause → ℕ). record h { counts = record { failed = f; given = h.counts.given + 0 } }) failed
    ∙ ap (λ (n : ℕ). record h { counts = record { failed = h.counts.failed; given = n } }) given

pub closes_done : (r n : Counts) (h h' h'' : OpenFiles) → h' ≡ counting r h → h'' ≡ ended true n h'
    → HasNone (added r n) → ClosesOutput true h h''
closes_done r n h h' h'' before end none = record {
  failures = added r n;
  closed = end ∙ ap (ended true n) before ∙ ended_behind true r n h;
  clean = λ t. none;
}

pub closes_undone : (r n : Counts) (h h' h'' : OpenFiles) → h' ≡ counting r h → h'' ≡ ended false n h'
    → ClosesOutput false h h''
closes_undone r n h h' h'' before end = record {
  failures = added r n;
  closed = end ∙ ap (ended false n) before ∙ ended_behind false r n h;
  clean = λ t. absurd (false≢true t);
}

-- neither the one that was read has failed, nor the one that was written, nor the end
pub none_behind : (r w : ℕ) (more : Counts) → r ≡ 0 → w ≡ 0 → HasNone more → (cause : Cause)
    → of_reading r cause + (more.failed cause + of_writing w cause) ≡ 0
none_behind r w more zero_r zero_w none cause =
    let one = none_read r zero_r cause in
    let two = none_written w zero_w cause in
    let three = none cause in
    omega (arith, one, two, three)

-- the result is that of the call
pub answered : {X F G : Type 0} (answer : Result X F) (result : Result (X × Bool) G)
    → IfOk result (λ end. answer ≡ Ok end.0) → OnOk result (IsOk answer)
answered answer (Ok y) is = ap is_ok is
answered answer (Err e) is = tt

-- the end returns the result of the call
pub closes_answer : {X Y F G : Type 0} {bytes : List ℕ} {a b : World} (answer : Result X F) (result : Result Y G)
    (r0 w0 g r n : ℕ) (h h' h'' : OpenFiles)
    → r0 ≡ 0 → w0 ≡ 0 → h' ≡ counting (reads g r) h → EndsOutput (is_ok result) bytes (writes n) h' h'' a b
    → OnOk answer ((r ≡ r0) × (n ≡ w0)) → OnOk result (IsOk answer) → ClosesOutput (is_ok result) h h''
closes_answer (Ok x) (Ok y) r0 w0 g r n h h' h'' zero_r zero_w before end clean done =
    closes_done (reads g r) (added end.more (writes n)) h h' h'' before end.closed
    (none_behind r n end.more (clean.0 ∙ zero_r) (clean.1 ∙ zero_w) (end.clean refl))
closes_answer (Ok x) (Err e) r0 w0 g r n h h' h'' zero_r zero_w before end clean done =
    closes_undone (reads g r) (added end.more (writes n)) h h' h'' before end.closed
closes_answer (Err f) (Err e) r0 w0 g r n h h' h'' zero_r zero_w before end clean done =
    closes_undone (reads g r) (added end.more (writes n)) h h' h'' before end.closed
closes_answer (Err f) (Ok y) r0 w0 g r n h h' h'' zero_r zero_w before end clean done = absurd (false≢true done)

-- why: a device failed, or the end did
pub outside_answer : {X Y R : Type 0} {bytes : List ℕ} {a b : World} (fault : R → SparseCommandFault)
    (answer : Result X SparseCommandFault) (result : Result Y R) (r0 w0 g r n : ℕ) (h h' h'' : OpenFiles)
    → r0 ≡ 0 → w0 ≡ 0 → h' ≡ counting (reads g r) h → EndsOutput (is_ok result) bytes (writes n) h' h'' a b
    → IfErr answer (IsOutsideSparse (DevicesFail r0 r w0 n)) → IfErr answer (λ f. IfErr result (λ e. fault e ≡ f))
    → (IsOk answer → IfErr result (λ e. (f : HostFault) × (fault e ≡ faults.Host f) × HasFailed (call f) h' h''))
    → IfErr result (λ e. IsOutsideSparse (λ cause. HasFailed cause h h'') (fault e))
outside_answer fault answer (Ok y) r0 w0 g r n h h' h'' zero_r zero_w before end cause same host = tt
outside_answer fault (Ok x) (Err e) r0 w0 g r n h h' h'' zero_r zero_w before end cause same host =
    let it = host refl in
    outside_host (λ q. HasFailed q h h'') (fault e) it.0 it.1 (failed_since g r (call it.0) h h' h'' before it.2)
outside_answer fault (Err f) (Err e) r0 w0 g r n h h' h'' zero_r zero_w before end cause same host =
    subst (IsOutsideSparse (λ q. HasFailed q h h'')) (sym same)
    (outside_more (DevicesFail r0 r w0 n) (λ q. HasFailed q h h'')
    (devices_failed r0 r w0 n g false (added end.more (writes n)) h h' h'' zero_r zero_w before end.closed
    (omega arith)) f cause)

-- why: the call that finishes it was refused
pub outside_refusal : (g r w : ℕ) (f : HostFault) (fault : SparseCommandFault) (h h' h'' : OpenFiles)
    → fault ≡ faults.Host f → h' ≡ counting (reads g r) h → h'' ≡ ended false (added (call_of f) (writes w)) h'
    → IsOutsideSparse (λ cause. HasFailed cause h h'') fault
outside_refusal g r w f fault h h' h'' told before end =
    let last : h''.counts.failed (call f) ≡ h'.counts.failed (call f) + (calls f (call f) + 0)
    = ap (λ q. q.counts.failed (call f)) end in
    let one = counts_one f in
    outside_host (λ q. HasFailed q h h'') fault f told
    (failed_since g r (call f) h h' h'' before (omega (arith, last, one)))

-- why: a device failed, now or in an earlier write
pub outside_stopped : (r0 r w0 w g : ℕ) (fault told : SparseCommandFault) (models : Bool) (h h' h'' : OpenFiles)
    (a b : World) → r0 ≡ 0 → w0 ≡ 0 → h' ≡ counting (reads g r) h → GivesUp w h' h'' a b
    → IsOutsideSparse (DevicesFail r0 r w0 w) fault
    → TellsFirst fault told (IsTrue models → HasFailed writing h' h'') → IsTrue models
    → IsOutsideSparse (λ cause. HasFailed cause h h'') told
outside_stopped r0 r w0 w g fault told models h h' h'' a b zero_r zero_w before given cause first t =
    outside_first (DevicesFail r0 r w0 w) (λ q. HasFailed q h h'') (IsTrue models → HasFailed writing h' h'')
    (devices_failed r0 r w0 w g false given.failures h h' h'' zero_r zero_w before given.closed given.least)
    (λ late. failed_since g r writing h h' h'' before (late t)) fault told first cause

-- ---- from the beginning of a run

-- a file was opened, an output created and closed
pub failed_behind : (input path bytes : List ℕ) (h h' h'' h''' : OpenFiles) (w a b : World)
    → OpensFile w input bytes h h' → Creates path h' h'' a b → (cause : Cause) → HasFailed cause h'' h'''
    → HasFailed cause h h'''
failed_behind input path bytes h h' h'' h''' w a b opened made cause more =
    let first : h'.counts.failed cause ≡ h.counts.failed cause = ap (λ k. k.counts.failed cause) opened.taken in
    let next : h''.counts.failed cause ≡ h'.counts.failed cause = ap (λ k. k.counts.failed cause) made.begins in
    omega (arith, first, next, more)

pub clean_behind : (input path bytes : List ℕ) (h h' h'' h''' : OpenFiles) (w a b : World)
    → OpensFile w input bytes h h' → Creates path h' h'' a b → ClosesOutput true h'' h''' → HasNotFailed h h'''
clean_behind input path bytes h h' h'' h''' w a b opened made closes cause =
    let first : h'.counts.failed cause ≡ h.counts.failed cause = ap (λ k. k.counts.failed cause) opened.taken in
    let next : h''.counts.failed cause ≡ h'.counts.failed cause = ap (λ k. k.counts.failed cause) made.begins in
    let last : h'''.counts.failed cause ≡ h''.counts.failed cause + closes.failures.failed cause
    = ap (λ k. k.counts.failed cause) closes.closed in
    let none = closes.clean refl cause in
    omega (arith, first, next, last, none)
