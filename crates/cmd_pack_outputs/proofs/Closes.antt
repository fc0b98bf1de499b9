-- What has failed, counted over the calls of a run, and an output that is closed.
use Rattle.std.proofs.Common.{arith, ◌+◌, ◌≡◌, ℕ, ◌<◌, ◌≤◌, List, [], ◌∷◌, ◌++◌, None, length}
use Rattle.std.proofs.Common.{Bool, true, false, refl, sym, ◌∙◌, ap, inl, inr, subst}
use Rattle.std.specs.Prelude.{IsOk, IsTrue, IfOk, IfErr, MatchResult, OnOk, Result, Ok, Err, is_ok, if◌then◌else◌}
use Rattle.std.specs.Prelude.{◌&&◌}
use Rattle.std.proofs.lemmas.Bool.{false≢true}
use Rattle.std.proofs.lemmas.List.Sums.{sum_by-append}
use std.Path.{fun_ext}
use Rattle.abt_sections.specs.Cause.{MoveCause, total}
use Rattle.abt_sections.specs.declared.fault.SectionFault.{SectionFault}
use Rattle.abt_sections.specs.declared.fault.SectionFault.TheVariants as sections
use Rattle.sys_refusals.specs.declared.refusal.HostFault.{HostFault}
use Rattle.sys_disk.specs.Counts.{Cause, Counts, HasNone, added, call, call_of, calls, no_counts, of_reading}
use Rattle.sys_disk.specs.Counts.{of_writing, reading, reads, writes, writing}
use Rattle.sys_disk.specs.World.{ClosesOutput, Creates, EndsOutput, HasFailed, HasNotFailed, OpenFiles, World}
use Rattle.sys_disk.specs.World.{counting, ended, untouched}
use Rattle.sys_disk.proofs.Failings.{counts_one}
use Rattle.cmd_common_boot.specs.Fault.{IsCauseOf, IsFailure}
use Rattle.cmd_common_boot.specs.declared.fault.BootCommandFault.{BootCommandFault}
use Rattle.cmd_common_boot.specs.declared.fault.BootCommandFault.TheVariants as faults
use Rattle.cmd_pack_outputs.specs.Writing.{LayCause, LeavesOut, lay_fault}
use Rattle.cmd_pack_outputs.specs.declared.write_over.LayFault.{LayFault}
use Rattle.cmd_pack_outputs.specs.declared.write_over.LayFault.TheVariants as laying

-- ---- what was read is closed

added_sum : (a m n : Counts) → added (added a m) n ≡ added a (added m n)
added_sum a m n =
    let failed : (λ (cause : Cause). (a.failed cause + m.failed cause) + n.failed cause)
    ≡ (λ cause. a.failed cause + (m.failed cause + n.failed cause)) = fun_ext (λ cause. omega arith) in
    let given : (a.given + m.given) + n.given ≡ a.given + (m.given + n.given) = omega arith in
    ap (λ (f : Cause → ℕ). record { failed = f; given = (a.given + m.given) + n.given }) failed
    ∙ ap (λ (k : ℕ). record { failed = λ cause. a.failed cause + (m.failed cause + n.failed cause); given = k }) given

counting_sum : (m n : Counts) (h : OpenFiles) → counting n (counting m h) ≡ counting (added m n) h
counting_sum m n h = ap (λ (c : Counts). record h { counts = c }) (added_sum h.counts m n)

-- reads are counted together
reading_sum : (m n : ℕ) (cause : Cause) → of_reading m cause + of_reading n cause ≡ of_reading (m + n) cause
reading_sum m n (call fault) = refl
reading_sum m n reading = refl
reading_sum m n writing = refl

reads_sum : (g m k n : ℕ) → added (reads g m) (reads k n) ≡ reads (g + k) (m + n)
reads_sum g m k n = ap (λ (f : Cause → ℕ). record { failed = f; given = g + k }) (fun_ext (reading_sum m n))

pub reads_then : (g m k n : ℕ) (h h' h'' : OpenFiles) → h' ≡ counting (reads g m) h → h'' ≡ counting (reads k n) h'
    → h'' ≡ counting (reads (g + k) (m + n)) h
reads_then g m k n h h' h'' first next =
    next ∙ ap (counting (reads k n)) first ∙ counting_sum (reads g m) (reads k n) h
    ∙ ap (λ (c : Counts). counting c h) (reads_sum g m k n)

pub reads_all : (g m g1 m1 g2 m2 g3 m3 : ℕ) (h0 h1 h2 h3 h4 : OpenFiles) → h1 ≡ counting (reads g m) h0
    → h2 ≡ counting (reads g1 m1) h1 → h3 ≡ counting (reads g2 m2) h2 → h4 ≡ counting (reads g3 m3) h3
    → h4 ≡ counting (reads (g + g1 + g2 + g3) (m + m1 + m2 + m3)) h0
reads_all g m g1 m1 g2 m2 g3 m3 h0 h1 h2 h3 h4 one two three four =
    reads_then (g + g1 + g2) (m + m1 + m2) g3 m3 h0 h3 h4
    (reads_then (g + g1) (m + m1) g2 m2 h0 h2 h3 (reads_then g m g1 m1 h0 h1 h2 one two) three) four

-- none was read
pub no_reading : (cause : Cause) → of_reading 0 cause ≡ 0
no_reading (call fault) = refl
no_reading reading = refl
no_reading writing = refl

no_writing : (cause : Cause) → of_writing 0 cause ≡ 0
no_writing (call fault) = refl
no_writing reading = refl
no_writing writing = refl

pub reads_none : (h : OpenFiles) → h ≡ counting (reads 0 0) h
reads_none h =
    let failed : h.counts.failed ≡ (λ cause. h.counts.failed cause + of_reading 0 cause)
    = fun_ext (λ cause. let none = no_reading cause in omega (arith, none)) in
    let given : h.counts.given ≡ h.counts.given + 0 = omega arith in
    ap (λ (f : Cause → ℕ). record h { counts = record { failed = f; given = h.counts.given } }) failed
    ∙ ap (λ (k : ℕ). record h {
      counts = record {
        failed = λ cause. h.counts.failed cause + of_reading 0 cause;
        given = k;
      };
    }) given

pub empty_total : {P : Type 0} (F : P → ℕ) (ps : List P) → length ps ≡ 0 → total F ps ≡ 0
empty_total F [] none = refl
empty_total F (p ∷ ps) none = absurd (omega (arith, none))

pub pop_total : {P : Type 0} (F : P → ℕ) (old new : List P) (p : P) → old ≡ new ++ (p ∷ [])
    → total F old ≡ total F new + F p
pop_total F old new p is =
    ap (total F) is ∙ sum_by-append F new (p ∷ [])
    ∙ (let e : total F new + (0 + F p) ≡ total F new + F p = omega arith in e)

-- ---- an output that is closed

-- with this much that failed before
ended_behind : (d : Bool) (m n : Counts) (h : OpenFiles) → ended d n (counting m h) ≡ ended d (added m n) h
ended_behind d m n h =
    ap (λ (c : Counts). record h { output = None; syncs = h.syncs + (if d && h.is_synced then 1 else 0); counts = c })
    (added_sum h.counts m n)

closes_as : (d : Bool) (m n : Counts) (h h' h'' : OpenFiles) → h' ≡ counting m h → h'' ≡ ended d n h'
    → (IsTrue d → HasNone (added m n)) → ClosesOutput d h h''
closes_as d m n h h' h'' before end none = record {
  failures = added m n;
  closed = end ∙ ap (ended d n) before ∙ ended_behind d m n h;
  clean = none;
}

-- nothing has failed
none_counted : (r0 w0 g r w : ℕ) (more : Counts) → r0 ≡ 0 → w0 ≡ 0 → HasNone more → (r ≡ r0) × (w ≡ w0)
    → HasNone (added (reads g r) (added more (writes w)))
none_counted r0 w0 g r w more none_r none_w none same = λ cause.
    let no_read : of_reading r cause ≡ 0 = ap (λ n. of_reading n cause) (same.0 ∙ none_r) ∙ no_reading cause in
    let no_write : of_writing w cause ≡ 0 = ap (λ n. of_writing n cause) (same.1 ∙ none_w) ∙ no_writing cause in
    let no_more : more.failed cause ≡ 0 = none cause in
    omega (arith, no_read, no_write, no_more)

-- an image was written, and completed
pub closes_laid : (r0 w0 g r w : ℕ) (h h' h'' : OpenFiles) → r0 ≡ 0 → w0 ≡ 0 → h' ≡ counting (reads g r) h
    → h'' ≡ ended true (added no_counts (writes w)) h' → (r ≡ r0) × (w ≡ w0) → ClosesOutput true h h''
closes_laid r0 w0 g r w h h' h'' none_r none_w before end same =
    closes_as true (reads g r) (added no_counts (writes w)) h h' h'' before end
    (λ t. none_counted r0 w0 g r w no_counts none_r none_w (λ cause. refl) same)

-- it was not written, or its end failed
pub closes_undone : (m n : Counts) (h h' h'' : OpenFiles) → h' ≡ counting m h → h'' ≡ ended false n h'
    → ClosesOutput false h h''
closes_undone m n h h' h'' before end = closes_as false m n h h' h'' before end (λ t. absurd (false≢true t))

-- the result is that of the call
pub answered : {X F G : Type 0} (answer : Result X F) (result : Result (X × Bool) G)
    → IfOk result (λ end. answer ≡ Ok end.0) → OnOk result (IsOk answer)
answered answer (Ok y) is = ap is_ok is
answered answer (Err e) is = tt

-- the end returns the result of the call
pub closes_answer : {X Y F G : Type 0} {bytes : List ℕ} {a b : World} (answer : Result X F) (result : Result Y G)
    (r0 w0 g r w : ℕ) (h h' h'' : OpenFiles) → r0 ≡ 0 → w0 ≡ 0 → h' ≡ counting (reads g r) h
    → EndsOutput (is_ok result) bytes (writes w) h' h'' a b → OnOk answer ((r ≡ r0) × (w ≡ w0))
    → OnOk result (IsOk answer) → ClosesOutput (is_ok result) h h''
closes_answer (Ok x) (Ok y) r0 w0 g r w h h' h'' zero_r zero_w before end clean done =
    closes_as true (reads g r) (added end.more (writes w)) h h' h'' before end.closed
    (λ t. none_counted r0 w0 g r w end.more zero_r zero_w (end.clean refl) clean)
closes_answer answer (Err e) r0 w0 g r w h h' h'' zero_r zero_w before end clean done =
    closes_undone (reads g r) (added end.more (writes w)) h h' h'' before end.closed
closes_answer (Err f) (Ok y) r0 w0 g r w h h' h'' zero_r zero_w before end clean done = absurd (false≢true done)

-- ---- what has failed then

fails_read : (g r : ℕ) (d : Bool) (n : Counts) (h h' h'' : OpenFiles) → h' ≡ counting (reads g r) h → h'' ≡ ended d n h'
    → 0 < r → HasFailed reading h h''
fails_read g r d n h h' h'' before end some =
    let e : h'.counts.failed reading ≡ h.counts.failed reading + r = ap (λ k. k.counts.failed reading) before in
    let f : h''.counts.failed reading ≡ h'.counts.failed reading + n.failed reading
    = ap (λ k. k.counts.failed reading) end in
    omega (arith, e, f, some)

fails_written : (g r : ℕ) (d : Bool) (n : Counts) (h h' h'' : OpenFiles) → h' ≡ counting (reads g r) h
    → h'' ≡ ended d n h' → 0 < n.failed writing → HasFailed writing h h''
fails_written g r d n h h' h'' before end some =
    let e : h'.counts.failed writing ≡ h.counts.failed writing + 0 = ap (λ k. k.counts.failed writing) before in
    let f : h''.counts.failed writing ≡ h'.counts.failed writing + n.failed writing
    = ap (λ k. k.counts.failed writing) end in
    omega (arith, e, f, some)

-- a device
moves_fail : (f : SectionFault) (r0 r w0 w g : ℕ) (changed : Type 0) (d : Bool) (n : Counts) (h h' h'' : OpenFiles)
    → h' ≡ counting (reads g r) h → h'' ≡ ended d n h' → w ≤ n.failed writing → ¬ changed
    → MoveCause f r0 r w0 w changed → IsFailure (faults.Section f) (λ cause. HasFailed cause h h'')
moves_fail (sections.Read k) r0 r w0 w g changed d n h h' h'' before end counted same more = record {
  cause = reading;
  is_cause = refl;
  failed = fails_read g r d n h h' h'' before end (omega (arith, more));
}
moves_fail (sections.Write k) r0 r w0 w g changed d n h h' h'' before end counted same more = record {
  cause = writing;
  is_cause = refl;
  failed = fails_written g r d n h h' h'' before end (omega (arith, more, counted));
}
moves_fail sections.SourceChanged r0 r w0 w g changed d n h h' h'' before end counted same more = absurd (same more)
moves_fail f r0 r w0 w g changed d n h h' h'' before end counted same more = absurd more

lay_fails : (f : LayFault) (r0 r w0 w g : ℕ) (changed : Type 0) (d : Bool) (n : Counts) (h h' h'' : OpenFiles)
    → h' ≡ counting (reads g r) h → h'' ≡ ended d n h' → w ≤ n.failed writing → ¬ changed
    → LayCause f r0 r w0 w changed → IsFailure (lay_fault f) (λ cause. HasFailed cause h h'')
lay_fails (laying.Packing f) r0 r w0 w g changed d n h h' h'' before end counted same more =
    moves_fail f r0 r w0 w g changed d n h h' h'' before end counted same more
lay_fails laying.Magic r0 r w0 w g changed d n h h' h'' before end counted same more = record {
  cause = writing;
  is_cause = inr (refl, refl);
  failed = fails_written g r d n h h' h'' before end (omega (arith, more, counted));
}

-- the output was let go for it
pub stopped_fails : (fault : BootCommandFault) (f : LayFault) (r0 r w0 w g : ℕ) (changed : Type 0)
    (h h' h'' : OpenFiles) → fault ≡ lay_fault f → h' ≡ counting (reads g r) h → h'' ≡ ended false (writes w) h'
    → ¬ changed → LayCause f r0 r w0 w changed → IsFailure fault (λ cause. HasFailed cause h h'')
stopped_fails fault f r0 r w0 w g changed h h' h'' told before end same more =
    let all : w ≤ w = omega arith in
    subst (λ k. IsFailure k (λ cause. HasFailed cause h h'')) (sym told)
    (lay_fails f r0 r w0 w g changed false (writes w) h h' h'' before end all same more)

-- a call of the disk
pub call_fails : (fault : BootCommandFault) (f : HostFault) (Failed : Cause → Type 0) → fault ≡ faults.Host f
    → Failed (call f) → IsFailure fault Failed
call_fails fault f Failed told failed = record {
  cause = call f;
  is_cause = subst (λ k. IsCauseOf k (call f)) (sym told) (inl refl);
  failed = failed;
}

-- the end of the output, after what was read was closed
ends_late : (g r : ℕ) (f : HostFault) (h h' h'' : OpenFiles) → h' ≡ counting (reads g r) h → HasFailed (call f) h' h''
    → HasFailed (call f) h h''
ends_late g r f h h' h'' before more =
    let e : h'.counts.failed (call f) ≡ h.counts.failed (call f) + 0 = ap (λ k. k.counts.failed (call f)) before in
    let rises : h'.counts.failed (call f) < h''.counts.failed (call f) = more in
    omega (arith, e, rises)

pub end_fails : (fault : BootCommandFault) (f : HostFault) (g r w : ℕ) (h h' h'' : OpenFiles) → fault ≡ faults.Host f
    → h' ≡ counting (reads g r) h → h'' ≡ ended false (added (call_of f) (writes w)) h'
    → IsFailure fault (λ cause. HasFailed cause h h'')
end_fails fault f g r w h h' h'' told before end =
    let e : h''.counts.failed (call f) ≡ h'.counts.failed (call f) + (calls f (call f) + 0)
    = ap (λ k. k.counts.failed (call f)) end in
    let one : calls f (call f) ≡ 1 = counts_one f in
    call_fails fault f (λ cause. HasFailed cause h h'') told
    (ends_late g r f h h' h'' before (omega (arith, e, one)))

-- the call that wrote the output, or its end
pub answer_fails : {Y R : Type 0} {bytes : List ℕ} {u v : World} (a : Result ℕ SectionFault)
    (b : Result ℕ BootCommandFault) (result : Result Y R) (fault : R → BootCommandFault) (r0 r w0 w g : ℕ)
    (changed T : Type 0) (h h' h'' : OpenFiles) → MatchResult a (λ n. b ≡ Ok n) (λ f. b ≡ Err (faults.Section f))
    → h' ≡ counting (reads g r) h → EndsOutput (is_ok result) bytes (writes w) h' h'' u v → ¬ changed
    → IfErr a (λ f. MoveCause f r0 r w0 w changed) → IfErr b (λ f. IfErr result (λ x. fault x ≡ f)) → T
    → (IsOk b → IfErr result (λ x. (k : HostFault) × (fault x ≡ faults.Host k) × (T → HasFailed (call k) h' h'')))
    → IfErr result (λ x. IsFailure (fault x) (λ cause. HasFailed cause h h''))
answer_fails a b (Ok y) fault r0 r w0 w g changed T h h' h'' told before end same moves is t host = tt
answer_fails (Ok n) b (Err x) fault r0 r w0 w g changed T h h' h'' told before end same moves is t host =
    let it = host (ap is_ok told) in
    call_fails (fault x) it.0 (λ cause. HasFailed cause h h'') it.1 (ends_late g r it.0 h h' h'' before (it.2 t))
answer_fails {Y} {R} (Err f) b (Err x) fault r0 r w0 w g changed T h h' h'' told before end same moves is t host =
    let result : Result Y R = Err x in
    let e : fault x ≡ faults.Section f
    = subst (λ (k : Result ℕ BootCommandFault). IfErr k (λ f. IfErr result (λ x. fault x ≡ f))) told is in
    let more : w ≤ end.more.failed writing + w = omega arith in
    subst (λ k. IsFailure k (λ cause. HasFailed cause h h'')) (sym e)
    (moves_fail f r0 r w0 w g changed false (added end.more (writes w)) h h' h'' before end.closed more same moves)

pub failure_more : (fault : BootCommandFault) (P Q : Cause → Type 0) → IsFailure fault P
    → ((cause : Cause) → P cause → Q cause) → IsFailure fault Q
failure_more fault P Q failure more = record {
  cause = failure.cause;
  is_cause = failure.is_cause;
  failed = more failure.cause failure.failed;
}

-- ---- from the creation of the output on

same_created : (path : List ℕ) (h h' : OpenFiles) (a b : World) (cause : Cause) → Creates path h h' a b
    → h'.counts.failed cause ≡ h.counts.failed cause
same_created path h h' a b cause made = ap (λ k. k.counts.failed cause) made.begins

pub failed_created : (path : List ℕ) (fault : BootCommandFault) (h h' h'' : OpenFiles) (a b : World)
    → Creates path h h' a b → IsFailure fault (λ cause. HasFailed cause h' h'')
    → IsFailure fault (λ cause. HasFailed cause h h'')
failed_created path fault h h' h'' a b made failure =
    failure_more fault (λ cause. HasFailed cause h' h'') (λ cause. HasFailed cause h h'') failure (λ cause more.
    let e : h'.counts.failed cause ≡ h.counts.failed cause = same_created path h h' a b cause made in
    let rises : h'.counts.failed cause < h''.counts.failed cause = more in
    omega (arith, e, rises))

pub clean_created : (path : List ℕ) (h h' h'' : OpenFiles) (a b : World) → Creates path h h' a b
    → ClosesOutput true h' h'' → HasNotFailed h h''
clean_created path h h' h'' a b made closes = λ cause.
    let e : h'.counts.failed cause ≡ h.counts.failed cause = same_created path h h' a b cause made in
    let f : h''.counts.failed cause ≡ h'.counts.failed cause + closes.failures.failed cause
    = ap (λ k. k.counts.failed cause) closes.closed in
    let none : closes.failures.failed cause ≡ 0 = closes.clean refl cause in
    omega (arith, e, f, none)

pub synced_created : (path : List ℕ) (h h' h'' : OpenFiles) (a b : World) → Creates path h h' a b
    → ClosesOutput true h' h''
    → h''.syncs ≡ h.syncs + (if h.is_synced then 1 else 0)
synced_created path h h' h'' a b made closes =
    ap (λ k. k.syncs) closes.closed ∙ ap (λ k. k.syncs + (if k.is_synced then 1 else 0)) made.begins

pub closed_created : (d : Bool) (h h' : OpenFiles) → ClosesOutput d h h' → h'.output ≡ None
closed_created d h h' closes = ap (λ k. k.output) closes.closed

-- ---- what OUT is left as

-- it was not opened
pub left_unopened : {X F : Type 0} (e : F) (output : List ℕ) (over : Bool) (W : List ℕ → Type 0) (h h' : OpenFiles)
    (a b : World) → h'.output ≡ None → b ≡ a → LeavesOut {X = X} (Err e) output over W h h' a b
left_unopened e output over W h h' a b none same = record {
  others = untouched same;
  guarded = λ used refused. same;
  closed = none;
  whole = λ o file at. inl (ap (λ (u : World). u.holds file) same);
  clean = tt;
  synced = tt;
}
