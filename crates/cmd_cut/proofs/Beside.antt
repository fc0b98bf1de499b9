-- One piece, from its output's opening to its end.
use Rattle.std.proofs.Common.{arith, ◌+◌, ◌≡◌, ℕ, ◌≤◌, List, None, Bool, true, false, refl, sym, ◌∙◌, ap, subst}
use Rattle.std.proofs.Common.{inl, inr, ◌⊎◌}
use Rattle.std.specs.Prelude.{IsTrue, IsOk, IfErr, IfOk, IsErrAnd, OnOk, OnErr, Result, Ok, Err, is_ok, unwrap_or}
use Rattle.std.specs.Prelude.{Contains, if◌then◌else◌}
use Rattle.std.specs.Prelude.{Option}
use Rattle.std.proofs.lemmas.Bool.{false≢true}
use Rattle.abt_pieces.specs.Turn.{HasAt}
use Rattle.sys_refusals.specs.declared.refusal.HostFault.{HostFault}
use Rattle.sys_refusals.specs.declared.refusal.HostFault.TheVariants as hosts
use Rattle.sys_disk.specs.Counts.{Cause, Counts, added, call, call_of, calls, no_counts, of_reading}
use Rattle.sys_disk.specs.Counts.{reading, writes, writing}
use Rattle.sys_disk.specs.World.{World, OpenFiles, Creates, OnlyAt, Ends, Spares, SparesRest, KeepsBegun, ended}
use Rattle.sys_disk.specs.World.{EndsOutput, HasFailed, MayWrite, SparesInUse, counting}
use Rattle.cmd_common_sparse.specs.declared.fault.SparseCommandFault.{SparseCommandFault}
use Rattle.cmd_common_sparse.specs.declared.fault.SparseCommandFault.TheVariants as faults
use Rattle.cmd_cut.specs.Cutting.{AddsNone, AddsPiece, ClosesBeside, FailsBeside, HoldsPiece, IsOutsideCut}
use Rattle.cmd_cut.specs.Cutting.{NoneFailsBeside}
use Rattle.cmd_cut.specs.Sparsing.{DevicesFail, GivesUp, IsOutsideSparse, TellsFirst, earlier, itself}
use Rattle.sys_disk.proofs.Failings.{counts_one}
use Rattle.cmd_cut.proofs.Counted.{call_failed, none_written, outside_cut_more, outside_first, outside_host}
use Rattle.cmd_cut.proofs.Counted.{outside_more}
use Rattle.sys_disk.specs.Among.{GoesAmong, IsMade, KeepsMade}
use Rattle.sys_disk.proofs.Amongs.{made_written, goes_none, goes_refused, goes_written, keeps_refused, keeps_written}

-- ---- an output that is closed, beside what is read

pub beside_answer : {X Y F G : Type 0} {bytes : List ℕ} {a b : World} (answer : Result X F) (result : Result Y G)
    (r r' w0 w : ℕ) (h h' : OpenFiles) → w0 ≡ 0 → EndsOutput (is_ok result) bytes (writes w) h h' a b
    → OnOk answer ((r' ≡ r) × (w ≡ w0)) → OnOk result (IsOk answer) → ClosesBeside (is_ok result) r r' h h'
beside_answer (Ok x) (Ok y) r r' w0 w h h' none end clean done = record {
  failures = added end.more (writes w);
  closed = end.closed;
  clean = λ t cause.
      let read : of_reading r' cause ≡ of_reading r cause = ap (λ n. of_reading n cause) clean.0 in
      let written = none_written w (clean.1 ∙ none) cause in
      let more = end.clean refl cause in
      omega (arith, read, written, more);
}
beside_answer (Ok x) (Err e) r r' w0 w h h' none end clean done = record {
  failures = added end.more (writes w);
  closed = end.closed;
  clean = λ t. absurd (false≢true t);
}
beside_answer (Err f) (Err e) r r' w0 w h h' none end clean done = record {
  failures = added end.more (writes w);
  closed = end.closed;
  clean = λ t. absurd (false≢true t);
}
beside_answer (Err f) (Ok y) r r' w0 w h h' none end clean done = absurd (false≢true done)

-- a device that failed, until the open output was closed
pub beside_devices : (r r' w0 w : ℕ) (d : Bool) (k : Counts) (h h' : OpenFiles) → w0 ≡ 0 → h' ≡ ended d k h
    → w ≤ k.failed writing → (cause : Cause) → DevicesFail r r' w0 w cause → FailsBeside r r' h h' cause
beside_devices r r' w0 w d k h h' none end least (call f) more = absurd more
beside_devices r r' w0 w d k h h' none end least reading more =
    let after : h'.counts.failed reading ≡ h.counts.failed reading + k.failed reading
    = ap (λ q. q.counts.failed reading) end in
    omega (arith, after, more)
beside_devices r r' w0 w d k h h' none end least writing more =
    let after : h'.counts.failed writing ≡ h.counts.failed writing + k.failed writing
    = ap (λ q. q.counts.failed writing) end in
    omega (arith, after, more, least, none)

-- so did a call, or what was written
pub beside_call : (r r' : ℕ) (f : HostFault) (h h' : OpenFiles) → HasFailed (call f) h h'
    → FailsBeside r r' h h' (call f)
beside_call r r' f h h' more = omega (arith, more)

pub beside_writing : (r r' : ℕ) (h h' : OpenFiles) → HasFailed writing h h' → FailsBeside r r' h h' writing
beside_writing r r' h h' more = omega (arith, more)

-- why: a device failed, or the end did
pub beside_outside : {X Y R : Type 0} {bytes : List ℕ} {a b : World} (fault : R → SparseCommandFault)
    (answer : Result X SparseCommandFault) (result : Result Y R) (r r' w0 w : ℕ) (h h' : OpenFiles)
    → w0 ≡ 0 → EndsOutput (is_ok result) bytes (writes w) h h' a b
    → IfErr answer (IsOutsideSparse (DevicesFail r r' w0 w)) → IfErr answer (λ f. IfErr result (λ e. fault e ≡ f))
    → (IsOk answer → IfErr result (λ e. (f : HostFault) × (fault e ≡ faults.Host f) × HasFailed (call f) h h'))
    → IfErr result (λ e. IsOutsideCut (FailsBeside r r' h h') (fault e))
beside_outside fault answer (Ok y) r r' w0 w h h' none end cause same host = tt
beside_outside fault (Ok x) (Err e) r r' w0 w h h' none end cause same host =
    let it = host refl in
    inl (outside_host (FailsBeside r r' h h') (fault e) it.0 it.1 (beside_call r r' it.0 h h' it.2))
beside_outside fault (Err f) (Err e) r r' w0 w h h' none end cause same host =
    inl (subst (IsOutsideSparse (FailsBeside r r' h h')) (sym same)
    (outside_more (DevicesFail r r' w0 w) (FailsBeside r r' h h')
    (beside_devices r r' w0 w false (added end.more (writes w)) h h' none end.closed (omega arith)) f cause))

-- ---- a file that is written over

-- it was finished
pub beside_done : (r r' w0 w : ℕ) (h h' : OpenFiles) → w0 ≡ 0 → (r' ≡ r) × (w ≡ w0)
    → h' ≡ ended true (added no_counts (writes w)) h → ClosesBeside true r r' h h'
beside_done r r' w0 w h h' none clean end = record {
  failures = added no_counts (writes w);
  closed = end;
  clean = λ t cause.
      let read : of_reading r' cause ≡ of_reading r cause = ap (λ n. of_reading n cause) clean.0 in
      let written = none_written w (clean.1 ∙ none) cause in
      omega (arith, read, written);
}

-- it was not
pub beside_undone : (r r' : ℕ) (k : Counts) (h h' : OpenFiles) → h' ≡ ended false k h → ClosesBeside false r r' h h'
beside_undone r r' k h h' end = record { failures = k; closed = end; clean = λ t. absurd (false≢true t) }

-- since the call that finishes it was refused
pub beside_refused : (r r' w : ℕ) (fault : SparseCommandFault) (f : HostFault) (h h' : OpenFiles)
    → fault ≡ faults.Host f → h' ≡ ended false (added (call_of f) (writes w)) h
    → IsOutsideCut (FailsBeside r r' h h') fault
beside_refused r r' w fault f h h' told end =
    let after : h'.counts.failed (call f) ≡ h.counts.failed (call f) + (calls f (call f) + 0)
    = ap (λ q. q.counts.failed (call f)) end in
    let one = counts_one f in
    inl (outside_host (FailsBeside r r' h h') fault f told (omega (arith, after, one)))

-- since what was held back could not be written
pub beside_unended : (r r' w0 w : ℕ) (fault told : SparseCommandFault) (f : HostFault) (h h' : OpenFiles) (a b : World)
    → w0 ≡ 0 → fault ≡ faults.Host f → IsOutsideCut (DevicesFail r r' w0 w) fault → GivesUp w h h' a b
    → told ≡ faults.Host hosts.Write → IsOutsideCut (FailsBeside r r' h h') told
beside_unended r r' w0 w fault told f h h' a b none is (inr why) given same = inr (
  same,
  beside_devices r r' w0 w false given.failures h h' none given.closed given.least writing why.1,
)
beside_unended r r' w0 w fault told f h h' a b none is (inl why) given same =
    absurd (subst (IsOutsideSparse (DevicesFail r r' w0 w)) is why)

-- since a device failed, or an earlier write
pub beside_stopped : (r r' w0 w : ℕ) (fault told : SparseCommandFault) (models : Bool) (h h' : OpenFiles) (a b : World)
    → w0 ≡ 0 → IsOutsideCut (DevicesFail r r' w0 w) fault → GivesUp w h h' a b
    → TellsFirst fault told (IsTrue models → HasFailed writing h h') → IsTrue models
    → IsOutsideCut (FailsBeside r r' h h') told
beside_stopped r r' w0 w fault told models h h' a b none (inl why) given first t =
    inl (outside_first (DevicesFail r r' w0 w) (FailsBeside r r' h h') (IsTrue models → HasFailed writing h h')
    (beside_devices r r' w0 w false given.failures h h' none given.closed given.least)
    (λ late. beside_writing r r' h h' (late t)) fault told first why)
beside_stopped r r' w0 w fault told models h h' a b none (inr why) given (itself same) t = inr (
  same ∙ why.0,
  beside_devices r r' w0 w false given.failures h h' none given.closed given.least writing why.1,
)
beside_stopped r r' w0 w fault told models h h' a b none (inr why) given (earlier f same late) t =
    inl (subst (IsOutsideSparse (FailsBeside r r' h h')) (sym same) (beside_writing r r' h h' (late t)))

-- the numbers of the piece are those that are returned at the end
pub told_of : {X F G : Type 0} (P : X → Type 0) (answer : Result X F) (result : Result (X × Bool) G) → IfOk answer P
    → IfOk result (λ end. answer ≡ Ok end.0) → IfOk result (λ end. P end.0)
told_of P answer (Ok y) own is = subst (λ a. IfOk a P) is own
told_of P answer (Err e) own is = tt

pub holds_piece : {X F G : Type 0} (answer : Result X F) (result : Result (X × Bool) G) (ps : List (List ℕ)) (made : ℕ)
    (x : List ℕ) (o : Option ℕ) (a b : World) → IfOk answer (λ p. HasAt ps made x)
    → IfOk result (λ end. answer ≡ Ok end.0) → OnOk result (Ends o x a b) → OnOk result (HoldsPiece ps made o a b)
holds_piece answer (Ok y) ps made x o a b own is ends = record {
  bytes = x;
  is_next = subst (λ r. IfOk r (λ p. HasAt ps made x)) is own;
  ends = ends;
}
holds_piece answer (Err e) ps made x o a b own is ends = tt

-- ---- from its opening on

pub adds_piece : {X E : Type 0} (result : Result X E) (path : List ℕ) (ps : List (List ℕ)) (made r r' : ℕ)
    (h h' h'' : OpenFiles) (a b c : World) → Creates path h h' a b → OnOk result (HoldsPiece ps made h'.output b c)
    → ClosesBeside (is_ok result) r r' h' h'' → SparesRest h'.output b c
    → OnOk result (AddsPiece ps made path h h'' a c)
adds_piece (Err e) path ps made r r' h h' h'' a b c created holds closes rest = tt
adds_piece (Ok y) path ps made r r' h h' h'' a b c created holds closes rest =
    let done : IsMade h'' c path holds.bytes
    = made_written path holds.bytes true closes.failures h h' h'' a b c created closes.closed holds.ends in
    let keeps : KeepsMade h h'' a c = keeps_written path true closes.failures h h' h'' a b c created closes.closed rest
    in
    let after : Spares created.file b c
    = subst (λ k. SparesRest k.output b c) created.begins rest in
    record {
      bytes = holds.bytes;
      is_next = holds.is_next;
      written = done;
      keeps = keeps;
      fresh = λ f at listed. created.fresh (subst (λ g. Contains h.begun g)
          (ap (λ o. unwrap_or o 0) (sym at ∙ after.paths path created.file created.there)) listed);
      may = λ p may. subst (MayWrite p) created.begins (subst (MayWrite p) closes.closed may);
      is_synced = ap (λ k. k.is_synced) closes.closed ∙ ap (λ k. k.is_synced) created.begins;
      synced = ap (λ k. k.syncs) closes.closed
          ∙ ap (λ k. k.syncs + (if k.is_synced then 1 else 0)) created.begins;
    }

pub adds_none : {X E : Type 0} (result : Result X E) (path : List ℕ) (r r' : ℕ) (h h' h'' : OpenFiles) (a b c : World)
    → Creates path h h' a b → ClosesBeside (is_ok result) r r' h' h'' → SparesRest h'.output b c
    → OnErr result (AddsNone h h'' a c)
adds_none (Ok y) path r r' h h' h'' a b c created closes rest = tt
adds_none (Err e) path r r' h h' h'' a b c created closes rest = record {
  keeps = keeps_written path false closes.failures h h' h'' a b c created closes.closed rest;
  may = λ p may. subst (MayWrite p) created.begins (subst (MayWrite p) closes.closed may);
  is_synced = ap (λ k. k.is_synced) closes.closed ∙ ap (λ k. k.is_synced) created.begins;
  synced = omega (arith, ap (λ k. k.syncs) closes.closed, ap (λ k. k.syncs) created.begins);
}

-- its output could not be opened
pub adds_none_refused : (path : List ℕ) (k : Counts) (h h' : OpenFiles) (a b : World) → h.output ≡ None
    → h' ≡ counting k h → OnlyAt h.read path a b → KeepsBegun h.begun a b → AddsNone h h' a b
adds_none_refused path k h h' a b closed later only begun = record {
  keeps = keeps_refused path h h' a b k closed later only begun;
  may = λ p may. subst (MayWrite p) later may;
  is_synced = ap (λ q. q.is_synced) later;
  synced = ap (λ q. q.syncs) later;
}

pub outside_refused : {X R : Type 0} (fault : R → SparseCommandFault) (result : Result X R) (f : HostFault) (r : ℕ)
    (h h' : OpenFiles) → IsErrAnd result (λ e. fault e ≡ faults.Host f) → h' ≡ counting (call_of f) h
    → IfErr result (λ e. IsOutsideCut (FailsBeside r r h h') (fault e))
outside_refused fault (Ok x) f r h h' told later = tt
outside_refused fault (Err e) f r h h' told later =
    inl (outside_host (FailsBeside r r h h') (fault e) f told (beside_call r r f h h' (call_failed f h h' later)))

-- what holds of every fault
pub any_refused : {X E : Type 0} (r : Result X E) (P : Type 0) → P → OnErr r P
any_refused (Ok x) P is = tt
any_refused (Err e) P is = is

pub goes_piece : (done : Bool) (path : List ℕ) (r r' : ℕ) (h h' h'' : OpenFiles) (a b c : World) → Creates path h h' a b
    → ClosesBeside done r r' h' h'' → SparesRest h'.output b c
    → GoesAmong (λ p. (p ≡ path) × MayWrite p h) h h'' a c
goes_piece done path r r' h h' h'' a b c created closes rest =
    goes_written (λ p. (p ≡ path) × MayWrite p h) path done closes.failures h h' h'' a b c (refl, created.allowed)
    created closes.closed rest

-- a path may be written, or such devices may not and it leads to one
may_or : (used allowed : Bool) → (IsTrue used → IsTrue allowed) ⊎ (IsTrue used × (allowed ≡ false))
may_or used true = inl (λ is. refl)
may_or true false = inr (refl, refl)
may_or false false = inl (λ is. is)

-- its output could not be opened
pub goes_guarded : (path : List ℕ) (k : Counts) (h h' : OpenFiles) (a b : World) → h' ≡ counting k h
    → OnlyAt h.read path a b → SparesInUse path h a b → GoesAmong (λ p. (p ≡ path) × MayWrite p h) h h' a b
goes_guarded path k h h' a b later only guarded = elim (may_or (h.in_use path) h.allows_mounted) [
  | inl may ↦ goes_refused (λ p. (p ≡ path) × MayWrite p h) path h h' a b k (refl, may) later only
  | inr is ↦ goes_none (λ p. (p ≡ path) × MayWrite p h) h h' a b k later (guarded is.0 is.1)
]

pub none_open : (done : Bool) (r r' : ℕ) (h' h'' : OpenFiles) → ClosesBeside done r r' h' h'' → h''.output ≡ None
none_open done r r' h' h'' closes = ap (λ k. k.output) closes.closed

pub clean_piece : {X E : Type 0} (result : Result X E) (path : List ℕ) (r r' : ℕ) (h h' h'' : OpenFiles) (a b : World)
    → Creates path h h' a b → ClosesBeside (is_ok result) r r' h' h'' → OnOk result (NoneFailsBeside r r' h h'')
clean_piece (Ok y) path r r' h h' h'' a b created closes = λ cause.
    let first : h'.counts.failed cause ≡ h.counts.failed cause = ap (λ k. k.counts.failed cause) created.begins in
    let last : h''.counts.failed cause ≡ h'.counts.failed cause + closes.failures.failed cause
    = ap (λ k. k.counts.failed cause) closes.closed in
    let clean = closes.clean refl cause in
    omega (arith, first, last, clean)
clean_piece (Err e) path r r' h h' h'' a b created closes = tt

pub outside_piece : {X R : Type 0} (fault : R → SparseCommandFault) (result : Result X R) (path : List ℕ) (r r' : ℕ)
    (h h' h'' : OpenFiles) (a b : World) → Creates path h h' a b
    → IfErr result (λ e. IsOutsideCut (FailsBeside r r' h' h'') (fault e))
    → IfErr result (λ e. IsOutsideCut (FailsBeside r r' h h'') (fault e))
outside_piece fault (Ok y) path r r' h h' h'' a b created is = tt
outside_piece fault (Err e) path r r' h h' h'' a b created is =
    outside_cut_more (FailsBeside r r' h' h'') (FailsBeside r r' h h'') (λ cause more.
    let first : h'.counts.failed cause ≡ h.counts.failed cause = ap (λ k. k.counts.failed cause) created.begins in
    omega (arith, first, more)) (fault e) is
