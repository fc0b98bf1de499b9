-- What closing the file that pieces went through adds to what was delivered.
use Rattle.std.proofs.Common.{◌≡◌, ◌<◌, ◌≤◌, ◌+◌, ◌-◌, ◌^◌, ℕ, List, Option, Some, None, refl, sym, ◌∙◌, ap, subst}
use Rattle.std.proofs.Common.{arith, inl, inr}
use Rattle.std.specs.Prelude.{Result, Ok, Err, IfErr, IfOk, OnErr, OnOk, Bool, false}
use Rattle.abt_io.specs.declared.device.DeviceFault.{DeviceFault}
use Rattle.sys_disk.specs.Spools.{closed_spool}
use Rattle.sys_disk.specs.Counts as runs
use Rattle.sys_disk.specs.World.{OpenFiles}
use Rattle.sys_refusals.specs.declared.refusal.HostFault.{HostFault}
use Rattle.sys_refusals.specs.declared.refusal.HostFault.TheVariants as hosts
use Rattle.sys_refusals.specs.declared.refusal.HostRefusal.{HostRefusal}
use Rattle.abt_flash_faults.specs.declared.fault.Cause.TheVariants as causes
use Rattle.abt_flash.specs.declared.answer.Delivered.{Delivered}
use Rattle.abt_flash_faults.specs.declared.fault.Cause.{Cause}
use Rattle.abt_flash_faults.specs.declared.fault.FlashFault.{FlashFault}
use Rattle.abt_flash_faults.specs.declared.fault.FlashFault.TheVariants as flashes
use Rattle.abt_flash.specs.Delivering.{blocks_in_first}
use Rattle.cmd_flash.specs.Files.{DeviceFailed, NeitherFailed}
use Rattle.cmd_flash.specs.InPieces.{DeliversPieces, IsDelivered, IsStopped, IsUndelivered, StandsUpTo, StoppedBy}
use Rattle.cmd_flash.specs.InPieces.{image_as}
use Rattle.cmd_flash.specs.Through.{HasFailedWith, HasNotFailedWith, failed_with, last_from, told}
use Rattle.cmd_flash.proofs.Deliveries.{stands_whole}

-- the same, where a device that had failed has failed in other words
stopped_for : (F G : Type 0) (raw : Option ℕ) (limit before j : ℕ) (x p p' : List ℕ) → (F → G)
    → IsStopped F raw limit before j x p p' → IsStopped G raw limit before j x p p'
stopped_for F G raw limit before j x p p' go s =
    record { whole = s.whole; cause = go s.cause; behind = s.behind; few = s.few; stands = s.stands }

by_same : (F G : runs.Cause → Type 0) (c : Cause) → ((k : runs.Cause) → F k → G k) → StoppedBy F c → StoppedBy G c
by_same F G (causes.Read d) go is = go runs.reading is
by_same F G (causes.Write d) go is = go runs.writing is
by_same F G (causes.Sync d) go is = go runs.writing is
by_same F G (causes.SpoolRead d) go is = go runs.reading is
by_same F G (causes.SpoolWrite d) go (inl wrote) = inl (go runs.writing wrote)
by_same F G (causes.SpoolWrite d) go (inr closed) = inr (go (runs.call hosts.Write) closed)
by_same F G causes.SourceChanged go is = absurd is
by_same F G causes.SpoolChanged go is = absurd is

pub undelivered_for : (F G : runs.Cause → Type 0) (raw : Option ℕ) (f : FlashFault) (limit before : ℕ)
    (x p p' : List ℕ) → ((k : runs.Cause) → F k → G k) → IsUndelivered F raw f limit before x p p'
    → IsUndelivered G raw f limit before x p p'
undelivered_for F G raw (flashes.Stopped j c) limit before x p p' go is =
    stopped_for (StoppedBy F c) (StoppedBy G c) raw limit before j x p p' (by_same F G c go) is
undelivered_for F G raw (flashes.Read d) limit before x p p' go is = (go runs.reading is.0, is.1)
undelivered_for F G raw f limit before x p p' go is = is

delivers_for : (F G : runs.Cause → Type 0) (raw : Option ℕ) (r : Result Delivered FlashFault) (limit before : ℕ)
    (x p p' : List ℕ) → ((k : runs.Cause) → F k → G k) → DeliversPieces F raw r limit before x p p'
    → DeliversPieces G raw r limit before x p p'
delivers_for F G raw (Ok d) limit before x p p' go is = is
delivers_for F G raw (Err f) limit before x p p' go is = undelivered_for F G raw f limit before x p p' go is

-- all pieces were written, but their spool could not be closed: the last of them is reported
late_last : (G : Type 0) (raw : Option ℕ) (limit from : ℕ) (d : Delivered) (x p p' : List ℕ) → 1 ≤ from → from < 2 ^ 32
    → 0 < d.pieces → G → IsDelivered raw limit (from - 1) d.pieces x p p'
    → IsStopped G raw limit (from - 1) (last_from from d.pieces) x p p'
late_last G raw limit from d x p p' some small one failed is =
    let b = (image_as raw x).size in
    let l = (image_as raw x).blocks in
    let counts = is.counts in
    record {
      whole = is.whole;
      cause = failed;
      behind = omega (arith, some, small, one);
      few = omega (arith, counts);
      stands = λ q done le stands. subst (λ (z : List ℕ). StandsUpTo raw limit (last_from from d.pieces - 1) x q z)
          (sym (is.mends q done le stands)) (stands_whole b l q (blocks_in_first limit b l (last_from from d.pieces -
          1)));
    }

late_fault : (F G : runs.Cause → Type 0) (raw : Option ℕ) (f : FlashFault) (limit from : ℕ) (c : Cause)
    (x p p' : List ℕ) → ((k : runs.Cause) → F k → G k) → StoppedBy G c → IsUndelivered F raw f limit (from - 1) x p p'
    → DeliversPieces G raw (told (Err f) from (Some c)) limit (from - 1) x p p'
late_fault F G raw (flashes.Stopped j d) limit from c x p p' go failed is =
    stopped_for (StoppedBy F d) (StoppedBy G c) raw limit (from - 1) j x p p' (λ before. failed) is
late_fault F G raw (flashes.Read d) limit from c x p p' go failed is = (go runs.reading is.0, is.1)
late_fault F G raw f limit from c x p p' go failed is = is

-- what is reported then, where it was closed, and where it was not
told_right : (F G : runs.Cause → Type 0) (raw : Option ℕ) (r : Result Delivered FlashFault) (limit from : ℕ)
    (late : Option Cause) (x p p' : List ℕ) → 1 ≤ from → from < 2 ^ 32 → IfOk r (λ d. 0 < d.pieces)
    → ((k : runs.Cause) → F k → G k) → ((c : Cause) → late ≡ Some c → StoppedBy G c)
    → DeliversPieces F raw r limit (from - 1) x p p' → DeliversPieces G raw (told r from late) limit (from - 1) x p p'
told_right F G raw r limit from None x p p' some small one go failed is =
    delivers_for F G raw r limit (from - 1) x p p' go is
told_right F G raw (Ok d) limit from (Some c) x p p' some small one go failed is =
    late_last (StoppedBy G c) raw limit from d x p p' some small one (failed c refl) is
told_right F G raw (Err f) limit from (Some c) x p p' some small one go failed is =
    late_fault F G raw f limit from c x p p' go (failed c refl) is

-- ---- whether the file was closed

abbrev IsCause : Option Cause → Type 0
IsCause None = ⊥
IsCause (Some c) = Unit {0}

abbrev cause_or : Cause → Option Cause → Cause
cause_or d None = d
cause_or d (Some c) = c

-- there is a cause only where it could not be: a call has failed
pub late_failed : (r : Result Bool HostRefusal) (late : Option Cause) (c : Cause)
    → IfOk r (λ is_short. is_short ≡ false → late ≡ None) → IfOk r (λ is_short. is_short ≡ false)
    → IfErr r (λ refusal. refusal.fault ≡ hosts.Write)
    → OnErr r (late ≡ Some (causes.SpoolWrite DeviceFault.Failed)) → late ≡ Some c
    → (causes.SpoolWrite DeviceFault.Failed ≡ c) × ((runs.failure_of r).failed (runs.call hosts.Write) ≡ 1)
late_failed (Ok b) late c none long wrote settled is = absurd (subst IsCause (sym is ∙ none long) tt)
late_failed (Err d) late c none long wrote settled is =
    (ap (cause_or c) (sym settled ∙ is), ap (λ f. runs.calls f (runs.call hosts.Write)) wrote)

-- ---- what has failed: reading the source or the spool; writing the partition, and writing or clearing the spool

same_order : (s p w r c : ℕ) (G : Type 0) → (s + p + (w + c + r) ≡ 0 → G) → s + p + (w + (r + c)) ≡ 0 → G
same_order s p w r c G rose none = rose (omega (arith, none))

-- of devices that had not failed
pub in_order : (s p w r c s' p' w' r' c' : ℕ) (raw : Option ℕ) (q : Result Delivered FlashFault) (limit before : ℕ)
    (x y y' : List ℕ)
    → DeliversPieces
    (λ k. s + p + (w + c + r) ≡ 0 → DeviceFailed (s + r) (s' + r') (p + (w + c)) (p' + (w' + c')) k) raw q limit before
    x y y'
    → DeliversPieces
    (λ k. s + p + (w + (r + c)) ≡ 0 → DeviceFailed (s + r) (s' + r') (p + (w + c)) (p' + (w' + c')) k) raw q limit
    before x y y'
in_order s p w r c s' p' w' r' c' raw q limit before x y y' is =
    delivers_for (λ k. s + p + (w + c + r) ≡ 0 → DeviceFailed (s + r) (s' + r') (p + (w + c)) (p' + (w' + c')) k)
    (λ k. s + p + (w + (r + c)) ≡ 0 → DeviceFailed (s + r) (s' + r') (p + (w + c)) (p' + (w' + c')) k) raw q limit
    before x y y'
    (λ k. same_order s p w r c (DeviceFailed (s + r) (s' + r') (p + (w + c)) (p' + (w' + c')) k)) is

held_rose : (h h' : OpenFiles) (u : runs.Counts) (s0 t0 s t r w c : ℕ) (cause : runs.Cause)
    → h' ≡ closed_spool (runs.added u (runs.faults_through r w c)) h
    → DeviceFailed s0 (s + r) t0 (t + (w + c)) cause → HasFailedWith s t h h' cause
held_rose h h' u s0 t0 s t r w c (runs.call f) closed more = absurd more
held_rose h h' u s0 t0 s t r w c runs.reading closed more =
    let one : h'.counts.failed runs.reading
    ≡ h.counts.failed runs.reading + (u.failed runs.reading + (r + 0)) =
    ap (λ (q : OpenFiles). q.counts.failed runs.reading) closed in
    omega (arith, one, more)
held_rose h h' u s0 t0 s t r w c runs.writing closed more =
    let one : h'.counts.failed runs.writing
    ≡ h.counts.failed runs.writing + (u.failed runs.writing + (0 + (w + c))) =
    ap (λ (q : OpenFiles). q.counts.failed runs.writing) closed in
    omega (arith, one, more)

held_late : (h h' : OpenFiles) (u : runs.Counts) (s t r w c : ℕ) (f : HostFault)
    → h' ≡ closed_spool (runs.added u (runs.faults_through r w c)) h → u.failed (runs.call f) ≡ 1
    → HasFailedWith s t h h' (runs.call f)
held_late h h' u s t r w c f closed one =
    let more : h'.counts.failed (runs.call f)
    ≡ h.counts.failed (runs.call f) + (u.failed (runs.call f) + (0 + 0)) =
    ap (λ (q : OpenFiles). q.counts.failed (runs.call f)) closed in
    omega (arith, one, more)

-- the same of the disk, where the spool is closed after the pieces
pub told_held : (h h' : OpenFiles) (u : runs.Counts) (none s0 t0 s t r w c : ℕ) (raw : Option ℕ)
    (q q' : Result Delivered FlashFault) (limit from : ℕ) (late : Option Cause) (x p p' : List ℕ) → 1 ≤ from
    → from < 2 ^ 32 → IfOk q (λ d. 0 < d.pieces) → h' ≡ closed_spool (runs.added u (runs.faults_through r w c)) h
    → ((k : Cause) → late ≡ Some k
    → (causes.SpoolWrite DeviceFault.Failed ≡ k) × (u.failed (runs.call hosts.Write) ≡ 1))
    → q' ≡ told q from late
    → DeliversPieces (λ k. none ≡ 0 → DeviceFailed s0 (s + r) t0 (t + (w + c)) k) raw q limit (from - 1) x p p'
    → DeliversPieces (λ k. none ≡ 0 → HasFailedWith s t h h' k) raw q' limit (from - 1) x p p'
told_held h h' u none s0 t0 s t r w c raw q q' limit from late x p p' some small one closed cause same is =
    let F : runs.Cause → Type 0 = λ k. none ≡ 0 → DeviceFailed s0 (s + r) t0 (t + (w + c)) k in
    let G : runs.Cause → Type 0 = λ k. none ≡ 0 → HasFailedWith s t h h' k in
    let go : (k : runs.Cause) → F k → G k = λ k rose clean. held_rose h h' u s0 t0 s t r w c k closed (rose clean) in
    let failed : (k : Cause) → late ≡ Some k → StoppedBy G k = λ k is.
    let known = cause k is in
    subst (StoppedBy G) known.0 (inr (λ clean. held_late h h' u s t r w c hosts.Write closed known.1)) in
    subst (λ (z : Result Delivered FlashFault). DeliversPieces G raw z limit (from - 1) x p p') (sym same)
    (told_right F G raw q limit from late x p p' some small one go failed is)

-- ---- and that nothing has failed

late_told : (q : Result Delivered FlashFault) (from : ℕ) (c : Cause) (P : Type 0) → OnOk (told q from (Some c)) P
late_told (Ok d) from c P = tt
late_told (Err (flashes.Stopped j d)) from c P = tt
late_told (Err f) from c P = tt

none_then : (q : Result Delivered FlashFault) (P Q : Type 0) → (P → Q) → OnOk q P → OnOk q Q
none_then (Ok d) P Q go is = go is
none_then (Err f) P Q go is = tt

-- all pieces are reported only where the spool was closed
told_clean : (q : Result Delivered FlashFault) (from : ℕ) (late : Option Cause) (k : Result Bool HostRefusal)
    (P Q : Type 0) → OnErr k (late ≡ Some (causes.SpoolWrite DeviceFault.Failed))
    → (runs.HasNone (runs.failure_of k) → P → Q) → OnOk q P → OnOk (told q from late) Q
told_clean q from (Some c) k P Q settled go is = late_told q from c Q
told_clean q from None (Ok b) P Q settled go is = none_then q P Q (go (λ cause. refl)) is
told_clean q from None (Err d) P Q settled go is = absurd (subst IsCause (sym settled) tt)

same_held : (h h' : OpenFiles) (u : runs.Counts) (s0 t0 s t r w c : ℕ)
    → h' ≡ closed_spool (runs.added u (runs.faults_through r w c)) h → runs.HasNone u
    → NeitherFailed s0 (s + r) t0 (t + (w + c)) → s0 ≡ 0 → t0 ≡ 0 → (cause : runs.Cause)
    → failed_with s t h' cause ≡ h.counts.failed cause
same_held h h' u s0 t0 s t r w c closed none same was was' (runs.call f) =
    let one : h'.counts.failed (runs.call f)
    ≡ h.counts.failed (runs.call f) + (u.failed (runs.call f) + (0 + 0)) =
    ap (λ (q : OpenFiles). q.counts.failed (runs.call f)) closed in
    let two = none (runs.call f) in
    omega (arith, one, two)
same_held h h' u s0 t0 s t r w c closed none same was was' runs.reading =
    let one : h'.counts.failed runs.reading
    ≡ h.counts.failed runs.reading + (u.failed runs.reading + (r + 0)) =
    ap (λ (q : OpenFiles). q.counts.failed runs.reading) closed in
    let two = none runs.reading in
    let three = same.0 in
    omega (arith, one, two, three, was)
same_held h h' u s0 t0 s t r w c closed none same was was' runs.writing =
    let one : h'.counts.failed runs.writing
    ≡ h.counts.failed runs.writing + (u.failed runs.writing + (0 + (w + c))) =
    ap (λ (q : OpenFiles). q.counts.failed runs.writing) closed in
    let two = none runs.writing in
    let three = same.1 in
    omega (arith, one, two, three, was')

pub clean_held : (h h' : OpenFiles) (s0 p0 w0 r0 c0 s t r w c : ℕ) (q q' : Result Delivered FlashFault) (from : ℕ)
    (late : Option Cause) (k : Result Bool HostRefusal)
    → h' ≡ closed_spool (runs.added (runs.failure_of k) (runs.faults_through r w c)) h
    → OnErr k (late ≡ Some (causes.SpoolWrite DeviceFault.Failed)) → q' ≡ told q from late
    → OnOk q (NeitherFailed (s0 + r0) (s + r) (p0 + (w0 + c0)) (t + (w + c)))
    → OnOk q' (s0 + p0 + (w0 + (r0 + c0)) ≡ 0 → HasNotFailedWith s t h h')
clean_held h h' s0 p0 w0 r0 c0 s t r w c q q' from late k closed settled is same =
    let Q : Type 0 = s0 + p0 + (w0 + (r0 + c0)) ≡ 0 → HasNotFailedWith s t h h' in
    subst (λ (z : Result Delivered FlashFault). OnOk z Q) (sym is)
    (told_clean q from late k (NeitherFailed (s0 + r0) (s + r) (p0 + (w0 + c0)) (t + (w + c))) Q settled
    (λ none both were. same_held h h' (runs.failure_of k) (s0 + r0) (p0 + (w0 + c0)) s t r w c closed none both
    (omega (arith, were)) (omega (arith, were))) same)
