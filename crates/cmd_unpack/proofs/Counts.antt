-- How often outputs were synced, and calls failed.
use Rattle.std.proofs.Common.{◌≡◌, ℕ, ◌+◌, ◌<◌, ◌≤◌, List, Bool, true, false, refl, sym, ◌∙◌, ap, arith}
use Rattle.std.specs.Prelude.{if◌then◌else◌}
use Rattle.std.proofs.lemmas.Bool.{true≢false}
use Rattle.sys_refusals.specs.declared.refusal.HostFault.{HostFault}
use Rattle.sys_disk.specs.Counts.{Cause, Counts, call, reading, writing, call_of, calls, no_counts}
use Rattle.sys_disk.specs.Counts.{of_reading, of_writing, reads, writes}
use Rattle.sys_disk.specs.World.{World, OpenFiles, OpensFile, Creates, HasFailed, HasNotFailed, counting, ended}
use Rattle.sys_disk.proofs.Failings.{counts_one}
use Rattle.cmd_common_boot.specs.ImageFaults.{DeviceFails, NoMoreFailed, RefusesImage, SomeFailed}
use Rattle.cmd_common_boot.specs.declared.fault.BootCommandFault.{BootCommandFault}
use Rattle.cmd_common_boot.specs.declared.fault.BootCommandFault.TheVariants as faults
use Rattle.cmd_common_boot.proofs.Causes.{host_image, source_failed}
use Rattle.cmd_unpack.specs.Unpacking.{SyncsMore}

none_more : (b : Bool) (s t : ℕ) → t ≡ s → t ≡ s + (if b then 0 else 0)
none_more true s t e = omega (arith, e)
none_more false s t e = omega (arith, e)

if_sum : (b : Bool) (s m n : ℕ) → s + (if b then m else 0) + (if b then n else 0) ≡ s + (if b then m + n else 0)
if_sum true s m n = omega arith
if_sum false s m n = omega arith

pub syncs_none : (h h' : OpenFiles) (n : Counts) → h' ≡ counting n h → SyncsMore 0 h h'
syncs_none h h' n same = record {
  wanted = ap (λ q. q.is_synced) same;
  added = none_more h.is_synced h.syncs h'.syncs (ap (λ q. q.syncs) same);
}

pub syncs_then : (m n : ℕ) (h h' h'' : OpenFiles) → SyncsMore m h h' → SyncsMore n h' h'' → SyncsMore (m + n) h h''
syncs_then m n h h' h'' first next = record {
  wanted = next.wanted ∙ first.wanted;
  added = next.added ∙ ap (λ b. h'.syncs + (if b then n else 0)) first.wanted
      ∙ ap (λ s. s + (if h.is_synced then n else 0)) first.added ∙ if_sum h.is_synced h.syncs m n;
}

pub syncs_ended : (path : List ℕ) (h h' h'' : OpenFiles) (u v : World) (n : Counts) → Creates path h h' u v
    → h'' ≡ ended true n h' → SyncsMore 1 h h''
syncs_ended path h h' h'' u v n made done = record {
  wanted = ap (λ q. q.is_synced) done ∙ ap (λ q. q.is_synced) made.begins;
  added = ap (λ q. q.syncs) done ∙ ap (λ q. q.syncs + (if q.is_synced then 1 else 0)) made.begins;
}

-- after a file was opened, and before it is closed
pub syncs_within : (path bytes : List ℕ) (w : World) (m : ℕ) (n : Counts) (h h' g h'' k : OpenFiles)
    → OpensFile w path bytes h h' → g ≡ counting no_counts h' → SyncsMore m g h'' → k ≡ counting n h'' → SyncsMore m h k
syncs_within path bytes w m n h h' g h'' k opens free syncs let_go = record {
  wanted = ap (λ q. q.is_synced) let_go ∙ syncs.wanted ∙ ap (λ q. q.is_synced) free ∙ ap (λ q. q.is_synced) opens.taken;
  added = ap (λ q. q.syncs) let_go ∙ syncs.added ∙ ap (λ q. q.syncs + (if q.is_synced then m else 0)) free
      ∙ ap (λ q. q.syncs + (if q.is_synced then m else 0)) opens.taken;
}

-- of all parts, where no words are wanted, and where they are
pub no_words : (with_words : Bool) (n : ℕ) → with_words ≡ false → n ≡ n + (if with_words then 1 else 0)
no_words true n none = absurd (true≢false none)
no_words false n none = omega arith

pub and_words : (with_words : Bool) (n : ℕ) → with_words ≡ true → n + 1 ≡ n + (if with_words then 1 else 0)
and_words true n wanted = refl
and_words false n wanted = absurd (true≢false (sym wanted))

-- ---- what failed

-- a device that has not failed
no_reads : (cause : Cause) → of_reading 0 cause ≡ 0
no_reads (call f) = refl
no_reads reading = refl
no_reads writing = refl

no_writes : (cause : Cause) → of_writing 0 cause ≡ 0
no_writes (call f) = refl
no_writes reading = refl
no_writes writing = refl

-- the output could not be created
pub none_created : (h h' : OpenFiles) (r : ℕ) (f : HostFault) → h' ≡ counting (call_of f) h
    → SomeFailed h r h' r (call f)
none_created h h' r f same =
    let one = counts_one f in
    let e : h'.counts.failed (call f) ≡ h.counts.failed (call f) + calls f (call f) =
    ap (λ q. q.counts.failed (call f)) same in
    record { rises = omega (arith, e, one) }

-- a copy failed, and the output counts it
pub copy_failed : (path : List ℕ) (h h' h'' : OpenFiles) (u v : World) (r r' w w' : ℕ) → Creates path h h' u v → w ≡ 0
    → ((cause : Cause) → h'.counts.failed cause + of_writing w' cause ≤ h''.counts.failed cause) → (cause : Cause)
    → DeviceFails r r' w w' cause → SomeFailed h r h'' r' cause
copy_failed path h h' h'' u v r r' w w' made empty counts (call f) failed = absurd failed
copy_failed path h h' h'' u v r r' w w' made empty counts reading failed =
    let e : h'.counts.failed reading ≡ h.counts.failed reading = ap (λ q. q.counts.failed reading) made.begins in
    let more = counts reading in
    record { rises = omega (arith, e, more, failed) }
copy_failed path h h' h'' u v r r' w w' made empty counts writing failed =
    let e : h'.counts.failed writing ≡ h.counts.failed writing = ap (λ q. q.counts.failed writing) made.begins in
    let more = counts writing in
    record { rises = omega (arith, e, empty, more, failed) }

-- none did, but the output could not be brought to its end
pub end_failed : (path : List ℕ) (h h' h'' : OpenFiles) (u v : World) (r r' w' : ℕ) → Creates path h h' u v
    → r' ≡ r → (cause : Cause) → h'.counts.failed cause + of_writing w' cause < h''.counts.failed cause
    → SomeFailed h r h'' r' cause
end_failed path h h' h'' u v r r' w' made same cause failed =
    let e : h'.counts.failed cause ≡ h.counts.failed cause = ap (λ q. q.counts.failed cause) made.begins in
    let d : of_reading r' cause ≡ of_reading r cause = ap (λ n. of_reading n cause) same in
    record { rises = omega (arith, e, d, failed) }

-- none did
pub part_clean : (path : List ℕ) (h h' h'' : OpenFiles) (u v : World) (r r' w w' : ℕ) → Creates path h h' u v → w ≡ 0
    → r' ≡ r → w' ≡ w → h'' ≡ ended true (writes w') h' → NoMoreFailed h r h'' r'
part_clean path h h' h'' u v r r' w w' made empty reads_same writes_same done = record {
  stays = λ cause.
      let e : h'.counts.failed cause ≡ h.counts.failed cause = ap (λ q. q.counts.failed cause) made.begins in
      let d : h''.counts.failed cause ≡ h'.counts.failed cause + of_writing w' cause =
      ap (λ q. q.counts.failed cause) done in
      let n : of_writing w' cause ≡ 0 = ap (λ k. of_writing k cause) (writes_same ∙ empty) ∙ no_writes cause in
      let s : of_reading r' cause ≡ of_reading r cause = ap (λ k. of_reading k cause) reads_same in
      omega (arith, e, d, n, s);
}

-- one step after another
pub none_then : (h h' h'' : OpenFiles) (r r' r'' : ℕ) → NoMoreFailed h r h' r' → NoMoreFailed h' r' h'' r''
    → NoMoreFailed h r h'' r''
none_then h h' h'' r r' r'' first next = record { stays = λ cause. next.stays cause ∙ first.stays cause }

pub some_then : (h h' h'' : OpenFiles) (r r' r'' : ℕ) → NoMoreFailed h r h' r' → (cause : Cause)
    → SomeFailed h' r' h'' r'' cause → SomeFailed h r h'' r'' cause
some_then h h' h'' r r' r'' first cause next =
    let same = first.stays cause in
    let more = next.rises in
    record { rises = omega (arith, same, more) }

-- after a file was opened, and before it is closed
pub failed_within : (path bytes : List ℕ) (w : World) (h h' g h'' k : OpenFiles) (r q r' n : ℕ)
    → OpensFile w path bytes h h' → r ≡ 0 → q ≡ r → g ≡ counting no_counts h' → k ≡ counting (reads n r') h''
    → (cause : Cause) → SomeFailed g q h'' r' cause → HasFailed cause h k
failed_within path bytes w h h' g h'' k r q r' n opens none same free let_go cause failed =
    let e : h'.counts.failed cause ≡ h.counts.failed cause = ap (λ o. o.counts.failed cause) opens.taken in
    let f : g.counts.failed cause ≡ h'.counts.failed cause + 0 = ap (λ o. o.counts.failed cause) free in
    let d : k.counts.failed cause ≡ h''.counts.failed cause + of_reading r' cause =
    ap (λ o. o.counts.failed cause) let_go in
    let z : of_reading q cause ≡ 0 = ap (λ j. of_reading j cause) (same ∙ none) ∙ no_reads cause in
    let more = failed.rises in
    omega (arith, e, f, d, z, more)

pub clean_within : (path bytes : List ℕ) (w : World) (h h' g h'' k : OpenFiles) (r q r' n : ℕ)
    → OpensFile w path bytes h h' → r ≡ 0 → q ≡ r → g ≡ counting no_counts h' → NoMoreFailed g q h'' r'
    → k ≡ counting (reads n r') h'' → HasNotFailed h k
clean_within path bytes w h h' g h'' k r q r' n opens none same free clean let_go = λ cause.
    let e : h'.counts.failed cause ≡ h.counts.failed cause = ap (λ o. o.counts.failed cause) opens.taken in
    let f : g.counts.failed cause ≡ h'.counts.failed cause + 0 = ap (λ o. o.counts.failed cause) free in
    let d : k.counts.failed cause ≡ h''.counts.failed cause + of_reading r' cause =
    ap (λ o. o.counts.failed cause) let_go in
    let z : of_reading q cause ≡ 0 = ap (λ j. of_reading j cause) (same ∙ none) ∙ no_reads cause in
    let stays = clean.stays cause in
    omega (arith, e, f, d, z, stays)

-- ---- a call failed, and its fault is told

-- the image's file could not be opened
pub unopened : (path : List ℕ) (world : World) (h k : OpenFiles) (U : Type 0) (fault : BootCommandFault)
    (host : HostFault) → fault ≡ faults.Host host → k ≡ counting (call_of host) h
    → RefusesImage path world (λ cause. HasFailed cause h k) U fault
unopened path world h k U fault host same failed =
    host_image path world (λ cause. HasFailed cause h k) U fault host same (source_failed h k host failed)

-- it was opened, and a call after it failed
pub taken : (path bytes : List ℕ) (world : World) (h h' h'' k : OpenFiles) (m : Counts) (U : Type 0)
    (fault : BootCommandFault) (host : HostFault) → OpensFile world path bytes h h' → fault ≡ faults.Host host
    → h'' ≡ counting (call_of host) h' → k ≡ counting m h''
    → RefusesImage path world (λ cause. HasFailed cause h k) U fault
taken path bytes world h h' h'' k m U fault host opens same refused let_go =
    let c = call host in
    let one = counts_one host in
    let e : h'.counts.failed c ≡ h.counts.failed c = ap (λ q. q.counts.failed c) opens.taken in
    let d : h''.counts.failed c ≡ h'.counts.failed c + calls host c = ap (λ q. q.counts.failed c) refused in
    let b : k.counts.failed c ≡ h''.counts.failed c + m.failed c = ap (λ q. q.counts.failed c) let_go in
    host_image path world (λ cause. HasFailed cause h k) U fault host same (omega (arith, one, e, d, b))

pub nothing_failed : (h : OpenFiles) (r : ℕ) → NoMoreFailed h r h r
nothing_failed h r = record { stays = λ cause. refl }
