-- From what is done for a task to what is done for a part.
use Rattle.std.proofs.Common.{◌≡◌, ℕ, ◌<◌, true, false, List, Result, Ok, Err, refl, sym, ◌∙◌}
use Rattle.std.specs.Prelude.{IsTrue, OnErr, OnOk, IfErr, is_ok}
use Rattle.abt_io.specs.declared.device.DeviceFault.{DeviceFault}
use Rattle.abt_io.specs.declared.device.DeviceFault.TheVariants as devices
use Rattle.abt_sparse.specs.Block.{over}
use Rattle.abt_chunks.specs.declared.walk.Part.{Part}
use Rattle.abt_chunks.specs.declared.walk.Part.TheVariants as parts
use Rattle.abt_chunks.specs.Ahead.{somes}
use Rattle.abt_chunks.specs.Expanding.{IsWritable}
use Rattle.abt_chunks.specs.Parts.{is_fault}
use Rattle.abt_flash.specs.declared.write_part.PartTask.{PartTask}
use Rattle.abt_flash.specs.declared.write_part.PartTask.TheVariants as tasks
use Rattle.abt_flash_faults.specs.Fault.{OnUnsynced, PutCause, UnlessUnwritten, refused_syncs}
use Rattle.abt_flash.specs.Laying.{BreaksOff, CanDo, IsFrontLaid, IsIdle, IsStill, Settles, SettlesIn, UnlessUndone}
use Rattle.abt_flash.specs.Laying.{answered, bytes_by, put_by}
use Rattle.abt_flash.specs.Laying.{put_in, refused_in, syncs_by, syncs_in, task_of}
use Rattle.abt_flash.proofs.Cells.{gap_over, nothing_over}
use Rattle.abt_chunks.specs.Expanding.{cells_by}
use Rattle.abt_chunks.specs.Places.{from_place}

pub can_do : (q : Part) → IsWritable q → CanDo (task_of q)
can_do (parts.Raw n) h = h
can_do (parts.Words word n) h = h
can_do (parts.Skip n) h = tt
can_do parts.Nothing h = tt
can_do parts.End h = tt
can_do (parts.Fault f) h = tt

pub put_same : (q : Part) → put_in (task_of q) ≡ put_by q
put_same (parts.Raw n) = refl
put_same (parts.Words word n) = refl
put_same (parts.Skip n) = refl
put_same parts.Nothing = refl
put_same parts.End = refl
put_same (parts.Fault f) = refl

-- what is written
pub laid_same : (q : Part) (window p : List ℕ) (at : ℕ)
    → over p (from_place at (somes (bytes_by (task_of q) window))) ≡ over p (from_place at (cells_by q window))
laid_same (parts.Raw n) window p at = refl
laid_same (parts.Words word n) window p at = refl
laid_same (parts.Skip n) window p at = nothing_over p at ∙ sym (gap_over p at n)
laid_same parts.Nothing window p at = refl
laid_same parts.End window p at = refl
laid_same (parts.Fault f) window p at = refl

pub idle_still : (q : Part) → IsStill q → IsIdle (task_of q)
idle_still (parts.Raw n) h = h
idle_still (parts.Words word n) h = h
idle_still (parts.Skip n) h = tt
idle_still parts.Nothing h = tt
idle_still parts.End h = h
idle_still (parts.Fault f) h = tt

-- ---- what is returned

pub unless_answered : (t : PartTask) (r : Result (Unit {0}) DeviceFault) (P Q : Type 0) → (P → Q) → UnlessUndone t r P
    → UnlessUnwritten (answered t r) Q
unless_answered (tasks.Bytes n) (Ok u) P Q go h = go h
unless_answered (tasks.Words word n) (Ok u) P Q go h = go h
unless_answered tasks.Sync (Ok u) P Q go h = go h
unless_answered tasks.Nothing (Ok u) P Q go h = go h
unless_answered (tasks.Bytes n) (Err d) P Q go h = tt
unless_answered (tasks.Words word n) (Err d) P Q go h = tt
unless_answered tasks.Sync (Err d) P Q go h = go h
unless_answered tasks.Nothing (Err d) P Q go h = tt

pub ok_answered : (t : PartTask) (r : Result (Unit {0}) DeviceFault) (P Q : Type 0) → (P → Q) → OnOk r P
    → OnOk (answered t r) Q
ok_answered t (Ok u) P Q go h = go h
ok_answered t (Err d) P Q go h = tt

pub cause_answered : (t : PartTask) (r : Result (Unit {0}) DeviceFault) (p p' : ℕ) → OnErr r (p < p')
    → OnOk r (p' ≡ p) → IfErr r (λ e. e ≡ devices.Failed) → PutCause (answered t r) p p'
cause_answered t (Ok u) p p' more same failed = same
cause_answered (tasks.Bytes n) (Err d) p p' more same failed = (more, failed)
cause_answered (tasks.Words word n) (Err d) p p' more same failed = (more, failed)
cause_answered tasks.Sync (Err d) p p' more same failed = (more, failed)
cause_answered tasks.Nothing (Err d) p p' more same failed = (more, failed)

pub refused_answered : (t : PartTask) (r : Result (Unit {0}) DeviceFault)
    → refused_in t r ≡ refused_syncs (answered t r)
refused_answered (tasks.Bytes n) (Ok u) = refl
refused_answered (tasks.Words word n) (Ok u) = refl
refused_answered tasks.Sync (Ok u) = refl
refused_answered tasks.Nothing (Ok u) = refl
refused_answered (tasks.Bytes n) (Err d) = refl
refused_answered (tasks.Words word n) (Err d) = refl
refused_answered tasks.Sync (Err d) = refl
refused_answered tasks.Nothing (Err d) = refl

pub syncs_answered : (q : Part) (r : Result (Unit {0}) DeviceFault)
    → syncs_in (task_of q) r ≡ syncs_by q (answered (task_of q) r)
syncs_answered (parts.Raw n) (Ok u) = refl
syncs_answered (parts.Words word n) (Ok u) = refl
syncs_answered (parts.Skip n) (Ok u) = refl
syncs_answered parts.Nothing (Ok u) = refl
syncs_answered parts.End (Ok u) = refl
syncs_answered (parts.Fault f) (Ok u) = refl
syncs_answered (parts.Raw n) (Err d) = refl
syncs_answered (parts.Words word n) (Err d) = refl
syncs_answered (parts.Skip n) (Err d) = refl
syncs_answered parts.Nothing (Err d) = refl
syncs_answered parts.End (Err d) = refl
syncs_answered (parts.Fault f) (Err d) = refl

pub settles_part : (q : Part) (pending : List (ℕ × ℕ)) → SettlesIn (task_of q) pending → Settles q pending
settles_part (parts.Raw n) pending h = tt
settles_part (parts.Words word n) pending h = tt
settles_part (parts.Skip n) pending h = tt
settles_part parts.Nothing pending h = tt
settles_part parts.End pending h = h
settles_part (parts.Fault f) pending h = tt

-- the partition refuses nothing at a fault, and a sync only at the end
pub sound_answered : (q : Part) (r : Result (Unit {0}) DeviceFault) → (IsIdle (task_of q) → IsTrue (is_ok r))
    → OnErr (answered (task_of q) r) (is_fault q ≡ false)
sound_answered q (Ok u) h = tt
sound_answered (parts.Raw n) (Err d) h = refl
sound_answered (parts.Words word n) (Err d) h = refl
sound_answered (parts.Skip n) (Err d) h = refl
sound_answered parts.Nothing (Err d) h = refl
sound_answered parts.End (Err d) h = refl
sound_answered (parts.Fault f) (Err d) h = absurd (let b : false ≡ true = h tt in cc)

pub ends_answered : (q : Part) (r : Result (Unit {0}) DeviceFault) → OnUnsynced (answered (task_of q) r) (q ≡ parts.End)
ends_answered q (Ok u) = tt
ends_answered (parts.Raw n) (Err d) = tt
ends_answered (parts.Words word n) (Err d) = tt
ends_answered (parts.Skip n) (Err d) = tt
ends_answered parts.Nothing (Err d) = tt
ends_answered parts.End (Err d) = refl
ends_answered (parts.Fault f) (Err d) = tt

-- ---- of a task whose call returned this

pub on_put : (n : ℕ) (r : Result (Unit {0}) DeviceFault) (P Q : Type 0) → (P → Q) → OnOk r P
    → UnlessUndone (tasks.Bytes n) r Q
on_put n (Ok u) P Q go h = go h
on_put n (Err d) P Q go h = tt

pub on_words : (word : List ℕ) (n : ℕ) (r : Result (Unit {0}) DeviceFault) (P Q : Type 0) → (P → Q) → OnOk r P
    → UnlessUndone (tasks.Words word n) r Q
on_words word n (Ok u) P Q go h = go h
on_words word n (Err d) P Q go h = tt

pub on_sync : (r : Result (Unit {0}) DeviceFault) (Q : Type 0) → Q → UnlessUndone tasks.Sync r Q
on_sync (Ok u) Q h = h
on_sync (Err d) Q h = h

-- what comes before a write that failed
pub front_answered : (q : Part) (r : Result (Unit {0}) DeviceFault) (window p p' : List ℕ) (at : ℕ)
    → (IsIdle (task_of q) → IsTrue (is_ok r))
    → OnErr r (IsFrontLaid 65536 at (somes (bytes_by (task_of q) window)) p p')
    → BreaksOff (answered (task_of q) r) at (cells_by q window) p p'
front_answered q (Ok u) window p p' at sound h = tt
front_answered (parts.Raw n) (Err d) window p p' at sound h = h
front_answered (parts.Words word n) (Err d) window p p' at sound h = h
front_answered (parts.Skip n) (Err d) window p p' at sound h = absurd (let b : false ≡ true = sound tt in cc)
front_answered parts.Nothing (Err d) window p p' at sound h = h
front_answered parts.End (Err d) window p p' at sound h = tt
front_answered (parts.Fault f) (Err d) window p p' at sound h = h
