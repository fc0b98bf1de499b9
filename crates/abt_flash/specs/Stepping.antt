-- One step of a flasher: what it writes, and its stage after it.
use Rattle.std.specs.Prelude.{◌≡◌, ℕ, ◌+◌, ◌-◌, ◌*◌, ◌<◌, ◌≤◌, Bool, true, false, List, [], ◌++◌, length, Option, Some}
use Rattle.std.specs.Prelude.{Result, Ok, Err, IsTrue, is_err, OnOk, nat_lt, ◌&&◌, ◌||◌, if◌then◌else◌}
use Rattle.std.specs.Prelude.{◌^◌, take, drop, min}
use Rattle.abt_io.specs.Moment.{Past, Keeps, EachSince, moment_of}
use Rattle.abt_sparse.specs.Block.{over}
use Rattle.abt_sparse.specs.View.{view}
use Rattle.abt_chunks.specs.declared.progress.MachineProgress.{MachineProgress}
use Rattle.abt_chunks.specs.declared.progress.MachineProgress.TheVariants as answers
use Rattle.abt_chunks.specs.declared.walk.Phase.{Phase}
use Rattle.abt_chunks.specs.declared.walk.Phase.TheVariants as phases
use Rattle.abt_chunks.specs.declared.walk.Walk.{Walk}
use Rattle.abt_chunks.specs.Ahead.{before}
use Rattle.abt_chunks.specs.Expanding.{IsGoing}
use Rattle.abt_chunks.specs.Parts.{ahead}
use Rattle.abt_chunks.specs.Places.{owed, place_of}
use Rattle.abt_chunks.specs.ListingAhead.{at_end, head_in, upcoming}
use Rattle.abt_io.specs.declared.device.Input as inputs
use Rattle.abt_io.specs.declared.device.Source as sources
use Rattle.abt_io.specs.declared.device.Partition as partitions
use Rattle.abt_io.specs.declared.meter.Meter.{Meter}
use Rattle.abt_chunks.specs.Turns.{todo}
use Rattle.abt_io.specs.Lent.{OneStep}
use Rattle.abt_flash.specs.declared.flasher.Flasher.{Flasher}
use Rattle.abt_flash.specs.Devices.{Flow, FlowGrows, LeavesUnread, flow}
use Rattle.abt_flash_faults.specs.Fault.{FlashingRises, refused_syncs}
use Rattle.abt_flash.specs.Laying.{BreaksOff, During, writes}
use Rattle.abt_flash_faults.specs.declared.fault.FlashFault.{FlashFault}
use Rattle.abt_flash_faults.specs.declared.fault.FlashFault.TheVariants.{Sparse, Read, Write, Sync, PartitionTooSmall}
use Rattle.abt_flash.specs.declared.stage.FlashStage.{FlashStage}
use Rattle.abt_flash.specs.declared.stage.FlashStage.TheVariants as stages
use Rattle.abt_chunks.specs.Expanding.{OnMoreExpanding, OnDone}
use Rattle.abt_chunks.specs.ListingAhead.{idle}
use Rattle.abt_chunks.specs.Places.{from_place, said_by}

-- the stage that a result leaves
abbrev pub stage_of : Result MachineProgress FlashFault → FlashStage
stage_of (Ok answers.More) = stages.Going
stage_of (Ok answers.Done) = stages.Done
stage_of (Err f) = stages.Failed f

-- P, save where bytes were not read or not written
abbrev pub UnlessFlashingDevice : FlashFault → Type 0 → Type 0
UnlessFlashingDevice (Read d) P = Unit {0}
UnlessFlashingDevice (Write d) P = Unit {0}
UnlessFlashingDevice f P = P

abbrev pub UnlessFlashing : {X : Type 0} → Result X FlashFault → Type 0 → Type 0
UnlessFlashing (Ok x) P = P
UnlessFlashing (Err f) P = UnlessFlashingDevice f P

-- the flasher has neither ended nor failed, nor has its walk
abbrev pub Goes : FlashStage → Phase → Type 0
Goes stages.Going p = IsGoing p
Goes s p = ⊥

-- the image has just ended
abbrev pub is_done : FlashStage → Result MachineProgress FlashFault → Bool
is_done stages.Going (Ok answers.Done) = true
is_done s r = false

abbrev pub IsOver : FlashStage → Type 0
IsOver stages.Going = ⊥
IsOver s = Unit {0}

-- the phase that a result leaves the walk in
abbrev pub Leaves : Result MachineProgress FlashFault → Phase → Type 0
Leaves (Ok answers.More) p = p ≡ phases.Body
Leaves (Ok answers.Done) p = p ≡ phases.Done
Leaves (Err (Sparse f)) p = p ≡ phases.Failed f
Leaves (Err (Sync d)) p = p ≡ phases.Done
Leaves (Err f) p = Unit {0}

-- the bytes that all blocks of the image take, and whether its header has been passed, with its extra bytes
abbrev pub need_of : Walk → ℕ
need_of s = s.header.total_blks * s.header.blk_sz

abbrev pub passed_in : Phase → Walk → Bool
passed_in phases.Header s = false
passed_in p s = nat_lt 0 s.index || at_end s

abbrev pub passed : Walk → Bool
passed s = passed_in s.phase s

-- no chunk has been begun
abbrev pub IsFresh_in : Phase → Walk → Type 0
IsFresh_in phases.Header s = Unit {0}
IsFresh_in p s = s.index ≡ 0

abbrev pub IsFresh : Walk → Type 0
IsFresh s = IsFresh_in s.phase s

abbrev pub is_short_of : Walk → ℕ → Bool
is_short_of s size = passed s && nat_lt size (need_of s)

-- A partition of this size is refused where it is short of the blocks, and only there.
abbrev pub Measures : Result MachineProgress FlashFault → Walk → ℕ → Type 0
Measures (Err (PartitionTooSmall need)) s size = (passed s ≡ true) × (need ≡ need_of s) × (size < need)
Measures (Ok answers.Done) s size = (passed s ≡ true) × (need_of s ≤ size)
Measures (Err (Sync d)) s size = (passed s ≡ true) × (need_of s ≤ size)
Measures r s size = passed s ≡ true → need_of s ≤ size

-- P, where the partition was too small
abbrev pub OnShort : {X : Type 0} → Result X FlashFault → Type 0 → Type 0
OnShort (Err (PartitionTooSmall need)) P = P
OnShort r P = Unit {0}

-- What a step from walk s to walk s' writes over a partition that held p, once the bytes c are read and rest is left.
pub record Laid (models : Bool) (stage : FlashStage) (r : Result MachineProgress FlashFault) (s s' : Walk)
    (c rest : List ℕ)
    (past past' : Past) (p p' : List ℕ) (taken taken' : ℕ) : Type 0 where
  -- the cells that it writes, and what follows them where t follows
  pub cells : List (Option ℕ)
  pub more : List ℕ → List (Option ℕ)
  pub front : (t : List ℕ) → (ahead s (c ++ t)).cells ≡ cells ++ more t
  -- what lay ahead is what it writes, and then what lies ahead after it
  pub told : (t : List ℕ) → (IsTrue (is_err r) → t ≡ rest)
      → UnlessFlashing r (ahead s (c ++ t) ≡ before cells (ahead s' t))
  pub moved : OnMoreExpanding r (place_of s' ≡ place_of s + length cells)
  -- each byte of them is written, and written once
  pub counted : UnlessFlashing r (taken' ≡ taken + said_by cells)
  pub content : IsTrue models → UnlessFlashing r (p' ≡ over p (from_place (place_of s) cells))
  -- where a device failed, a front of them is
  pub broken : IsTrue models → BreaksOff r (place_of s) cells p p'
  -- nothing else is touched
  pub kept : IsTrue models → Keeps (writes (from_place (place_of s) cells)) (moment_of past p) (moment_of past' p')
  pub moments : IsTrue models → EachSince past.moments past'.moments
      (During (writes (from_place (place_of s) cells)) (moment_of past p) (moment_of past' p'))
  -- fewer bytes than these give no more than themselves
  pub short : (m : ℕ) → m < length c → length (ahead s (take m c)).cells ≤ m
  -- nothing is held over but words of a fill, and a gap
  pub held : Goes stage s.phase → OnOk r (more [] ≡ owed s')

-- what is known of the image's header along a step, where x is the rest of the input before it and y after it
abbrev pub Heads : Result MachineProgress FlashFault → Walk → Walk → List ℕ → List ℕ → Type 0
Heads (Ok answers.More) s s' x y = (upcoming s x).head ≡ (upcoming s' y).head
Heads (Ok answers.Done) s s' x y = (upcoming s x).head ≡ Some (view s'.header)
Heads (Err (Sparse f)) s s' x y = (upcoming s x).head ≡ head_in s.phase (at_end s) s
Heads (Err (Sync d)) s s' x y = (upcoming s x).head ≡ Some (view s'.header)
Heads (Err f) s s' x y = Unit {0}

-- Where the flasher goes on: no chunk has been begun only where none had been and the partition was not called, the
-- header stays, and the first chunk is begun after the header.
pub record GoesOn (r : Result MachineProgress FlashFault) (stage : FlashStage) (s s' : Walk) (untouched : Type 0) :
    Type 0 where
  pub fresh : Goes stage s.phase → OnMoreExpanding r (IsFresh s' → IsFresh s × untouched)
  pub header : OnMoreExpanding r (s.phase ≡ phases.Body → s'.header ≡ s.header)
  pub begins : OnMoreExpanding r (0 < s'.index → passed s ≡ true)

-- A sync that was called has succeeded, save where the result says that it was refused, and then nothing is pending.
pub record StepSyncs (models : Bool) (stage : FlashStage) (s : Walk) (r : Result MachineProgress FlashFault)
    (past past' : Past)
    (syncs syncs' : ℕ) : Type 0 where
  pub settled : Goes stage s.phase → IsTrue models → OnDone r (past'.pending ≡ [])
  pub synced : past'.synced ≡ past.synced + (if is_done stage r then 1 else 0)
  pub refused : Goes stage s.phase → syncs' + past.synced ≡ syncs + past'.synced + refused_syncs r

-- The calls of the devices, and the turns of loops, in the bytes that were moved. A step that moves none is followed
-- by one that does.
pub record StepCosts (r : Result MachineProgress FlashFault) (s s' : Walk) (old new : Flow) (m m' : Meter) : Type 0
  where
    pub reads : new.reads ≤ old.reads + (new.given - old.given) + 1
    pub puts : new.puts + new.syncs + 2 * old.taken ≤ old.puts + old.syncs + 2 * new.taken + 1
    pub turns : m'.turns.number + 2 * old.taken ≤ m.turns.number + (new.given - old.given) + 2 * new.taken + 17
    pub few : OnMoreExpanding r
        (m'.turns.number + 2 * old.taken ≤ m.turns.number + (new.given - old.given) + 2 * new.taken + 2)
    pub progress : OnMoreExpanding r (idle s' + 1 ≤ idle s + 2 * (new.given - old.given) + 2 * (new.taken - old.taken))

-- ---- a step

-- At most a window is read of an input, from its beginning.
pub record StepReads {A : Type 0} (i : inputs.Ghosts A) (old new : A) : Type 0 where
  pub asked : i.given new ≤ i.given old + 65536
  pub present : IsTrue i.models → i.given new - i.given old ≤ length (i.remaining old)
  pub rest : IsTrue i.models → i.remaining new ≡ drop (i.given new - i.given old) (i.remaining old)
  pub frame : i.read_frame new ≡ i.read_frame old

-- what a step of a flasher does
pub record FlashStep {A C : Type 0} (i : inputs.Ghosts A) (s : sources.Ghosts C) (p : partitions.Ghosts C)
    (r : Result MachineProgress FlashFault) (old new : Flasher) (input input' : A) (partition partition' : C)
    (m m' : Meter)
    : Type 0 where
  -- what is read: at most a window, and of the partition nothing
  pub read : StepReads i input input'
  pub unread : LeavesUnread s partition partition'
  -- what it writes over the partition, and that it touches nothing else
  pub told : IsTrue i.models → Laid s.models old.stage r old.walk new.walk
      (take (i.given input' - i.given input) (i.remaining input)) (i.remaining input') (p.past partition)
      (p.past partition') (s.content partition) (s.content partition') (p.taken partition) (p.taken partition')
  pub heads : IsTrue i.models → Goes old.stage old.walk.phase
      → Heads r old.walk new.walk (i.remaining input) (i.remaining input')
  pub syncs : StepSyncs s.models old.stage old.walk r (p.past partition) (p.past partition') (p.syncs partition)
      (p.syncs partition')
  -- it is too small only before the first chunk, and until then it is not called
  pub measures : Goes old.stage old.walk.phase → Measures r old.walk (s.size partition)
  pub short : OnShort r (partition' ≡ partition)
  -- where the flasher is
  pub goes_on : GoesOn r old.stage old.walk new.walk (partition' ≡ partition)
  pub laid : Goes old.stage old.walk.phase
      → OnOk r (new.laid ≡ min (old.laid + (p.taken partition' - p.taken partition)) (2 ^ 64 - 1))
  pub stage : new.stage ≡ stage_of r
  pub leaves : Goes old.stage old.walk.phase → Leaves r new.walk.phase
  pub cause : Goes old.stage old.walk.phase → FlashingRises r (i.read_faults input) (i.read_faults input')
      (p.put_faults partition) (p.put_faults partition')
  -- what it costs
  pub grows : FlowGrows (flow i p input partition) (flow i p input' partition')
  pub fewer : OnMoreExpanding r (todo new.walk < todo old.walk)
  pub costs : StepCosts r old.walk new.walk (flow i p input partition) (flow i p input' partition') m m'
  pub one_step : OneStep (i.given input' - i.given input) m m'
