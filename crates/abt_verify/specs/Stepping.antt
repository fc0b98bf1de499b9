-- One step of a verifier: what it compares, and its stage after it.
use Rattle.std.specs.Prelude.{◌≡◌, ℕ, ◌+◌, ◌<◌, ◌≤◌, Bool, List, ◌++◌, length, Option, Some, None, Result, Ok, Err}
use Rattle.std.specs.Prelude.{IsTrue}
use Rattle.std.specs.Prelude.{is_err, OnOk, ◌==◌, if◌then◌else◌}
use Rattle.abt_chunks.specs.declared.progress.MachineProgress.{MachineProgress}
use Rattle.abt_chunks.specs.declared.progress.MachineProgress.TheVariants as answers
use Rattle.abt_chunks.specs.declared.walk.Phase.{Phase}
use Rattle.abt_chunks.specs.declared.walk.Phase.TheVariants as phases
use Rattle.abt_chunks.specs.declared.walk.Walk.{Walk}
use Rattle.abt_chunks.specs.Ahead.{before}
use Rattle.abt_chunks.specs.Expanding.{IsGoing, OnDone, OnMoreExpanding}
use Rattle.abt_chunks.specs.Parts.{ahead}
use Rattle.abt_chunks.specs.Places.{from_place, place_of, said_by}
use Rattle.abt_verify.specs.Standing.{FirstDiffers, Stands}
use Rattle.abt_verify.specs.declared.fault.VerifyFault.{VerifyFault}
use Rattle.abt_verify.specs.declared.fault.VerifyFault.TheVariants.{Sparse, Read, Differs, PartitionRead}
use Rattle.abt_verify.specs.declared.stage.VerifyStage.{VerifyStage}
use Rattle.abt_verify.specs.declared.stage.VerifyStage.TheVariants as stages

-- the stage that a result leaves
abbrev pub stage_after : Result MachineProgress VerifyFault → VerifyStage
stage_after (Ok answers.More) = stages.Going
stage_after (Ok answers.Done) = stages.Done
stage_after (Err f) = stages.Failed f

-- P, save where bytes were not read
abbrev pub UnlessUnreadFault : VerifyFault → Type 0 → Type 0
UnlessUnreadFault (Read d) P = Unit {0}
UnlessUnreadFault (PartitionRead d) P = Unit {0}
UnlessUnreadFault f P = P

abbrev pub UnlessUnread : {X : Type 0} → Result X VerifyFault → Type 0 → Type 0
UnlessUnread (Ok x) P = P
UnlessUnread (Err f) P = UnlessUnreadFault f P

-- P, where all that was compared stands
abbrev pub OnStanding : {X : Type 0} → Result X VerifyFault → Type 0 → Type 0
OnStanding (Ok x) P = P
OnStanding (Err (Sparse f)) P = P
OnStanding (Err f) P = Unit {0}

-- P of the byte that differs
abbrev pub OnDiffers : {X : Type 0} → Result X VerifyFault → (ℕ → Type 0) → Type 0
OnDiffers (Err (Differs n)) P = P n
OnDiffers r P = Unit {0}

-- the verifier has neither ended nor failed, nor has its walk
abbrev pub IsComparing : VerifyStage → Phase → Type 0
IsComparing stages.Going p = IsGoing p
IsComparing s p = ⊥

abbrev pub HasEnded : VerifyStage → Type 0
HasEnded stages.Going = ⊥
HasEnded s = Unit {0}

-- the phase that a result leaves the walk in
abbrev pub LeavesWalk : Result MachineProgress VerifyFault → Phase → Type 0
LeavesWalk (Ok answers.More) p = p ≡ phases.Body
LeavesWalk (Ok answers.Done) p = p ≡ phases.Done
LeavesWalk (Err (Sparse f)) p = p ≡ phases.Failed f
LeavesWalk (Err f) p = Unit {0}

-- what is returned for n bytes of a raw image: nothing is left where none were
abbrev pub raw_answer : ℕ → Option VerifyFault → Result MachineProgress VerifyFault
raw_answer n (Some f) = Err f
raw_answer n None = if n == 0 then Ok answers.Done else Ok answers.More

-- how many of them stand there, as far as is known
abbrev pub passed_by : ℕ → Option VerifyFault → ℕ
passed_by n (Some f) = 0
passed_by n None = n

abbrev pub IsUnderway : VerifyStage → Type 0
IsUnderway stages.Going = Unit {0}
IsUnderway s = ⊥

-- What a step from walk s to walk s' compares with a partition that holds p, once the bytes c are read and rest is
-- left; what was given of the partition went from given to given'.
pub record Compares (models : Bool) (r : Result MachineProgress VerifyFault) (s s' : Walk) (c rest p : List ℕ)
    (given given' : ℕ) : Type 0 where
  -- the cells that it compares: what lay ahead is these, and then what lies ahead after them, whatever t follows
  pub cells : List (Option ℕ)
  pub told : (t : List ℕ) → (IsTrue (is_err r) → t ≡ rest)
      → UnlessUnread r (ahead s (c ++ t) ≡ before cells (ahead s' t))
  pub moved : OnMoreExpanding r (place_of s' ≡ place_of s + length cells)
  -- each byte that they say is read of the partition, once, and no other
  pub counted : OnOk r (given' ≡ given + said_by cells)
  -- they are at their place, or the first byte that differs is reported
  pub stands : IsTrue models → OnStanding r (Stands p (from_place (place_of s) cells))
  pub differs : IsTrue models → OnDiffers r (λ n. FirstDiffers p (from_place (place_of s) cells) n)

-- A step over a raw image of so many bytes, of which so many were compared before: it compares more of them, or all are
-- compared.
pub record RawAdvances (r : Result MachineProgress VerifyFault) (from to : VerifyStage) (size size' old new : ℕ) :
    Type 0 where
  pub stage : to ≡ stage_after r
  pub length : size' ≡ size
  pub at : old ≤ new
  pub more : OnMoreExpanding r (old < new)
  pub done : IsUnderway from → OnDone r (new ≡ size')
