-- What an expander writes for each part, and what its steps return.
use Rattle.std.specs.Prelude.{◌≡◌, ℕ, ◌-◌, ◌*◌, ◌<◌, ◌≤◌, List, [], ◌++◌, length, take, replicate, Result, Ok, Err}
use Rattle.std.specs.Prelude.{OnOk, OnErr, Option}
use Rattle.std.specs.List.{concat}
use Rattle.abt_io.specs.declared.device.Output as outputs
use Rattle.abt_sparse.specs.declared.fault.SparseFault.{SparseFault}
use Rattle.abt_sparse.specs.declared.fault.SparseFault.TheVariants as faults
use Rattle.abt_chunks.specs.declared.walk.Part.{Part}
use Rattle.abt_chunks.specs.declared.walk.Part.TheVariants as parts
use Rattle.abt_chunks.specs.declared.walk.Phase.{Phase}
use Rattle.abt_chunks.specs.declared.walk.Phase.TheVariants as phases
use Rattle.abt_chunks.specs.Ahead.{somes, fills, gaps}
use Rattle.abt_chunks.specs.declared.progress.MachineProgress.{MachineProgress}
use Rattle.abt_chunks.specs.declared.progress.MachineProgress.TheVariants as answers

-- the bytes that a part writes, raw ones from the beginning of the window
abbrev pub laid_by : Part → List ℕ → List ℕ
laid_by (parts.Raw n) window = take n window
laid_by (parts.Words word n) window = concat (replicate n word)
laid_by (parts.Skip n) window = replicate (4 * n) 0
laid_by q window = []

-- its cells, raw ones from the beginning of the window
abbrev pub cells_by : Part → List ℕ → List (Option ℕ)
cells_by (parts.Raw n) window = somes (take n window)
cells_by (parts.Words word n) window = fills n word
cells_by (parts.Skip n) window = gaps n
cells_by q window = []

-- a part of which nothing is written
abbrev pub IsQuiet : Part → Type 0
IsQuiet (parts.Raw n) = ⊥
IsQuiet (parts.Words word n) = ⊥
IsQuiet (parts.Skip n) = ⊥
IsQuiet q = Unit {0}

-- a part that is written without being read
abbrev pub IsWords : Part → Type 0
IsWords (parts.Words word n) = Unit {0}
IsWords (parts.Skip n) = Unit {0}
IsWords q = ⊥

-- raw bytes lie in the window, and a word is given at least once
abbrev pub IsWritable : Part → Type 0
IsWritable (parts.Raw n) = n ≤ 65536
IsWritable (parts.Words word n) = 0 < n
IsWritable (parts.Skip n) = 0 < n
IsWritable q = Unit {0}

-- The bytes x are written to an output: all of them after an Ok, and otherwise a prefix of them, and a write has
-- failed.
pub record WritesOn {X E : Type 0} (r : Result X E) (x : List ℕ) {B : Type 0} (o : outputs.Ghosts B) (old new : B)
    : Type 0 where
  pub ok : OnOk r (o.written new ≡ o.written old ++ x)
  pub front : o.written new ≡ o.written old ++ take (length (o.written new) - length (o.written old)) x
  pub cause : OnErr r (o.write_faults old < o.write_faults new)

-- these bytes are a beginning of those
pub record IsFrontOf (front whole : List ℕ) : Type 0 where
  pub more : List ℕ
  pub joined : whole ≡ front ++ more

-- what a step returns for a part that was done with, of a fault what it makes of it
abbrev pub answer_by : {E : Type 0} → (SparseFault → E) → Part → Result MachineProgress E
answer_by g parts.End = Ok answers.Done
answer_by g (parts.Fault f) = Err (g f)
answer_by g q = Ok answers.More

abbrev pub answer_of : Part → Result MachineProgress SparseFault
answer_of q = answer_by (λ f. f) q

-- the phase that a result leaves
abbrev pub ExpandingLeaves : Result MachineProgress SparseFault → Phase → Type 0
ExpandingLeaves (Ok answers.More) p = p ≡ phases.Body
ExpandingLeaves (Ok answers.Done) p = p ≡ phases.Done
ExpandingLeaves (Err f) p = p ≡ phases.Failed f

-- P, save where the fault is a device's
abbrev pub UnlessExpandingDevice : SparseFault → Type 0 → Type 0
UnlessExpandingDevice (faults.Read d) P = Unit {0}
UnlessExpandingDevice (faults.Write d) P = Unit {0}
UnlessExpandingDevice f P = P

-- P, save where a device has failed
abbrev pub UnlessExpanding : {X : Type 0} → Result X SparseFault → Type 0 → Type 0
UnlessExpanding (Ok x) P = P
UnlessExpanding (Err f) P = UnlessExpandingDevice f P

-- 11 and 12 come where that device's faults rose
abbrev pub ExpandingRises : {X : Type 0} → Result X SparseFault → ℕ → ℕ → ℕ → ℕ → Type 0
ExpandingRises (Err (faults.Read d)) r r' w w' = r < r'
ExpandingRises (Err (faults.Write d)) r r' w w' = w < w'
ExpandingRises a r r' w w' = Unit {0}

-- the machine has neither ended nor failed
abbrev pub IsGoing : Phase → Type 0
IsGoing phases.Header = Unit {0}
IsGoing phases.Body = Unit {0}
IsGoing p = ⊥

-- P, where the machine has more to do, and where it has ended
abbrev pub OnMoreExpanding : {E : Type 0} → Result MachineProgress E → Type 0 → Type 0
OnMoreExpanding (Ok answers.More) P = P
OnMoreExpanding r P = Unit {0}

abbrev pub OnDone : {E : Type 0} → Result MachineProgress E → Type 0 → Type 0
OnDone (Ok answers.Done) P = P
OnDone r P = Unit {0}
