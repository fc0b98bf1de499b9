-- The costs of calls, in bytes that were moved.
use Rattle.std.specs.Prelude.{◌≡◌, ℕ, ◌+◌, ◌-◌, ◌*◌, ◌<◌, ◌≤◌, Result, OnOk, List, length, max, replicate}
use Rattle.std.specs.List.{concat}
use Rattle.abt_sparse.specs.declared.fault.SparseFault.{SparseFault}
use Rattle.abt_io.specs.Count.{full_of}
use Rattle.abt_io.specs.Lent.{OnlyWrites}
use Rattle.abt_io.specs.declared.device.DeviceFault.{DeviceFault}
use Rattle.abt_io.specs.declared.device.Output as outputs
use Rattle.abt_io.specs.declared.meter.Meter.{Meter}
use Rattle.abt_chunks.specs.declared.progress.MachineProgress.{MachineProgress}
use Rattle.abt_chunks.specs.Expanding.{OnMoreExpanding, WritesOn}
use Rattle.abt_chunks.specs.Taking.{InputState}

-- only turns of loops are counted, and at most n of them
pub record TurnsOnly (n : ℕ) (old new : Meter) : Type 0 where
  pub turns : new.turns.number ≤ old.turns.number + n
  pub steps : new.steps.number ≡ old.steps.number
  pub greatest : new.greatest.number ≡ old.greatest.number

-- the steps that ended received what the input gave, from g to g', and none of them more than n bytes
pub record StepsWithin (n g g' : ℕ) (old new : Meter) : Type 0 where
  pub steps : g' + n * old.steps.number ≤ g + n * new.steps.number
  pub greatest : new.greatest.number ≤ max old.greatest.number n

-- What is written of a part takes at most two calls and turns to a byte and a few turns more, after an Ok only so many
-- more.
pub record WritingCosts {X E : Type 0} (r : Result X E) (more : ℕ) {B : Type 0} (o : outputs.Ghosts B) (old new : B)
    (m m' : Meter) : Type 0 where
  pub calls : o.writes new + 2 * length (o.written old) ≤ o.writes old + 2 * length (o.written new) + 1
  pub turns : m'.turns.number + 2 * length (o.written old) ≤ m.turns.number + 2 * length (o.written new) + 16
  pub few : OnOk r (m'.turns.number + 2 * length (o.written old) ≤ m.turns.number + 2 * length (o.written new) + more)
  pub steps : m'.steps.number ≡ m.steps.number
  pub greatest : m'.greatest.number ≡ m.greatest.number

-- A word is written so many times, or a prefix of that and the write has failed.
pub record LaysWords {X : Type 0} (r : Result X DeviceFault) (word : List ℕ) (n : ℕ) {B : Type 0} (o : outputs.Ghosts B)
    (old new : B) (m m' : Meter) : Type 0 where
  pub front : WritesOn r (concat (replicate n word)) o old new
  pub all : OnOk r (length (o.written new) ≡ length (o.written old) + 4 * n)
  pub writes : OnlyWrites r (full_of r) o old new
  pub costs : WritingCosts r 0 o old new m m'

-- a step of an expander that received so many bytes, by the bytes that it wrote
pub record ExpandCosts (r : Result MachineProgress SparseFault) (received : ℕ) {B : Type 0} (o : outputs.Ghosts B)
    (old new : B) (m m' : Meter) : Type 0 where
  pub writes : o.writes new ≤ o.writes old + 2 * (length (o.written new) - length (o.written old)) + 1
  pub progress : OnMoreExpanding r (0 < received + (length (o.written new) - length (o.written old)))
  pub turns : m'.turns.number
      ≤ m.turns.number + received + 2 * (length (o.written new) - length (o.written old)) + 17
  pub few : OnMoreExpanding r (m'.turns.number
      ≤ m.turns.number + received + 2 * (length (o.written new) - length (o.written old)) + 2)

-- a call of a listing takes at most eight reads and turns to a byte
pub record ListCosts (old new : InputState) (m m' : Meter) : Type 0 where
  pub calls : new.reads ≤ old.reads + 8 * (new.given - old.given) + 8
  pub turns : m'.turns.number ≤ m.turns.number + 8 * (new.given - old.given) + 8
