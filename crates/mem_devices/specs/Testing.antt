-- What the devices for tests do beyond what their devices do.
use Rattle.std.specs.Prelude.{◌≡◌, ◌≤◌, ◌+◌, ◌-◌, ◌^◌, ℕ, Result, IsErrOf, min}
use Rattle.abt_io.specs.declared.device.DeviceFault.{DeviceFault}
use Rattle.abt_io.specs.declared.device.DeviceFault.TheVariants.{Failed}

-- A call is counted, and fails if its number is `at`. Else no count of its device's own rose.
pub record FailsOnce {X : Type 0} (r : Result X DeviceFault) (at at' number number' own own' : ℕ) : Type 0 where
  pub seen : number' ≡ min (number + 1) (2 ^ 64 - 1)
  pub same : at' ≡ at
  pub fails : number' ≡ at → IsErrOf r Failed
  pub passes : (number' ≡ at → ⊥) → own' ≡ own

-- A call moves at most this many bytes.
pub record MovesAtMost (moved limit limit' : ℕ) : Type 0 where
  pub most : moved ≤ limit
  pub same : limit' ≡ limit
