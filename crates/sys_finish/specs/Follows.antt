-- A target was given what its sink was given.
use Rattle.std.specs.Prelude.{◌≡◌, ◌<◌, ◌≤◌, ℕ, List, [], ◌++◌, Bool, true, length, take}
use Rattle.std.specs.Prelude.{Result, IfOk, IfErr, OnOk, OnErr}
use Rattle.std.specs.Io.{WritesAtMost}
use Rattle.abt_io.specs.Count.{count_of}
use Rattle.abt_io.specs.Frame.{Logged, nothing_logged}
use Rattle.abt_io.specs.Moment.{put_at}
use Rattle.abt_io.specs.declared.device.DeviceFault.{DeviceFault}
use Rattle.abt_io.specs.declared.device.DeviceFault.TheVariants.{Failed}
use Rattle.sys_finish.specs.declared.target.Target.{Target}
use Rattle.sys_finish.specs.declared.target.Target.TheVariants.{Stream, Holes, Held}

-- all that a target was given
abbrev pub given_to : {F : Type 0} {g : _} → Target F g → List ℕ
given_to (Stream stream) = stream.given.state.bytes
given_to (Holes holes) = holes.given.state.bytes
given_to (Held held) = held.given.state.bytes

abbrev pub Follows : {F : Type 0} {g : _} → Target F g → List ℕ → Type 0
Follows target given = given_to target ≡ given

-- its file may not begin with what it was given
abbrev pub is_marred : {F : Type 0} {g : _} → Target F g → Bool
is_marred (Stream stream) = stream.is_marred
is_marred (Holes holes) = holes.is_marred
is_marred (Held held) = true

-- the system has all that it was given
abbrev pub HoldsNothing : {F : Type 0} {g : _} → Target F g → Type 0
HoldsNothing (Stream stream) = Unit {0}
HoldsNothing (Holes holes) = Unit {0}
HoldsNothing (Held held) = held.held.items ≡ []

-- a target appends a prefix of these bytes to all that it was given, or nothing
pub record PutsFront {E F : Type 0} {g : _} (r : Result ℕ E) (bytes : List ℕ) (old new : Target F g) : Type 0 where
  pub bound : WritesAtMost r bytes
  pub still : is_marred new ≡ is_marred old
  pub taken : IfOk r (λ n. (given : List ℕ) → Follows old given → Follows new (given ++ take n bytes))
  pub kept : OnErr r ((given : List ℕ) → Follows old given → Follows new given)

-- the same over the bytes from an offset on, with a nonempty prefix if there are bytes
pub record PutsBelow {E F : Type 0} {g : _} (r : Result ℕ E) (at : ℕ) (bytes : List ℕ) (old new : Target F g)
    : Type 0 where
  pub within : count_of r ≤ length bytes
  pub progress : IfOk r (λ n. 0 < length bytes → 0 < n)
  pub taken : IfOk r (λ n. (given : List ℕ) → Follows old given → Follows new (put_at given at (take n bytes)))
  pub kept : OnErr r ((given : List ℕ) → Follows old given → Follows new given)

-- the system has all that it was given, or the call fails; and it was given the same
pub record SettlesTarget {X F : Type 0} {g : _} (r : Result X DeviceFault) (new : Target F g) (log log' : Logged)
    : Type 0 where
  pub none : OnOk r (HoldsNothing new)
  pub kept : log' ≡ log
  pub failed : IfErr r (λ e. e ≡ Failed)

-- a prefix of these bytes was written, a nonempty one if there are bytes; and no fault but a failure is returned
pub record WritesOrFails (r : Result ℕ DeviceFault) (bytes : List ℕ) : Type 0 where
  pub within : count_of r ≤ length bytes
  pub progress : IfOk r (λ n. 0 < length bytes → 0 < n)
  pub failed : IfErr r (λ e. e ≡ Failed)

-- nothing was given yet to a target
pub record StartsAt {F : Type 0} {g : _} (old new : Target F g) (log : Logged) : Type 0 where
  pub same : new ≡ old
  pub nothing : log ≡ nothing_logged
