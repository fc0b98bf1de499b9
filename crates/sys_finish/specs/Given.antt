-- What a writer was given that collects small writes.
use Rattle.std.specs.Prelude.{◌≡◌, ◌<◌, ◌≤◌, ℕ, List, [], ◌++◌, length, take, replicate}
use Rattle.std.specs.Prelude.{Result, IfOk, IfErr, OnOk, OnErr}
use Rattle.abt_io.specs.Count.{count_of}
use Rattle.abt_io.specs.Moment.{put_at}
use Rattle.abt_io.specs.declared.device.DeviceFault.{DeviceFault}
use Rattle.abt_io.specs.declared.device.DeviceFault.TheVariants.{Failed}
use Rattle.sys_finish.specs.declared.collecting.Collecting.{Collecting}
use Rattle.sys_finish.specs.Follows.{HoldsNothing, is_marred}

-- what the system took, followed by what is collected
abbrev pub given_by_writer : {F : Type 0} {g : _} → Collecting F g → List ℕ
given_by_writer writer = writer.sink.log.state.bytes ++ writer.held.items

-- the system has all that its sink was given
abbrev pub IsSettled : {F : Type 0} {g : _} → Collecting F g → Type 0
IsSettled writer = HoldsNothing writer.sink.target

-- A prefix of these bytes is appended to what it was given, or nothing. Its file begins with what it was sent, if it
-- did before.
pub record TakesFront {E F : Type 0} {g : _} (r : Result ℕ E) (bytes : List ℕ) (old new : Collecting F g) : Type 0
  where
    pub within : count_of r ≤ length bytes
    pub taken : given_by_writer new ≡ given_by_writer old ++ take (count_of r) bytes
    pub still : is_marred new.sink.target ≡ is_marred old.sink.target

-- all that is collected is sent, or the call fails; and it was given the same
pub record SendsAll {X E F : Type 0} {g : _} (r : Result X E) (old new : Collecting F g) : Type 0 where
  pub none : OnOk r (new.held.items ≡ [])
  pub kept : given_by_writer new ≡ given_by_writer old
  pub still : is_marred new.sink.target ≡ is_marred old.sink.target

-- A prefix of these bytes overwrote what it was given, from an offset on, a nonempty one if there are bytes; or the
-- call fails.
pub record PutsOver {F : Type 0} {g : _} (r : Result ℕ DeviceFault) (at : ℕ) (bytes : List ℕ)
    (old new : Collecting F g) : Type 0 where
  pub within : count_of r ≤ length bytes
  pub progress : IfOk r (λ n. 0 < length bytes → 0 < n)
  pub failed : IfErr r (λ e. e ≡ Failed)
  pub written : IfOk r (λ n. given_by_writer new ≡ put_at (given_by_writer old) at (take n bytes))
  pub kept : OnErr r (given_by_writer new ≡ given_by_writer old)

-- at most this many zeros were given to it, or the call fails
pub record LaysZeros {F : Type 0} {g : _} (r : Result ℕ DeviceFault) (n : ℕ) (old new : Collecting F g)
    : Type 0 where
  pub within : count_of r ≤ n
  pub written : given_by_writer new ≡ given_by_writer old ++ replicate (count_of r) 0
  pub failed : IfErr r (λ e. e ≡ Failed)
  pub still : is_marred new.sink.target ≡ is_marred old.sink.target

-- the system has all that its sink was given, or the call fails; and it was given the same
pub record SettlesWriter {X F : Type 0} {g : _} (r : Result X DeviceFault) (old new : Collecting F g)
    : Type 0 where
  pub none : OnOk r (IsSettled new)
  pub kept : given_by_writer new ≡ given_by_writer old
  pub failed : IfErr r (λ e. e ≡ Failed)
