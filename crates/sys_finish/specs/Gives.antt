-- What a sink is given. Each record says too that its file begins with what it was given, if it did before.
use Rattle.std.specs.Prelude.{◌≡◌, ◌≤◌, ℕ, List, Bool, length, take, Result, IfOk, OnOk, OnErr}
use Rattle.std.specs.Io.{WritesAtMost}
use Rattle.abt_io.specs.Frame.{Logged, and_bytes}

-- a prefix of these bytes, or nothing
pub record GivesFront {E : Type 0} (r : Result ℕ E) (bytes : List ℕ) (log log' : Logged) (marred marred' : Bool)
    : Type 0 where
  pub bound : WritesAtMost r bytes
  pub taken : IfOk r (λ n. log' ≡ and_bytes log (take n bytes))
  pub kept : OnErr r (log' ≡ log)
  pub still : marred' ≡ marred

-- as many of them as is returned: all, or the call fails
pub record GivesMost {X E : Type 0} (done : ℕ) (r : Result X E) (bytes : List ℕ) (log log' : Logged)
    (marred marred' : Bool) : Type 0 where
  pub within : done ≤ length bytes
  pub all : OnOk r (done ≡ length bytes)
  pub given : log' ≡ and_bytes log (take done bytes)
  pub still : marred' ≡ marred
