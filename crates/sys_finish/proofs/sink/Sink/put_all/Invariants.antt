use Rattle.std.proofs.Common.{◌≡◌, ◌≤◌, ◌-◌, ℕ, List, Bool, length, take}
use Rattle.abt_io.specs.Frame.{Logged, and_bytes}
use Rattle.sys_finish.specs.Follows.{is_marred}
use Rattle.sys_finish.proofs.sink.Sink.put_all.Given as goal

-- it was given a front of the bytes
pub record Sent (log now : Logged) (bytes : List ℕ) (done : ℕ) (marred marred' : Bool) : Type 0 where
  pub within : done ≤ length bytes
  pub given : now ≡ and_bytes log (take done bytes)
  pub still : marred' ≡ marred

abbrev pub invariant-loop-done : goal.invariant-loop-done
invariant-loop-done g l =
    Sent l.fn.self.log.state l.self.log.state l.bytes l.done (is_marred l.fn.self.target) (is_marred l.self.target)

abbrev pub decreases-loop-done : goal.decreases-loop-done
decreases-loop-done g l = length l.bytes - l.done
