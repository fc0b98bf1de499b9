use Rattle.std.proofs.Common.{◌≡◌, ◌≤◌, ◌-◌, ℕ, List, length, take, Bool, IsTrue}
use Rattle.abt_io.specs.Moment.{put_at}
use Rattle.sys_file.proofs.tries.write_front.Given as goal

-- a front of the bytes stands there
pub record Laid (old now bytes : List ℕ) (at done : ℕ) : Type 0 where
  pub written : now ≡ put_at old at (take done bytes)
  pub reaches : at ≤ length old

pub record Sends (models : Bool) (old now bytes : List ℕ) (at done : ℕ) : Type 0 where
  pub within : done ≤ length bytes
  pub laid : IsTrue models → Laid old now bytes at done

abbrev pub invariant-loop-done : goal.invariant-loop-done
invariant-loop-done g l =
    Sends g.F.SystemFile.models (g.F.SystemFile.stands l.fn.file) (g.F.SystemFile.stands l.file) l.bytes l.at l.done

abbrev pub decreases-loop-done : goal.decreases-loop-done
decreases-loop-done g l = length l.bytes - l.done
