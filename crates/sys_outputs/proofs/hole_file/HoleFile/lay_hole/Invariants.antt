use Rattle.std.proofs.Common.{◌≡◌, ◌≤◌, ℕ}
use Rattle.sys_outputs.proofs.hole_file.HoleFile.lay_hole.Given as goal

-- nothing was given yet
pub record Tries (some n : ℕ) (same still : Type 0) : Type 0 where
  pub within : some ≤ n
  pub given : same
  pub marred : still

abbrev pub invariant-loop-some : goal.invariant-loop-some
invariant-loop-some g l =
    Tries l.some l.n (l.self.given.state ≡ l.fn.self.given.state) (l.self.is_marred ≡ l.fn.self.is_marred)

abbrev pub decreases-loop-some : goal.decreases-loop-some
decreases-loop-some g l = l.some
