use Rattle.std.proofs.Common.{◌≡◌, ℕ, ◌<◌, ◌≤◌, get_or}
use Rattle.mem_devices.specs.Crash.{left_of}
use Rattle.mem_devices.proofs.pick.leave.Given as goal

abbrev pub invariant-loop-i : goal.invariant-loop-i
invariant-loop-i l = record {
  left : (k : ℕ) → k < l.i → get_or l.now k 0
      ≡ left_of l.pick (get_or l.fn.now k 0) (get_or l.stable k 0) (get_or l.touched k 0);
  ahead : (k : ℕ) → l.i ≤ k → get_or l.now k 0 ≡ get_or l.fn.now k 0;
}
