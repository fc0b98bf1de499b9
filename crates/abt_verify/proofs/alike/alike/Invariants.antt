use Rattle.std.proofs.Common.{length, ◌-◌, ◌≡◌, ◌≤◌, ◌+◌, take, min}
use Rattle.abt_verify.proofs.alike.alike.Given as goal

abbrev pub invariant-loop-at : goal.invariant-loop-at
invariant-loop-at l = record {
  least : l.n ≡ min (length l.a) (length l.b);
  within : l.at ≤ l.n;
  same : take l.at l.a ≡ take l.at l.b;
  turns : l.m.turns.number ≤ l.fn.m.turns.number + l.at;
  steps : l.m.steps.number ≡ l.fn.m.steps.number;
  greatest : l.m.greatest.number ≡ l.fn.m.greatest.number;
}

abbrev pub decreases-loop-at : goal.decreases-loop-at
decreases-loop-at l = l.n - l.at
