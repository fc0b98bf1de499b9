use Rattle.std.proofs.Common.{length, ◌-◌, ◌≡◌, ◌≤◌, ◌<◌, ◌+◌, ◌*◌, ◌^◌, take, replicate}
use Rattle.std.specs.List.{concat}
use Rattle.abt_io.proofs.fill_window.lay_word.Given as goal

abbrev pub invariant-loop-done : goal.invariant-loop-done
invariant-loop-done l = record {
  some : 0 < l.done;
  within : l.done ≤ l.n;
  laid : take (4 * l.done) l.w.bytes ≡ concat (replicate l.done l.fn.word);
  word : length l.fn.word ≡ 4;
  since : l.fn.m.turns.number ≤ l.m.turns.number;
  below : 2 ^ (l.m.turns.number - l.fn.m.turns.number) < 2 * l.n;
  doubled : l.done < l.n → l.done ≡ 2 ^ (l.m.turns.number - l.fn.m.turns.number);
  turns : l.m.turns.number + 1 ≤ l.fn.m.turns.number + l.done;
  steps : l.m.steps.number ≡ l.fn.m.steps.number;
  greatest : l.m.greatest.number ≡ l.fn.m.greatest.number;
}

abbrev pub decreases-loop-done : goal.decreases-loop-done
decreases-loop-done l = l.n - l.done
