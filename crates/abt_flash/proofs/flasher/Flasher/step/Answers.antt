use Rattle.std.proofs.Common.{◌≡◌, ◌-◌, ℕ, List, [], Err, take, arith, refl, ap}
use Rattle.abt_flash_faults.specs.declared.fault.FlashFault.{FlashFault}
use Rattle.abt_flash_faults.specs.declared.fault.FlashFault.TheVariants as fails
use Rattle.abt_chunks.specs.declared.progress.MachineProgress.{MachineProgress}
use Rattle.abt_flash.specs.Stepping.{OnShort}
use Rattle.abt_flash.proofs.FlashSteps.{nothing_laid}
use Rattle.abt_flash.proofs.flasher.Flasher.step.Goals as goal
use Rattle.std.proofs.Common.{rules}

nothing_read : (n : ℕ) (x : List ℕ) → take (n - n) x ≡ []
nothing_read n x = ap (λ (k : ℕ). take k x) (let z : n - n ≡ 0 = omega arith in z)

short_same : (f : FlashFault) (P : Type 0) → P → OnShort {X = MachineProgress} (Err f) P
short_same (fails.PartitionTooSmall need) P h = h
short_same f P h = tt

-- ---- a flasher that is over does nothing

pub returns-in-Done-clause-stepped : goal.returns-in-Done-clause-stepped
returns-in-Done-clause-stepped g c = record {
  read = search rules;
  unread = search rules;
  told = λ models. nothing_laid _ _ _ _ _ _ _ _ _ _ (nothing_read _ _) refl
      (λ goes. absurd (rw c.in-Done.is at goes)) tt;
  heads = λ models goes. absurd (rw c.in-Done.is at goes);
  syncs =
      record {
        settled = λ goes models. absurd (rw c.in-Done.is at goes);
        synced = rw c.in-Done.is (omega arith);
        refused = λ goes. absurd (rw c.in-Done.is at goes);
      };
  measures = λ goes. absurd (rw c.in-Done.is at goes);
  short = search rules;
  goes_on = search rules;
  laid = λ goes. absurd (rw c.in-Done.is at goes);
  stage = search rules;
  leaves = λ goes. absurd (rw c.in-Done.is at goes);
  cause = λ goes. absurd (rw c.in-Done.is at goes);
  grows = search rules;
  fewer = search rules;
  costs = search rules;
  one_step = search rules;
}

pub returns-in-Failed-clause-stepped : goal.returns-in-Failed-clause-stepped
returns-in-Failed-clause-stepped g c = record {
  read = search rules;
  unread = search rules;
  told = λ models. nothing_laid _ _ _ _ _ _ _ _ _ _ (nothing_read _ _) refl (λ goes. tt) tt;
  heads = λ models goes. absurd (rw c.in-Failed.is at goes);
  syncs =
      record {
        settled = λ goes models. absurd (rw c.in-Failed.is at goes);
        synced = rw c.in-Failed.is (omega arith);
        refused = λ goes. absurd (rw c.in-Failed.is at goes);
      };
  measures = λ goes. absurd (rw c.in-Failed.is at goes);
  short = short_same c.in-Failed.fault _ refl;
  goes_on = search rules;
  laid = λ goes. absurd (rw c.in-Failed.is at goes);
  stage = search rules;
  leaves = λ goes. absurd (rw c.in-Failed.is at goes);
  cause = λ goes. absurd (rw c.in-Failed.is at goes);
  grows = search rules;
  fewer = search rules;
  costs = search rules;
  one_step = search rules;
}

-- ---- and one that goes on is not over

pub returns-in-Going-clause-again : goal.returns-in-Going-clause-again
returns-in-Going-clause-again g c over = absurd (rw c.in-Going.is at over)

pub returns-in-Going-clause-stepped : goal.returns-in-Going-clause-stepped
returns-in-Going-clause-stepped g c = c.go_on.ensures.stepped
