-- How many bytes a command is to move.
use Rattle.std.specs.Prelude.{◌≡◌, ℕ, Option}
use Rattle.sys_report.specs.declared.progress.Progress.{Progress}

-- this many bytes are to be moved now, if that is known, and as many were moved as before
pub record Expects (now : Option ℕ) (old new : Progress) : Type 0 where
  pub total : new.total ≡ now
  pub done : new.done ≡ old.done
