-- A line beside an output, of which it is known where it goes.
use Rattle.std.proofs.Common.{◌≡◌, Bool, List, ℕ, ap, ◌∙◌}
use Rattle.std.specs.Prelude.{◌||◌}
use Rattle.sys_report.specs.Shows.{ShowsBeside}
use Rattle.sys_report.specs.declared.report.Report.{Report}

pub beside : (old new : Report) (is known : Bool) (told : List ℕ) → is ≡ known → ShowsBeside is old new told
    → ShowsBeside known old new told
beside old new is known told same shows = (shows.0, shows.1 ∙ ap (λ b. old.is_data_on_output || b) same)
