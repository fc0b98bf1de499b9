-- What holds at each stage of an opening.
use Rattle.std.specs.Prelude.{◌≡◌, Bool, true, false, Result, Ok, Err, ⊤}
use Rattle.abt_runs.specs.declared.part.RunFault.{RunFault}
use Rattle.abt_runs.specs.declared.stage.OpeningStage.{OpeningStage}
use Rattle.abt_runs.specs.declared.stage.OpeningStage.TheVariants.{Header, Chunks, Done, Failed}
use Rattle.abt_runs.specs.declared.stage.OpeningProgress.{OpeningProgress}
use Rattle.abt_runs.specs.declared.stage.OpeningProgress.TheVariants as answers

abbrev pub is_first : OpeningStage → Bool
is_first Header = true
is_first s = false

-- the image's header was read and is good
abbrev pub is_behind : OpeningStage → Bool
is_behind Chunks = true
is_behind Done = true
is_behind s = false

abbrev pub is_opening_done : OpeningStage → Bool
is_opening_done Done = true
is_opening_done s = false

-- it returns what it returned before
abbrev pub IsOpeningOver : OpeningStage → Type 0
IsOpeningOver Done = ⊤
IsOpeningOver (Failed f) = ⊤
IsOpeningOver s = ⊥

-- the stage that a result leaves
abbrev pub OpeningLeaves : Result OpeningProgress RunFault → OpeningStage → Type 0
OpeningLeaves (Ok answers.More) s = s ≡ Chunks
OpeningLeaves (Ok answers.Done) s = s ≡ Done
OpeningLeaves (Err f) s = s ≡ Failed f

abbrev pub is_more : Result OpeningProgress RunFault → Bool
is_more (Ok answers.More) = true
is_more r = false
