-- What loading bytes of a source into the window leaves and costs.
use Rattle.std.specs.Prelude.{◌≡◌, ℕ, ◌+◌, ◌^◌, ◌<◌, ◌≤◌, ⊤, Option, Some, None, Result, Ok, Err, IfSome, IfNone}
use Rattle.std.specs.Prelude.{Bool, IsTrue, List, length}
use Rattle.abt_io.specs.Lent.{OnlyReads, NoStep}
use Rattle.abt_io.specs.declared.device.Source as sources
use Rattle.abt_io.specs.declared.meter.Meter.{Meter}
use Rattle.abt_runs.specs.declared.part.RunFault.{RunFault}
use Rattle.abt_runs.specs.Part.{RunCaused}

-- A fault, or none, as a result.
abbrev pub answer_with : Option RunFault → Result ⊤ RunFault
answer_with None = Ok tt
answer_with (Some f) = Err f

-- Of a source that is only read n bytes came, with at most one call and one turn more than these; no step ends.
pub record Loads (fault : Option RunFault) (n : ℕ) {A : Type 0} (s : sources.Ghosts A) (old new : A) (m m' : Meter)
    : Type 0 where
  pub reads : OnlyReads (answer_with fault) s old new
  pub given : s.given new ≡ s.given old + n
  pub calls : s.reads new ≤ s.reads old + n + 1
  pub turns : m'.turns.number ≤ m.turns.number + n + 1
  pub no_step : NoStep m m'
  pub cause : IfSome fault (λ e. RunCaused e s.models (s.read_faults old) (s.read_faults new))

-- They are asked for from a place on of a source that holds them, where it models its content.
pub record AsksBytes (models : Bool) (x : List ℕ) (at want : ℕ) : Type 0 where
  pub below : at + want < 2 ^ 64
  pub there : IsTrue models → at + want ≤ length x

-- No more came than were wanted, and all of them where nothing failed.
pub record LoadsWanted (fault : Option RunFault) (n want : ℕ) {A : Type 0} (s : sources.Ghosts A) (old new : A)
    (m m' : Meter) : Type 0 where
  pub few : n ≤ want
  pub whole : IfNone fault (n ≡ want)
  pub loads : Loads fault n s old new m m'
