-- What a step of an opening leaves and costs.
use Rattle.std.specs.Prelude.{◌≡◌, ℕ, ◌+◌, ◌-◌, ◌≤◌, ◌<◌, Bool, true, IsTrue, List, length, take, drop, Result, OnOk}
use Rattle.std.specs.Prelude.{IfErr}
use Rattle.abt_io.specs.Lent.{OnlyReads, OneStep}
use Rattle.abt_io.specs.declared.device.Source as sources
use Rattle.abt_io.specs.declared.meter.Meter.{Meter}
use Rattle.abt_sparse.specs.Chunk.{Header}
use Rattle.abt_sparse.specs.declared.fault.SparseFault.{SparseFault}
use Rattle.abt_runs.specs.declared.opening_state.SparseOpening.{SparseOpening}
use Rattle.abt_runs.specs.declared.part.RunFault.{RunFault}
use Rattle.abt_runs.specs.declared.stage.OpeningProgress.{OpeningProgress}
use Rattle.abt_runs.specs.declared.stage.OpeningStage.TheVariants.{Chunks}
use Rattle.abt_runs.specs.Stage.{OpeningLeaves, is_more}
use Rattle.abt_runs.specs.Verdict.{ComesTo, SameLength, CausedAt, IsFormat, to_do}

-- An opening is before a chunk whose header is within the source, and has these bytes.
pub record AtChunk (o : SparseOpening) (bytes : List ℕ) : Type 0 where
  pub here : o.stage ≡ Chunks
  pub more : o.index < o.header.total_chunks
  pub there : o.at + 12 ≤ o.length
  pub whole : length bytes ≡ 12

-- A header was taken: the next one is at `least` or after it, and refused was what its own bytes say.
pub record Takes (least : ℕ) (r : Result OpeningProgress RunFault) (o o' : SparseOpening) : Type 0 where
  pub leaves : OpeningLeaves r o'.stage
  pub on : OnOk r ((is_more r ≡ true) × (least ≤ o'.at) × (to_do o' < to_do o))
  pub own : IfErr r IsFormat

-- A chunk's header of these bytes was taken, which keeps what all bytes come to that have them there.
pub record TakesChunk (bytes : List ℕ) (r : Result OpeningProgress RunFault) (o o' : SparseOpening) : Type 0 where
  pub keeps : (x : List ℕ) → bytes ≡ take 12 (drop o.at x) → (v : Result (Header × ℕ) SparseFault) → ComesTo o x v →
      ComesTo o' x v
  pub takes : Takes (o.at + 12) r o o'

-- The opening has gone on by what was read, the source having given g bytes before and g' then; what the bytes x of a
-- source that models its content come to is unchanged.
pub record Advances (models : Bool) (x : List ℕ) (g g' : ℕ) (r : Result OpeningProgress RunFault)
    (o o' : SparseOpening) : Type 0
  where
    pub keeps : IsTrue models → (v : Result (Header × ℕ) SparseFault) → ComesTo o x v → ComesTo o' x v
    pub leaves : OpeningLeaves r o'.stage
    pub fewer : is_more r ≡ true → to_do o' < to_do o
    pub charged : OnOk r (g' + o.at ≤ g + o'.at)
    pub some : is_more r ≡ true → g + 12 ≤ g'

-- What reading one header costs, one step in all: the source went from c calls and g bytes that it gave to c' and g'.
pub record HeaderCosts (c g c' g' : ℕ) (m m' : Meter) : Type 0 where
  pub given : (g ≤ g') × (g' ≤ g + 28)
  pub calls : c' ≤ c + (g' - g) + 1
  pub turns : m'.turns.number ≤ m.turns.number + (g' - g) + 1
  pub one_step : OneStep (g' - g) m m'

-- One step of an opening, with the borrowed source. Among the chunks a refusal of the bytes is of a source that is
-- as long as it was.
pub record StepsOpening (r : Result OpeningProgress RunFault) {A : Type 0} (s : sources.Ghosts A) (old new : A)
    (o o' : SparseOpening) (m m' : Meter) : Type 0 where
  pub reads : OnlyReads r s old new
  pub opening : Advances s.models (s.content old) (s.given old) (s.given new) r o o'
  pub costs : HeaderCosts (s.reads old) (s.given old) (s.reads new) (s.given new) m m'
  pub length : o.stage ≡ Chunks → o.index < o.header.total_chunks → IfErr r (λ e. IsFormat e → s.size old ≡ o.length)
  pub cause : IfErr r (λ e. CausedAt o.stage e (s.read_faults old) (s.read_faults new) (IsTrue s.models ×
      SameLength o.stage o.length (s.content old)))
