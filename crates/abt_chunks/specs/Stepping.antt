-- What one step of a walk does, and what calls of several steps do with their input.
use Rattle.std.specs.Prelude.{◌≡◌, ℕ, ◌+◌, Bool, true, IsTrue, List, take}
use Rattle.abt_io.specs.declared.device.Input as inputs
use Rattle.abt_io.specs.declared.meter.Meter.{Meter}
use Rattle.abt_chunks.specs.declared.walk.WalkStep.{WalkStep}
use Rattle.abt_chunks.specs.declared.walk.Walk.{Walk}
use Rattle.abt_chunks.specs.Cause.{PartBlamed}
use Rattle.abt_chunks.specs.Costs.{ListCosts, StepsWithin, TurnsOnly}
use Rattle.abt_chunks.specs.ListingAhead.{Lists}
use Rattle.abt_chunks.specs.Parts.{is_fault}
use Rattle.abt_chunks.specs.Taking.{ReadStep, ReadsOn, StepTells, TurnTaken, WithinWords, input_state}
use Rattle.abt_chunks.specs.Turns.{IsWalkOver}

-- One step of a walk: what it received, at most so many bytes, and what is left of the input; the turn that it took,
-- and whose fault its part is. A walk that is over stays as it is, and reads nothing.
pub record StepTaken {A : Type 0} (i : inputs.Ghosts A) (r : WalkStep) (most : ℕ) (s s' : Walk) (a a' : A)
    (m m' : Meter)
    : Type 0 where
  pub input : ReadStep r.received most s i.models (input_state i a) (input_state i a')
  pub turn : TurnTaken r.part s s' r.received
  pub blame : PartBlamed r.part s (i.read_faults a) (i.read_faults a')
  pub over : IsWalkOver s.phase → (s' ≡ s) × (a' ≡ a)
  pub meter : TurnsOnly (r.received + 1) m m'

-- And what it says of the image, of whose bytes x it left y: what it received is at the beginning of the window, and of
-- a fill and of a gap it gives at most so many words.
pub record GivesPart (models : Bool) (r : WalkStep) (fills skips : ℕ) (s s' : Walk) (x y bytes : List ℕ) : Type 0 where
  pub window : IsTrue models → take r.received bytes ≡ take r.received x
  pub told : IsTrue models → StepTells r.part s s' (take r.received x) y
  pub words : WithinWords r.part s s' fills skips

-- One step of a listing, and what it shows: whatever bytes follow, and at a fault what is really left.
pub record ListTaken {A : Type 0} (i : inputs.Ghosts A) (r : WalkStep) (s s' : Walk) (a a' : A) (m m' : Meter) : Type 0
  where
    pub step : StepTaken i r 65536 s s' a a' m m'
    pub lists : IsTrue i.models → (t : List ℕ) → (is_fault r.part ≡ true → t ≡ i.remaining a')
        → Lists r.part s s' (take r.received (i.remaining a)) t

-- Several steps over an input, each of which receives at most so many bytes.
pub record WalksOn {A : Type 0} (i : inputs.Ghosts A) (most : ℕ) (a a' : A) (m m' : Meter) : Type 0 where
  pub input : ReadsOn i.models (input_state i a) (input_state i a')
  pub steps : StepsWithin most (i.given a) (i.given a') m m'

-- And what they cost, of a listing.
pub record ListReads {A : Type 0} (i : inputs.Ghosts A) (a a' : A) (m m' : Meter) : Type 0 where
  pub walks : WalksOn i 65536 a a' m m'
  pub costs : ListCosts (input_state i a) (input_state i a') m m'
