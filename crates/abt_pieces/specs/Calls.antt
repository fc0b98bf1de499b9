-- When a call that writes an image, or a piece of one, has failed, and what it costs.
use Rattle.std.specs.Prelude.{◌≡◌, ℕ, ◌+◌, ◌-◌, ◌*◌, ◌≤◌, length, max, Result, IfErr}
use Rattle.abt_io.specs.Lent.{OnlyReads, OneStep}
use Rattle.abt_io.specs.declared.device.Source as sources
use Rattle.abt_io.specs.declared.device.Output as outputs
use Rattle.abt_io.specs.declared.meter.Meter.{Meter}
use Rattle.abt_pieces.specs.Fault.{CutCause}
use Rattle.abt_pieces.specs.declared.fault.PieceFault.{PieceFault}

-- what is counted of a source and of an output
pub record Devices : Type 0 where
  -- calls of the source, the bytes that it gave, and how often it failed
  pub reads : ℕ
  pub given : ℕ
  pub read_faults : ℕ
  -- calls of the output, the bytes that were written to it, and how often it failed
  pub writes : ℕ
  pub written : ℕ
  pub write_faults : ℕ

abbrev pub devices : {A B : Type 0} → sources.Ghosts A → outputs.Ghosts B → A → B → Devices
devices s o source output = record {
  reads = s.reads source;
  given = s.given source;
  read_faults = s.read_faults source;
  writes = o.writes output;
  written = length (o.written output);
  write_faults = o.write_faults output;
}

-- An image is only read while a piece is planned or written, and refused where its source has failed or has changed.
pub record ReadsCut {X : Type 0} (r : Result X PieceFault) {A : Type 0} (s : sources.Ghosts A) (old new : A) : Type 0
  where
    pub reads : OnlyReads r s old new
    pub cause : IfErr r (λ e. CutCause e s.models (s.read_faults old) (s.read_faults new) 0 0)

-- The calls of both devices, and the turns of loops, are at most 8 for each byte that was moved and for each of n, the
-- bytes of a block, and 512. No step receives more than a window.
pub record CallCosts (n : ℕ) (a z : Devices) (m m' : Meter) : Type 0 where
  pub given : a.given ≤ z.given
  pub steps : z.given + 65536 * m.steps.number ≤ a.given + 65536 * m'.steps.number
  pub greatest : m'.greatest.number ≤ max m.greatest.number 65536
  pub calls : z.reads + z.writes ≤ a.reads + a.writes + 8 * ((z.given - a.given) + (z.written - a.written) + n) + 512
  pub turns : m'.turns.number ≤ m.turns.number + 8 * ((z.given - a.given) + (z.written - a.written) + n) + 512

-- The same of one piece. Where finding the class of a block reads `one` bytes, its word may be looked through three
-- times.
pub record PieceCosts (one : ℕ) (a z : Devices) (m m' : Meter) : Type 0 where
  pub given : a.given ≤ z.given
  pub steps : z.given + 65536 * m.steps.number ≤ a.given + 65536 * m'.steps.number
  pub greatest : m'.greatest.number ≤ max m.greatest.number 65536
  pub calls : (z.reads - a.reads) + (z.writes - a.writes)
      ≤ 4 * ((z.given - a.given) + (z.written - a.written)) + 24
  pub turns : m'.turns.number ≤ m.turns.number + 6 * ((z.given - a.given) + (z.written - a.written)) + 32 + 3 * one

-- of planning a piece: a source went from c calls and g bytes that it gave to c' and g'
pub record PlanCosts (one c g c' g' : ℕ) (m m' : Meter) : Type 0 where
  pub given : g ≤ g'
  pub steps : g' + 65536 * m.steps.number ≤ g + 65536 * m'.steps.number
  pub greatest : m'.greatest.number ≤ max m.greatest.number 65536
  pub calls : c' ≤ c + 3 * (g' - g) + 2
  pub turns : m'.turns.number ≤ m.turns.number + 5 * (g' - g) + 2 + 2 * one

-- What finding a part of a segment costs, one step in all. Of words that are compared without being read, `words` were
-- counted before, and at most `more` may be.
pub record WordCosts (words more : ℕ) {A : Type 0} (s : sources.Ghosts A) (source source' : A) (m m' : Meter) : Type 0
  where
    pub given : s.given source ≤ s.given source'
    pub received : s.given source' ≤ s.given source + 65536
    pub calls : s.reads source' ≤ s.reads source + (s.given source' - s.given source) + 2
    pub turns : m'.turns.number + words
        ≤ m.turns.number + 2 * (s.given source' - s.given source) + 2 + more
    pub one_step : OneStep (s.given source' - s.given source) m m'

-- one call of an output at most that moves no byte, and one turn
pub record WriteCosts {B : Type 0} (o : outputs.Ghosts B) (output output' : B) (m m' : Meter) : Type 0 where
  pub calls : o.writes output' + length (o.written output) ≤ o.writes output + length (o.written output') + 1
  pub turns : m'.turns.number + length (o.written output) ≤ m.turns.number + length (o.written output') + 1
