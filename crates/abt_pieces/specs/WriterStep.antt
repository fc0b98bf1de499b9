-- The contract of a step of writing a piece: what it leaves, what it writes, what it costs, and how it fails.
use Rattle.std.specs.Prelude.{◌≡◌, ℕ, ◌+◌, ◌-◌, ◌*◌, ◌≤◌, ◌<◌, List, ◌++◌, length, take, drop, IsTrue, Result, OnOk}
use Rattle.std.specs.Prelude.{OnErr, IfErr, IsErrOf}
use Rattle.abt_io.specs.Count.{full_of}
use Rattle.abt_io.specs.Lent.{OnlyReads, OnlyWrites, NoStep}
use Rattle.abt_io.specs.declared.device.DeviceFault.{DeviceFault}
use Rattle.abt_io.specs.declared.device.DeviceFault.TheVariants.{Full}
use Rattle.abt_io.specs.declared.device.Source as sources
use Rattle.abt_io.specs.declared.device.Output as outputs
use Rattle.abt_io.specs.declared.meter.Meter.{Meter}
use Rattle.abt_runs.specs.declared.part.Cursor.{Cursor}
use Rattle.abt_runs.specs.declared.runs.BlockRuns as images
use Rattle.abt_pieces.specs.Calls.{WriteCosts, devices}
use Rattle.abt_pieces.specs.Fault.{CutCause, full_cut}
use Rattle.abt_pieces.specs.Image.{Leads, MayCome}
use Rattle.abt_pieces.specs.Spent.{Spent}
use Rattle.abt_pieces.specs.Step.{CutStepCosts}
use Rattle.abt_pieces.specs.Write.{SoundWriter, ToldWriter, frame_of, rest_of, silent_write, write_left, writer_words}
use Rattle.abt_pieces.specs.declared.fault.PieceFault.{PieceFault}
use Rattle.abt_pieces.specs.declared.write.Writer.{Writer}

-- The bytes x, n of them, were written after what was stored there, or after a refusal a part of them.
pub record PutFront {X E : Type 0} (r : Result X E) (n : ℕ) (x old new : List ℕ) : Type 0 where
  pub ok : OnOk r (new ≡ old ++ x)
  pub front : new ≡ old ++ take (length new - length old) x
  pub whole : OnOk r (length new ≡ length old + n)

-- The same on an output: what a call that writes these n bytes leaves of it, and costs.
pub record WrittenFront {X : Type 0} (r : Result X DeviceFault) (n : ℕ) (x : List ℕ) {B : Type 0} (o : outputs.Ghosts B)
    (old new : B) (m m' : Meter) : Type 0 where
  pub put : PutFront r n x (o.written old) (o.written new)
  pub writes : OnlyWrites r (full_of r) o old new
  pub within : length (o.written new) ≤ length (o.written old) + n
  pub full : IsErrOf r Full → IsTrue (o.is_full new)
  pub short : OnErr r (length (o.written new) < length (o.written old) + n)
  pub cause : OnErr r (o.write_faults old < o.write_faults new)
  pub costs : WriteCosts o old new m m'
  pub no_step : NoStep m m'

-- A writer has written the first bytes x of a chunk, n bytes, of no more than are counted.
pub record ChunkBegun {X : Type 0} (r : Result X PieceFault) (n : ℕ) (x : List ℕ) {B : Type 0} (o : outputs.Ghosts B)
    (w w' : Writer) (output output' : B) (m m' : Meter) : Type 0 where
  pub segment : (w'.first ≡ w.first) × (w'.past ≡ w.past) × (w'.most ≡ w.most)
  pub written : OnOk r (o.written output' ≡ o.written output ++ x)
  pub front : o.written output' ≡ o.written output ++ take (length (o.written output') - length (o.written output)) x
  pub whole : OnOk r (length (o.written output') ≡ length (o.written output) + n)
  pub within : length (o.written output') ≤ length (o.written output) + w.bytes
  pub few : length (o.written output') ≤ length (o.written output) + 16
  pub writes : OnlyWrites r (full_cut r) o output output'
  pub full : full_cut r ≡ 1 → IsTrue (o.is_full output')
      × (length (o.written output') < length (o.written output) + w.bytes)
  pub calls : o.writes output' + length (o.written output) ≤ o.writes output + length (o.written output') + 1
  pub turns : m'.turns.number + length (o.written output) ≤ m.turns.number + length (o.written output') + 1

-- The next part of the raw run that a writer copies was found, and it goes on. The source had given d bytes before, and
-- d' then.
pub record RawGoes {R : Type 0} (g : images.Ghosts R) (image : R) (w w' : Writer) (d d' : ℕ) (m m' : Meter)
    : Type 0 where
  pub sound : SoundWriter (g.within image) (g.reach image) (g.count image) (g.size image) w'
  pub comes : (t : List ℕ) → MayCome (g.size image) (g.count image) w' t → MayCome (g.size image) (g.count image) w t
  pub left : write_left (g.left image) (g.count image) w' < write_left (g.left image) (g.count image) w
  pub paid : silent_write (g.count image) w' < silent_write (g.count image) w + (d' - d)
  pub words : m'.turns.number + writer_words (g.one image) (g.count image) w
      ≤ m.turns.number + 2 * (d' - d) + 2 + writer_words (g.one image) (g.count image) w'

-- One step of a writer; `On` is what is so where it goes on.
pub record WriterStepped {R A B : Type 0} (g : images.Ghosts R) (s : sources.Ghosts A) (o : outputs.Ghosts B)
    {X : Type 0} (r : Result X PieceFault) (On : Type 0 → Type 0) (image : R) (w w' : Writer) (source source' : A)
    (output output' : B) (m m' : Meter) : Type 0 where
  pub reads : OnlyReads r s source source'
  pub writes : OnlyWrites r (full_cut r) o output output'
  pub sound : OnOk r (SoundWriter (g.within image) (g.reach image) (g.count image) (g.size image) w')
  pub told : IsTrue s.models → OnOk r (ToldWriter (g.place image (s.content source))
      (g.together image (s.content source)) (g.list image (s.content source)) w')
  pub segment : (w'.first ≡ w.first) × (w'.past ≡ w.past) × (w'.most ≡ w.most)
  -- what was written is what was to come, and counted
  pub within : length (o.written output') ≤ length (o.written output) + w.bytes
  pub counted : OnOk r (length (o.written output') + w'.bytes ≡ length (o.written output) + w.bytes)
  pub front : IsTrue s.models → o.written output' ≡ o.written output
      ++ take (length (o.written output') - length (o.written output))
      (rest_of (frame_of (g.list image (s.content source)) w) w)
  pub rest : IsTrue s.models → OnOk r (rest_of (frame_of (g.list image (s.content source)) w) w'
      ≡ drop (length (o.written output') - length (o.written output))
      (rest_of (frame_of (g.list image (s.content source)) w) w))
  pub leads : On (Leads (MayCome (g.size image) (g.count image) w) (MayCome (g.size image) (g.count image) w')
      (o.written output) (o.written output'))
  pub cause : IfErr r (λ e. CutCause e s.models (s.read_faults source) (s.read_faults source')
      (o.write_faults output) (o.write_faults output'))
  pub left : On (write_left (g.left image) (g.count image) w' < write_left (g.left image) (g.count image) w)
  pub paid : On (silent_write (g.count image) w' < silent_write (g.count image) w + (s.given source' - s.given source)
      + (length (o.written output') - length (o.written output)))
  -- where b bytes count for the second pass, and t were read in all, what the step has added
  pub spends : IsTrue s.models → (d : Cursor) → g.within image d → g.place image (s.content source) d
      → d.block ≡ w.past → d.ask ≡ 1 → (b t : ℕ) → Spent (λ c. g.within image c × g.place image (s.content source) c)
      (g.charge image) (g.copied image) (g.held image) d b t w →
      OnOk r (Spent (λ c. g.within image c × g.place image (s.content source) c) (g.charge image) (g.copied image)
      (g.held image) d b (t + (s.given source' - s.given source)) w')
  pub words : OnOk r (m'.turns.number + writer_words (g.one image) (g.count image) w
      ≤ m.turns.number + 2 * (s.given source' - s.given source)
      + (length (o.written output') - length (o.written output)) + 3 + writer_words (g.one image) (g.count image) w')
  pub costs : CutStepCosts (writer_words (g.one image) (g.count image) w) (2 * g.one image)
      (devices s o source output) (devices s o source' output') m m'
  pub full : full_cut r ≡ 1 → IsTrue (o.is_full output')
      × (length (o.written output') < length (o.written output) + w.bytes)
