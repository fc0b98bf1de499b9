-- The contract of one step of cutting: what it keeps, what it writes, what it costs, and how it fails.
use Rattle.std.specs.Prelude.{◌≡◌, ℕ, ◌+◌, ◌-◌, ◌*◌, ◌≤◌, ◌<◌, ◌++◌, ◌⊎◌, length, take, drop, false, IsTrue}
use Rattle.std.specs.Prelude.{Result, IfErr}
use Rattle.abt_io.specs.Lent.{OnlyReads, OnlyWrites}
use Rattle.abt_io.specs.declared.device.Source as sources
use Rattle.abt_io.specs.declared.device.Output as outputs
use Rattle.abt_io.specs.declared.meter.Meter.{Meter}
use Rattle.abt_runs.specs.declared.part.Cursor.{Cursor}
use Rattle.abt_runs.specs.declared.runs.BlockRuns as images
use Rattle.abt_pieces.specs.Calls.{devices}
use Rattle.abt_pieces.specs.Cutter.{ToldCutter, OnMoreCutting, OnPiece, coming, is_begun, has_more_to_cut, so_far}
use Rattle.abt_pieces.specs.Cutter.{has_failed}
use Rattle.abt_pieces.specs.Cutter.{cut_words, full_at}
use Rattle.abt_pieces.specs.Fault.{CutCause, full_cut}
use Rattle.abt_pieces.specs.Image.{Appended, Leads, StageMayCome}
use Rattle.abt_pieces.specs.NextPiece.{IsNext}
use Rattle.abt_pieces.specs.SpentStage.{SpentStage, SpentPiece}
use Rattle.abt_pieces.specs.Step.{CameWhole, PieceEnds, PieceGoesOn, CutStepCosts}
use Rattle.abt_pieces.specs.declared.fault.PieceFault.{PieceFault}
use Rattle.abt_pieces.specs.declared.stage.PieceProgress.{PieceProgress}
use Rattle.abt_pieces.specs.declared.stage.CutterStage.{CutterStage}
use Rattle.abt_pieces.specs.declared.stage.CutterStage.TheVariants.{Failed}

-- One step, from a cutter, a source and an output to what they are after it.
pub record Stepped {R A B : Type 0} (g : images.Ghosts R) (s : sources.Ghosts A) (o : outputs.Ghosts B)
    (r : Result PieceProgress PieceFault) (image image' : R) (limit limit' : ℕ) (start start' : Cursor)
    (made made' : ℕ) (st st' : CutterStage) (source source' : A) (output output' : B) (m m' : Meter) : Type 0 where
  pub same : (image' ≡ image) × (limit' ≡ limit)
  pub reads : OnlyReads r s source source'
  pub writes : OnlyWrites r (full_at st r) o output output'
  pub told : IsTrue s.models → ToldCutter (g.place image (s.content source)) (g.together image (s.content source))
      (g.size image) (g.list image (s.content source)) limit' made' start' st'
  pub begun : is_begun st' ≡ has_more_to_cut r
  pub goes_on : OnMoreCutting r (PieceGoesOn g image start start' made made' st st' (devices s o source output)
      (devices s o source' output') m m')
  -- what was written is what was to come, and never more than the limit
  pub within : so_far st + (length (o.written output') - length (o.written output)) ≤ limit
  pub front : IsTrue s.models → o.written output' ≡ o.written output
      ++ take (length (o.written output') - length (o.written output))
      (coming (g.size image) limit (g.list image (s.content source)) start.block st)
  pub rest : IsTrue s.models
      → OnMoreCutting r (coming (g.size image) limit (g.list image (s.content source)) start.block st'
      ≡ drop (length (o.written output') - length (o.written output))
      (coming (g.size image) limit (g.list image (s.content source)) start.block st))
  -- whatever the source gives, the piece becomes an image
  pub leads : OnMoreCutting r (Leads (StageMayCome (g.size image) (g.count image) st)
      (StageMayCome (g.size image) (g.count image) st') (o.written output) (o.written output'))
  pub all : OnPiece r (λ p. Appended (StageMayCome (g.size image) (g.count image) st) (o.written output)
      (o.written output'))
  pub piece : OnPiece r (λ p. IsNext (g.count image) limit start.block start'.block made made' st' p)
  pub ends : OnPiece r (λ p. PieceEnds g image start start' st p (devices s o source output)
      (devices s o source' output') m m')
  pub laid : IsTrue s.models → OnPiece r (λ p. CameWhole (g.size image) limit (g.list image (s.content source))
      start.block st p (o.written output) (o.written output'))
  pub refused : IfErr r (λ e. st' ≡ Failed e)
  pub costs : CutStepCosts (cut_words (g.one image) (g.count image) start st) (3 * g.one image)
      (devices s o source output) (devices s o source' output') m m'
  -- where the stage had cost t bytes, what it has cost after the step
  pub spends : IsTrue s.models → (t : ℕ) →
      SpentStage (λ c. g.within image c × g.place image (s.content source) c) (g.charge image) (g.copied image)
      (g.held image) (g.size image) limit (g.count image) (g.one image) start t st →
      OnMoreCutting r (SpentStage (λ c. g.within image c × g.place image (s.content source) c) (g.charge image)
      (g.copied image) (g.held image) (g.size image) limit (g.count image) (g.one image) start
      (t + (s.given source' - s.given source)) st')
  pub spent : IsTrue s.models → (t : ℕ) →
      SpentStage (λ c. g.within image c × g.place image (s.content source) c) (g.charge image) (g.copied image)
      (g.held image) (g.size image) limit (g.count image) (g.one image) start t st →
      OnPiece r (λ p. SpentPiece (g.charge image) (g.copied image) (g.count image) (g.one image) p.past start'
      (t + (s.given source' - s.given source)))
  pub full : has_failed st ≡ false → full_cut r ≡ 1 → IsTrue (o.is_full output')
      × (so_far st + (length (o.written output') - length (o.written output)) < limit)
  pub cause : IfErr r (λ e. (st ≡ Failed e) ⊎ CutCause e s.models (s.read_faults source) (s.read_faults source')
      (o.write_faults output) (o.write_faults output'))
