-- What holds before a call that plans, gathers, writes or cuts: the numbers of what goes on fit one another, and the
-- facts about a source that models its content hold.
use Rattle.std.specs.Prelude.{◌≡◌, ℕ, ◌≤◌, ◌<◌, IsTrue, Some}
use Rattle.abt_io.specs.declared.device.Source as sources
use Rattle.abt_runs.specs.declared.part.Cursor.{Cursor}
use Rattle.abt_runs.specs.declared.runs.BlockRuns as images
use Rattle.abt_pieces.specs.Cutter.{SoundPlanner, TakenPlan, ToldPlanner, ToldCutter}
use Rattle.abt_pieces.specs.Gather.{SoundGatherer, ToldGatherer}
use Rattle.abt_pieces.specs.Write.{SoundWriter, ToldWriter}
use Rattle.abt_pieces.specs.declared.gather.Gatherer.{Gatherer}
use Rattle.abt_pieces.specs.declared.plan.Planner.{Planner}
use Rattle.abt_pieces.specs.declared.stage.CutterStage.{CutterStage}
use Rattle.abt_pieces.specs.declared.write.Copying.{Copying}
use Rattle.abt_pieces.specs.declared.write.Writer.{Writer}

-- a part of the image is to be found at a place, of the piece whose segment goes from block `first` up to `past`
pub record ReadyPart {R A : Type 0} (g : images.Ghosts R) (s : sources.Ghosts A) (image : R) (source : A)
    (first past : ℕ) (at : Cursor) : Type 0 where
  pub order : first ≤ at.block
  pub inner : first ≤ past
  pub room : at.block ≤ g.count image
  pub end : past ≤ g.count image
  pub within : at.block < past → g.within image at
  pub told : IsTrue s.models → g.opened image (s.content source)
      × (at.block < past → g.place image (s.content source) at)
  pub behind : past < at.block → at.block ≡ g.count image

-- a run of such a piece is being gathered
pub record ReadyGatherer {R A : Type 0} (g : images.Ghosts R) (s : sources.Ghosts A) (image : R) (source : A)
    (first past : ℕ) (x : Gatherer) : Type 0 where
  pub sound : SoundGatherer (g.within image) (g.count image) first past x
  pub opened : IsTrue s.models → g.opened image (s.content source)
  pub told : IsTrue s.models → ToldGatherer (g.place image (s.content source)) (g.list image (s.content source)) first
      past x

-- a piece is being written
pub record ReadyWriter {R A : Type 0} (g : images.Ghosts R) (s : sources.Ghosts A) (image : R) (source : A)
    (w : Writer) : Type 0 where
  pub sound : SoundWriter (g.within image) (g.reach image) (g.count image) (g.size image) w
  pub opened : IsTrue s.models → g.opened image (s.content source)
  pub told : IsTrue s.models → ToldWriter (g.place image (s.content source)) (g.together image (s.content source))
      (g.list image (s.content source)) w

-- and bytes of the open chunk of a raw run are still to be copied
pub record ReadyCopying {R A : Type 0} (g : images.Ghosts R) (s : sources.Ghosts A) (image : R) (source : A)
    (w : Writer) (copying : Copying) : Type 0 where
  pub ready : ReadyWriter g s image source w
  pub is : w.copying ≡ Some copying
  pub remains : 0 < copying.left

-- a piece is being planned
pub record ReadyPlanner {R A : Type 0} (g : images.Ghosts R) (s : sources.Ghosts A) (image : R) (source : A)
    (limit : ℕ) (p : Planner) : Type 0 where
  pub sound : SoundPlanner (g.within image) limit p.first p
  pub opened : IsTrue s.models → g.opened image (s.content source)
  pub told : IsTrue s.models → ToldPlanner (g.place image (s.content source)) (g.size image)
      (g.list image (s.content source)) p

-- a cutter plans the piece that begins at the place `start`, the one after as many as are made
pub record ReadyPlan {R A : Type 0} (g : images.Ghosts R) (s : sources.Ghosts A) (image : R) (source : A)
    (limit made : ℕ) (start : Cursor) (p : Planner) : Type 0 where
  pub few : made ≤ start.block
  pub sound : SoundPlanner (g.within image) limit start.block p
  pub taken : TakenPlan (g.taken image) (g.size image) limit start p
  pub opened : IsTrue s.models → g.opened image (s.content source)
  pub planned : IsTrue s.models → ToldPlanner (g.place image (s.content source)) (g.size image)
      (g.list image (s.content source)) p

-- a cutter goes on
pub record ReadyCutter {R A : Type 0} (g : images.Ghosts R) (s : sources.Ghosts A) (image : R) (source : A)
    (limit made : ℕ) (start : Cursor) (st : CutterStage) : Type 0 where
  pub opened : IsTrue s.models → g.opened image (s.content source)
  pub told : IsTrue s.models → ToldCutter (g.place image (s.content source)) (g.together image (s.content source))
      (g.size image) (g.list image (s.content source)) limit made start st
