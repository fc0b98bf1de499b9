-- What a step of planning leaves, and what a whole plan has read.
use Rattle.std.specs.Prelude.{◌≡◌, ℕ, ◌+◌, ◌-◌, ◌*◌, ◌≤◌, ◌<◌, List, true}
use Rattle.abt_io.specs.declared.meter.Meter.{Meter}
use Rattle.abt_runs.specs.Part.{entry}
use Rattle.abt_runs.specs.declared.part.Cursor.{Cursor}
use Rattle.abt_runs.specs.declared.runs.BlockRuns as images
use Rattle.abt_pieces.specs.Cutter.{SoundStage, TakenStage, cut_left, cut_words, is_begun, planned_left, silent_cut}
use Rattle.abt_pieces.specs.Cutter.{so_far}
use Rattle.abt_pieces.specs.Image.{IsPlainImage, StageMayCome}
use Rattle.abt_pieces.specs.Plan.{last_words, rested}
use Rattle.abt_pieces.specs.declared.plan.Planner.{Planner}
use Rattle.abt_pieces.specs.declared.segment_tail.Tail.TheVariants as tails
use Rattle.abt_pieces.specs.declared.stage.CutterStage.{CutterStage}

-- The plan goes on from p to q. The source had given d bytes before, and d' then.
pub record PlanGoes {R : Type 0} (g : images.Ghosts R) (image : R) (limit d d' : ℕ) (p q : Planner) : Type 0 where
  pub on : g.left image q.at < g.left image p.at
  pub charged : d' + g.charge image p.at ≤ d + g.charge image q.at + entry p.at
  pub inside : 0 < q.at.used → (q.tail ≡ tails.Raw) × (limit - q.weight < g.size image)
  pub takes : q.contents.bytes + g.taken image p.at ≤ p.contents.bytes + g.taken image q.at + entry p.at
  pub fetched : d < d'
  pub words : g.padding image p.at + last_words (g.one image) (g.count image) p.at.block
      ≤ last_words (g.one image) (g.count image) q.at.block

-- The plan p goes no further, and rests as q.
pub record PlanRests {R : Type 0} (g : images.Ghosts R) (image : R) (d d' : ℕ) (p q : Planner) : Type 0 where
  pub last : d' ≤ d + 32 + g.one image
  pub at_end : g.count image ≤ p.at.block → d' ≡ d
  pub still : q ≡ rested p
  pub rests : (g.charge image p.at ≤ g.charge image q.at) × (g.taken image p.at ≤ g.taken image q.at)
      × (g.left image q.at ≤ g.left image p.at)

-- Planning a piece of an image of n blocks, from one place to the other before block `past`, the source went from d
-- bytes that it gave to d'.
pub record Charged (charge : Cursor → ℕ) (one n : ℕ) (from to : Cursor) (past d d' : ℕ) : Type 0 where
  pub charged : d' + charge from ≤ d + charge to + 48 + one
  pub charged_end : n ≤ past → d' + charge from ≤ d + charge to + 16

-- The plan that was at the place `at` goes on or has ended, and the stage is st.
pub record PlanStaged {R : Type 0} (g : images.Ghosts R) (image : R) (limit : ℕ) (start at : Cursor) (st : CutterStage)
    (d d' : ℕ) (m m' : Meter) : Type 0 where
  pub begun : (is_begun st ≡ true) × (so_far st ≡ 0)
  pub sound : SoundStage (g.within image) (g.reach image) (g.count image) (g.size image) limit start.block st
  pub comes : (t : List ℕ) → StageMayCome (g.size image) (g.count image) st t
      → IsPlainImage (g.size image) (g.count image) t
  pub left : cut_left (g.left image) (g.count image) start st < planned_left (g.left image) start + g.left image at
  pub taken : TakenStage (g.taken image) (g.size image) limit start st
  pub paid : silent_cut (g.count image) st < 6 + (d' - d)
  pub words : m'.turns.number + last_words (g.one image) (g.count image) at.block
      ≤ m.turns.number + 2 * (d' - d) + 3 + cut_words (g.one image) (g.count image) start st
