-- What is known of a part of a piece that was found.
use Rattle.std.specs.Prelude.{◌≡◌, ℕ, ◌+◌, ◌≤◌, ◌<◌, true}
use Rattle.abt_io.specs.declared.device.Source as sources
use Rattle.abt_runs.specs.Part.{PartOf, afresh, is_end}
use Rattle.abt_runs.specs.declared.part.Cursor.{Cursor}
use Rattle.abt_runs.specs.declared.part.Run.{Run}
use Rattle.abt_runs.specs.declared.part.RunKind.TheVariants.{Raw}
use Rattle.abt_runs.specs.declared.runs.BlockRuns as images
use Rattle.abt_pieces.specs.Gather.{frame, gathered_to}
use Rattle.abt_pieces.specs.Spent.{charge_and_copied}

-- Of whatever source: r was found at a place, of a piece whose segment goes up to block `past`. The source had given d
-- bytes before, and d' then.
pub record PartFound {R : Type 0} (g : images.Ghosts R) (image : R) (past : ℕ) (at : Cursor) (d d' : ℕ)
    (r : Run) : Type 0 where
  pub on : (r.next.block ≡ at.block + r.blocks) × (r.next.block ≤ g.count image)
  pub next : r.next.block < past → g.within image r.next
  pub behind : past < r.next.block → r.next.block ≡ g.count image
  pub raw : r.kind ≡ Raw → (r.next.block ≤ past) × (r.here.block ≡ at.block) × g.within image r.here
  pub ended : is_end r.kind ≡ true → (at.block ≡ g.count image) × (r.blocks ≡ 0)
  pub at_end : at.block ≡ g.count image → is_end r.kind ≡ true
  pub left : at.block < past → r.next.block < past → g.left image r.next < g.left image at
  pub tail : past ≤ at.block → r.next.block ≡ g.count image
  pub fetched : at.block < past → d < d'
  pub unused : r.next.block < past → r.next.used ≡ 0
  pub anew : r.kind ≡ Raw → (charge_and_copied (g.charge image) (g.copied image) at
      ≤ charge_and_copied (g.charge image) (g.copied image) r.here)
      × (g.charge image (afresh r.here) ≤ g.charge image r.here) × (r.here.used ≤ at.used)

-- of a source that models its content
pub record PartTold {R A : Type 0} (g : images.Ghosts R) (s : sources.Ghosts A) (image : R) (source source' : A)
    (first past : ℕ) (at : Cursor) (r : Run) : Type 0 where
  pub part : PartOf (frame (g.list image (s.content source)) first past) at.block r
  pub place : r.next.block < past → g.place image (s.content source) r.next
  pub raw_place : r.kind ≡ Raw → g.place image (s.content source) r.here
  pub gathered : (d : Cursor) → g.within image d → g.place image (s.content source) d → d.block ≡ past → d.ask ≡ 1
      → s.given source' + gathered_to (g.charge image) past d at
      ≤ s.given source + gathered_to (g.charge image) past d r.next
  pub behind_start : (d : Cursor) → g.within image d → g.place image (s.content source) d → d.block ≡ past
      → d.ask ≡ 1 → gathered_to (charge_and_copied (g.charge image) (g.copied image)) past d at
      ≤ gathered_to (charge_and_copied (g.charge image) (g.copied image)) past d r.next
