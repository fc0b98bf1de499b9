-- What cutting one piece reads, from stage to stage: three passes over its segment, and its raw blocks.
use Rattle.std.specs.Prelude.{◌≡◌, ℕ, ◌+◌, ◌-◌, ◌*◌, ◌≤◌, ◌<◌, ⊤, ◌⊎◌}
use Rattle.abt_runs.specs.declared.part.Cursor.{Cursor}
use Rattle.abt_pieces.specs.Spent.{Spent}
use Rattle.abt_pieces.specs.declared.segment_tail.Tail.TheVariants as tails
use Rattle.abt_pieces.specs.declared.outline.Outline.{Outline}
use Rattle.abt_pieces.specs.declared.plan.Planner.{Planner}
use Rattle.abt_pieces.specs.declared.write.Writer.{Writer}
use Rattle.abt_pieces.specs.declared.stage.CutterStage.{CutterStage}
use Rattle.abt_pieces.specs.declared.stage.CutterStage.TheVariants.{Between, Plan, Begin, Write, Done, Failed}

-- how many bytes three passes and copying may have read before a place
abbrev pub all_passes : (Cursor → ℕ) → (Cursor → ℕ) → Cursor → ℕ
all_passes charge copied c = 3 * charge c + copied c

-- a plan has come so far, of a piece that begins at the place `start`
pub record SpentPlan (charge copied : Cursor → ℕ) (b limit : ℕ) (start : Cursor) (t : ℕ) (p : Planner) : Type 0 where
  pub low : all_passes charge copied start ≤ t
  pub copies : copied start ≤ copied p.at
  pub most : t ≤ charge p.at + (2 * charge start + copied start) + 16
  pub inside : 0 < p.at.used
      → ((p.tail ≡ tails.Raw) × (limit - p.weight < b)) ⊎ (t ≤ charge p.at + (2 * charge start + copied start))

-- the piece is planned, of an image of n blocks where finding the class of one reads `one` bytes
pub record SpentOutline (charge copied : Cursor → ℕ) (n one : ℕ) (start : Cursor) (t : ℕ) (o : Outline) : Type 0 where
  pub fresh : o.next.ask ≡ 1
  pub behind : charge start ≤ charge o.next + 16
  pub copies : copied start ≤ copied o.next
  pub most : t ≤ charge o.next + (2 * charge start + copied start) + 48 + one
  pub end : n ≤ o.piece.past → t ≤ charge o.next + (2 * charge start + copied start) + 16

-- its chunks are being written
pub record SpentWriting (IsPlace : Cursor → Type 0) (charge copied : Cursor → ℕ) (held : Cursor → ℕ → ℕ)
    (n one t : ℕ) (o : Outline) (w : Writer) : Type 0 where
  pub begun : ℕ
  pub total : ℕ
  pub fresh : o.next.ask ≡ 1
  pub spent : Spent IsPlace charge copied held o.next begun total w
  pub most : t ≤ charge o.next + total + 48 + one
  pub end : n ≤ o.piece.past → t ≤ charge o.next + total + 16

abbrev pub SpentStage : (Cursor → Type 0) → (Cursor → ℕ) → (Cursor → ℕ) → (Cursor → ℕ → ℕ) → ℕ → ℕ → ℕ → ℕ → Cursor
    → ℕ → CutterStage → Type 0
SpentStage IsPlace charge copied held b limit n one start t Between = t ≡ all_passes charge copied start
SpentStage IsPlace charge copied held b limit n one start t (Plan p) = SpentPlan charge copied b limit start t p
SpentStage IsPlace charge copied held b limit n one start t (Begin o) = SpentOutline charge copied n one start t o
SpentStage IsPlace charge copied held b limit n one start t (Write o w) =
    SpentWriting IsPlace charge copied held n one t o w
SpentStage IsPlace charge copied held b limit n one start t Done = ⊤
SpentStage IsPlace charge copied held b limit n one start t (Failed f) = ⊤

-- t is no more than what a piece that ends before block e of n, at the place `next`, may have read
pub record SpentPiece (charge copied : Cursor → ℕ) (n one e : ℕ) (next : Cursor) (t : ℕ) : Type 0 where
  pub most : t ≤ all_passes charge copied next + 80 + one
  pub end : n ≤ e → t ≤ all_passes charge copied next + 48
