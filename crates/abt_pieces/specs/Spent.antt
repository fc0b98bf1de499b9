-- What writing one piece reads: one pass to gather its runs, a second over the raw runs, and their bytes.
use Rattle.std.specs.Prelude.{◌≡◌, ℕ, ◌+◌, ◌-◌, ◌≤◌, ◌<◌, Option, Some, None, ◌⊎◌, min}
use Rattle.abt_runs.specs.Part.{Earliest, afresh, entry}
use Rattle.abt_runs.specs.declared.part.RunKind.TheVariants as kinds
use Rattle.abt_runs.specs.declared.part.Cursor.{Cursor}
use Rattle.abt_pieces.specs.Gather.{gathered_to}
use Rattle.abt_pieces.specs.Write.{begins}
use Rattle.abt_pieces.specs.declared.gather.Gatherer.{Gatherer}
use Rattle.abt_pieces.specs.declared.write.Copying.{Copying}
use Rattle.abt_pieces.specs.declared.write.Writer.{Writer}

-- how many bytes a pass and copying may have read before a place, together
abbrev pub charge_and_copied : (Cursor → ℕ) → (Cursor → ℕ) → Cursor → ℕ
charge_and_copied charge copied c = charge c + copied c

-- A raw run may be copied from a place, of a piece that begins at block `first` where s bytes may have been read: no
-- fewer are before the place, and a chunk is entered inside at the piece's first block alone.
pub record Entered (charge copied : Cursor → ℕ) (first s : ℕ) (c : Cursor) : Type 0 where
  pub behind : s ≤ charge_and_copied charge copied c + (16 - entry c)
  pub anew : charge (afresh c) ≤ charge c
  pub inside : 0 < c.used → c.block ≡ first

-- a gatherer of such a piece, which goes up to block `past` and the place d
pub record SpentGathering (charge copied : Cursor → ℕ) (first past : ℕ) (d : Cursor) (s : ℕ)
    (g : Gatherer) : Type 0 where
  pub behind : s ≤ gathered_to (charge_and_copied charge copied) past d g.at
  pub inside : g.at.block < past → 0 < g.at.used → g.at.block ≡ first
  pub from : g.kind ≡ kinds.Raw → 0 < g.count → Entered charge copied first s g.from

-- The raw run that is copied goes up to block u. Of t bytes that were read, gathering accounts for e.
pub record SpentPart (IsPlace : Cursor → Type 0) (charge copied : Cursor → ℕ) (held : Cursor → ℕ → ℕ) (u t e : ℕ)
    (c : Copying) : Type 0 where
  pub read : t ≤ e + charge c.next + (copied c.here + held c.here c.done) + 16
  pub going : c.next.block < u → t + entry c.next ≤ e + charge c.next + (copied c.here + held c.here c.done) + 16
  pub whole : copied c.here + held c.here c.size ≤ copied c.next
  pub first : c.next.block ≡ u → Earliest IsPlace copied charge c.next

-- no raw run has been copied yet, or no place of the piece from block u on is before those that were
abbrev pub SpentCopying : (Cursor → Type 0) → (Cursor → ℕ) → (Cursor → ℕ) → (Cursor → ℕ → ℕ) → ℕ → ℕ → ℕ → ℕ → ℕ → ℕ
    → Option Copying → Type 0
SpentCopying IsPlace charge copied held first past s u t e None =
    (t ≤ e + s) ⊎ ((first < u)
    × ((c : Cursor) → IsPlace c → min u past ≤ c.block → t ≤ e + charge (afresh c) + copied c + 16))
SpentCopying IsPlace charge copied held first past s u t e (Some c) = SpentPart IsPlace charge copied held u t e c

-- A writer of a piece that ends at the place d, where s bytes count for the second pass and copying at its beginning:
-- t is no more than what both passes and copying may have read in all.
pub record Spent (IsPlace : Cursor → Type 0) (charge copied : Cursor → ℕ) (held : Cursor → ℕ → ℕ) (d : Cursor)
    (s t : ℕ) (w : Writer) : Type 0 where
  pub gathering : SpentGathering charge copied w.first w.past d s w.gatherer
  pub copies : SpentCopying IsPlace charge copied held w.first w.past s (begins w.gatherer) t
      (gathered_to charge w.past d w.gatherer.at) w.copying
