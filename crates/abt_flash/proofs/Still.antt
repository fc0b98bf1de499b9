-- Where nothing more was called: what a spool and a partition are left with.
use Rattle.std.proofs.Common.{◌≡◌, ℕ, ◌+◌, ◌++◌, List, [], Option, length, sym, ap, ◌∙◌}
use Rattle.abt_io.specs.Moment.{Past, moment_of}
use Rattle.abt_io.proofs.Moments.{keeps_same}
use Rattle.abt_pieces.specs.Cutter.{Passed}
use Rattle.abt_pieces.specs.declared.stage.CutterStage.{CutterStage}
use Rattle.abt_io.specs.declared.device.Source as sources
use Rattle.abt_flash.specs.Devices.{LeavesUnread}
use Rattle.abt_flash.specs.Laying.{writes}
use Rattle.abt_flash.specs.Delivering.{Begins, PiecesFit}
use Rattle.abt_flash.specs.Flashing.{TouchesOnly}
use Rattle.abt_flash.specs.Going.{GoesBehind}
use Rattle.abt_flash.proofs.Moments.{during_none}
use Rattle.abt_flash.proofs.Onward.{passed_stands}

-- nothing was written to the spool, and it was not cleared
pub fits_same : (limit : ℕ) (cuts cuts' w w' : List ℕ) → cuts' ≡ cuts → w' ≡ w
    → PiecesFit limit cuts cuts' (length w) (length w')
fits_same limit cuts cuts' w w' e same = record { clears = []; joined = e; fit = ap length (sym same) }

pub begins_same : (w w' x : List ℕ) → w' ≡ w → Begins w' (w ++ x)
begins_same w w' x e = record { more = x; joined = ap (λ (y : List ℕ). y ++ x) e }

-- the partition was not called
pub touches_none : (cs : List (Option ℕ)) (past : Past) (p : List ℕ) → TouchesOnly cs past past p p
touches_none cs past p =
    record {
      kept = keeps_same (writes cs) (moment_of past p);
      moments = during_none (writes cs) (moment_of past p)
          (moment_of past p) past.moments;
    }

-- the piece that was made goes on from where the cutter was
pub goes_behind : (n k k' s e first past : ℕ) (st : CutterStage) → k' ≡ k + 1 → first ≡ s → past ≡ e
    → Passed n first past st → GoesBehind n k k' s e st
goes_behind n k k' s e first past st made begins ends h =
    let at = rw (begins, ends) at h in
    record { made = made; stands = passed_stands n s e st at; moves = at.moves }

-- of a partition nothing was read, one call after the other
pub unread_then : {C : Type 0} {s : sources.Ghosts C} {a b z : C} → LeavesUnread s a b → LeavesUnread s b z
    → LeavesUnread s a z
unread_then k d = record {
  size = d.size ∙ k.size;
  reads = d.reads ∙ k.reads;
  given = d.given ∙ k.given;
  faults = d.faults ∙ k.faults;
}
