-- Moving and reading that are refused after what was done before.
use Rattle.std.proofs.Common.{ℕ, ◌<◌, List, length, get_or, set, Ok, Err}
use Rattle.std.proofs.Math.Nat.{le_refl}
use Rattle.abt_io.specs.Lent.{OnlyReads, OnlyReadsAll, OnlyWrites}
use Rattle.abt_io.proofs.Lent.{writes_then}
use Rattle.abt_io.specs.declared.device.Source as sources
use Rattle.abt_io.specs.declared.device.Output as outputs
use Rattle.abt_sections.specs.declared.fault.SectionFault.{SectionFault}
use Rattle.abt_sections.specs.Cause.{total}
use Rattle.abt_sections.specs.Moves.{MovesUnless, MovesAllUnless}
use Rattle.abt_sections.proofs.Causes.{part_move}
use Rattle.abt_sections.proofs.Parts.{all_part}

-- one of several was borrowed
pub moves_part : {X Y : Type 0} {x : X} {f : SectionFault} {A B : Type 0} {s : sources.Ghosts A} {o : outputs.Ghosts B}
    {ps0 : List A} {p q t : B} {C D : Type 0} (ps : List A) (i : ℕ) (d a : A) → i < length ps
    → OnlyReadsAll {E = SectionFault} (Ok x) s ps0 ps → OnlyWrites {E = SectionFault} (Ok x) 0 o p q
    → MovesUnless {X = Y} (Err f) s (get_or ps i d) a o q t C → (C → D)
    → MovesAllUnless {X = Y} (Err f) s ps0 (set ps i a) o p t D
moves_part {f = f} {s = s} {o = o} {ps0 = ps0} {p = p} {q = q} {t = t} {C = C} {D = D} ps i d a within k l e h =
    let w = o.write_faults in
    record {
      reads = all_part s ps0 ps i d a within k e.reads;
      writes = writes_then l e.writes;
      cause = part_move s.read_faults ps i (total s.read_faults ps0) (w p) (w q) (w t) (w t) d a f C D within k.faults
          l.faults (le_refl _) h e.cause;
    }
