-- What is read or moved, after what was read before.
use Rattle.std.proofs.Common.{Result, Ok, Err}
use Rattle.std.proofs.Math.Nat.{le_refl}
use Rattle.abt_io.specs.Lent.{OnlyReads}
use Rattle.abt_io.proofs.Lent.{reads_err, reads_then}
use Rattle.abt_io.specs.declared.device.Source as sources
use Rattle.abt_io.specs.declared.device.Output as outputs
use Rattle.abt_sections.specs.declared.fault.SectionFault.{SectionFault}
use Rattle.abt_sections.specs.Moves.{MovesUnless}
use Rattle.abt_sections.specs.Reads.{OpensUnless, ReadsUnless}
use Rattle.abt_sections.proofs.Causes.{if_err_then, move_on, read_on, read_opens}

pub reads_on : {X Y Z E : Type 0} {x : X} {e : SectionFault} {A : Type 0} {s : sources.Ghosts A} {a b z : A}
    {C D : Type 0} → OnlyReads {E = E} (Ok x) s a b → ReadsUnless {X = Y} (Err e) s b z C → (C → D)
    → ReadsUnless {X = Z} (Err e) s a z D
reads_on {e = e} {s = s} {a = a} {b = b} {z = z} {C = C} {D = D} k d h =
    let f = s.read_faults in
    record {
      only = reads_err e (reads_then k d.only);
      cause = read_on e (f a) (f b) (f z) (f z) C D k.faults (le_refl (f z)) h d.cause;
      failed = d.failed;
    }

-- of opening
pub opens_on : {X Y Z E : Type 0} {x : X} {e : SectionFault} {A : Type 0} {s : sources.Ghosts A} {a b z : A}
    {C D : Type 0} → OnlyReads {E = E} (Ok x) s a b → ReadsUnless {X = Y} (Err e) s b z C → (C → D)
    → OpensUnless {X = Z} (Err e) s a z D
opens_on {e = e} {s = s} {a = a} {b = b} {z = z} {C = C} {D = D} k d h =
    let f = s.read_faults in
    record {
      only = reads_err e (reads_then k d.only);
      cause = read_opens e (f a) (f b) (f z) (f z) C D k.faults (le_refl (f z)) h d.cause;
      failed = d.failed;
    }

-- bytes that are moved
pub moves_on : {X Y E A B : Type 0} {x : X} {r : Result Y SectionFault} {s : sources.Ghosts A} {o : outputs.Ghosts B}
    {a a' z : A} {b b' : B} {C D : Type 0} → OnlyReads {E = E} (Ok x) s a a' → MovesUnless r s a' z o b b' C → (C → D)
    → MovesUnless r s a z o b b' D
moves_on {r = r} {s = s} {o = o} {a = a} {a' = a'} {z = z} {b = b} {b' = b'} {C = C} {D = D} k d h =
    let f = s.read_faults in
    let w = o.write_faults in
    record {
      reads = reads_then k d.reads;
      writes = d.writes;
      cause = if_err_then r
          (λ e. move_on e (f a) (f a') (f z) (f z) (w b) (w b) (w b') (w b') C D
          k.faults (le_refl (f z)) (le_refl (w b)) (le_refl (w b')) h) d.cause;
    }
