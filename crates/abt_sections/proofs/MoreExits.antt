-- What calls leave that are refused after others, or that others follow: sources that are read beside one another.
use Rattle.std.proofs.Common.{ℕ, ◌+◌, ◌<◌, ◌≤◌, List, length, get_or, set, Ok, Err, Result, arith, subst, sym}
use Rattle.std.proofs.Common.{◌≡◌, ◌∙◌, ap, refl}
use Rattle.std.proofs.Math.Nat.{le_refl}
use Rattle.abt_io.specs.Lent.{OnlyReads, OnlyReadsAll, OnlyWrites}
use Rattle.abt_io.proofs.Lent.{reads_err, reads_none, writes_err, writes_none, writes_then}
use Rattle.abt_io.specs.declared.device.Source as sources
use Rattle.abt_io.specs.declared.device.Output as outputs
use Rattle.abt_io.specs.Cause.{CopyCause, full_in_copy}
use Rattle.abt_io.specs.declared.copying.CopyFault.{CopyFault}
use Rattle.abt_io.specs.declared.copying.CopyFault.TheVariants as copies
use Rattle.abt_sections.specs.declared.fault.SectionFault.{SectionFault}
use Rattle.abt_sections.specs.declared.fault.SectionFault.TheVariants.{Read, Write, SourceChanged}
use Rattle.abt_sections.specs.Cause.{MoveCause, copy_fault, full_in_section_fault, total}
use Rattle.abt_sections.specs.Moves.{MovesAllUnless, MovesMoreUnless, MovesUnless, ReadsAllUnless, WritesAlone}
use Rattle.abt_sections.specs.Reads.{ReadsUnless}
use Rattle.abt_sections.proofs.Causes.{if_err_then, move_on, on_ok, part_move}
use Rattle.abt_sections.proofs.PackExits.{all_read, beside_move, read_moves}
use Rattle.abt_sections.proofs.Parts.{all_part}

-- one of several is refused
pub reads_part : {X Y Z : Type 0} {x : X} {f : SectionFault} {A : Type 0} {s : sources.Ghosts A} {ps0 : List A}
    {C D : Type 0} (ps : List A) (i : ℕ) (d a : A) → i < length ps → OnlyReadsAll {E = SectionFault} (Ok x) s ps0 ps
    → ReadsUnless {X = Y} (Err f) s (get_or ps i d) a C → (C → D) → ReadsAllUnless {X = Z} (Err f) s ps0 (set ps i a) D
reads_part {f = f} {s = s} {ps0 = ps0} {C = C} {D = D} ps i d a within k e h =
    let all = all_part s ps0 ps i d a within k e.only in
    let z = le_refl 0 in
    record {
      only = record {
        content = all.content;
        size = all.size;
        frame = all.frame;
        faults = all.faults;
        clean = tt;
      };
      cause = part_move s.read_faults ps i (total s.read_faults ps0) 0 0 0 0 d a f C D within k.faults z z h e.cause;
      failed = e.failed;
    }

-- the output alone failed, whatever sources there are
pub written_alone : (e : SectionFault) (r w0 w w' : ℕ) (D : Type 0) → w0 ≤ w → MoveCause e 0 0 w w' ⊥
    → MoveCause e r r w0 w' D
written_alone (Read f) r w0 w w' D le x = absurd (omega (arith, x))
written_alone (Write f) r w0 w w' D le x = omega (arith, x, le)
written_alone SourceChanged r w0 w w' D le x = absurd x
written_alone e r w0 w w' D le x = absurd x

pub writes_alone : {X : Type 0} {f : SectionFault} {A B : Type 0} (s : sources.Ghosts A) {o : outputs.Ghosts B} (a : A)
    {p q : B} (D : Type 0) → WritesAlone {X = X} (Err f) o p q → MovesUnless {X = X} (Err f) s a a o p q D
writes_alone {f = f} s {o = o} a {p = p} {q = q} D e = record {
  reads = reads_none (Err f) s a;
  writes = e.only;
  cause = written_alone f (s.read_faults a) (o.write_faults p) (o.write_faults p) (o.write_faults q) D (le_refl _)
      e.cause;
}

pub writes_alone_more : {X : Type 0} {f : SectionFault} {A B : Type 0} (s : sources.Ghosts A) {o : outputs.Ghosts B}
    (a : List A) (z : A) {p q : B} (D : Type 0) → WritesAlone {X = X} (Err f) o p q
    → MovesMoreUnless {X = X} (Err f) s a a z z o p q D
writes_alone_more {f = f} s {o = o} a z {p = p} {q = q} D e = record {
  reads = all_read (Err f) s a;
  more = reads_none (Err f) s z;
  writes = e.only;
  cause = written_alone f (total s.read_faults a + s.read_faults z) (o.write_faults p) (o.write_faults p)
      (o.write_faults q) D (le_refl _) e.cause;
}

-- after an output that was written to
pub moves_after : {X Y : Type 0} {x : X} {r : Result Y SectionFault} {A B : Type 0} {s : sources.Ghosts A}
    {o : outputs.Ghosts B} {a z : A} {p q t : B} {C D : Type 0} → OnlyWrites {E = SectionFault} (Ok x) 0 o p q
    → MovesUnless r s a z o q t C → (C → D) → MovesUnless r s a z o p t D
moves_after {r = r} {s = s} {o = o} {a = a} {z = z} {p = p} {q = q} {t = t} {C = C} {D = D} k e h =
    let f = s.read_faults in
    let w = o.write_faults in
    record {
      reads = e.reads;
      writes = writes_then k e.writes;
      cause = if_err_then r (λ g. move_on g (f a) (f a) (f z) (f z) (w p) (w q) (w t) (w t) C D (le_refl _) (le_refl _)
          k.faults (le_refl _) h) e.cause;
    }

-- the first of two kinds of sources is refused, after an output that was written to
pub first_refused : {X Y : Type 0} {x : X} {f : SectionFault} {A B : Type 0} {s : sources.Ghosts A}
    {o : outputs.Ghosts B} {a b : List A} (z : A) {p q t : B} {C D : Type 0}
    → OnlyWrites {E = SectionFault} (Ok x) 0 o p q → MovesAllUnless {X = Y} (Err f) s a b o q t C → (C → D)
    → MovesMoreUnless {X = Y} (Err f) s a b z z o p t D
first_refused {f = f} {s = s} {o = o} {a = a} {b = b} z {p = p} {q = q} {t = t} {C = C} {D = D} k e h =
    let w = o.write_faults in
    let n = total s.read_faults a in
    let n' = total s.read_faults b in
    record {
      reads = e.reads;
      more = reads_none (Err f) s z;
      writes = writes_then k e.writes;
      cause = beside_move f n n' (s.read_faults z) (w p) (w t) D D (λ d. d)
          (move_on f n n n' n' (w p) (w q) (w t) (w t) C D (le_refl _) (le_refl _) k.faults (le_refl _) h e.cause);
    }

-- the last of them ends the call
pub last_ends : {X Y : Type 0} {x : X} {r : Result Y SectionFault} {A B : Type 0} {s : sources.Ghosts A}
    {o : outputs.Ghosts B} {a b : List A} {y z : A} {p q t : B} {C D : Type 0}
    → OnlyReadsAll {E = SectionFault} (Ok x) s a b → OnlyWrites {X = X} {E = SectionFault} (Ok x) 0 o p q
    → MovesUnless r s y z o q t C → (C → D) → MovesMoreUnless r s a b y z o p t D
last_ends {r = r} {s = s} {o = o} {a = a} {b = b} {y = y} {z = z} {p = p} {q = q} {t = t} {C = C} {D = D} all k e h =
    let f = s.read_faults in
    let w = o.write_faults in
    record {
      reads = record {
        content = all.content;
        size = all.size;
        frame = all.frame;
        faults = all.faults;
        clean = on_ok r all.clean;
      };
      more = e.reads;
      writes = writes_then k e.writes;
      cause = if_err_then r (λ g. second_move g (total f a) (total f b) (f y) (f z) (w p) (w q) (w t) C D all.faults
          k.faults h) e.cause;
    }
  where
    second_move : (e : SectionFault) (n n' r r' w0 w w' : ℕ) (C D : Type 0) → n ≤ n' → w0 ≤ w → (C → D)
        → MoveCause e r r' w w' C → MoveCause e (n + r) (n' + r') w0 w' D
    second_move (Read f) n n' r r' w0 w w' C D le low h x = omega (arith, x, le)
    second_move (Write f) n n' r r' w0 w w' C D le low h x = omega (arith, x, low)
    second_move SourceChanged n n' r r' w0 w w' C D le low h x = h x
    second_move e n n' r r' w0 w w' C D le low h x = absurd x

-- a source was moved, and the output alone is written to after it
pub moves_written : {X Y : Type 0} {x : X} {r : Result Y SectionFault} {A B : Type 0} {s : sources.Ghosts A}
    {o : outputs.Ghosts B} {a z : A} {p q t : B} {C : Type 0} (D : Type 0) → MovesUnless {X = X} (Ok x) s a z o p q C
    → WritesAlone r o q t → MovesUnless r s a z o p t D
moves_written {r = r} {s = s} {o = o} {a = a} {z = z} {p = p} {q = q} {t = t} D k e = record {
  reads = record {
    content = k.reads.content;
    size = k.reads.size;
    frame = k.reads.frame;
    faults = k.reads.faults;
    clean = on_ok r k.reads.clean;
  };
  writes = writes_then k.writes e.only;
  cause = if_err_then r (λ g. written_last g (s.read_faults a) (s.read_faults z) (o.write_faults p) (o.write_faults q)
      (o.write_faults t) k.writes.faults) e.cause;
}
  where
    written_last : (e : SectionFault) (r r' w0 w w' : ℕ) → w0 ≤ w → MoveCause e 0 0 w w' ⊥ → MoveCause e r r' w0 w' D
    written_last (Read f) r r' w0 w w' le x = absurd (omega (arith, x))
    written_last (Write f) r r' w0 w w' le x = omega (arith, x, le)
    written_last SourceChanged r r' w0 w w' le x = absurd x
    written_last e r r' w0 w w' le x = absurd x

-- nothing is written where reading is refused
pub reads_alone : {X Y : Type 0} {f : SectionFault} {A B : Type 0} {s : sources.Ghosts A} (o : outputs.Ghosts B)
    {a z : A} (p : B) {C : Type 0} → ReadsUnless {X = X} (Err f) s a z C → MovesUnless {X = Y} (Err f) s a z o p p C
reads_alone {Y = Y} {f = f} {s = s} o {a = a} {z = z} p {C = C} e = record {
  reads = reads_err f e.only;
  writes = subst (λ (n : ℕ). OnlyWrites {X = Y} (Err f) n o p p) (sym e.failed) (writes_none (Err f) o p);
  cause = read_moves f (s.read_faults a) (s.read_faults z) (o.write_faults p) C e.cause;
}

-- parts that are not read, where the output alone failed
pub writes_alone_all : {X : Type 0} {f : SectionFault} {A B : Type 0} (s : sources.Ghosts A) {o : outputs.Ghosts B}
    (a : List A) {p q : B} (D : Type 0) → WritesAlone {X = X} (Err f) o p q
    → MovesAllUnless {X = X} (Err f) s a a o p q D
writes_alone_all {f = f} s {o = o} a {p = p} {q = q} D e = record {
  reads = all_read (Err f) s a;
  writes = e.only;
  cause = written_alone f (total s.read_faults a) (o.write_faults p) (o.write_faults p) (o.write_faults q) D (le_refl _)
      e.cause;
}

-- parts that are moved after an output that was written to
pub all_after_writes : {X Y : Type 0} {x : X} {r : Result Y SectionFault} {A B : Type 0} {s : sources.Ghosts A}
    {o : outputs.Ghosts B} {a z : List A} {p q t : B} {C D : Type 0} → OnlyWrites {E = SectionFault} (Ok x) 0 o p q
    → MovesAllUnless r s a z o q t C → (C → D) → MovesAllUnless r s a z o p t D
all_after_writes {r = r} {s = s} {o = o} {a = a} {z = z} {p = p} {q = q} {t = t} {C = C} {D = D} k e h =
    let n = total s.read_faults a in
    let n' = total s.read_faults z in
    let w = o.write_faults in
    record {
      reads = e.reads;
      writes = writes_then k e.writes;
      cause = if_err_then r (λ g. move_on g n n n' n' (w p) (w q) (w t) (w t) C D (le_refl _) (le_refl _) k.faults
          (le_refl _) h) e.cause;
    }

-- what was refused stays so, whatever would have been returned
pub all_moved_err : {X Y : Type 0} {f : SectionFault} {A B : Type 0} {s : sources.Ghosts A} {o : outputs.Ghosts B}
    {a z : List A} {p q : B} {C : Type 0} → MovesAllUnless {X = X} (Err f) s a z o p q C
    → MovesAllUnless {X = Y} (Err f) s a z o p q C
all_moved_err {f = f} e = record {
  reads = record {
    content = e.reads.content;
    size = e.reads.size;
    frame = e.reads.frame;
    faults = e.reads.faults;
    clean = tt;
  };
  writes = writes_err f e.writes;
  cause = e.cause;
}

-- a copy is refused
pub copy_refused : {X Y : Type 0} {A B : Type 0} {s : sources.Ghosts A} {o : outputs.Ghosts B} {a z : A} {p t : B}
    {C D : Type 0} (k : CopyFault) → OnlyReads {X = X} (Err k) s a z
    → OnlyWrites {X = X} (Err k) (full_in_copy k) o p t
    → CopyCause k C (s.read_faults a) (s.read_faults z) (o.write_faults p) (o.write_faults t) → (C → D)
    → MovesUnless {X = Y} (Err (copy_fault k)) s a z o p t D
copy_refused {s = s} {o = o} {a = a} {z = z} {p = p} {t = t} {C = C} {D = D} k d e cause h = record {
  reads = reads_err (copy_fault k) d;
  writes = record {
    least = e.least;
    frame = e.frame;
    faults = e.faults;
    clean = tt;
    full_faults = e.full_faults ∙ ap (λ (n : ℕ). o.full_faults p + n) (sym (copy_full k));
  };
  cause = copy_moves k (s.read_faults a) (s.read_faults z) (o.write_faults p) (o.write_faults t) h cause;
}
  where
    copy_full : (k : CopyFault) → full_in_section_fault (copy_fault k) ≡ full_in_copy k
    copy_full (copies.Read f) = refl
    copy_full (copies.Write f) = refl
    copy_full copies.Changed = refl

    copy_moves : (k : CopyFault) (r r' w w' : ℕ) → (C → D) → CopyCause k C r r' w w'
        → MoveCause (copy_fault k) r r' w w' D
    copy_moves (copies.Read f) r r' w w' h x = x
    copy_moves (copies.Write f) r r' w w' h x = x
    copy_moves copies.Changed r r' w w' h x = h x
