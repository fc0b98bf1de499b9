-- The exits of packing a boot image, from what the calls say that refuse there.
use Rattle.std.proofs.Common.{◌≡◌, ℕ, ◌+◌, ◌-◌, ◌++◌, ◌≤◌, List, length, map, take, append-nil, refl, sym, ap}
use Rattle.std.proofs.Common.{subst, ◌∙◌, arith}
use Rattle.std.proofs.lemmas.List.{take_all}
use Rattle.std.proofs.Common.{Option, Some, None, Result, Ok, Err, Bool}
use Rattle.std.specs.Prelude.{IsTrue, IfErr, IfOk, OnOk}
use Rattle.std.proofs.Math.Nat.{le_refl, le_trans}
use Rattle.abt_io.specs.Lent.{OnlyReads, OnlyReadsAll, OnlyWrites}
use Rattle.abt_io.proofs.Lent.{writes_err, writes_none, writes_then}
use Rattle.abt_io.specs.declared.device.Source as sources
use Rattle.abt_io.specs.declared.device.Output as outputs
use Rattle.abt_sections.specs.declared.fault.SectionFault.{SectionFault}
use Rattle.abt_sections.specs.declared.fault.SectionFault.TheVariants.{Read, Write, SourceChanged}
use Rattle.abt_sections.specs.declared.spec.Packed.{Packed}
use Rattle.abt_sections.specs.BootCanon.{boot_image_size}
use Rattle.abt_sections.specs.Cause.{MoveCause, PackCause, full_handed, full_in_section_fault, total}
use Rattle.abt_sections.specs.Fields.{BootFields}
use Rattle.abt_sections.specs.Grown.{AppendsFront, Grows}
use Rattle.abt_sections.specs.Moves.{MovesAllUnless, ReadsAllUnless, WritesAlone}
use Rattle.abt_sections.specs.Packs.{AppendsBoot}
use Rattle.abt_sections.specs.Refusal.{IfRefused, pack_boot_refusal}
use Rattle.abt_sections.proofs.Causes.{move_on, on_ok, pack_moves}

-- ---- nothing came, or nothing is refused

pub begins_none : (a x : List ℕ) → AppendsFront a a x
begins_none a x =
    sym (ap (λ (n : ℕ). a ++ take n x) (let z : length a - length a ≡ 0 = omega arith in z) ∙ append-nil a)

pub grows_none : (a : List ℕ) → Grows a a
grows_none a = take_all (length a) a (omega arith)

pub not_refused : (o : Option SectionFault) (P : SectionFault → Type 0) → o ≡ None → IfRefused o P
not_refused o P none = subst (λ (p : Option SectionFault). IfRefused p P) (sym none) tt

-- ---- a result that is a refusal

pub not_ok : {X : Type 0} {f : SectionFault} {r : Result X SectionFault} (P : Type 0) → r ≡ Err f → OnOk r P
not_ok {X = X} P is = subst (λ (q : Result X SectionFault). OnOk q P) (sym is) tt

pub not_if_ok : {X : Type 0} {f : SectionFault} {r : Result X SectionFault} (P : X → Type 0) → r ≡ Err f → IfOk r P
not_if_ok {X = X} P is = subst (λ (q : Result X SectionFault). IfOk q P) (sym is) tt

pub if_err : {X : Type 0} {f : SectionFault} {r : Result X SectionFault} (P : SectionFault → Type 0) → r ≡ Err f → P f
    → IfErr r P
if_err {X = X} P is p = subst (λ (q : Result X SectionFault). IfErr q P) (sym is) p

pub if_refused : {o : Option SectionFault} {f : SectionFault} (P : SectionFault → Type 0) → o ≡ Some f → P f
    → IfRefused o P
if_refused P is p = subst (λ (o : Option SectionFault). IfRefused o P) (sym is) p

pub refused_before : (o : Option SectionFault) (f : SectionFault) (r r' w w' : ℕ) (C : Type 0) → o ≡ Some f
    → PackCause o f r r' w w' C
refused_before o f r r' w w' C is = subst (λ (q : Option SectionFault). PackCause q f r r' w w' C) (sym is) refl

pub all_read : {X : Type 0} (r : Result X SectionFault) {A : Type 0} (s : sources.Ghosts A) (a : List A)
    → OnlyReadsAll r s a a
all_read r s a =
    record { content = λ models. refl; size = λ models. refl; frame = refl; faults = le_refl _; clean = on_ok r refl }

pub all_err : {X Y : Type 0} {f : SectionFault} {r : Result Y SectionFault} {A : Type 0} {s : sources.Ghosts A}
    {a z : List A} → r ≡ Err f → OnlyReadsAll {X = X} (Err f) s a z → OnlyReadsAll r s a z
all_err is d =
    record { content = d.content; size = d.size; frame = d.frame; faults = d.faults; clean = not_ok _ is }

pub one_err : {X Y : Type 0} {f : SectionFault} {r : Result Y SectionFault} {A : Type 0} {s : sources.Ghosts A}
    {a z : A} → r ≡ Err f → OnlyReads {X = X} (Err f) s a z → OnlyReads r s a z
one_err is d =
    record { content = d.content; size = d.size; frame = d.frame; faults = d.faults; clean = not_ok _ is }

pub wrote_err : {X Y : Type 0} {f : SectionFault} {r : Result Y SectionFault} {B : Type 0} {o : outputs.Ghosts B}
    {b b' : B} → r ≡ Err f → OnlyWrites {X = X} (Err f) (full_in_section_fault f) o b b'
    → OnlyWrites r (full_handed r) o b b'
wrote_err {Y = Y} {f = f} {o = o} {b = b} {b' = b'} is d =
    subst (λ (q : Result Y SectionFault). OnlyWrites q (full_handed q) o b b') (sym is) (writes_err f d)

pub wrote_nothing : {X : Type 0} {f : SectionFault} {r : Result X SectionFault} {B : Type 0} {o : outputs.Ghosts B}
    (b : B) → r ≡ Err f → full_in_section_fault f ≡ 0 → OnlyWrites r (full_handed r) o b b
wrote_nothing {X = X} {f = f} {o = o} b is unfull =
    subst (λ (q : Result X SectionFault). OnlyWrites q (full_handed q) o b b) (sym is)
    (subst (λ (n : ℕ). OnlyWrites {X = X} (Err f) n o b b) (sym unfull) (writes_none (Err f) o b))

-- all were read, and then the call was refused for another device
pub all_kept : {X Y : Type 0} {x : X} (f : SectionFault) {A : Type 0} {s : sources.Ghosts A} {a z : List A}
    → OnlyReadsAll {E = SectionFault} (Ok x) s a z → OnlyReadsAll {X = Y} (Err f) s a z
all_kept f d = record { content = d.content; size = d.size; frame = d.frame; faults = d.faults; clean = tt }

-- beside a source that is not read
pub beside_move : (e : SectionFault) (r r' k w w' : ℕ) (C D : Type 0) → (C → D) → MoveCause e r r' w w' C
    → MoveCause e (r + k) (r' + k) w w' D
beside_move (Read f) r r' k w w' C D h x = omega (arith, x)
beside_move (Write f) r r' k w w' C D h x = x
beside_move SourceChanged r r' k w w' C D h x = h x
beside_move e r r' k w w' C D h x = absurd x

-- ---- what is read before it is moved

pub all_ok : {X Y : Type 0} {x : X} (y : Y) {A : Type 0} {s : sources.Ghosts A} {a z : List A}
    → OnlyReadsAll {E = SectionFault} (Ok x) s a z → OnlyReadsAll {E = SectionFault} (Ok y) s a z
all_ok y d = record { content = d.content; size = d.size; frame = d.frame; faults = d.faults; clean = d.clean }

pub all_after : {X Y Z : Type 0} {x : X} {y : Y} (v : Z) {A : Type 0} {s : sources.Ghosts A} {a b z : List A}
    → OnlyReadsAll {E = SectionFault} (Ok x) s a b → OnlyReadsAll {E = SectionFault} (Ok y) s b z
    → OnlyReadsAll {E = SectionFault} (Ok v) s a z
all_after v k d = record {
  content = λ models. d.content models ∙ k.content models;
  size = λ models. d.size models ∙ k.size models;
  frame = d.frame ∙ k.frame;
  faults = le_trans k.faults d.faults;
  clean = d.clean ∙ k.clean;
}

pub all_then : {X Y : Type 0} {x : X} {f : SectionFault} {A : Type 0} {s : sources.Ghosts A} {a b z : List A}
    → OnlyReadsAll {E = SectionFault} (Ok x) s a b → OnlyReadsAll {X = Y} (Err f) s b z
    → OnlyReadsAll {X = Y} (Err f) s a z
all_then k d = record {
  content = λ models. d.content models ∙ k.content models;
  size = λ models. d.size models ∙ k.size models;
  frame = d.frame ∙ k.frame;
  faults = le_trans k.faults d.faults;
  clean = tt;
}

pub moves_behind : {X Y : Type 0} {x : X} {f : SectionFault} {A B : Type 0} {s : sources.Ghosts A}
    {o : outputs.Ghosts B} {a b z : List A} {p q : B} {C D : Type 0}
    → OnlyReadsAll {E = SectionFault} (Ok x) s a b → MovesAllUnless {X = Y} (Err f) s b z o p q C → (C → D)
    → MovesAllUnless {X = Y} (Err f) s a z o p q D
moves_behind {f = f} {s = s} {o = o} {a = a} {b = b} {z = z} {p = p} {q = q} {C = C} {D = D} k e h =
    let t = total s.read_faults in
    let w = o.write_faults in
    record {
      reads = all_then k e.reads;
      writes = e.writes;
      cause = move_on f (t a) (t b) (t z) (t z) (w p) (w p) (w q) (w q) C D k.faults (le_refl _) (le_refl _)
          (le_refl _) h e.cause;
    }

pub read_moves : (e : SectionFault) (r r' w : ℕ) (C : Type 0) → MoveCause e r r' 0 0 C → MoveCause e r r' w w C
read_moves (Read f) r r' w C x = x
read_moves (Write f) r r' w C x = absurd (omega (arith, x))
read_moves SourceChanged r r' w C x = x
read_moves e r r' w C x = absurd x

-- nothing is written where reading is refused
pub moves_nothing : {X Y : Type 0} {f : SectionFault} {A B : Type 0} {s : sources.Ghosts A} (o : outputs.Ghosts B)
    {a z : List A} (p : B) {C : Type 0} → ReadsAllUnless {X = X} (Err f) s a z C
    → MovesAllUnless {X = Y} (Err f) s a z o p p C
moves_nothing {Y = Y} {f = f} {s = s} o {a = a} {z = z} p {C = C} e =
    let t = total s.read_faults in
    let w = o.write_faults p in
    record {
      reads = record {
        content = e.only.content;
        size = e.only.size;
        frame = e.only.frame;
        faults = e.only.faults;
        clean = tt;
      };
      writes = subst (λ (n : ℕ). OnlyWrites {X = Y} (Err f) n o p p) (sym e.failed) (writes_none (Err f) o p);
      cause = read_moves f (t a) (t z) w C e.cause;
    }

-- all was moved, and then the output alone failed
pub moves_broken : {X Y : Type 0} {x : X} {f : SectionFault} {A B : Type 0} {s : sources.Ghosts A}
    {o : outputs.Ghosts B} {a z : List A} {p q t : B} {C : Type 0} (D : Type 0)
    → MovesAllUnless {X = X} (Ok x) s a z o p q C → WritesAlone {X = Y} (Err f) o q t
    → MovesAllUnless {X = Y} (Err f) s a z o p t D
moves_broken {f = f} {s = s} {o = o} {a = a} {z = z} {p = p} {q = q} {t = t} D k e = record {
  reads = record {
    content = k.reads.content;
    size = k.reads.size;
    frame = k.reads.frame;
    faults = k.reads.faults;
    clean = tt;
  };
  writes = writes_then k.writes e.only;
  cause = written_moves f (total s.read_faults a) (total s.read_faults z) (o.write_faults p) (o.write_faults q)
      (o.write_faults t) k.writes.faults e.cause;
}
  where
    written_moves : (e : SectionFault) (r r' w0 w w' : ℕ) → w0 ≤ w → MoveCause e 0 0 w w' ⊥ → MoveCause e r r' w0 w' D
    written_moves (Read f) r r' w0 w w' le x = absurd (omega (arith, x))
    written_moves (Write f) r r' w0 w w' le x = omega (arith, x, le)
    written_moves SourceChanged r r' w0 w w' le x = absurd x
    written_moves e r r' w0 w w' le x = absurd x

-- ---- the exits

-- the fields or the sizes are refused, before anything is done
pub packs_nothing : {f : SectionFault} {A B : Type 0} (s : sources.Ghosts A) (a : List A) (o : outputs.Ghosts B) (b : B)
    (is_ended : Bool) (fields : BootFields) (r : Result Packed SectionFault) → r ≡ Err f
    → pack_boot_refusal fields (map s.size a) ≡ Some f → full_in_section_fault f ≡ 0
    → AppendsBoot r s a a o b b is_ended fields
packs_nothing {f = f} s a o b is_ended fields r is refused unfull =
    subst (λ (q : Result Packed SectionFault). AppendsBoot q s a a o b b is_ended fields) (sym is) (record {
      reads = record {
        content = λ models. refl;
        size = λ models. refl;
        frame = refl;
        faults = le_refl _;
        clean = tt;
      };
      writes = subst (λ (n : ℕ). OnlyWrites {X = Packed} (Err f) n o b b) (sym unfull) (writes_none (Err f) o b);
      refused = subst (λ (p : Option SectionFault). IfRefused p
          (λ h. (◌≡◌ {A = Result Packed SectionFault} (Err f) (Err h)) × (b ≡ b))) (sym refused) (refl, refl);
      written = λ models. tt;
      most = omega arith;
      packed = tt;
      lasting = tt;
      cause = refused_before (pack_boot_refusal fields (map s.size a)) f (total s.read_faults a)
          (total s.read_faults a) (o.write_faults b) (o.write_faults b) (IsTrue s.models → ⊥) refused;
    })

-- what is refused later has moved some bytes of the image at most
pub packs_refused : {X : Type 0} {f : SectionFault} {A B : Type 0} {s : sources.Ghosts A} {a a' : List A}
    {o : outputs.Ghosts B} {b b' : B} {C : Type 0} (is_ended : Bool) (fields : BootFields)
    (r : Result Packed SectionFault) → r ≡ Err f → pack_boot_refusal fields (map s.size a) ≡ None
    → MovesAllUnless {X = X} (Err f) s a a' o b b' C → (C → IsTrue s.models → ⊥)
    → length (o.written b') ≤ length (o.written b) + boot_image_size fields (map s.size a)
    → AppendsBoot r s a a' o b b' is_ended fields
packs_refused {f = f} {s = s} {a = a} {a' = a'} {o = o} {b = b} {b' = b'} {C = C} is_ended fields r is none moves never
    most =
    let t = total s.read_faults in
    let w = o.write_faults in
    subst (λ (q : Result Packed SectionFault). AppendsBoot q s a a' o b b' is_ended fields) (sym is) (record {
      reads = record {
        content = moves.reads.content;
        size = moves.reads.size;
        frame = moves.reads.frame;
        faults = moves.reads.faults;
        clean = tt;
      };
      writes = writes_err f moves.writes;
      refused = not_refused (pack_boot_refusal fields (map s.size a))
          (λ h. (◌≡◌ {A = Result Packed SectionFault} (Err f) (Err h)) × (b' ≡ b)) none;
      written = λ models. tt;
      most = most;
      packed = tt;
      lasting = tt;
      cause = pack_moves (pack_boot_refusal fields (map s.size a)) f (t a) (t a') (w b) (w b')
          (IsTrue s.models → ⊥) none
          (move_on f (t a) (t a) (t a') (t a') (w b) (w b) (w b') (w b') C (IsTrue s.models → ⊥) (le_refl _)
          (le_refl _) (le_refl _) (le_refl _) never moves.cause);
    })
