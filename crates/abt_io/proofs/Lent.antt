-- What calls leave of what they borrow, one after the other.
use Rattle.std.proofs.Common.{◌≡◌, ℕ, ◌∙◌, arith, refl, subst, Result, Ok, Err, OnOk}
use Rattle.std.proofs.Math.Nat.{le_refl, le_trans}
use Rattle.abt_io.specs.Lent.{OnlyReads, OnlyWrites}
use Rattle.abt_io.specs.declared.device.Source as sources
use Rattle.abt_io.specs.declared.device.Output as outputs

-- nothing was done
pub reads_none : {X E : Type 0} (r : Result X E) {A : Type 0} (s : sources.Ghosts A) (a : A) → OnlyReads r s a a
reads_none r s a = record {
  content = λ models. refl;
  size = λ models. refl;
  frame = refl;
  faults = le_refl _;
  clean = anyway r;
}
  where
    anyway : {X E : Type 0} (r : Result X E) → OnOk r (s.read_faults a ≡ s.read_faults a)
    anyway (Ok x) = refl
    anyway (Err e) = tt

-- one call after the other
pub reads_then : {X Y E F : Type 0} {x : X} {r : Result Y F} {A : Type 0} {s : sources.Ghosts A} {a b z : A}
    → OnlyReads {E = E} (Ok x) s a b → OnlyReads r s b z → OnlyReads r s a z
reads_then {r = r} {s = s} {z = z} k d = record {
  content = λ models. d.content models ∙ k.content models;
  size = λ models. d.size models ∙ k.size models;
  frame = d.frame ∙ k.frame;
  faults = le_trans k.faults d.faults;
  clean = subst (λ (j : ℕ). OnOk r (s.read_faults z ≡ j)) k.clean d.clean;
}

-- what was refused stays so, whatever is returned
pub reads_err : {X Y E F : Type 0} {e : E} (f : F) {A : Type 0} {s : sources.Ghosts A} {a z : A}
    → OnlyReads {X = X} (Err e) s a z → OnlyReads {X = Y} (Err f) s a z
reads_err f d = record { content = d.content; size = d.size; frame = d.frame; faults = d.faults; clean = tt }

pub reads_ok : {X Y E F : Type 0} {x : X} (y : Y) {A : Type 0} {s : sources.Ghosts A} {a z : A}
    → OnlyReads {E = E} (Ok x) s a z → OnlyReads {E = F} (Ok y) s a z
reads_ok y d = record { content = d.content; size = d.size; frame = d.frame; faults = d.faults; clean = d.clean }

pub writes_none : {X E : Type 0} (r : Result X E) {B : Type 0} (o : outputs.Ghosts B) (a : B) → OnlyWrites r 0 o a a
writes_none r o a = record {
  least = le_refl _;
  frame = refl;
  faults = le_refl _;
  clean = anyway r;
  full_faults = omega arith;
}
  where
    anyway : {X E : Type 0} (r : Result X E) → OnOk r (o.write_faults a ≡ o.write_faults a)
    anyway (Ok x) = refl
    anyway (Err e) = tt

pub writes_then : {X Y E F : Type 0} {x : X} {r : Result Y F} {n : ℕ} {B : Type 0} {o : outputs.Ghosts B} {a b z : B}
    → OnlyWrites {E = E} (Ok x) 0 o a b → OnlyWrites r n o b z → OnlyWrites r n o a z
writes_then {r = r} {o = o} {z = z} k d = record {
  least = le_trans k.least d.least;
  frame = d.frame ∙ k.frame;
  faults = le_trans k.faults d.faults;
  clean = subst (λ (j : ℕ). OnOk r (o.write_faults z ≡ j)) k.clean d.clean;
  full_faults = omega (arith, k.full_faults, d.full_faults);
}

pub writes_err : {X Y E F : Type 0} {e : E} (f : F) {n : ℕ} {B : Type 0} {o : outputs.Ghosts B} {a z : B}
    → OnlyWrites {X = X} (Err e) n o a z → OnlyWrites {X = Y} (Err f) n o a z
writes_err f d = record { least = d.least; frame = d.frame; faults = d.faults; clean = tt; full_faults = d.full_faults }

pub writes_ok : {X Y E F : Type 0} {x : X} (y : Y) {n : ℕ} {B : Type 0} {o : outputs.Ghosts B} {a z : B}
    → OnlyWrites {E = E} (Ok x) n o a z → OnlyWrites {E = F} (Ok y) n o a z
writes_ok y d = record {
  least = d.least;
  frame = d.frame;
  faults = d.faults;
  clean = d.clean;
  full_faults = d.full_faults;
}
