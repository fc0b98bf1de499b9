-- Calls that lay what they read, one after another.
use Rattle.std.proofs.Common.{◌≡◌, ◌∙◌, ℕ, ◌+◌, ◌≤◌, max, Bool, Result, Ok, Err, OnOk, refl, arith}
use Rattle.std.proofs.Math.Nat.{le_refl, le_trans}
use Rattle.std.specs.Prelude.{IfErr}
use Rattle.abt_io.specs.declared.device.DeviceFault.{DeviceFault}
use Rattle.abt_io.specs.declared.device.Output as outputs
use Rattle.abt_io.specs.declared.device.Source as sources
use Rattle.abt_io.specs.declared.meter.Meter.{Meter}
use Rattle.abt_io.specs.Lent.{OnlyReads}
use Rattle.abt_pieces.proofs.Fronts.{says_full}
use Rattle.abt_pieces.specs.Fault.{CutCause, full_cut}
use Rattle.abt_pieces.specs.declared.fault.PieceFault.{PieceFault}
use Rattle.abt_pieces.specs.declared.fault.PieceFault.TheVariants.{Write}
use Rattle.abt_placed.proofs.Onward.{still}
use Rattle.abt_placed.specs.Calls.{Stand, Scene, Writes, LaysOn, scene}

clean_on : {X : Type 0} (r : Result X PieceFault) (a m z : Scene) → (m.faults ≡ a.faults)
    × (m.output.faults ≡ a.output.faults) → OnOk r ((z.faults ≡ m.faults) × (z.output.faults ≡ m.output.faults))
    → OnOk r ((z.faults ≡ a.faults) × (z.output.faults ≡ a.output.faults))
clean_on (Ok x) a m z e h = (h.0 ∙ e.0, h.1 ∙ e.1)
clean_on (Err f) a m z e h = tt

cause_on : {X : Type 0} (r : Result X PieceFault) (models : Bool) (a m z : Scene) → (m.faults ≡ a.faults)
    × (m.output.faults ≡ a.output.faults)
    → IfErr r (λ e. CutCause e models m.faults z.faults m.output.faults z.output.faults)
    → IfErr r (λ e. CutCause e models a.faults z.faults a.output.faults z.output.faults)
cause_on (Ok x) models a m z e h = tt
cause_on (Err f) models a m z e h = rw (e.0, e.1) at h

-- one call after another
pub lays_then : {X Y : Type 0} {x : X} {r : Result Y PieceFault} {models : Bool} {a m z : Scene}
    → LaysOn (Ok x) models a m → LaysOn r models m z → LaysOn r models a z
lays_then {r = r} {models = models} {a = a} {m = m} {z = z} h g = record {
  content = λ t. g.content t ∙ h.content t;
  size = λ t. g.size t ∙ h.size t;
  read_frame = g.read_frame ∙ h.read_frame;
  write_frame = g.write_frame ∙ h.write_frame;
  grown = le_trans h.grown g.grown;
  given = le_trans h.given g.given;
  received = omega (arith, h.received, g.received);
  greatest = omega (arith, h.greatest, g.greatest);
  faults = le_trans h.faults g.faults;
  write_faults = le_trans h.write_faults g.write_faults;
  clean = clean_on r a m z h.clean g.clean;
  full_faults = omega (arith, h.full_faults, g.full_faults);
  full = g.full;
  cause = cause_on r models a m z h.clean g.cause;
}

-- the same fault in another result, and another value
pub lays_fault : {X Y : Type 0} {f : PieceFault} {models : Bool} {a z : Scene} → LaysOn {X = X} (Err f) models a z
    → LaysOn {X = Y} (Err f) models a z
lays_fault h = record {
  content = h.content;
  size = h.size;
  read_frame = h.read_frame;
  write_frame = h.write_frame;
  grown = h.grown;
  given = h.given;
  received = h.received;
  greatest = h.greatest;
  faults = h.faults;
  write_faults = h.write_faults;
  clean = tt;
  full_faults = h.full_faults;
  full = h.full;
  cause = h.cause;
}

-- a call of the output alone
abbrev over : Scene → Stand → Scene
over a z = record {
  content = a.content;
  size = a.size;
  frame = a.frame;
  given = a.given;
  faults = a.faults;
  output = z;
}

pub lays_written : {X Y : Type 0} {x : X} {y : Y} {k j : ℕ} {models : Bool} (a : Scene) (z : Stand)
    → Writes (Ok x) k j a.output z → LaysOn (Ok y) models a (over a z)
lays_written a z h = record {
  content = λ t. refl;
  size = λ t. refl;
  read_frame = refl;
  write_frame = h.frame;
  grown = h.grown;
  given = le_refl _;
  received = omega (arith, h.steps);
  greatest = omega (arith, h.greatest);
  faults = le_refl _;
  write_faults = h.faults;
  clean = (refl, h.clean);
  full_faults = h.full_faults;
  full = λ e. absurd cc;
  cause = tt;
}

pub lays_unwritten : {X Y : Type 0} {f : DeviceFault} {k j : ℕ} {models : Bool} (a : Scene) (z : Stand)
    → Writes {X = X} (Err f) k j a.output z → LaysOn {X = Y} (Err (Write f)) models a (over a z)
lays_unwritten {f = f} a z h = record {
  content = λ t. refl;
  size = λ t. refl;
  read_frame = refl;
  write_frame = h.frame;
  grown = h.grown;
  given = le_refl _;
  received = omega (arith, h.steps);
  greatest = omega (arith, h.greatest);
  faults = le_refl _;
  write_faults = h.faults;
  clean = tt;
  full_faults = h.full_faults;
  full = λ e. h.full (says_full f e);
  cause = h.cause;
}

pub lays_still : {X : Type 0} {x : X} {models : Bool} {a : Scene} → LaysOn (Ok x) models a a
lays_still {x = x} {a = a} = lays_written a a.output (still {x = x} {k = 0} {j = 0})

pub lays_value : {X Y : Type 0} {x : X} {y : Y} {models : Bool} {a z : Scene} → LaysOn (Ok x) models a z
    → LaysOn (Ok y) models a z
lays_value h = lays_then h lays_still

-- a step that reads, and writes nothing
pub reads : {A B X Y E : Type 0} {r : Result X PieceFault} {q : Result Y E} (s : sources.Ghosts A)
    (o : outputs.Ghosts B) (source source' : A) (output : B) (m m1 m2 : Meter) (got : ℕ)
    → OnlyReads q s source source' → s.given source' ≡ s.given source + got → got ≤ 65536
    → m1.steps.number ≡ m.steps.number → m1.greatest.number ≡ m.greatest.number
    → m2.steps.number ≡ m1.steps.number + 1 → m2.greatest.number ≡ max m1.greatest.number got
    → OnOk r (s.read_faults source' ≡ s.read_faults source) → full_cut r ≡ 0
    → IfErr r (λ e. CutCause e s.models (s.read_faults source) (s.read_faults source') (o.write_faults output)
    (o.write_faults output)) → LaysOn r s.models (scene s o source output m) (scene s o source' output m2)
reads {r = r} s o source source' output m m1 m2 got k given few steps greatest step more clean none cause = record {
  content = k.content;
  size = k.size;
  read_frame = k.frame;
  write_frame = refl;
  grown = le_refl _;
  given = omega (arith, given);
  received = omega (arith, given, few, steps, step);
  greatest = omega (arith, few, greatest, more);
  faults = k.faults;
  write_faults = le_refl _;
  clean = both_clean r clean;
  full_faults = omega (arith, none);
  full = λ e. absurd (omega (arith, none, e));
  cause = cause;
}
  where
    both_clean : {X : Type 0} (r : Result X PieceFault) → OnOk r (s.read_faults source' ≡ s.read_faults source)
        → OnOk r ((s.read_faults source' ≡ s.read_faults source) × (o.write_faults output ≡ o.write_faults output))
    both_clean (Ok x) e = (e, refl)
    both_clean (Err f) e = tt
