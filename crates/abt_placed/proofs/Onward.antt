-- Calls that write, one after another.
use Rattle.std.proofs.Common.{◌≡◌, ◌∙◌, ℕ, ◌+◌, ◌<◌, ◌≤◌, length, Bool, false, Result, Ok, Err, OnOk, OnErr, refl}
use Rattle.std.proofs.Common.{arith}
use Rattle.std.proofs.Math.Nat.{le_refl, le_trans}
use Rattle.std.specs.Prelude.{IsErrOf, IfErr, IsTrue}
use Rattle.abt_io.specs.Count.{full_of}
use Rattle.abt_io.specs.declared.device.DeviceFault.{DeviceFault}
use Rattle.abt_io.specs.declared.device.DeviceFault.TheVariants.{Failed, Full}
use Rattle.abt_io.specs.declared.device.Output as outputs
use Rattle.abt_io.specs.declared.meter.Meter.{Meter}
use Rattle.abt_io.specs.Lent.{NoStep, OnlyWrites}
use Rattle.abt_placed.specs.Calls.{Stand, Writes, stand}

-- nothing is done, or a meter alone goes on
pub still : {X : Type 0} {x : X} {k j : ℕ} {a : Stand} → Writes (Ok x) k j a a
still = record {
  grown = le_refl _;
  frame = refl;
  faults = le_refl _;
  clean = refl;
  cause = tt;
  full_faults = omega arith;
  full = λ h. absurd cc;
  calls = omega arith;
  turns = omega arith;
  steps = refl;
  greatest = refl;
}

pub ticked : {B : Type 0} (o : outputs.Ghosts B) (output : B) (m m' : Meter) (j : ℕ)
    → m'.turns.number ≤ m.turns.number + j → m'.steps.number ≡ m.steps.number → m'.greatest.number ≡ m.greatest.number
    → Writes {X = Bool} (Ok false) 0 j (stand o output m) (stand o output m')
ticked o output m m' j turns steps greatest = record {
  grown = le_refl _;
  frame = refl;
  faults = le_refl _;
  clean = refl;
  cause = tt;
  full_faults = omega arith;
  full = λ h. absurd cc;
  calls = omega arith;
  turns = omega (arith, turns);
  steps = steps;
  greatest = greatest;
}

clean_since : {X : Type 0} (r : Result X DeviceFault) (n m k : ℕ) → m ≡ n → OnOk r (k ≡ m) → OnOk r (k ≡ n)
clean_since (Ok x) n m k e h = h ∙ e
clean_since (Err f) n m k e h = tt

cause_since : {X : Type 0} (r : Result X DeviceFault) (n m k : ℕ) → m ≡ n → OnErr r (m < k) → OnErr r (n < k)
cause_since (Ok x) n m k e h = tt
cause_since (Err f) n m k e h = omega (arith, e, h)

-- one call after another
pub onward : {X Y : Type 0} {x : X} {r : Result Y DeviceFault} {k k' j j' : ℕ} {a m z : Stand} → Writes (Ok x) k j a m
    → Writes r k' j' m z → Writes r (k + k') (j + j') a z
onward {r = r} {a = a} {m = m} {z = z} h g = record {
  grown = le_trans h.grown g.grown;
  frame = g.frame ∙ h.frame;
  faults = le_trans h.faults g.faults;
  clean = clean_since r a.faults m.faults z.faults h.clean g.clean;
  cause = cause_since r a.faults m.faults z.faults h.clean g.cause;
  full_faults = omega (arith, g.full_faults, h.full_faults);
  full = g.full;
  calls = omega (arith, h.calls, g.calls);
  turns = omega (arith, h.turns, g.turns);
  steps = g.steps ∙ h.steps;
  greatest = g.greatest ∙ h.greatest;
}

same_fault : {X Y : Type 0} (f : DeviceFault) → IsErrOf {T = X} {E = DeviceFault} (Err f) Full
    → IsErrOf {T = Y} {E = DeviceFault} (Err f) Full
same_fault Failed h = absurd cc
same_fault Full h = refl

-- the same fault in another result, and another value
pub fails : {X Y : Type 0} {f : DeviceFault} {k n j i : ℕ} {a z : Stand} → Writes {X = X} (Err f) k j a z → k ≤ n
    → j ≤ i → Writes {X = Y} (Err f) n i a z
fails {X = X} {Y = Y} {f = f} h calls turns = record {
  grown = h.grown;
  frame = h.frame;
  faults = h.faults;
  clean = tt;
  cause = h.cause;
  full_faults = h.full_faults;
  full = λ says. h.full (same_fault {X = Y} {Y = X} f says);
  calls = omega (arith, calls, h.calls);
  turns = omega (arith, turns, h.turns);
  steps = h.steps;
  greatest = h.greatest;
}

pub at_most : {X : Type 0} {r : Result X DeviceFault} {k n j i : ℕ} {a z : Stand} → Writes r k j a z → k ≤ n → j ≤ i
    → Writes r n i a z
at_most h calls turns = record {
  grown = h.grown;
  frame = h.frame;
  faults = h.faults;
  clean = h.clean;
  cause = h.cause;
  full_faults = h.full_faults;
  full = h.full;
  calls = omega (arith, calls, h.calls);
  turns = omega (arith, turns, h.turns);
  steps = h.steps;
  greatest = h.greatest;
}

pub succeeds : {X Y : Type 0} {x : X} {y : Y} {k j : ℕ} {a z : Stand} → Writes (Ok x) k j a z → Writes (Ok y) k j a z
succeeds h = at_most (onward h (still {k = 0} {j = 0})) (omega arith) (omega arith)

-- bytes that are written out
pub written_out : {B X : Type 0} {r : Result X DeviceFault} {k j : ℕ} {o : outputs.Ghosts B} {output output' : B}
    {m m' : Meter} → OnlyWrites r (full_of r) o output output'
    → OnErr r (o.write_faults output < o.write_faults output') → (IsErrOf r Full → IsTrue (o.is_full output'))
    → o.writes output' + length (o.written output) ≤ o.writes output + length (o.written output') + k
    → m'.turns.number + length (o.written output) ≤ m.turns.number + length (o.written output') + j → NoStep m m'
    → Writes r k j (stand o output m) (stand o output' m')
written_out writes cause full calls turns no_step = record {
  grown = writes.least;
  frame = writes.frame;
  faults = writes.faults;
  clean = writes.clean;
  cause = cause;
  full_faults = writes.full_faults;
  full = full;
  calls = calls;
  turns = turns;
  steps = no_step.steps;
  greatest = no_step.greatest;
}

-- bytes that are written over others
pub laid_over : {B X : Type 0} {r : Result X DeviceFault} (o : outputs.Ghosts B) (output output' : B) (m m' : Meter)
    (n k : ℕ) → n ≡ k → length (o.written output') ≡ length (o.written output) → OnlyWrites r 0 o output output'
    → OnErr r (o.write_faults output < o.write_faults output') → IfErr r (λ e. e ≡ Failed)
    → o.writes output' ≤ o.writes output + n → m'.turns.number ≤ m.turns.number + n → NoStep m m'
    → Writes r k k (stand o output m) (stand o output' m')
laid_over {X = X} {r = r} o output output' m m' n k is long writes cause failed calls turns no_step = record {
  grown = writes.least;
  frame = writes.frame;
  faults = writes.faults;
  clean = writes.clean;
  cause = cause;
  full_faults = never_full r failed writes.full_faults;
  full = λ says. absurd (not_full r failed says);
  calls = omega (arith, is, long, calls);
  turns = omega (arith, is, long, turns);
  steps = no_step.steps;
  greatest = no_step.greatest;
}
  where
    never_full : (r : Result X DeviceFault) → IfErr r (λ e. e ≡ Failed)
        → o.full_faults output' ≡ o.full_faults output + 0
        → o.full_faults output' ≡ o.full_faults output + full_of r
    never_full (Ok x) f e = e
    never_full (Err y) f e = rw f e

    not_full : (r : Result X DeviceFault) → IfErr r (λ e. e ≡ Failed) → IsErrOf r Full → ⊥
    not_full (Ok x) f e = absurd cc
    not_full (Err y) f e = absurd (let z = rw f at e in cc)
