-- What the failures of a run are.
use Rattle.std.proofs.Common.{◌≡◌, ◌+◌, ℕ, refl, arith, ap, ◌∙◌}
use Rattle.sys_refusals.specs.declared.refusal.HostFault.{HostFault}
use Rattle.sys_refusals.specs.declared.refusal.HostFault.TheVariants as faults
use Rattle.std.specs.Prelude.{Result, Ok, Err}
use Rattle.sys_refusals.specs.declared.refusal.HostRefusal.{HostRefusal}
use Rattle.sys_disk.specs.Counts.{Cause, call, calls, failure_of}

-- a call that returned a fault counts as one with this fault
pub counts_one : (f : HostFault) → calls f (call f) ≡ 1
counts_one faults.CannotOpen = refl
counts_one faults.NoFolder = refl
counts_one faults.SameFile = refl
counts_one faults.Mounted = refl
counts_one faults.Changed = refl
counts_one faults.NotText = refl
counts_one faults.TooLong = refl
counts_one faults.Read = refl
counts_one faults.Write = refl
counts_one faults.Memory = refl

-- so something has failed
pub is_some_failure : (f : HostFault) (n : Cause → ℕ) → ((cause : Cause) → calls f cause + n cause ≡ 0) → ⊥
is_some_failure f n none = let one = counts_one f in let all = none (call f) in omega (arith, one, all)

-- a call gives no bytes of an input
pub failure_unread : {A : Type 0} (r : Result A HostRefusal) → (failure_of r).given ≡ 0
failure_unread (Ok done) = refl
failure_unread (Err refusal) = refl
