-- How what a run counts is stored as a ghost value: by its numbers, of which there are as many as there are causes.
use Rattle.std.specs.Prelude.{◌≡◌, ℕ, ◌+◌, List, [], ◌∷◌, get_or, refl}
use Rattle.std.specs.Coded.{Coded, code_by, coded×, coded_list, coded_ℕ}
use Rattle.std.proofs.Math.Path.{ap, fun_ext}
use Rattle.sys_disk.specs.Counts.{Cause, call, reading, writing, Counts, fault_number}
use Rattle.sys_refusals.specs.declared.refusal.HostFault.TheVariants as faults

abbrev cause_number : Cause → ℕ
cause_number reading = 0
cause_number writing = 1
cause_number (call fault) = fault_number fault + 2

abbrev numbers : (Cause → ℕ) → List ℕ
numbers f =
    f reading ∷ f writing ∷ f (call faults.CannotOpen) ∷ f (call faults.NoFolder) ∷ f (call faults.SameFile)
    ∷ f (call faults.Mounted) ∷ f (call faults.Changed) ∷ f (call faults.NotText) ∷ f (call faults.TooLong)
    ∷ f (call faults.Read) ∷ f (call faults.Write) ∷ f (call faults.Memory) ∷ []

pub same_number : (f : Cause → ℕ) (cause : Cause) → get_or (numbers f) (cause_number cause) 0 ≡ f cause
same_number f reading = refl
same_number f writing = refl
same_number f (call faults.CannotOpen) = refl
same_number f (call faults.NoFolder) = refl
same_number f (call faults.SameFile) = refl
same_number f (call faults.Mounted) = refl
same_number f (call faults.Changed) = refl
same_number f (call faults.NotText) = refl
same_number f (call faults.TooLong) = refl
same_number f (call faults.Read) = refl
same_number f (call faults.Write) = refl
same_number f (call faults.Memory) = refl

abbrev pub counts_code : Coded Counts
counts_code =
    code_by (List ℕ × ℕ) (coded× (coded_list coded_ℕ) coded_ℕ) (λ n. (numbers n.failed, n.given))
    (λ p. record { failed = λ cause. get_or p.0 (cause_number cause) 0; given = p.1 })
    (λ n. ap (λ (f : Cause → ℕ). record { failed = f; given = n.given }) (fun_ext (same_number n.failed)))
