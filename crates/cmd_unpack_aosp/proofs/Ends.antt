-- How the file of a part ends.
use Rattle.std.proofs.Common.{arith, ◌≡◌, ◌<◌, ◌≤◌, ◌+◌, ◌∙◌, ℕ, List, Bool, refl, sym, ap, subst, inl}
use Rattle.std.specs.Prelude.{Result, Ok, Err, IfErr, IsOk, MatchResult, is_ok}
use Rattle.std.proofs.lemmas.Bool.{false≢true}
use Rattle.sys_disk.specs.Counts.{Cause, Counts, added, call, of_writing, writes}
use Rattle.sys_disk.specs.World.{World, OpenFiles, EndsOutput, HasFailed, ended}
use Rattle.sys_refusals.specs.declared.refusal.HostFault.{HostFault}
use Rattle.abt_sections.specs.declared.fault.SectionFault.{SectionFault}
use Rattle.cmd_common_boot.specs.ImageFaults.{IsAnswerOf}
use Rattle.cmd_common_boot.specs.declared.fault.BootCommandFault.{BootCommandFault}
use Rattle.cmd_common_boot.specs.declared.fault.BootCommandFault.TheVariants as faults

-- the call had done its work
pub answer_done : (answer : Result ℕ SectionFault) (given : Result ℕ BootCommandFault) (n : ℕ)
    → MatchResult answer (λ k. given ≡ Ok k) (λ f. given ≡ Err (faults.Section f)) → given ≡ Ok n → IsOk answer
answer_done (Ok k) given n is done = refl
answer_done (Err f) given n is done = absurd (false≢true (sym (ap is_ok is) ∙ ap is_ok done))

pub closed_by : (is_done : Bool) (bytes : List ℕ) (n : Counts) (h h' : OpenFiles) (w w' : World)
    → EndsOutput is_done bytes n h h' w w' → (b : Bool) × (m : Counts) × (h' ≡ ended b m h)
closed_by is_done bytes n h h' w w' ends = (is_done, added ends.more n, ends.closed)

-- what has failed on the output has failed on the disk
pub counts_all : (is_done : Bool) (bytes : List ℕ) (n : ℕ) (h h' : OpenFiles) (w w' : World)
    → EndsOutput is_done bytes (writes n) h h' w w' → (cause : Cause)
    → h.counts.failed cause + of_writing n cause ≤ h'.counts.failed cause
counts_all is_done bytes n h h' w w' ends cause =
    let count : h'.counts.failed cause ≡ h.counts.failed cause + (ends.more.failed cause + of_writing n cause) =
    ap (λ (o : OpenFiles). o.counts.failed cause) ends.closed in
    omega (arith, count)

-- the fault is that of the call, or of files, and then a call with this fault has failed
pub answer_told : (answer : Result ℕ SectionFault) (given : Result ℕ BootCommandFault) (n : ℕ) (h h' : OpenFiles)
    (fault : BootCommandFault)
    → MatchResult answer (λ k. given ≡ Ok k) (λ f. given ≡ Err (faults.Section f)) → IfErr given (λ f. fault ≡ f)
    → (IsOk given → (host : HostFault) × (fault ≡ faults.Host host) × HasFailed (call host) h h')
    → IsAnswerOf answer (λ cause. h.counts.failed cause + of_writing n cause < h'.counts.failed cause) ⊥ fault
answer_told (Ok k) given n h h' fault is own host =
    let done : IsOk given = ap is_ok is in
    let told = host done in
    let failed : h.counts.failed (call told.0) < h'.counts.failed (call told.0) = told.2 in
    subst (λ f. IsAnswerOf {X = ℕ} (Ok k) (λ cause. h.counts.failed cause + of_writing n cause
    < h'.counts.failed cause) ⊥ f) (sym told.1) (inl (omega (arith, failed)))
answer_told (Err f) given n h h' fault is own host = subst (λ g. IfErr g (λ e. fault ≡ e)) is own
