-- Which faults a call returns over an image that stays as it was.
use Rattle.std.proofs.Common.{◌≡◌, inl, inr, ℕ, ◌+◌, ◌<◌, ◌≤◌, List, Result, Ok, Err, refl, sym, ap, subst, arith}
use Rattle.std.specs.Prelude.{IfErr, IsOk, OnOk}
use Rattle.sys_refusals.specs.declared.refusal.HostFault.{HostFault}
use Rattle.std.proofs.lemmas.Bool.{false≢true}
use Rattle.sys_disk.specs.World.{World, OpenFiles, OpensFile, HasFailed, counting}
use Rattle.sys_disk.specs.Counts.{Cause, call, call_of, calls, reading, reads, writing}
use Rattle.sys_disk.proofs.Failings.{counts_one}
use Rattle.abt_sections.specs.declared.fault.SectionFault.{SectionFault}
use Rattle.abt_sections.specs.declared.fault.SectionFault.TheVariants as sections
use Rattle.abt_sections.specs.Cause.{MoveCause, OpenCause, ReadCause}
use Rattle.abt_sections.specs.declared.image.Image.{Image}
use Rattle.abt_sections.specs.Open.{IsOpened, RefusedAs}
use Rattle.cmd_common_boot.specs.declared.fault.BootCommandFault.{BootCommandFault}
use Rattle.cmd_common_boot.specs.declared.fault.BootCommandFault.TheVariants as faults
use Rattle.cmd_common_boot.specs.ImageFaults.{DeviceFails, IsFaultOf, IsAnswerOf, IsRefusalOf, IsRefusedOver}
use Rattle.cmd_common_boot.specs.ImageFaults.{RefusesImage}

-- ---- faults of the engine's calls

pub moved : (f : SectionFault) (r r' w w' : ℕ) (x : List ℕ) (changed : Type 0) → MoveCause f r r' w w' changed
    → ¬ changed → IsFaultOf x (DeviceFails r r' w w') f
moved (sections.Read f) r r' w w' x changed cause same = cause
moved (sections.Write f) r r' w w' x changed cause same = cause
moved sections.SourceChanged r r' w w' x changed cause same = absurd (same cause)
moved (sections.Header f) r r' w w' x changed cause same = absurd cause
moved (sections.Entry i) r r' w w' x changed cause same = absurd cause
moved sections.Name r r' w w' x changed cause same = absurd cause
moved sections.CommandLine r r' w w' x changed cause same = absurd cause
moved (sections.SectionTruncated s) r r' w w' x changed cause same = absurd cause
moved (sections.SectionTooLarge s) r r' w w' x changed cause same = absurd cause

pub fault_more : (x : List ℕ) (P Q : Cause → Type 0) (f : SectionFault) → ((cause : Cause) → P cause → Q cause)
    → IsFaultOf x P f → IsFaultOf x Q f
fault_more x P Q (sections.Read f) more fault = more reading fault
fault_more x P Q (sections.Write f) more fault = more writing fault
fault_more x P Q sections.SourceChanged more fault = absurd fault
fault_more x P Q (sections.Header f) more fault = fault
fault_more x P Q (sections.Entry i) more fault = fault
fault_more x P Q sections.Name more fault = absurd fault
fault_more x P Q sections.CommandLine more fault = absurd fault
fault_more x P Q (sections.SectionTruncated s) more fault = fault
fault_more x P Q (sections.SectionTooLarge s) more fault = absurd fault

-- of reading alone, before an output is written
none_written : (r r' w : ℕ) (cause : Cause) → DeviceFails r r' 0 0 cause → DeviceFails r r' w w cause
none_written r r' w (call fault) failed = absurd failed
none_written r r' w reading failed = failed
none_written r r' w writing failed = absurd (let z : 0 < 0 = failed in omega (arith, z))

pub read_first : (f : SectionFault) (r r' w : ℕ) (x : List ℕ) (changed : Type 0) → ReadCause f r r' changed
    → ¬ changed → IsFaultOf x (DeviceFails r r' w w) f
read_first f r r' w x changed cause same =
    fault_more x (DeviceFails r r' 0 0) (DeviceFails r r' w w) f (none_written r r' w)
    (moved f r r' 0 0 x changed cause same)

-- of moving, after a read that succeeded
pub moved_behind : (f : SectionFault) (r q r' w w' : ℕ) (x : List ℕ) (changed : Type 0) → q ≡ r
    → MoveCause f q r' w w' changed → ¬ changed → IsFaultOf x (DeviceFails r r' w w') f
moved_behind f r q r' w w' x changed clean cause same =
    subst (λ n. IsFaultOf x (DeviceFails n r' w w') f) clean (moved f q r' w w' x changed cause same)

pub opened : (f : SectionFault) (x : List ℕ) (r r' : ℕ) (changed : Type 0) → OpenCause f r r' changed → RefusedAs x f
    → IsFaultOf x (DeviceFails r r' 0 0) f
opened (sections.Read f) x r r' changed cause refused = cause
opened (sections.Write f) x r r' changed cause refused = absurd refused
opened sections.SourceChanged x r r' changed cause refused = absurd refused
opened (sections.Header f) x r r' changed cause refused = refused
opened (sections.Entry i) x r r' changed cause refused = refused
opened sections.Name x r r' changed cause refused = absurd refused
opened sections.CommandLine x r r' changed cause refused = absurd refused
opened (sections.SectionTruncated s) x r r' changed cause refused = refused
opened (sections.SectionTooLarge s) x r r' changed cause refused = absurd refused

-- ---- why it fails

pub refusal_more : (x : List ℕ) (P Q : Cause → Type 0) (U V : Type 0) (fault : BootCommandFault)
    → ((cause : Cause) → P cause → Q cause) → (U → V)
    → IsRefusalOf x P U fault → IsRefusalOf x Q V fault
refusal_more x P Q U V (faults.Host f) more stands (inl failed) = inl (more (call f) failed)
refusal_more x P Q U V (faults.Host f) more stands (inr unprinted) = inr (unprinted.0, stands unprinted.1)
refusal_more x P Q U V (faults.Section f) more stands refuses = fault_more x P Q f more refuses
refusal_more x P Q U V (faults.OptionNotCarried name) more stands refuses = absurd refuses
refusal_more x P Q U V (faults.BadFragment word) more stands refuses = absurd refuses
refusal_more x P Q U V (faults.BadNumber word) more stands refuses = absurd refuses
refusal_more x P Q U V (faults.BadBoardId word) more stands refuses = absurd refuses
refusal_more x P Q U V faults.CheckFailed more stands refuses = absurd refuses

of_files : {X : Type 0} (answer : X) (x : List ℕ) (P : Cause → Type 0) (U : Type 0) (Q : Cause → Type 0)
    (V : Type 0) (fault : BootCommandFault) → ((cause : Cause) → P cause → Q cause) → (U → V)
    → IsAnswerOf {X = X} (Ok answer) P U fault → IsRefusalOf x Q V fault
of_files answer x P U Q V (faults.Host f) more stands (inl failed) = inl (more (call f) failed)
of_files answer x P U Q V (faults.Host f) more stands (inr unprinted) = inr (unprinted.0, stands unprinted.1)
of_files answer x P U Q V (faults.Section f) more stands told = absurd told
of_files answer x P U Q V (faults.OptionNotCarried name) more stands told = absurd told
of_files answer x P U Q V (faults.BadFragment word) more stands told = absurd told
of_files answer x P U Q V (faults.BadNumber word) more stands told = absurd told
of_files answer x P U Q V (faults.BadBoardId word) more stands told = absurd told
of_files answer x P U Q V faults.CheckFailed more stands told = absurd told

-- a fault that is reported is one of the bytes, or of a device that failed
pub told_is : (answer : Result ℕ SectionFault) (x : List ℕ) (P : Cause → Type 0) (U : Type 0)
    (E Q : Cause → Type 0) (V : Type 0) (fault : BootCommandFault) → IsAnswerOf answer P U fault
    → IfErr answer (IsFaultOf x E) → (IsOk answer → (cause : Cause) → P cause → Q cause)
    → ((cause : Cause) → E cause → Q cause) → (IsOk answer → U → V)
    → IsRefusalOf x Q V fault
told_is (Ok n) x P U E Q V fault told own more late stands = of_files n x P U Q V fault (more refl) (stands refl) told
told_is (Err f) x P U E Q V fault told own more late stands =
    subst (λ g. IsRefusalOf x Q V g) (sym told) (fault_more x E Q f late own)

pub told_so : (answer : Result ℕ SectionFault) (x : List ℕ) (P : Cause → Type 0) (U : Type 0)
    (E Q : Cause → Type 0) (V : Type 0) (fault : BootCommandFault) → IsAnswerOf answer P U fault
    → IfErr answer (IsFaultOf x E) → (IsOk answer → (cause : Cause) → P cause → Q cause)
    → ((cause : Cause) → E cause → Q cause) → (IsOk answer → U → V)
    → IsRefusedOver x Q V fault
told_so answer x P U E Q V fault told own more late stands = record {
  refuses = told_is answer x P U E Q V fault told own more late stands;
}

-- over an image that stayed as it was
pub refused_more : (x y : List ℕ) (P Q : Cause → Type 0) (U V : Type 0) (fault : BootCommandFault) → y ≡ x
    → IsRefusedOver y P U fault → ((cause : Cause) → P cause → Q cause) → (U → V) → IsRefusedOver x Q V fault
refused_more x y P Q U V fault same refused more stands = record {
  refuses = refusal_more x P Q U V fault more stands
      (subst (λ z. IsRefusalOf z P U fault) same refused.refuses);
}

-- and so of the file that they were opened from
file_refuses : (path bytes : List ℕ) (held held' : OpenFiles) (world : World) (P : Cause → Type 0) (U : Type 0)
    (Q : Cause → Type 0) (V : Type 0) (fault : BootCommandFault) → OpensFile world path bytes held held'
    → ((cause : Cause) → P cause → Q cause) → (U → V) → IsRefusalOf bytes P U fault → RefusesImage path world Q V fault
file_refuses path bytes held held' world P U Q V (faults.Host f) opens more stands (inl failed) =
    inl (more (call f) failed)
file_refuses path bytes held held' world P U Q V (faults.Host f) opens more stands (inr unprinted) =
    inr (unprinted.0, stands unprinted.1)
file_refuses path bytes held held' world P U Q V (faults.Section f) opens more stands refuses =
    (opens.file, opens.there, subst (λ x. IsFaultOf x Q f) opens.held (fault_more bytes P Q f more refuses))
file_refuses path bytes held held' world P U Q V (faults.OptionNotCarried name) opens more stands refuses =
    absurd refuses
file_refuses path bytes held held' world P U Q V (faults.BadFragment word) opens more stands refuses = absurd refuses
file_refuses path bytes held held' world P U Q V (faults.BadNumber word) opens more stands refuses = absurd refuses
file_refuses path bytes held held' world P U Q V (faults.BadBoardId word) opens more stands refuses = absurd refuses
file_refuses path bytes held held' world P U Q V faults.CheckFailed opens more stands refuses = absurd refuses

pub refuses_file : (path bytes : List ℕ) (held held' : OpenFiles) (world : World) (P : Cause → Type 0) (U : Type 0)
    (Q : Cause → Type 0) (V : Type 0) (fault : BootCommandFault) → OpensFile world path bytes held held'
    → IsRefusedOver bytes P U fault → ((cause : Cause) → P cause → Q cause) → (U → V)
    → RefusesImage path world Q V fault
refuses_file path bytes held held' world P U Q V fault opens refused more stands =
    file_refuses path bytes held held' world P U Q V fault opens more stands refused.refuses

-- of files alone
pub host_refuses : (x : List ℕ) (P : Cause → Type 0) (U : Type 0) (fault : BootCommandFault) (host : HostFault)
    → fault ≡ faults.Host host → P (call host) → IsRefusalOf x P U fault
host_refuses x P U fault host same failed = subst (λ f. IsRefusalOf x P U f) (sym same) (inl failed)

pub host_image : (path : List ℕ) (world : World) (P : Cause → Type 0) (U : Type 0) (fault : BootCommandFault)
    (host : HostFault) → fault ≡ faults.Host host → P (call host) → RefusesImage path world P U fault
host_image path world P U fault host same failed = subst (λ f. RefusesImage path world P U f) (sym same) (inl failed)

-- what holds where a call returned Ok
pub ok_gives : {X E : Type 0} (answer : Result X E) (P : Type 0) → IsOk answer → OnOk answer P → P
ok_gives (Ok x) P done given = given
ok_gives (Err e) P done given = absurd (false≢true done)

-- of two counts that both stay
pub sum_stays : (a a' b b' : ℕ) → (a' ≡ a) × (b' ≡ b) → a' + b' ≡ a + b
sum_stays a a' b b' same = omega (arith, same.0, same.1)

pub sum_behind : (a q a' b b' : ℕ) → q ≡ a → (a' ≡ q) × (b' ≡ b) → a' + b' ≡ a + b
sum_behind a q a' b b' clean same = omega (arith, clean, same.0, same.1)

-- of the engine alone
pub section_refused : (x : List ℕ) (P : Cause → Type 0) (U : Type 0) (fault : BootCommandFault) (f : SectionFault)
    → fault ≡ faults.Section f → IsFaultOf x P f → IsRefusedOver x P U fault
section_refused x P U fault f same own = record { refuses = subst (λ g. IsRefusalOf x P U g) (sym same) own }

pub host_refused : (x : List ℕ) (P : Cause → Type 0) (U : Type 0) (fault : BootCommandFault) (host : HostFault)
    → fault ≡ faults.Host host → P (call host) → IsRefusedOver x P U fault
host_refused x P U fault host same failed = record { refuses = host_refuses x P U fault host same failed }

-- ---- the file that an image is opened from

pub opens_as : (path x y : List ℕ) (h h' : OpenFiles) (a : World) → y ≡ x → OpensFile a path x h h'
    → OpensFile a path y h h'
opens_as path x y h h' a same opens = subst (λ z. OpensFile a path z h h') (sym same) opens

pub opened_as : (x y : List ℕ) (image : Image) → y ≡ x → IsOpened x image → IsOpened y image
opened_as x y image same opened = subst (λ z. IsOpened z image) (sym same) opened

-- it was opened, and is no image
pub open_failed : (path bytes : List ℕ) (w : World) (h h' h'' : OpenFiles) (n r r' : ℕ) (cause : Cause)
    → OpensFile w path bytes h h' → r ≡ 0 → h'' ≡ counting (reads n r') h' → DeviceFails r r' 0 0 cause
    → HasFailed cause h h''
open_failed path bytes w h h' h'' n r r' (call fault) opens none let_go failed = absurd failed
open_failed path bytes w h h' h'' n r r' reading opens none let_go failed =
    let e : h'.counts.failed reading ≡ h.counts.failed reading = ap (λ q. q.counts.failed reading) opens.taken in
    let d : h''.counts.failed reading ≡ h'.counts.failed reading + r' = ap (λ q. q.counts.failed reading) let_go in
    let more : r < r' = failed in
    omega (arith, e, d, more)
open_failed path bytes w h h' h'' n r r' writing opens none let_go failed =
    absurd (let z : 0 < 0 = failed in omega (arith, z))

-- it could not be opened
pub source_failed : (h h' : OpenFiles) (f : HostFault) → h' ≡ counting (call_of f) h → HasFailed (call f) h h'
source_failed h h' f same =
    let e : h'.counts.failed (call f) ≡ h.counts.failed (call f) + calls f (call f) =
    ap (λ q. q.counts.failed (call f)) same in
    let one : calls f (call f) ≡ 1 = counts_one f in
    omega (arith, e, one)
