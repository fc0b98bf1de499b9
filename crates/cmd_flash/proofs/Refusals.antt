-- A fault that a call returned is one for which the command may fail.
use Rattle.std.proofs.Common.{◌≡◌, ◌+◌, inl, inr, ℕ, List, refl, sym, subst}
use Rattle.std.specs.Prelude.{None, Result, Ok, Err, OnOk, IfErr, IsErrAnd, IsOk}
use Rattle.sys_refusals.specs.declared.refusal.HostFault.{HostFault}
use Rattle.sys_refusals.specs.declared.refusal.HostFault.TheVariants as hosts
use Rattle.abt_io.specs.Moment.{Past}
use Rattle.sys_disk.specs.Counts.{Cause, Counts, call, reading, writing}
use Rattle.sys_disk.specs.World.{World, OpenFiles, HasFailed}
use Rattle.cmd_flash.proofs.Written.{Ran, ran_late}
use Rattle.abt_flash_faults.specs.declared.fault.FlashFault.{FlashFault}
use Rattle.abt_flash_faults.specs.declared.fault.FlashFault.TheVariants as flashes
use Rattle.abt_runs.specs.declared.part.RunFault.{RunFault}
use Rattle.abt_runs.specs.declared.part.RunFault.TheVariants as of_runs
use Rattle.abt_verify.specs.declared.fault.VerifyFault.{VerifyFault}
use Rattle.abt_verify.specs.declared.fault.VerifyFault.TheVariants as verifies
use Rattle.abt_sparse.specs.declared.fault.SparseFault.{SparseFault}
use Rattle.abt_sparse.specs.declared.fault.SparseFault.TheVariants as of_sparse
use Rattle.cmd_flash.specs.Files.{Between, DeviceFailed, OfBoth, OfFile}
use Rattle.cmd_flash.specs.Listing.{IsUnlisted, RefusesList}
use Rattle.cmd_flash.specs.Flashing.{FlashesFile, IsFlashed, IsFlashedWhole, IsUnflashed, IsUnflashedThen, Lays}
use Rattle.cmd_flash.specs.Flashing.{RefusesFlash}
use Rattle.cmd_flash.specs.FlashingRaw.{FlashesRawFile, IsFlashedRaw, IsFlashedWholeRaw}
use Rattle.cmd_flash.specs.FlashingRaw.{IsUnflashedRawThen, IsUnlaid}
use Rattle.cmd_flash.specs.FlashingRaw.{IsUnopened, LaysRaw, RefusesFlashRaw}
use Rattle.cmd_flash.specs.Verifying.{Finds, FindsRaw, IsNotThere, IsNotThereRaw, RefusesVerify, RefusesVerifyRaw}
use Rattle.cmd_common_sparse.specs.declared.fault.SparseCommandFault.{SparseCommandFault}
use Rattle.cmd_common_sparse.specs.declared.fault.SparseCommandFault.TheVariants as faults

-- ---- of a device: where that its count rose says that something has failed

unflashed_for : (f : FlashFault) (got : ℕ) (F G : Cause → Type 0) (x p p' : List ℕ) → ((k : Cause) → F k → G k)
    → IsUnflashed F got f x p p' → IsUnflashed G got f x p p'
unflashed_for (flashes.Sparse f) got F G x p p' go is = is
unflashed_for (flashes.PartitionTooSmall n) got F G x p p' go is = is
unflashed_for (flashes.Read d) got F G x p p' go is = (go reading is.0, is.1)
unflashed_for (flashes.Write d) got F G x p p' go is = (go writing is.0, is.1)
unflashed_for (flashes.Sync d) got F G x p p' go is = (go writing is.0, is.1)
unflashed_for flashes.TooLarge got F G x p p' go is = absurd is
unflashed_for flashes.SourceChanged got F G x p p' go is = absurd is
unflashed_for (flashes.BadBlock n) got F G x p p' go is = absurd is
unflashed_for (flashes.LimitTooSmall n) got F G x p p' go is = absurd is
unflashed_for (flashes.Stopped n c) got F G x p p' go is = absurd is
unflashed_for (flashes.NoSuchPiece n) got F G x p p' go is = absurd is

unlaid_for : (f : FlashFault) (got : ℕ) (F G : Cause → Type 0) (b : ℕ) (x p p' : List ℕ) → ((k : Cause) → F k → G k)
    → IsUnlaid F got f b x p p' → IsUnlaid G got f b x p p'
unlaid_for (flashes.Sparse f) got F G b x p p' go is = absurd is
unlaid_for (flashes.PartitionTooSmall n) got F G b x p p' go is = is
unlaid_for (flashes.Read d) got F G b x p p' go is = absurd is
unlaid_for (flashes.Write d) got F G b x p p' go is = (go writing is.0, is.1)
unlaid_for (flashes.Sync d) got F G b x p p' go is = (go writing is.0, is.1)
unlaid_for flashes.TooLarge got F G b x p p' go is = absurd is
unlaid_for flashes.SourceChanged got F G b x p p' go is = absurd is
unlaid_for (flashes.BadBlock n) got F G b x p p' go is = absurd is
unlaid_for (flashes.LimitTooSmall n) got F G b x p p' go is = absurd is
unlaid_for (flashes.Stopped n c) got F G b x p p' go is = absurd is
unlaid_for (flashes.NoSuchPiece n) got F G b x p p' go is = absurd is

unopened_for : (f : RunFault) (got : ℕ) (F G : Cause → Type 0) (b : ℕ) (x p p' : List ℕ) → ((k : Cause) → F k → G k)
    → IsUnopened F got f b x p p' → IsUnopened G got f b x p p'
unopened_for (of_runs.Read d) got F G b x p p' go is = (go reading is.0, is.1)
unopened_for (of_runs.Sparse f) got F G b x p p' go is = is
unopened_for of_runs.TooLarge got F G b x p p' go is = is
unopened_for of_runs.SourceChanged got F G b x p p' go is = is
unopened_for (of_runs.BadBlock n) got F G b x p p' go is = is

not_there_for : (f : VerifyFault) (F G : Type 0) (x p : List ℕ) → (F → G) → IsNotThere F f x p → IsNotThere G f x p
not_there_for (verifies.Sparse f) F G x p go is = is
not_there_for (verifies.Differs n) F G x p go is = is
not_there_for (verifies.Read d) F G x p go is = go is
not_there_for (verifies.PartitionRead d) F G x p go is = go is
not_there_for verifies.SourceChanged F G x p go is = absurd is
not_there_for (verifies.BadBlock n) F G x p go is = absurd is

not_there_raw_for : (f : VerifyFault) (F G : Type 0) (b : ℕ) (x p : List ℕ) → (F → G) → IsNotThereRaw F f b x p
    → IsNotThereRaw G f b x p
not_there_raw_for (verifies.Sparse f) F G b x p go is = absurd is
not_there_raw_for (verifies.Differs n) F G b x p go is = is
not_there_raw_for (verifies.Read d) F G b x p go is = go is
not_there_raw_for (verifies.PartitionRead d) F G b x p go is = go is
not_there_raw_for verifies.SourceChanged F G b x p go is = absurd is
not_there_raw_for (verifies.BadBlock n) F G b x p go is = is

-- ---- of a command

flash_own : (untold : List ℕ → Type 0) (f : SparseCommandFault) (got : ℕ) (F : Cause → Type 0)
    (input path x p p' : List ℕ)
    (a c : World)
    (h h' : OpenFiles)
    → h'.part ≡ None → h'.counts.given ≡ h.counts.given + got → ((k : Cause) → F k → HasFailed k h h')
    → ((P : List ℕ → List ℕ → List ℕ → Type 0) → P x p p' → Between input path a c P)
    → Lays F got (Err f) x p p' → RefusesFlash f input path a c h h' untold
flash_own untold (faults.Flash f) got F input path x p p' a c h h' closed given go with_files lays = (
  closed,
  with_files (IsUnflashedThen h h' f)
      (got, given, unflashed_for f got F (λ k. HasFailed k h h') x p p' go lays),
)
flash_own untold (faults.Sparse f) got F input path x p p' a c h h' closed given go with_files lays = absurd lays
flash_own untold (faults.Run f) got F input path x p p' a c h h' closed given go with_files lays = absurd lays
flash_own untold (faults.Piece f) got F input path x p p' a c h h' closed given go with_files lays = absurd lays
flash_own untold (faults.Verify f) got F input path x p p' a c h h' closed given go with_files lays = absurd lays
flash_own untold (faults.OtherBlocks i) got F input path x p p' a c h h' closed given go with_files lays = absurd lays
flash_own untold (faults.OtherCut image) got F input path x p p' a c h h' closed given go with_files lays = absurd lays
flash_own untold (faults.Host f) got F input path x p p' a c h h' closed given go with_files lays = absurd lays

-- the fault of the call is reported; or it had none, and closing failed
pub refuses_flash : (untold : List ℕ → Type 0) (answer : Result ℕ SparseCommandFault) (e : SparseCommandFault)
    (got r r' t t' : ℕ)
    (input path x p p' : List ℕ)
    (a c : World) (h h' : OpenFiles) → IfErr answer (λ f. e ≡ f)
    → (IsOk answer → (host : HostFault) × (e ≡ faults.Host host) × HasFailed (call host) h h')
    → h'.part ≡ None → h'.counts.given ≡ h.counts.given + got
    → ((k : Cause) → DeviceFailed r r' t t' k → HasFailed k h h')
    → ((P : List ℕ → List ℕ → List ℕ → Type 0) → P x p p' → Between input path a c P)
    → Lays (DeviceFailed r r' t t') got answer x p p' → RefusesFlash e input path a c h h' untold
refuses_flash untold (Ok n) e got r r' t t' input path x p p' a c h h' told host closed given go with_files lays =
    subst (λ (z : SparseCommandFault). RefusesFlash z input path a c h h' untold) (sym (host refl).1)
    (inl ((host refl).2, inr (closed, with_files IsFlashedWhole (n, lays))))
refuses_flash untold (Err f) e got r r' t t' input path x p p' a c h h' told host closed given go with_files lays =
    subst (λ (z : SparseCommandFault). RefusesFlash z input path a c h h' untold) (sym told)
    (flash_own untold f got (DeviceFailed r r' t t') input path x p p' a c h h' closed given go with_files lays)

raw_own : (untold : List ℕ → Type 0) (f : SparseCommandFault) (got : ℕ) (F : Cause → Type 0) (b : ℕ)
    (input path x p p' : List ℕ)
    (a c : World) (h h' : OpenFiles)
    → h'.part ≡ None → h'.counts.given ≡ h.counts.given + got → ((k : Cause) → F k → HasFailed k h h')
    → ((P : List ℕ → List ℕ → List ℕ → Type 0) → P x p p' → Between input path a c P)
    → LaysRaw F got (Err f) b x p p' → RefusesFlashRaw f b input path a c h h' untold
raw_own untold (faults.Flash f) got F b input path x p p' a c h h' closed given go with_files lays = (
  closed,
  with_files (IsUnflashedRawThen h h' (faults.Flash f) b)
      (got, given, unlaid_for f got F (λ k. HasFailed k h h') b x p p' go lays),
)
raw_own untold (faults.Run f) got F b input path x p p' a c h h' closed given go with_files lays = (
  closed,
  with_files (IsUnflashedRawThen h h' (faults.Run f) b)
      (got, given, unopened_for f got F (λ k. HasFailed k h h') b x p p' go lays),
)
raw_own untold (faults.Sparse f) got F b input path x p p' a c h h' closed given go with_files lays = absurd lays
raw_own untold (faults.Piece f) got F b input path x p p' a c h h' closed given go with_files lays = absurd lays
raw_own untold (faults.Verify f) got F b input path x p p' a c h h' closed given go with_files lays = absurd lays
raw_own untold (faults.OtherBlocks i) got F b input path x p p' a c h h' closed given go with_files lays = absurd lays
raw_own untold (faults.OtherCut image) got F b input path x p p' a c h h' closed given go with_files lays = absurd lays
raw_own untold (faults.Host f) got F b input path x p p' a c h h' closed given go with_files lays = absurd lays

pub refuses_raw : (untold : List ℕ → Type 0) (answer : Result ℕ SparseCommandFault) (e : SparseCommandFault)
    (got r r' t t' b : ℕ)
    (input path x p p' : List ℕ) (a c : World) (h h' : OpenFiles) → IfErr answer (λ f. e ≡ f)
    → (IsOk answer → (host : HostFault) × (e ≡ faults.Host host) × HasFailed (call host) h h') → h'.part ≡ None
    → h'.counts.given ≡ h.counts.given + got → ((k : Cause) → DeviceFailed r r' t t' k → HasFailed k h h')
    → ((P : List ℕ → List ℕ → List ℕ → Type 0) → P x p p' → Between input path a c P)
    → LaysRaw (DeviceFailed r r' t t') got answer b x p p' → RefusesFlashRaw e b input path a c h h' untold
refuses_raw untold (Ok n) e got r r' t t' b input path x p p' a c h h' told host closed given go with_files lays =
    subst (λ (z : SparseCommandFault). RefusesFlashRaw z b input path a c h h' untold) (sym (host refl).1)
    (inl ((host refl).2, inr (closed, with_files (IsFlashedWholeRaw b) (n, lays))))
refuses_raw untold (Err f) e got r r' t t' b input path x p p' a c h h' told host closed given go with_files lays =
    subst (λ (z : SparseCommandFault). RefusesFlashRaw z b input path a c h h' untold) (sym told)
    (raw_own untold f got (DeviceFailed r r' t t') b input path x p p' a c h h' closed given go with_files lays)

refuses_verify : (untold : List ℕ → Type 0) (f : SparseCommandFault) (F : Type 0) (input path x p : List ℕ) (a : World)
    (h h' : OpenFiles) → (F → HasFailed reading h h') → ((P : List ℕ → List ℕ → Type 0) → P x p → OfBoth input path a P)
    → Finds F (Err f) x p → RefusesVerify f input path a h h' untold
refuses_verify untold (faults.Verify f) F input path x p a h h' go with_files finds =
    with_files (IsNotThere (HasFailed reading h h') f) (not_there_for f F (HasFailed reading h h') x p go finds)
refuses_verify untold (faults.Flash f) F input path x p a h h' go with_files finds = absurd finds
refuses_verify untold (faults.Sparse f) F input path x p a h h' go with_files finds = absurd finds
refuses_verify untold (faults.Run f) F input path x p a h h' go with_files finds = absurd finds
refuses_verify untold (faults.Piece f) F input path x p a h h' go with_files finds = absurd finds
refuses_verify untold (faults.OtherBlocks image) F input path x p a h h' go with_files finds = absurd finds
refuses_verify untold (faults.OtherCut image) F input path x p a h h' go with_files finds = absurd finds
refuses_verify untold (faults.Host f) F input path x p a h h' go with_files finds = absurd finds

pub verify_refusal : (untold : List ℕ → Type 0) (e f : SparseCommandFault) (F : Type 0) (input path x p : List ℕ)
    (a : World) (h h' : OpenFiles) → e ≡ f → (F → HasFailed reading h h')
    → ((P : List ℕ → List ℕ → Type 0) → P x p → OfBoth input path a P) → Finds F (Err f) x p
    → RefusesVerify e input path a h h' untold
verify_refusal untold e f F input path x p a h h' is go with_files finds =
    subst (λ (z : SparseCommandFault). RefusesVerify z input path a h h' untold) (sym is)
    (refuses_verify untold f F input path x p a h h' go with_files finds)

pub refuses_verify_raw : (untold : List ℕ → Type 0) (f : SparseCommandFault) (F : Type 0) (b : ℕ)
    (input path x p : List ℕ) (a : World)
    (h h' : OpenFiles)
    → (F → HasFailed reading h h') → ((P : List ℕ → List ℕ → Type 0) → P x p → OfBoth input path a P)
    → FindsRaw F (Err f) b x p → RefusesVerifyRaw f b input path a h h' untold
refuses_verify_raw untold (faults.Verify f) F b input path x p a h h' go with_files finds =
    with_files (IsNotThereRaw (HasFailed reading h h') f b)
    (not_there_raw_for f F (HasFailed reading h h') b x p go finds)
refuses_verify_raw untold (faults.Flash f) F b input path x p a h h' go with_files finds = absurd finds
refuses_verify_raw untold (faults.Sparse f) F b input path x p a h h' go with_files finds = absurd finds
refuses_verify_raw untold (faults.Run f) F b input path x p a h h' go with_files finds = absurd finds
refuses_verify_raw untold (faults.Piece f) F b input path x p a h h' go with_files finds = absurd finds
refuses_verify_raw untold (faults.OtherBlocks image) F b input path x p a h h' go with_files finds = absurd finds
refuses_verify_raw untold (faults.OtherCut image) F b input path x p a h h' go with_files finds = absurd finds
refuses_verify_raw untold (faults.Host f) F b input path x p a h h' go with_files finds = absurd finds

pub verify_raw_refusal : (untold : List ℕ → Type 0) (e f : SparseCommandFault) (F : Type 0) (b : ℕ)
    (input path x p : List ℕ) (a : World)
    (h h' : OpenFiles)
    → e ≡ f → (F → HasFailed reading h h') → ((P : List ℕ → List ℕ → Type 0) → P x p → OfBoth input path a P)
    → FindsRaw F (Err f) b x p → RefusesVerifyRaw e b input path a h h' untold
verify_raw_refusal untold e f F b input path x p a h h' is go with_files finds =
    subst (λ (z : SparseCommandFault). RefusesVerifyRaw z b input path a h h' untold) (sym is)
    (refuses_verify_raw untold f F b input path x p a h h' go with_files finds)

unlisted_for : (f : SparseFault) (F G W : Type 0) (x : List ℕ) → (F → G) → IsUnlisted F W f x → IsUnlisted G W f x
unlisted_for (of_sparse.Read d) F G W x go is = go is
unlisted_for (of_sparse.Write d) F G W x go is = is
unlisted_for f F G W x go is = is

pub list_refusal : (e : SparseCommandFault) (f : SparseFault) (F W : Type 0) (input x : List ℕ) (a : World)
    (h h' : OpenFiles)
    → e ≡ faults.Sparse f → (F → HasFailed reading h h') → ((P : List ℕ → Type 0) → P x → OfFile input a P)
    → IsUnlisted F W f x → RefusesList e input a h h' W
list_refusal e f F W input x a h h' is go with_file listed =
    subst (λ (z : SparseCommandFault). RefusesList z input a h h' W) (sym is)
    (with_file (IsUnlisted (HasFailed reading h h') W f) (unlisted_for f F (HasFailed reading h h') W x go listed))

-- all was done, and then the line failed
pub handed_on : {X R : Type 0} (answer : Result X R) (P Q : R → Type 0) → ((r : R) → P r → Q r) → IsErrAnd answer P
    → IfErr answer Q
handed_on (Ok x) P Q go is = tt
handed_on (Err r) P Q go is = go r is

pub flash_untold : (untold : List ℕ → Type 0) (e : SparseCommandFault) (input path : List ℕ)
    (a c : World) (h h' : OpenFiles)
    → e ≡ faults.Host hosts.Write → h'.part ≡ None → FlashesFile input path a c h.syncs h'.syncs untold
    → RefusesFlash e input path a c h h' untold
flash_untold untold e input path a c h h' is closed done =
    subst (λ (z : SparseCommandFault). RefusesFlash z input path a c h h' untold) (sym is)
    (inr (refl, (closed, done)))

pub raw_untold : (untold : List ℕ → Type 0) (e : SparseCommandFault) (b : ℕ) (input path : List ℕ)
    (a c : World) (h h' : OpenFiles)
    → e ≡ faults.Host hosts.Write → h'.part ≡ None → FlashesRawFile b input path a c h.syncs h'.syncs untold
    → RefusesFlashRaw e b input path a c h h' untold
raw_untold untold e b input path a c h h' is closed done =
    subst (λ (z : SparseCommandFault). RefusesFlashRaw z b input path a c h h' untold) (sym is)
    (inr (refl, (closed, done)))

-- closing the partition failed, which is counted in the run
pub host_late : (answer : Result ℕ SparseCommandFault) (e : SparseCommandFault) (M : Type 0)
    (input path x p p' : List ℕ) (old new : World) (h hc h' : OpenFiles) (n k m : Counts) (past : Past)
    → Ran input path x p p' old new h hc h' n k m past → M
    → (IsOk answer → (host : HostFault) × (e ≡ faults.Host host) × (M → HasFailed (call host) hc h')) → IsOk answer
    → (host : HostFault) × (e ≡ faults.Host host) × HasFailed (call host) h h'
host_late answer e M input path x p p' old new h hc h' n k m past all models host ok =
    let one = host ok in (
      one.0,
      one.1,
      ran_late input path x p p' old new h hc h' n k m past all (call one.0) (one.2 models),
    )

-- ---- what was returned holds

pub is_flashed : (answer : Result ℕ SparseCommandFault) (n got r r' t t' : ℕ) (x p p' : List ℕ) → answer ≡ Ok n
    → Lays (DeviceFailed r r' t t') got answer x p p' → IsFlashed n x p p'
is_flashed answer n got r r' t t' x p p' is lays = subst (λ z. Lays (DeviceFailed r r' t t') got z x p p') is lays

pub is_flashed_raw : (answer : Result ℕ SparseCommandFault) (n b got r r' t t' : ℕ) (x p p' : List ℕ)
    → answer ≡ Ok n → LaysRaw (DeviceFailed r r' t t') got answer b x p p' → IsFlashedRaw n b x p p'
is_flashed_raw answer n b got r r' t t' x p p' is lays =
    subst (λ z. LaysRaw (DeviceFailed r r' t t') got z b x p p') is lays

pub on_ok : (answer : Result ℕ SparseCommandFault) (n : ℕ) (P : Type 0) → answer ≡ Ok n → OnOk answer P → P
on_ok answer n P is so = subst (λ r. OnOk r P) is so
