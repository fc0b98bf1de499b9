-- What the engine's calls say of their faults, in the words of the commands.
use Rattle.std.proofs.Common.{◌≡◌, ◌<◌, ◌≤◌, ◌+◌, ◌*◌, ℕ, List, Bool, true, length, take, Option, refl, subst, arith}
use Rattle.std.specs.Prelude.{Err, IsTrue}
use Rattle.abt_chunks.specs.Expanding.{UnlessExpandingDevice}
use Rattle.abt_sparse.specs.Pieces.{flashed, given}
use Rattle.abt_sparse.specs.Reading.{outcome}
use Rattle.abt_flash.specs.declared.stage.Flashed.{Flashed}
use Rattle.abt_flash_faults.specs.Fault.{FlashCause}
use Rattle.abt_flash.specs.Flashing.{Flashes, Holds, WholeFlash}
use Rattle.abt_flash.specs.Laying.{writes}
use Rattle.abt_flash_faults.specs.declared.fault.FlashFault.{FlashFault}
use Rattle.abt_flash_faults.specs.declared.fault.FlashFault.TheVariants as flashes
use Rattle.abt_sparse.specs.declared.fault.SparseFault.{SparseFault}
use Rattle.abt_sparse.specs.declared.fault.SparseFault.TheVariants as of_sparse
use Rattle.abt_sparse.specs.Fails.{Fails}
use Rattle.abt_verify.specs.Fault.{HasVerifyCause as VerifyCause, RawCause}
use Rattle.abt_verify.specs.Raw.{JudgesBlockSize, VerifiesRaw}
use Rattle.abt_verify.specs.Verifying.{Verifies}
use Rattle.abt_verify.specs.declared.fault.VerifyFault.{VerifyFault}
use Rattle.abt_verify.specs.declared.stage.Verified.{Verified}
use Rattle.abt_verify.specs.declared.fault.VerifyFault.TheVariants as verifies
use Rattle.std.proofs.lemmas.Bool.{true≢false}
use Rattle.cmd_common_listing.specs.Listed.{ReadTold, WriteTold}
use Rattle.cmd_flash.specs.Files.{DeviceFailed, HoldsBut}
use Rattle.cmd_flash.specs.Flashing.{IsFlashedWhole, IsUnflashed}
use Rattle.cmd_flash.specs.Listing.{IsUnlisted}
use Rattle.cmd_flash.specs.Verifying.{IsNotThere, IsNotThereRaw}

whole : (e : Flashed) (size taken taken' : ℕ) (x rest p p' : List ℕ) → size ≡ length p
    → WholeFlash e size taken taken' x rest → p' ≡ flashed p x → IsFlashedWhole x p p'
whole e size taken taken' x rest p p' long found holds = (
  e.blocks,
  record {
    header = found.header;
    chunks = found.chunks;
    rest = rest;
    spelled = found.spelled;
    fits = subst (λ s. found.header.total_blks * found.header.blk_sz ≤ s) long found.fits;
    blocks = found.blocks;
    holds = holds;
  },
)

pub unflashed : (f : FlashFault) (size taken taken' r r' t t' got : ℕ) (x rest p p' : List ℕ) → size ≡ length p
    → Flashes (Err f) size taken taken' x rest → Holds (Err f) got p p' x
    → HoldsBut (writes (given (outcome (take got x)))) p p'
    → FlashCause f r r' t t' → IsUnflashed (DeviceFailed r r' t t') got f x p p'
unflashed (flashes.Sparse f) size taken taken' r r' t t' got x rest p p' long found holds kept cause =
    record { given = found.given; fails = found.fails; holds = holds }
unflashed (flashes.PartitionTooSmall need) size taken taken' r r' t t' got x rest p p' long found holds kept
    cause = record {
      header = found.header;
      behind = found.behind;
      spelled = found.spelled;
      needs = found.needs;
      short = subst (λ s. s < need) long found.short;
      kept = holds;
    }
unflashed (flashes.Read d) size taken taken' r r' t t' got x rest p p' long found holds kept cause =
    (cause.0, record { others = kept; front = holds })
unflashed (flashes.Write d) size taken taken' r r' t t' got x rest p p' long found holds kept cause =
    (cause.0, record { others = kept; front = holds })
unflashed (flashes.Sync d) size taken taken' r r' t t' got x rest p p' long found holds kept cause =
    (cause.0, whole found.0 size taken taken' x rest p p' long found.1 holds)
unflashed flashes.TooLarge size taken taken' r r' t t' got x rest p p' long found holds kept cause =
    absurd cause
unflashed flashes.SourceChanged size taken taken' r r' t t' got x rest p p' long found holds kept cause =
    absurd cause
unflashed (flashes.BadBlock n) size taken taken' r r' t t' got x rest p p' long found holds kept cause =
    absurd cause
unflashed (flashes.LimitTooSmall n) size taken taken' r r' t t' got x rest p p' long found holds kept cause =
    absurd cause
unflashed (flashes.Stopped n c) size taken taken' r r' t t' got x rest p p' long found holds kept cause =
    absurd cause
unflashed (flashes.NoSuchPiece n) size taken taken' r r' t t' got x rest p p' long found holds kept cause =
    absurd cause

not_there_true : (f : VerifyFault) (r r' t t' g g' : ℕ) (x rest p : List ℕ) → Verifies true (Err f) p x rest g g'
    → VerifyCause f r r' t t' → IsNotThere (r + t < r' + t') f x p
not_there_true (verifies.Sparse f) r r' t t' g g' x rest p found cause = found
not_there_true (verifies.Differs n) r r' t t' g g' x rest p found cause = found
not_there_true (verifies.Read d) r r' t t' g g' x rest p found cause =
    let more = cause.0 in let same = cause.2 in omega (arith, more, same)
not_there_true (verifies.PartitionRead d) r r' t t' g g' x rest p found cause =
    let more = cause.0 in let same = cause.2 in omega (arith, more, same)
not_there_true verifies.SourceChanged r r' t t' g g' x rest p found cause = absurd cause
not_there_true (verifies.BadBlock n) r r' t t' g g' x rest p found cause = absurd cause

pub not_there : (models : Bool) (f : VerifyFault) (r r' t t' g g' : ℕ) (x rest p : List ℕ) → IsTrue models
    → Verifies models (Err f) p x rest g g' → VerifyCause f r r' t t' → IsNotThere (r + t < r' + t') f x p
not_there models f r r' t t' g g' x rest p is found cause =
    not_there_true f r r' t t' g g' x rest p (subst (λ (b : Bool). Verifies b (Err f) p x rest g g') is found) cause

raw_true : (f : VerifyFault) (b r r' t t' g g' : ℕ) (x p : List ℕ) → VerifiesRaw true (Err f) b p x g g'
    → JudgesBlockSize (Err f) b → RawCause {X = Verified} (Err f) true r r' t t'
    → IsNotThereRaw (r + t < r' + t') f b x p
raw_true (verifies.Sparse f) b r r' t t' g g' x p found sized cause = absurd cause
raw_true (verifies.Differs n) b r r' t t' g g' x p found sized cause = found refl
raw_true (verifies.Read d) b r r' t t' g g' x p found sized cause =
    let more = cause.0 in let same = cause.2 in omega (arith, more, same)
raw_true (verifies.PartitionRead d) b r r' t t' g g' x p found sized cause =
    let more = cause.0 in let same = cause.2 in omega (arith, more, same)
raw_true verifies.SourceChanged b r r' t t' g g' x p found sized cause = absurd (true≢false cause.0)
raw_true (verifies.BadBlock n) b r r' t t' g g' x p found sized cause = sized

pub not_there_raw : (source models : Bool) (f : VerifyFault) (b r r' t t' g g' : ℕ) (x p : List ℕ) → IsTrue source
    → IsTrue models → VerifiesRaw models (Err f) b p x g g' → JudgesBlockSize (Err f) b
    → RawCause {X = Verified} (Err f) source r r' t t' → IsNotThereRaw (r + t < r' + t') f b x p
not_there_raw source models f b r r' t t' g g' x p all is found sized cause =
    raw_true f b r r' t t' g g' x p (subst (λ (z : Bool). VerifiesRaw z (Err f) b p x g g') is found) sized
    (subst (λ (z : Bool). RawCause {X = Verified} (Err f) z r r' t t') all cause)

pub unlisted_for : (f : SparseFault) (r r' w w' : ℕ) (x : List ℕ)
    → UnlessExpandingDevice f ((given : List (Option ℕ)) × Fails x f given) → ReadTold {X = Unit {0}} (Err f) r r'
    → WriteTold f w w'
    → IsUnlisted (r < r') (w < w') f x
unlisted_for (of_sparse.Read d) r r' w w' x own read write = read
unlisted_for (of_sparse.Write d) r r' w w' x own read write = write
unlisted_for f r r' w w' x own read write = own
