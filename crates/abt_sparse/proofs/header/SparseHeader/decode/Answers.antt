use Rattle.std.specs.Prelude.{IfErr}
use Rattle.std.proofs.Common.{◌≡◌, ℕ, ◌<◌, List, get_or, length, Result, Ok, Err, IfOk, MatchResult}
use Rattle.abt_sparse.specs.declared.fault.SparseFault.{SparseFault}
use Rattle.abt_sparse.specs.Chunk.{header_record}
use Rattle.abt_sparse.specs.Reading.{checked_header}
use Rattle.abt_sparse.specs.Fails.{HeaderFails}
use Rattle.abt_sparse.proofs.Fields.{record-back}
use Rattle.abt_sparse.proofs.Failing.{header_fails}
use Rattle.abt_sparse.specs.declared.header.SparseHeader.{SparseHeader}
use Rattle.abt_sparse.specs.View.{view}
use Rattle.abt_sparse.proofs.header.SparseHeader.decode.Goals as goal

back : (x : List ℕ) (r : Result SparseHeader SparseFault) → length x ≡ 28 → ((i : ℕ) → get_or x i 0 < 256)
    → MatchResult r (λ h. checked_header x ≡ Ok (view h)) (λ f. checked_header x ≡ Err f)
    → IfOk r (λ h. header_record (view h) ≡ x)
back x (Ok h) n k e = record-back x (view h) n k e
back x (Err f) n k e = tt

pub returns-clause-back : goal.returns-clause-back
returns-clause-back c = back c.args.bytes.now c.header_of.result c.told-bytes c.fits-bytes c.header_of.ensures

cause : (x : List ℕ) (r : Result SparseHeader SparseFault)
    → MatchResult r (λ h. checked_header x ≡ Ok (view h)) (λ f. checked_header x ≡ Err f)
    → IfErr r (λ f. HeaderFails x f)
cause x (Ok h) e = tt
cause x (Err f) e = header_fails x f e

pub returns-clause-cause : goal.returns-clause-cause
returns-clause-cause c = cause c.args.bytes.now c.header_of.result c.header_of.ensures
