-- Calls of a disk, and what they return.
use Rattle.std.proofs.Common.{◌≡◌, ◌+◌, ◌∙◌, ℕ, ap, arith}
use Rattle.std.specs.Prelude.{OnOk, Result, Ok, Err}
use std.Path.{fun_ext}
use Rattle.sys_disk.specs.Counts.{Cause, no_counts}
use Rattle.sys_disk.specs.World.{OpenFiles, counting}

-- none has failed
pub same_counting : (h : OpenFiles) → counting no_counts h ≡ h
same_counting h =
    let failed : (λ cause. h.counts.failed cause + 0) ≡ h.counts.failed = fun_ext (λ cause. omega arith) in
    let given : h.counts.given + 0 ≡ h.counts.given = omega arith in
    ap (λ (f : Cause → ℕ). record h { counts = record { failed = f; given = h.counts.given + 0 } }) failed
    ∙ ap (λ (k : ℕ). record h { counts = record { failed = h.counts.failed; given = k } }) given

-- what is so anyway
pub on_ok : {R E : Type 0} (r : Result R E) (T : Type 0) → T → OnOk r T
on_ok (Ok x) T t = t
on_ok (Err e) T t = tt
