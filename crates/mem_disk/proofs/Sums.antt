-- Sums of what is counted, in another order.
use Rattle.std.proofs.Common.{arith, ℕ, ◌+◌, ◌≡◌, ap, ◌∙◌}
use Rattle.std.proofs.Math.Path.{fun_ext}
use Rattle.sys_disk.specs.Counts.{Cause, Counts, added}

same_counts : (a b : Counts) → ((cause : Cause) → a.failed cause ≡ b.failed cause) → a.given ≡ b.given → a ≡ b
same_counts a b e d =
    ap (λ (f : Cause → ℕ). record { failed = f; given = a.given }) (fun_ext e)
    ∙ ap (λ (n : ℕ). record { failed = b.failed; given = n }) d

-- what was counted first stands behind
pub swapped : (a b c : Counts) → added (added a b) c ≡ added a (added c b)
swapped a b c =
    let e : (cause : Cause) → a.failed cause + b.failed cause + c.failed cause
    ≡ a.failed cause + (c.failed cause + b.failed cause) = λ cause. omega arith in
    let d : a.given + b.given + c.given ≡ a.given + (c.given + b.given) = omega arith in
    same_counts (added (added a b) c) (added a (added c b)) e d
