-- The history of a file, as that of a partition: both count as many syncs.
use Rattle.std.proofs.Common.{◌≡◌, ℕ, List, Result, ap, subst, ◌∙◌}
use Rattle.abt_io.specs.Moment.{Past}
use Rattle.sys_file.specs.Past.{LaysWithin, SettlesFile}
use Rattle.sys_devices.specs.Past.{past_of}

same_past : (p : Past) (n : ℕ) → p.synced ≡ n → p ≡ past_of p n
same_past p n e = ap (past_of p) e

pub lays_as : {E : Type 0} (old new : List ℕ) (p q : Past) (n : ℕ) (r : Result ℕ E) (at long : ℕ) → p.synced ≡ n
    → LaysWithin old new p q r at long → LaysWithin old new (past_of p n) (past_of q n) r at long
lays_as old new p q n r at long e l =
    subst (λ s. LaysWithin old new s (past_of q n) r at long) (same_past p n e)
    (subst (λ s. LaysWithin old new p s r at long) (same_past q n (l.synced ∙ e)) l)

pub settles_as : {X E : Type 0} (old new : List ℕ) (p q : Past) (m n : ℕ) (r : Result X E) → p.synced ≡ m
    → q.synced ≡ n → SettlesFile old new p q r → SettlesFile old new (past_of p m) (past_of q n) r
settles_as old new p q m n r e f l =
    subst (λ s. SettlesFile old new s (past_of q n) r) (same_past p m e)
    (subst (λ s. SettlesFile old new p s r) (same_past q n f) l)
