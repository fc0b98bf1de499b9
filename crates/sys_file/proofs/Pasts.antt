-- Calls that leave a file's past as it was.
use Rattle.std.proofs.Common.{◌≡◌, ℕ, List, refl, Err, arith}
use Rattle.std.proofs.lemmas.Bool.Decides.{nat_tests}
use Rattle.abt_io.specs.Moment.{Past, moment_of, in_range}
use Rattle.abt_io.proofs.Moments.{keeps_same, none_since}
use Rattle.sys_file.specs.Past.{LaysWithin}

-- a write that was refused and did nothing
pub lays_none : {E : Type 0} (c : List ℕ) (p : Past) (e : E) (at n : ℕ) → LaysWithin {E = E} c c p p (Err e) at n
lays_none c p e at n = record {
  kept = keeps_same (in_range at n) (moment_of p c);
  moments = none_since p.moments (λ m. m ≡ moment_of p c);
  newest = tt;
  pending = λ i t. absurd (grind (arith, nat_tests));
  stays = λ i t. t;
  unsettled = record { size = refl; kept = λ i t. refl };
  synced = refl;
}
