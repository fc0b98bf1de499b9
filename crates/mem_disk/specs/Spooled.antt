-- When a spool over memory is full.
use Rattle.std.specs.Prelude.{◌≡◌, ℕ, ◌-◌, ◌≤◌, List, length, drop, IsTrue, not, nat_lt}
use Rattle.std.proofs.Common.{ap, arith, length-drop}
use Rattle.std.proofs.lemmas.Bool.Decides.{nat_tests}

-- it holds as much as it has room for
pub filled_as_spool : (now all : List ℕ) (cut limit : ℕ) → now ≡ drop cut all → IsTrue (not (nat_lt (length now) limit))
    → limit ≤ length all - cut
filled_as_spool now all cut limit e full =
    let past : limit ≤ length now = grind (arith, nat_tests) in
    omega (arith, ap length e, length-drop cut all)
