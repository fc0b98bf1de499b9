-- What a spool still holds.
use Rattle.std.specs.Prelude.{◌≡◌, ℕ, ◌+◌, ◌-◌, ◌≤◌, List, length, take, drop, IsTrue, not, nat_lt}
use Rattle.std.proofs.Common.{ap, ◌∙◌, arith, length-drop}
use Rattle.std.proofs.lemmas.List.{take_all, drop-drop}
use Rattle.std.proofs.lemmas.Bool.Decides.{nat_tests}

-- it gives what it was given since the last clear, after what was read
pub held_is : (now all : List ℕ) (cut seen : ℕ) → now ≡ drop cut all → drop seen now ≡ drop (cut + seen) all
held_is now all cut seen e = ap (λ (l : List ℕ). drop seen l) e ∙ drop-drop seen cut all

-- where it has no room left, it holds as much as it has room for
pub filled_is : (room all : List ℕ) (cut used : ℕ) → take used room ≡ drop cut all
    → IsTrue (not (nat_lt used (length room))) → length room ≤ length all - cut
filled_is room all cut used e full =
    let past : length room ≤ used = grind (arith, nat_tests) in
    omega (arith, ap length (take_all used room past), ap length e, length-drop cut all)

-- the same, where only the counts are known
pub filled_count : (room used cut all : ℕ) → cut + used ≡ all → IsTrue (not (nat_lt used room)) → room ≤ all - cut
filled_count room used cut all e full =
    let past : room ≤ used = grind (arith, nat_tests) in
    omega arith
