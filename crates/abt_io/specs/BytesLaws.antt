-- Parts of a list of bytes are bytes.
use Rattle.std.proofs.Common.{◌≡◌, ℕ, ◌+◌, zero, suc, List, [], ◌∷◌, take, drop, get_or, refl, arith}
use Rattle.std.proofs.lemmas.List.{get_or-drop}
use Rattle.abt_io.specs.Bytes.{AreBytes}

get_none : (i : ℕ) → get_or {A = ℕ} [] i 0 ≡ 0
get_none zero = refl
get_none (suc i) = refl

pub bytes_of_take : (n : ℕ) (x : List ℕ) → AreBytes x → AreBytes (take n x)
bytes_of_take zero x h i = let z = get_none i in omega arith
bytes_of_take (suc n) [] h i = h i
bytes_of_take (suc n) (b ∷ x) h zero = h 0
bytes_of_take (suc n) (b ∷ x) h (suc i) = bytes_of_take n x (λ j. h (suc j)) i

pub bytes_of_drop : (n : ℕ) (x : List ℕ) → AreBytes x → AreBytes (drop n x)
bytes_of_drop n x h i = let e = get_or-drop n x i 0 in let b = h (n + i) in omega arith

-- what a spool still gives
pub bytes_of_part : (used seen : ℕ) (x : List ℕ) → AreBytes x → AreBytes (drop seen (take used x))
bytes_of_part used seen x h = bytes_of_drop seen (take used x) (bytes_of_take used x h)
