-- What an output was given.
use Rattle.std.specs.Prelude.{◌≡◌, ℕ, ◌-◌, List, ◌++◌, length, take}

-- now is old followed by a prefix of x
abbrev pub Begins : List ℕ → List ℕ → List ℕ → Type 0
Begins old now x = now ≡ old ++ take (length now - length old) x
