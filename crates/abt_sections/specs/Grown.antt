-- What an output was given.
use Rattle.std.specs.Prelude.{◌≡◌, ℕ, ◌+◌, ◌-◌, ◌≤◌, Result, OnOk, List, ◌++◌, length, take}

-- now is old, and after it a beginning of x
abbrev pub AppendsFront : List ℕ → List ℕ → List ℕ → Type 0
AppendsFront old now x = now ≡ old ++ take (length now - length old) x

-- now is old, and maybe more after it
abbrev pub Grows : List ℕ → List ℕ → Type 0
Grows old now = take (length old) now ≡ old

-- Of n bytes no more came, and after an Ok all.
pub record AddsUpTo {X E : Type 0} (r : Result X E) (old new : List ℕ) (n : ℕ) : Type 0 where
  pub most : length new ≤ length old + n
  pub all : OnOk r (length new ≡ length old + n)

-- The same, and what was there is kept.
pub record GrowsBy {X E : Type 0} (r : Result X E) (old new : List ℕ) (n : ℕ) : Type 0 where
  pub grown : Grows old new
  pub most : length new ≤ length old + n
  pub all : OnOk r (length new ≡ length old + n)
