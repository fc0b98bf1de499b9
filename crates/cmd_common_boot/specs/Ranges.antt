-- The range of a file that a part of an image is.
use Rattle.std.specs.Prelude.{◌≡◌, ◌<◌, ◌≤◌, ◌+◌, ℕ, List, [], length, take, drop, Option, Some, None, option_map}
use Rattle.std.specs.Prelude.{IsTrue, Result, IfOk, IfErr, OnOk, OnErr}
use Rattle.abt_io.specs.Count.{count_of}
use Rattle.abt_io.specs.declared.device.Source as sources
use Rattle.abt_io.specs.declared.device.DeviceFault.{DeviceFault}
use Rattle.abt_io.specs.declared.device.DeviceFault.TheVariants.{Failed}

-- a count of the file, or nothing where there is no file
abbrev pub count_in : Option ℕ → ℕ
count_in None = 0
count_in (Some n) = n

-- this many bytes from a position on of what the file contains
abbrev pub range_bytes : Option (List ℕ) → ℕ → ℕ → List ℕ
range_bytes None at n = []
range_bytes (Some x) at n = take n (drop at x)

-- how many bytes it contains
abbrev pub long_in : Option (List ℕ) → ℕ
long_in None = 0
long_in (Some x) = length x

-- one read at a place of a file that may be none
pub record ReadsIn {A : Type 0} (s : sources.Ghosts A) (r : Result ℕ DeviceFault) (old new : Option A) (at : ℕ)
    (out : List ℕ) : Type 0 where
  pub within : count_of r ≤ length out
  pub bytes : IsTrue s.models
      → take (count_of r) out ≡ take (count_of r) (range_bytes (option_map s.content old) at (count_of r))
  pub content : IsTrue s.models → option_map s.content new ≡ option_map s.content old
  pub ended : IsTrue s.models → IfOk r (λ n. n ≡ 0 → 0 < length out → long_in (option_map s.content old) ≤ at)
  pub counted : count_in (option_map s.given new) ≡ count_in (option_map s.given old) + count_of r
  pub faults : count_in (option_map s.read_faults old) ≤ count_in (option_map s.read_faults new)
  pub cause : OnErr r (count_in (option_map s.read_faults old) < count_in (option_map s.read_faults new))
  pub clean : OnOk r (count_in (option_map s.read_faults new) ≡ count_in (option_map s.read_faults old))
  pub failed : IfErr r (λ e. e ≡ Failed)
