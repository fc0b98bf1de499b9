-- What printing does to a text.
use Rattle.std.specs.Prelude.{◌≡◌, ◌<◌, ◌≤◌, ℕ, List, ◌++◌, IsNone, IsSome}
use Rattle.sys_text.specs.declared.text_output.Text.{Text}
use Rattle.sys_text.specs.Shown.{text_in}

-- what its output has taken, followed by the buffer
abbrev pub shown : {O : Type 0} → (O → List ℕ) → Text O → List ℕ
shown written t = written t.output.now ++ text_in t.held.bytes t.held.used

-- t is s after printing bs into the same output. A failed write leaves a prefix of it there, and nothing is written
-- after a fault.
pub record Prints {O : Type 0} (written : O → List ℕ) (faults : O → ℕ) (s t : Text O) (bs : List ℕ) : Type 0 where
  pub same_reference : t.output.ghost_name ≡ s.output.ghost_name
  pub text : IsNone t.fault → shown written t ≡ shown written s ++ bs
  pub begun : (rest : List ℕ) × (shown written s ++ bs ≡ written t.output.now ++ rest)
  pub grown : (more : List ℕ) × (written t.output.now ≡ written s.output.now ++ more)
  pub stopped : IsSome s.fault → IsSome t.fault × (written t.output.now ≡ written s.output.now)
  pub cause : IsNone s.fault → IsSome t.fault → faults s.output.now < faults t.output.now
  pub clean : IsNone t.fault → faults t.output.now ≡ faults s.output.now
  pub rises : faults s.output.now ≤ faults t.output.now

-- t is s after printing a prefix of bs
pub record PrintsFront {O : Type 0} (written : O → List ℕ) (faults : O → ℕ) (s t : Text O) (bs : List ℕ) : Type 0 where
  pub done : List ℕ
  pub rest : List ℕ
  pub whole : bs ≡ done ++ rest
  pub prints : Prints written faults s t done
