-- What a file with late headers was given, and what of it is in the file.
use Rattle.std.specs.Prelude.{◌≡◌, ◌<◌, ◌≤◌, ◌+◌, ◌^◌, ◌++◌, ℕ, List, Bool, IsTrue, length, take}
use Rattle.abt_io.specs.Frame.{Logged}
use Rattle.sys_file.specs.File.{Begins}

-- the prefix of a file that was sent, followed by what is buffered
abbrev pub whole : List ℕ → ℕ → List ℕ → List ℕ
whole stands sent held = take sent stands ++ held

-- this many bytes are in the file, and the buffered bytes fit after them
pub record HasRoomBehind (models : Bool) (sent done : ℕ) (stands held : List ℕ) : Type 0 where
  pub stands_there : IsTrue models → sent + done ≤ length stands
  pub fits : sent + length held < 2 ^ 64

-- the file and the buffer are as long as before, and what was sent before is unchanged
pub record TakesBack (models : Bool) (sent : ℕ) (stands stands' held held' : List ℕ) : Type 0 where
  pub file : IsTrue models → length stands' ≡ length stands
  pub front : IsTrue models → Begins (take sent stands) stands'
  pub held_length : length held' ≡ length held

-- as many bytes are buffered, after as many that were sent, and the file was given the same bytes
pub record HoldsAsMuch (was now : List ℕ) (front front' : ℕ) (log log' : Logged) : Type 0 where
  pub held : length now ≡ length was
  pub sent : front' ≡ front
  pub given : log' ≡ log
