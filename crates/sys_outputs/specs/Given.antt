-- What a call gives a file. A log records it.
use Rattle.std.specs.Prelude.{◌≡◌, ◌<◌, ◌≤◌, ℕ, List, Bool, IsTrue, false, Result, IfOk, OnErr, length, take, replicate}
use Rattle.std.specs.Io.{WritesAtMost}
use Rattle.abt_io.specs.Count.{count_of}
use Rattle.abt_io.specs.Frame.{Logged, and_bytes}
use Rattle.abt_io.specs.Over.{and_put}
use Rattle.sys_file.specs.File.{Begins}

-- a prefix of these bytes is appended to all that it was given, or nothing is
pub record PutsBehind {E : Type 0} (r : Result ℕ E) (bytes : List ℕ) (log log' : Logged) : Type 0 where
  pub bound : WritesAtMost r bytes
  pub progress : IfOk r (λ n. 0 < length bytes → 0 < n)
  pub taken : IfOk r (λ n. log' ≡ and_bytes log (take n bytes))
  pub kept : OnErr r (log' ≡ log)

-- a prefix of these bytes overwrites what it was given from an offset on, a nonempty one if there are bytes; or nothing
-- does
pub record PutsFrom {E : Type 0} (r : Result ℕ E) (at : ℕ) (bytes : List ℕ) (log log' : Logged) : Type 0 where
  pub within : count_of r ≤ length bytes
  pub progress : IfOk r (λ n. 0 < length bytes → 0 < n)
  pub taken : IfOk r (λ n. log' ≡ and_put log at (take n bytes))
  pub kept : OnErr r (log' ≡ log)

-- this many zeros are appended, and no more than were asked for
pub record LaysHole (asked laid : ℕ) (log log' : Logged) : Type 0 where
  pub within : laid ≤ asked
  pub zeros : log' ≡ and_bytes log (replicate laid 0)

-- The file was given more, and all of it is buffered. Or the log is the same, and as many bytes are buffered.
pub record TakesOrKeeps (taken : Bool) (log log' more : Logged) (sent sent' : ℕ) (held held' : List ℕ) : Type 0 where
  pub more_given : IsTrue taken → log' ≡ more
  pub kept : taken ≡ false → log' ≡ log
  pub same_sent : sent' ≡ sent
  pub as_many : taken ≡ false → length held' ≡ length held

-- it was given the same
pub record StaysGiven (log log' : Logged) (used used' : ℕ) (failed failed' : Bool) : Type 0 where
  pub given : log' ≡ log
  pub same_used : used' ≡ used
  pub same_failed : failed' ≡ failed

-- The file holds all that it was given, if that is returned. It begins with that, unless it may be marred.
pub record LetsFileGo (models : Bool) (stands : List ℕ) (is_whole is_marred : Bool) (given : List ℕ) : Type 0 where
  pub whole : IsTrue models → IsTrue is_whole → stands ≡ given
  pub front : IsTrue models → is_marred ≡ false → Begins given stands
