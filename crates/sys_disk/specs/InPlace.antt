-- A file that is written in place: it existed, is opened, and is closed.
use Rattle.std.specs.Prelude.{◌≡◌, ℕ, ◌+◌, List, [], ◌∷◌, Option, Some, None, Bool, false, Contains, nat_lt}
use Rattle.std.specs.Prelude.{IsTrue, if◌then◌else◌}
use Rattle.abt_io.specs.Moment.{Past}
use Rattle.sys_disk.specs.Counts.{Counts, HasNone, added}
use Rattle.sys_disk.specs.World.{World, OpenFiles, MayWrite, Spares, counting}

-- this file more is written, in place
abbrev pub in_place : ℕ → OpenFiles → OpenFiles
in_place file h = record h { begun = file ∷ h.begun; part = Some file }

-- the file at this path, which may be written, is written in place from now on: none that is read or was begun, and
-- these are its bytes
pub record OpensPart (world : World) (path bytes : List ℕ) (old new : OpenFiles) : Type 0 where
  pub allowed : MayWrite path old
  pub file : ℕ
  pub there : world.at path ≡ Some file
  pub free : ¬ Contains old.read file
  pub fresh : ¬ Contains old.begun file
  pub held : bytes ≡ world.holds file
  pub taken : new ≡ in_place file old

-- a sync has succeeded, and nothing was written after it
abbrev pub is_settled_in : List (ℕ × ℕ) → ℕ → Bool
is_settled_in [] synced = nat_lt 0 synced
is_settled_in (r ∷ rs) synced = false

abbrev pub is_settled : Past → Bool
is_settled past = is_settled_in past.pending past.synced

-- it is closed, and has failed this often; one sync more, if it was synced after its last byte
abbrev pub closed_part : Past → Counts → OpenFiles → OpenFiles
closed_part past failures h = record h {
  part = None;
  syncs = h.syncs + (if is_settled past then 1 else 0);
  counts = added h.counts failures;
}

-- The file that was written in place is closed, and this is the result of the call that wrote it. The result is Ok only
-- if nothing failed at the end. No input is closed there.
pub record ClosesPart (is_done : Bool) (past : Past) (failures : Counts) (old new : OpenFiles) : Type 0 where
  pub more : Counts
  pub closed : new ≡ counting more (closed_part past failures old)
  pub clean : IsTrue is_done → HasNone more
  pub unread : more.given ≡ 0

-- the file at this path, which may be written, was created or emptied, to be written in place: none that is read or was
-- begun, and all others are as before
pub record MakesPlace (path : List ℕ) (held held' : OpenFiles) (old new : World) : Type 0 where
  pub allowed : MayWrite path held
  pub file : ℕ
  pub begins : held' ≡ in_place file held
  pub there : new.at path ≡ Some file
  pub free : ¬ Contains held.read file
  pub fresh : ¬ Contains held.begun file
  pub spares : Spares file old new

-- every path leads where it led, and each file holds what it held, except perhaps the one at this path
pub record SparesOthers (path : List ℕ) (old new : World) : Type 0 where
  pub paths : new.at ≡ old.at
  pub files : (f : ℕ) → ¬ (old.at path ≡ Some f) → new.holds f ≡ old.holds f
