-- The files of a disk, which of them are open, and how the calls of a run change them.
use Rattle.std.specs.Prelude.{◌≡◌, ◌≢◌, ◌<◌, ℕ, ◌+◌, List, [], ◌∷◌, ◌++◌, Option, Some, None, Bool, true, false}
use Rattle.std.specs.Prelude.{Contains, IsTrue, ◌&&◌, if◌then◌else◌, length, take}
use Rattle.sys_disk.specs.Counts.{Cause, Counts, HasNone, added}

-- which file each path leads to, by a number, and what each file holds
pub record World : Type 0 where
  pub at : List ℕ → Option ℕ
  pub holds : ℕ → List ℕ

-- What was opened: the files that are read; those that were created or opened to be written, the newest first; the open
-- output, the file that is written in place, and the one that pieces go through, and if it keeps its pages; if outputs
-- are synced at their end, and how often one was; which paths lead to devices in use, mounted or as swap, and if these
-- may be written; and what is counted.
pub record OpenFiles : Type 0 where
  pub read : List ℕ
  pub begun : List ℕ
  pub output : Option ℕ
  pub part : Option ℕ
  pub spool : Option ℕ
  pub keeps : Bool
  pub is_synced : Bool
  pub syncs : ℕ
  pub in_use : List ℕ → Bool
  pub allows_mounted : Bool
  pub counts : Counts

-- the number of an open file, which its device has, or 0 if none is open
abbrev pub number_of : Option ℕ → ℕ
number_of None = 0
number_of (Some file) = file

-- this path may be written: it leads to no device that is in use, or such devices may be written
abbrev pub MayWrite : List ℕ → OpenFiles → Type 0
MayWrite path held = IsTrue (held.in_use path) → IsTrue held.allows_mounted

-- if this path leads to a device that is in use, and such devices may not be written, no file has changed
abbrev pub SparesInUse : List ℕ → OpenFiles → World → World → Type 0
SparesInUse path held old new = IsTrue (held.in_use path) → held.allows_mounted ≡ false → new ≡ old

-- nothing was opened to be written yet
pub record IsReading (h : OpenFiles) : Type 0 where
  pub begun : h.begun ≡ []
  pub output : h.output ≡ None

-- this much more is counted
abbrev pub counting : Counts → OpenFiles → OpenFiles
counting n h = record h { counts = added h.counts n }

-- in this run this has failed: a call with this fault, or a device that was read, or one that was written
abbrev pub HasFailed : Cause → OpenFiles → OpenFiles → Type 0
HasFailed cause old new = old.counts.failed cause < new.counts.failed cause

-- no call failed, no device did, and no memory was refused
abbrev pub HasNotFailed : OpenFiles → OpenFiles → Type 0
HasNotFailed old new = (cause : Cause) → new.counts.failed cause ≡ old.counts.failed cause

-- this file more is read
abbrev pub reading : ℕ → OpenFiles → OpenFiles
reading file h = record h { read = h.read ++ (file ∷ []) }

-- this file more is written, and is the open output
abbrev pub creating : ℕ → OpenFiles → OpenFiles
creating file h = record h { begun = file ∷ h.begun; output = Some file }

-- the output that was open is closed, and synced if it was finished and outputs are synced; this much has failed
abbrev pub ended : Bool → Counts → OpenFiles → OpenFiles
ended is_done failures h = record h {
  output = None;
  syncs = h.syncs + (if is_done && h.is_synced then 1 else 0);
  counts = added h.counts failures;
}

-- the output that was open is closed: nothing has failed if it was finished
pub record ClosesOutput (is_done : Bool) (old new : OpenFiles) : Type 0 where
  pub failures : Counts
  pub closed : new ≡ ended is_done failures old
  pub clean : IsTrue is_done → HasNone failures

-- every path leads where it led, and no file but this one holds anything else
pub record Spares (file : ℕ) (old new : World) : Type 0 where
  pub paths : (p : List ℕ) (f : ℕ) → old.at p ≡ Some f → new.at p ≡ Some f
  pub files : (f : ℕ) → f ≢ file → new.holds f ≡ old.holds f

-- the file at this path is one of those that are read now, and these are its bytes
pub record OpensFile (world : World) (path bytes : List ℕ) (old new : OpenFiles) : Type 0 where
  pub file : ℕ
  pub there : world.at path ≡ Some file
  pub held : bytes ≡ world.holds file
  pub taken : new ≡ reading file old

-- the file at this path is begun, which may be written: none that is read or was begun, and all others are as before
pub record Creates (path : List ℕ) (held held' : OpenFiles) (old new : World) : Type 0 where
  pub allowed : MayWrite path held
  pub file : ℕ
  pub begins : held' ≡ creating file held
  pub there : new.at path ≡ Some file
  pub free : ¬ Contains held.read file
  pub fresh : ¬ Contains held.begun file
  pub spares : Spares file old new

-- nothing has changed, but what the file at this path holds, which is none that is read
pub data OnlyAt (read path : List ℕ) (old new : World) : Type 0 where
  untouched : new ≡ old → OnlyAt read path old new
  in_output : (file : ℕ) → new.at path ≡ Some file → ¬ Contains read file → Spares file old new
      → OnlyAt read path old new

-- no file that is read or was begun is at this path
abbrev pub IsFree : List ℕ → OpenFiles → World → Type 0
IsFree path held world =
    (file : ℕ) → world.at path ≡ Some file → (¬ Contains held.read file) × (¬ Contains held.begun file)

-- the open output holds these bytes, and all other files are as before
abbrev pub Ends : Option ℕ → List ℕ → World → World → Type 0
Ends None bytes old new = Unit {0}
Ends (Some file) bytes old new = (new.holds file ≡ bytes) × Spares file old new

-- x begins with these bytes, but for less than 65,536 of them at their end
pub record HasMost (bytes x : List ℕ) : Type 0 where
  pub kept : ℕ
  pub few : length bytes < kept + 65536
  pub front : take kept x ≡ take kept bytes

-- the open output begins so
abbrev pub HoldsMost : Option ℕ → List ℕ → World → Type 0
HoldsMost None bytes new = Unit {0}
HoldsMost (Some file) bytes new = HasMost bytes (new.holds file)

-- The output that was open is closed, and this is the result of the call that wrote it. `more` has failed at its end:
-- nothing where the result is Ok, and that reads nothing. If nothing has, and no write had, the file holds all that the
-- output took. Whatever has, it holds most of that.
pub record EndsOutput (is_done : Bool) (bytes : List ℕ) (failures : Counts) (held held' : OpenFiles)
    (old new : World) : Type 0 where
  pub more : Counts
  pub unread : more.given ≡ 0
  pub closed : held' ≡ ended is_done (added more failures) held
  pub clean : IsTrue is_done → HasNone more
  pub left : HasNone (added more failures) → Ends held.output bytes old new
  pub most : HoldsMost held.output bytes new

-- all files but this one are as before
abbrev pub SparesRest : Option ℕ → World → World → Type 0
SparesRest None old new = new ≡ old
SparesRest (Some file) old new = Spares file old new

-- the file at this path, if there is one, holds what it held
abbrev pub KeepsFile : List ℕ → World → World → Type 0
KeepsFile path old new = (file : ℕ) → old.at path ≡ Some file → new.holds file ≡ old.holds file

-- each file that was begun before holds what it held
abbrev pub KeepsBegun : List ℕ → World → World → Type 0
KeepsBegun begun old new = (file : ℕ) → Contains begun file → new.holds file ≡ old.holds file
