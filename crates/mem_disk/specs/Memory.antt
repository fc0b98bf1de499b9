-- The files of a disk in memory.
use Rattle.std.specs.Prelude.{◌≡◌, ℕ, ◌<◌, ◌≤◌, ◌-◌, List, [], ◌∷◌, Some, Contains, bytes_eq, get_or, Result, IfOk}
use Rattle.std.specs.Prelude.{OnOk, OnErr, length, take, drop, Bool, codes}
use Rattle.sys_disk.specs.Images.{HoldsSame}
use Rattle.sys_disk.specs.Counts.{Counts}
use Rattle.sys_disk.specs.World.{World, OpenFiles, MayWrite, Spares, SparesInUse, OpensFile, Creates, OnlyAt, counting}
use Rattle.mem_disk.specs.declared.disk.MemoryDisk.{MemoryDisk}
use Rattle.mem_files.specs.Stored.{contents, leads}
use Rattle.mem_files.specs.declared.stored.MemoryFile.{MemoryFile}
use Rattle.mem_files.specs.declared.stored.MemoryPath.{MemoryPath}
use Rattle.mem_disk.specs.declared.failures.Failures.{Failures}

abbrev pub world_of_files : List MemoryPath → List MemoryFile → World
world_of_files paths files = record { at = leads paths; holds = λ f. get_or (contents files) f [] }

abbrev pub world_of : MemoryDisk → World
world_of d = world_of_files d.paths.items d.files.items

-- the one path that leads to a device in use
abbrev pub is_in_use : List ℕ → Bool
is_in_use path = bytes_eq path (codes "/dev/in-use")

abbrev pub held_of : MemoryDisk → OpenFiles
held_of d = record {
  read = d.read.items;
  begun = d.begun.items;
  output = d.output;
  part = d.part;
  spool = d.spool;
  keeps = d.keeps;
  is_synced = d.is_synced;
  syncs = d.syncs.number;
  in_use = is_in_use;
  allows_mounted = d.allows_mounted;
  counts = d.counted.counts;
}

-- this file more is written, as an output or in any other way
abbrev pub with_file_begun : ℕ → OpenFiles → OpenFiles
with_file_begun file h = record h { begun = file ∷ h.begun }

-- the file at this path, which may be written, was created or emptied, and holds these bytes: none that is read or was
-- begun, and all others are as before
pub record Starts (file : ℕ) (path bytes : List ℕ) (held held' : OpenFiles) (old new : World) : Type 0 where
  pub allowed : MayWrite path held
  pub begins : held' ≡ with_file_begun file held
  pub there : new.at path ≡ Some file
  pub free : ¬ Contains held.read file
  pub fresh : ¬ Contains held.begun file
  pub holds : new.holds file ≡ bytes
  pub spares : Spares file old new

-- what is opened, and what each file holds, is as before
pub record Untouched (old new : MemoryDisk) : Type 0 where
  pub held : held_of new ≡ held_of old
  pub world : world_of new ≡ world_of old

-- this much more is counted, and no file has changed
pub record CountsMore (n : Counts) (old new : MemoryDisk) : Type 0 where
  pub held : held_of new ≡ counting n (held_of old)
  pub world : world_of new ≡ world_of old

-- this file, which exists, is begun, and holds these bytes: it is none that is read or was begun, and all others are as
-- before
pub record Fills {X E : Type 0} (r : Result X E) (file : ℕ) (bytes : List ℕ) (old new : MemoryDisk) : Type 0 where
  pub held : OnOk r (held_of new ≡ with_file_begun file (held_of old))
  pub refused : OnErr r (Untouched old new)
  pub free : OnOk r (¬ Contains old.read.items file)
  pub fresh : OnOk r (¬ Contains old.begun.items file)
  pub present : OnOk r (file < length new.files.items)
  pub holds : OnOk r ((world_of new).holds file ≡ bytes)
  pub spares : OnOk r (Spares file (world_of old) (world_of new))
  pub paths : new.paths ≡ old.paths

-- no file has changed, and if the call fails nothing was opened
pub record OpensOnly {X E : Type 0} (r : Result X E) (old new : MemoryDisk) : Type 0 where
  pub kept : OnErr r (held_of new ≡ held_of old)
  pub world : world_of new ≡ world_of old

-- the same where what is opened is the file at this path, which was not read yet, and has not failed
pub record OpensMemory {A E : Type 0} (r : Result A E) (path : List ℕ) (its_bytes : A → List ℕ)
    (its_given : A → ℕ) (its_failed : A → Failures) (old new : MemoryDisk) : Type 0 where
  pub opened : IfOk r (λ a. OpensFile (world_of old) path (its_bytes a) (held_of old) (held_of new))
  pub clean : IfOk r (λ a. (its_failed a).tally.number ≡ 0)
  pub unread : IfOk r (λ a. its_given a ≡ 0)
  pub kept : OnErr r (held_of new ≡ held_of old)
  pub world : world_of new ≡ world_of old

-- A file at this path could not be begun: nothing was opened, no file holds anything else, and nothing else has changed
-- except the file at this path. Where that may not be written, nothing has.
pub record RefusesAt (path : List ℕ) (old new : MemoryDisk) : Type 0 where
  pub guarded : SparesInUse path (held_of old) (world_of old) (world_of new)
  pub kept : held_of new ≡ held_of old
  pub only : OnlyAt old.read.items path (world_of old) (world_of new)
  pub same : HoldsSame (world_of old) (world_of new)

-- the file at this path is the open output, or could not be begun
pub record OpensOutput {X E : Type 0} (r : Result X E) (path : List ℕ) (old new : MemoryDisk) : Type 0 where
  pub created : OnOk r (Creates path (held_of old) (held_of new) (world_of old) (world_of new))
  pub refused : OnErr r (RefusesAt path old new)

-- what is opened holds these bytes, and has not failed yet
pub record IsUnused {B : Type 0} (expected found : B) (failed : Failures) : Type 0 where
  pub bytes : found ≡ expected
  pub clean : failed.tally.number ≡ 0

-- this many bytes from this offset on were copied to the beginning of the borrowed slice: none only if there are none
pub record CopiesFrom (at : ℕ) (source : List ℕ) (n : ℕ) (out : List ℕ) : Type 0 where
  pub within : n ≤ length out
  pub present : n ≤ length source - at
  pub bytes : take n out ≡ take n (drop at source)
  pub ended : n ≡ 0 → 0 < length out → length source ≤ at
