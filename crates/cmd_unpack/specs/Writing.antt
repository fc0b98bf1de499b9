-- What writing parts of an image leaves of its source and of the disk.
use Rattle.std.specs.Prelude.{◌≡◌, ℕ, Bool, IsTrue, List, Result, OnOk}
use Rattle.abt_io.specs.declared.device.Source as sources
use Rattle.sys_disk.specs.World.{World, OpenFiles, Ends, MayWrite, SparesRest}
use Rattle.sys_disk.specs.Among.{GoesAmong, KeepsMade}
use Rattle.cmd_common_boot.specs.ImageFaults.{NoMoreFailed}
use Rattle.cmd_unpack.specs.Unpacking.{SyncsMore}

-- the same devices are in use, and may be written or not
pub record KeepsInUse (old new : OpenFiles) : Type 0 where
  pub in_use : new.in_use ≡ old.in_use
  pub allows : new.allows_mounted ≡ old.allows_mounted

-- Files of these names were written, and no others were changed. Each is at a path that may be written. Files that were
-- begun before are kept. After an Ok the source holds what it held, this many outputs more were synced, and no call
-- failed.
pub record WritesParts {X E : Type 0} (r : Result X E) (n : ℕ) (Named : List ℕ → Type 0) {A : Type 0}
    (s : sources.Ghosts A) (source source' : A) (held held' : OpenFiles) (old new : World) : Type 0 where
  pub content : OnOk r (s.content source' ≡ s.content source)
  pub keeps : KeepsMade held held' old new
  pub only : GoesAmong Named held held' old new
  pub allowed : GoesAmong (λ path. Named path × MayWrite path held) held held' old new
  pub guards : KeepsInUse held held'
  pub synced : OnOk r (SyncsMore n held held')
  pub clean : OnOk r (NoMoreFailed held (s.read_faults source) held' (s.read_faults source'))

-- After an Ok the open output holds these bytes. All other files are as they were, whatever the result.
pub record EndsPart {X E : Type 0} (models : Bool) (r : Result X E) (bytes : List ℕ) (held : OpenFiles)
    (old new : World)
    : Type 0 where
  pub ended : IsTrue models → OnOk r (Ends held.output bytes old new)
  pub rest : IsTrue models → SparesRest held.output old new
