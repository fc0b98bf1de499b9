-- Files that are opened for reading, one after another.
use Rattle.std.specs.Prelude.{◌≡◌, ℕ, List, ◌++◌, Some, Contains, Bool, IsTrue, Result, IfOk, IfErr, OnOk}
use Rattle.std.specs.Str.{IsUtf8}
use Rattle.sys_disk.specs.Counts.{call, failure_of}
use Rattle.sys_disk.specs.DiskCalls.{FailsOnly}
use Rattle.sys_disk.specs.World.{World, OpenFiles, HasFailed, OpensFile}
use Rattle.sys_refusals.specs.declared.refusal.HostFault.{HostFault}
use Rattle.sys_refusals.specs.declared.refusal.HostFault.TheVariants as hosts
use Rattle.sys_refusals.specs.declared.refusal.HostRefusal.{HostRefusal}
use Rattle.cmd_pack_inputs.specs.Own.{no_path}

-- these files more are read
abbrev pub reading_all : List ℕ → OpenFiles → OpenFiles
reading_all files h = record h { read = h.read ++ files }

-- more files are read, and nothing else was opened: each file at one of the named paths is among those that are read
pub record OpensMore (named : List ℕ → Type 0) (world : World) (old new : OpenFiles) : Type 0 where
  pub files : List ℕ
  pub taken : new ≡ reading_all files old
  pub listed : (path : List ℕ) (file : ℕ) → named path → world.at path ≡ Some file → Contains new.read file

-- files may have been opened to be read: no file has changed, and the output that is open is the same
pub record OnlyOpens (held held' : OpenFiles) (old new : World) : Type 0 where
  pub world : new ≡ old
  pub output : held'.output ≡ held.output

-- why one of the files at these paths was not opened: a call of the disk returned this fault; or a path is no UTF-8; or
-- memory was refused
pub data StopsOpening (named : List ℕ → Type 0) (old new : OpenFiles) (fault : HostFault) : Type 0 where
  failed : HasFailed (call fault) old new → StopsOpening named old new fault
  no_text : (path : List ℕ) → named path → ¬ IsUtf8 path → fault ≡ hosts.CannotOpen → StopsOpening named old new fault
  no_memory : fault ≡ hosts.Memory → HasFailed (call hosts.Memory) old new → StopsOpening named old new fault

-- ---- what a call that opens them does, whatever the result, where the disk models its files

-- the file at this path is opened, and has not failed yet; nothing else is opened, and no file has changed
pub record OpensOne {X F : Type 0} (models : Bool) (r : Result X F) (path : List ℕ) (its_content : X → List ℕ)
    (its_faults : X → ℕ) (h h' : OpenFiles) (old new : World) : Type 0 where
  pub opened : IsTrue models → IfOk r (λ x. OpensFile old path (its_content x) h h')
  pub unread : IsTrue models → IfOk r (λ x. its_faults x ≡ 0)
  pub keeps : IsTrue models → OnlyOpens h h' old new

-- files at these paths are opened, of which none has failed yet: `before` counts the faults of what was open before;
-- or one of them is not opened; no file has changed
pub record OpensEach {X : Type 0} (models : Bool) (r : Result X HostRefusal) (named : List ℕ → Type 0)
    (its_faults : X → ℕ) (before : ℕ) (h h' : OpenFiles) (old new : World) : Type 0 where
  pub unread : IsTrue models → IfOk r (λ x. its_faults x ≡ before)
  pub opened : IsTrue models → OnOk r (OpensMore named old h h')
  pub refused : IsTrue models → IfErr r (λ refusal. StopsOpening named h h' refusal.fault)
  pub keeps : IsTrue models → OnlyOpens h h' old new

-- a part of what is already open is opened; its bytes satisfy `Holds`, and it has not failed yet; or opening it fails
pub record OpensAgain {P : Type 0} (models : Bool) (r : Result P HostRefusal) (Holds : List ℕ → Type 0)
    (its_content : P → List ℕ) (its_faults : P → ℕ) (h h' : OpenFiles) (old new : World) : Type 0 where
  pub part : IsTrue models → IfOk r (λ p. Holds (its_content p))
  pub unread : IsTrue models → IfOk r (λ p. its_faults p ≡ 0)
  pub fails : FailsOnly models (failure_of r) h h' old new

-- the same for several parts, which have no paths
pub record OpensOwn {X : Type 0} (models : Bool) (r : Result X HostRefusal) (its_faults : X → ℕ) (before : ℕ)
    (h h' : OpenFiles) (old new : World) : Type 0 where
  pub unread : IsTrue models → IfOk r (λ x. its_faults x ≡ before)
  pub held : IsTrue models → OnOk r (h' ≡ h)
  pub refused : IsTrue models → IfErr r (λ refusal. StopsOpening no_path h h' refusal.fault)
  pub keeps : IsTrue models → OnlyOpens h h' old new
