-- What one call of a disk does, whatever it returns, as far as the disk models its files. Each record is over the
-- disk's model of its files and of what was opened, before the call and after it, and over the model of the device that
-- was opened.
use Rattle.std.specs.Prelude.{◌≡◌, ℕ, ◌+◌, List, [], None, Bool, IsTrue, Result, IfOk, IfErr, OnOk, OnErr, is_ok, false}
use Rattle.std.specs.Prelude.{replicate}
use Rattle.abt_io.specs.Moment.{Past, past_of_file}
use Rattle.sys_disk.specs.Images.{Leaves}
use Rattle.sys_disk.specs.InPlace.{OpensPart, MakesPlace}
use Rattle.sys_disk.specs.Spools.{OpensSpool}
use Rattle.sys_disk.specs.World.{World, OpenFiles, OpensFile, Creates, OnlyAt, KeepsBegun, KeepsFile, IsFree, Ends}
use Rattle.sys_disk.specs.Counts.{Counts, HasNone, added, call_of, failure_of}
use Rattle.sys_disk.specs.World.{SparesInUse, SparesRest, HasNotFailed, HoldsMost, counting, number_of}
use Rattle.sys_refusals.specs.declared.refusal.HostRefusal.{HostRefusal}
use Rattle.sys_disk.specs.World as worlds

-- a file is opened to be read, or the call fails; no file has changed
pub record OpensToRead {A : Type 0} (models : Bool) (r : Result A HostRefusal) (path : List ℕ)
    (its_content : A → List ℕ) (its_given its_faults : A → ℕ) (h h' : OpenFiles) (before after : World) : Type 0
  where
    pub opened : IsTrue models → IfOk r (λ a. OpensFile before path (its_content a) h h')
    pub clean : IsTrue models → IfOk r (λ a. its_faults a ≡ 0)
    pub unread : IsTrue models → IfOk r (λ a. its_given a ≡ 0)
    pub kept : IsTrue models → IfErr r (λ refusal. h' ≡ counting (call_of refusal.fault) h)
    pub world : IsTrue models → after ≡ before

-- this much more is counted, and no file has changed
pub record FailsOnly (models : Bool) (n : Counts) (h h' : OpenFiles) (before after : World) : Type 0 where
  pub held : IsTrue models → h' ≡ counting n h
  pub world : IsTrue models → after ≡ before

-- no file that is read or was begun is at this path, or the call fails
pub record RefusesTaken {A : Type 0} (models : Bool) (r : Result A HostRefusal) (path : List ℕ) (h h' : OpenFiles)
    (before after : World) : Type 0 where
  pub free : IsTrue models → OnOk r (IsFree path h before)
  pub held : IsTrue models → h' ≡ counting (failure_of r) h
  pub world : IsTrue models → after ≡ before

-- a file is opened to be written in place, or the call fails; no file has changed
pub record OpensInPlace {A : Type 0} (models : Bool) (r : Result A HostRefusal) (path : List ℕ)
    (its_content : A → List ℕ) (its_past : A → Past) (its_faults : A → ℕ) (h h' : OpenFiles) (before after : World)
    : Type 0 where
  pub opened : IsTrue models → IfOk r (λ a. OpensPart before path (its_content a) h h')
  pub past : IsTrue models → IfOk r (λ a. its_past a ≡ past_of_file (number_of h'.part))
  pub clean : IsTrue models → IfOk r (λ a. its_faults a ≡ 0)
  pub kept : IsTrue models → IfErr r (λ refusal. h' ≡ counting (call_of refusal.fault) h)
  pub world : IsTrue models → after ≡ before

-- a file of this many zeros is made, to be written in place, or the call fails: then only the file at this path may
-- hold anything else
pub record MakesPart {A : Type 0} (models : Bool) (r : Result A HostRefusal) (n : ℕ) (path : List ℕ)
    (its_content : A → List ℕ) (its_past : A → Past) (its_faults : A → ℕ) (h h' : OpenFiles) (before after : World)
    : Type 0 where
  pub made : IsTrue models → OnOk r (MakesPlace path h h' before after)
  pub zeros : IsTrue models → IfOk r (λ a. its_content a ≡ replicate n 0)
  pub past : IsTrue models → IfOk r (λ a. its_past a ≡ past_of_file (number_of h'.part))
  pub clean : IsTrue models → IfOk r (λ a. its_faults a ≡ 0)
  pub kept : IsTrue models → IfErr r (λ refusal. h' ≡ counting (call_of refusal.fault) h)
  pub only : IsTrue models → OnErr r (OnlyAt h.read path before after)
  pub begun : IsTrue models → OnErr r (KeepsBegun h.begun before after)
  pub guarded : IsTrue models → OnErr r (SparesInUse path h before after)

-- pieces of this many bytes go through the file at this path, which keeps its pages or does not, or the call fails in
-- the same way
pub record OpensThrough {A : Type 0} (models : Bool) (r : Result A HostRefusal) (n : ℕ) (keeping : Bool) (path : List ℕ)
    (its_size : A → ℕ) (its_written its_cuts : A → List ℕ) (its_faults : A → ℕ) (h h' : OpenFiles)
    (before after : World)
    : Type 0 where
  pub capacity : IfOk r (λ a. its_size a ≡ n)
  pub empty : IsTrue models → IfOk r (λ a. its_written a ≡ [])
  pub uncut : IsTrue models → IfOk r (λ a. its_cuts a ≡ [])
  pub clean : IsTrue models → IfOk r (λ a. its_faults a ≡ 0)
  pub opened : IsTrue models → OnOk r (OpensSpool keeping path h h' before after)
  pub kept : IsTrue models → IfErr r (λ refusal. h' ≡ counting (call_of refusal.fault) h)
  pub only : IsTrue models → OnErr r (OnlyAt h.read path before after)
  pub begun : IsTrue models → OnErr r (KeepsBegun h.begun before after)
  pub guarded : IsTrue models → OnErr r (SparesInUse path h before after)

-- the file at this path is the open output, or the call fails in the same way
pub record CreatesOutput {A : Type 0} (models : Bool) (r : Result A HostRefusal) (path : List ℕ)
    (its_written : A → List ℕ) (its_file its_faults : A → ℕ) (h h' : OpenFiles) (before after : World) : Type 0 where
  pub empty : IfOk r (λ a. its_written a ≡ [])
  pub clean : IsTrue models → IfOk r (λ a. its_faults a ≡ 0)
  pub this : IsTrue models → IfOk r (λ a. its_file a ≡ number_of h'.output)
  pub created : IsTrue models → OnOk r (Creates path h h' before after)
  pub kept : IsTrue models → IfErr r (λ refusal. h' ≡ counting (call_of refusal.fault) h)
  pub only : IsTrue models → OnErr r (OnlyAt h.read path before after)
  pub begun : IsTrue models → OnErr r (KeepsBegun h.begun before after)
  pub guarded : IsTrue models → OnErr r (SparesInUse path h before after)

-- the open output is finished, and holds these bytes, or the call fails, and it holds most of them; it returns whether
-- that is where standard output goes
pub record FinishesOutput (models : Bool) (r : Result Bool HostRefusal) (is_on_output : Bool) (bytes : List ℕ)
    (failures : Counts) (h h' : OpenFiles) (before after : World) : Type 0 where
  pub ended : IsTrue models → OnOk r (Ends h.output bytes before after)
  pub most : IsTrue models → OnErr r (HoldsMost h.output bytes after)
  pub closed : IsTrue models → h' ≡ worlds.ended (is_ok r) (added (failure_of r) failures) h
  pub rest : IsTrue models → SparesRest h.output before after
  pub stream : IsTrue models → IfOk r (λ is. is ≡ is_on_output)

-- The open output is closed, and `more` has failed, without a byte of an input. If nothing has, and no write had, the
-- file holds these bytes. Whatever has, it holds most of them.
pub record LetsGo (bytes : List ℕ) (failures : Counts) (h h' : OpenFiles) (before after : World) : Type 0 where
  pub more : Counts
  pub unread : more.given ≡ 0
  pub closed : h' ≡ worlds.ended false (added more failures) h
  pub rest : SparesRest h.output before after
  pub left : HasNone (added more failures) → Ends h.output bytes before after
  pub most : HoldsMost h.output bytes after

-- and it holds these bytes, or has no magic at its beginning
pub record LetsImageGo (models : Bool) (bytes : List ℕ) (failures : Counts)
    (h h' : OpenFiles) (before after : World) :
    Type 0
  where
    pub left : IsTrue models → Leaves h.output bytes after
    pub closed : IsTrue models → h' ≡ worlds.ended false failures h
    pub rest : IsTrue models → SparesRest h.output before after

-- ---- for runs of calls

-- no file has changed, and after an Ok nothing has failed
pub record LeavesAll {A F : Type 0} (models : Bool) (r : Result A F) (h h' : OpenFiles) (before after : World) : Type
    0 where
  pub world : IsTrue models → after ≡ before
  pub clean : IsTrue models → OnOk r (HasNotFailed h h')

-- the file at this path holds what it held, and after an Ok nothing has failed
pub record KeepsInput {A F : Type 0} (models : Bool) (r : Result A F) (path : List ℕ) (h h' : OpenFiles)
    (before after : World) : Type 0 where
  pub input : IsTrue models → KeepsFile path before after
  pub clean : IsTrue models → OnOk r (HasNotFailed h h')

-- nothing was opened to be written yet, and no file is written in place
pub record HasNoPart (h : OpenFiles) : Type 0 where
  pub begun : h.begun ≡ []
  pub part : h.part ≡ None
