-- The file to which an image is written.
use Rattle.std.specs.Prelude.{◌≡◌, ◌<◌, ◌⊎◌, ℕ, Bool, List, [], ◌∷◌, ◌++◌, length, Option, Some, None, IsTrue}
use Rattle.std.specs.Prelude.{Contains, Result, IfErr, IfOk, OnErr, OnOk, ◌+◌, if◌then◌else◌, is_ok}
use Rattle.abt_sections.specs.Cause.{MoveCause}
use Rattle.abt_sections.specs.declared.fault.SectionFault.{SectionFault}
use Rattle.sys_disk.specs.World.{ClosesOutput, Ends, HasFailed, HasNotFailed, OpenFiles, OnlyAt, Spares, SparesRest}
use Rattle.sys_disk.specs.World.{SparesInUse, World}
use Rattle.sys_refusals.specs.declared.refusal.HostFault.TheVariants as hosts
use Rattle.cmd_common_boot.specs.Parts.{IsBoot}
use Rattle.cmd_common_boot.specs.declared.fault.BootCommandFault.{BootCommandFault}
use Rattle.cmd_common_boot.specs.declared.fault.BootCommandFault.TheVariants as faults
use Rattle.cmd_pack_outputs.specs.declared.write_over.LayFault.{LayFault}
use Rattle.cmd_pack_outputs.specs.declared.write_over.LayFault.TheVariants as laying
use Rattle.cmd_pack_outputs.specs.Contents.{faults_in, refusal_in}
use Rattle.cmd_pack_outputs.specs.declared.contents.ImageContents.{ImageContents}
use Rattle.cmd_pack_outputs.specs.Lines.{image_line, counted_in_u64}
use Rattle.cmd_pack_outputs.specs.Magic.{HoldsNone}
use Rattle.cmd_common_boot.specs.Fault.{IsFailure, LacksMemory}

-- packing these sources has no fault, and `nothing` has no bytes
pub record IsAccepted {P : Type 0} (size : P → ℕ) (c : ImageContents P) : Type 0 where
  pub accepted : refusal_in size c ≡ None
  pub nothing : size c.nothing ≡ 0

-- packing these has no fault, for a boot image with nothing after it
pub record IsAcceptedAlone {P : Type 0} (size : P → ℕ) (c : ImageContents P) : Type 0 where
  pub boot : IsBoot c.kind
  pub alone : size c.trailing ≡ 0
  pub accepted : refusal_in size c ≡ None

-- an image can be written from these sources, none of which has failed yet, to an output that was not written yet
pub record IsReady {P : Type 0} (models : Bool) (size faults : P → ℕ) (c : ImageContents P) (its_written : List ℕ)
    (its_faults : ℕ) : Type 0 where
  pub sources : IsAccepted size c
  pub unread : IsTrue models → faults_in faults c ≡ 0
  pub empty : its_written ≡ []
  pub clean : IsTrue models → its_faults ≡ 0

-- An output that held x holds y. `reads` and `reads'` count the failures of the sources, before and now, `writes` and
-- `writes'` those of the output. After an Ok, y is x followed by all of these bytes, the result is their number, and
-- nothing has failed. After an Err the fault has the cause that `Moves` asks for.
pub record PacksBytes {F : Type 0} (r : Result ℕ F) (Moves : F → ℕ → ℕ → ℕ → ℕ → Type 0 → Type 0) (models : Bool)
    (bytes x y : List ℕ) (reads reads' writes writes' : ℕ) : Type 0 where
  pub written : IsTrue models → OnOk r (y ≡ x ++ bytes)
  pub number : IsTrue models → IfOk r (λ n. n ≡ counted_in_u64 (length bytes))
  pub clean : OnOk r ((reads' ≡ reads) × (writes' ≡ writes))
  pub cause : IfErr r (λ fault. Moves fault reads reads' writes writes' (IsTrue models → ⊥))

-- the output that was open holds no image, or all of these bytes
abbrev pub LeavesNoneOrAll : Option ℕ → List ℕ → World → Type 0
LeavesNoneOrAll None bytes new = Unit {0}
LeavesNoneOrAll (Some file) bytes new = HoldsNone (new.holds file) ⊎ (new.holds file ≡ bytes)

-- the cause of a fault of writing an image over a file: the magic is not written for a write that failed
abbrev pub LayCause : LayFault → ℕ → ℕ → ℕ → ℕ → Type 0 → Type 0
LayCause (laying.Packing f) reads reads' writes writes' changed = MoveCause f reads reads' writes writes' changed
LayCause laying.Magic reads reads' writes writes' changed = writes < writes'

-- the same for a file that held nothing: after an Err it holds no image
pub record LaysBytes (r : Result ℕ LayFault) (models : Bool) (bytes y : List ℕ) (reads reads' writes writes' : ℕ)
    : Type 0 where
  pub packs : PacksBytes r LayCause models bytes [] y reads reads' writes writes'
  pub broken : OnErr r (HoldsNone y)

-- the fault that is told of it
abbrev pub lay_fault : LayFault → BootCommandFault
lay_fault (laying.Packing f) = faults.Section f
lay_fault laying.Magic = faults.Host hosts.Write

-- The open output is completed and closed. After an Ok it holds these bytes. The result is their number, and whether
-- the output is where standard output goes. No other file has changed. After an Err a device or a call of the disk has
-- failed, and the fault is the one of that; a file that is overwritten holds no image, or all of these bytes.
pub record WritesBytes {F : Type 0} (r : Result (ℕ × Bool) F) (fault : F → BootCommandFault) (is_over : Bool)
    (is_on_output : Bool) (bytes : List ℕ) (held held' : OpenFiles) (old new : World) : Type 0 where
  pub ended : OnOk r (Ends held.output bytes old new)
  pub number : IfOk r (λ end. end.0 ≡ counted_in_u64 (length bytes))
  pub stream : IfOk r (λ end. end.1 ≡ is_on_output)
  pub closed : ClosesOutput (is_ok r) held held'
  pub rest : SparesRest held.output old new
  pub failed : IfErr r (λ refusal. IsFailure (fault refusal) (λ cause. HasFailed cause held held'))
  pub broken : IsTrue is_over → OnErr r (LeavesNoneOrAll held.output bytes new)

-- OUT's file is none of those that are read, and holds these bytes; no other file has changed; and the line that was
-- printed has their number
pub record LaysImage (output : List ℕ) (read bytes : List ℕ) (old new : World) (shows : List ℕ → Type 0) : Type 0 where
  pub onto : ℕ
  pub here : new.at output ≡ Some onto
  pub free : ¬ Contains read onto
  pub holds : new.holds onto ≡ bytes
  pub spares : Spares onto old new
  pub shown : shows (image_line (counted_in_u64 (length bytes)) ++ (10 ∷ []))

-- whatever the outcome, the file at this path holds what it held, or what is no image, or all of these bytes
abbrev pub HoldsNoPartOf : List ℕ → (List ℕ → Type 0) → World → World → Type 0
HoldsNoPartOf output Whole old new = (file : ℕ) → new.at output ≡ Some file → (new.holds file ≡ old.holds file)
    ⊎ (HoldsNone (new.holds file) ⊎ Whole (new.holds file))

-- What a call that writes OUT leaves, whatever the result. Only OUT may hold anything else, and not where it is in use
-- and that is not allowed. No output is open.
-- OUT's file, where it can be overwritten, has no part of an image. After an Ok no call has failed, and the output was
-- synced, where that is requested.
pub record LeavesOut {X F : Type 0} (r : Result X F) (output : List ℕ) (is_over : Bool) (Whole : List ℕ → Type 0)
    (held held' : OpenFiles) (old new : World) : Type 0 where
  pub others : OnlyAt held.read output old new
  pub guarded : SparesInUse output held old new
  pub closed : held'.output ≡ None
  pub whole : IsTrue is_over → HoldsNoPartOf output Whole old new
  pub clean : OnOk r (HasNotFailed held held')
  pub synced : OnOk r (held'.syncs ≡ held.syncs + (if held.is_synced then 1 else 0))

-- why an image is not written: packing has a fault, or memory was refused to find out, both before anything is
-- changed; or a call of the disk or a device failed; or it is `Write`, everything was done, and the line could not be
-- printed
pub data StopsWriting (refusal : Option SectionFault) (held held' : OpenFiles) (old new : World) (Done : Type 0)
    (fault : BootCommandFault) : Type 0 where
  refused : (f : SectionFault) → fault ≡ faults.Section f → refusal ≡ Some f → held' ≡ held → new ≡ old
      → StopsWriting refusal held held' old new Done fault
  no_memory : LacksMemory fault (λ cause. HasFailed cause held held') → new ≡ old
      → StopsWriting refusal held held' old new Done fault
  failed : IsFailure fault (λ cause. HasFailed cause held held')
      → StopsWriting refusal held held' old new Done fault
  untold : fault ≡ faults.Host hosts.Write → Done → StopsWriting refusal held held' old new Done fault
