-- Why the command `repack` fails: each fault has its cause.
use Rattle.std.specs.Prelude.{◌≡◌, ℕ, List, length, Some}
use Rattle.std.specs.Str.{IsUtf8}
use Rattle.sys_disk.specs.Counts.{Cause}
use Rattle.sys_disk.specs.World.{World, OpenFiles, HasFailed}
use Rattle.sys_refusals.specs.declared.refusal.HostFault.TheVariants as hosts
use Rattle.abt_sections.specs.Fields.{BootFields}
use Rattle.abt_sections.specs.Header.{Header}
use Rattle.abt_sections.specs.declared.fault.SectionFault.{SectionFault}
use Rattle.abt_sections.specs.declared.spec.FragmentSpec.{FragmentSpec}
use Rattle.cmd_common_boot.specs.ImageFaults.{RefusesImage}
use Rattle.cmd_common_fields.specs.Kind.{kind_of}
use Rattle.cmd_common_boot.specs.Wrong.{IsWrong}
use Rattle.cmd_common_boot.specs.declared.fault.BootCommandFault.{BootCommandFault}
use Rattle.cmd_common_boot.specs.declared.fault.BootCommandFault.TheVariants as faults
use Rattle.cmd_common_boot.specs.declared.pack_command.PackCommand.{PackCommand}
use Rattle.cmd_pack_outputs.specs.Contents.{Packing, refusal_from}
use Rattle.cmd_pack_inputs.specs.Own.{own_fields}
use Rattle.cmd_pack.specs.Packing.{board_id_words}
use Rattle.cmd_pack_inputs.specs.Parts.{IsGivenPath}
use Rattle.cmd_pack_inputs.specs.BadBoards.{IsBadBoard}
use Rattle.cmd_pack.specs.Repacking.{AreAskedAgain, AreFieldsAgain, AreFragmentsAgain, BeginsWith}
use Rattle.cmd_common_boot.specs.Fault.{IsFailure, LacksMemory}

-- the arguments are wrong for an image with this header
abbrev pub IsWrongAgain : PackCommand → Header → BootCommandFault → Type 0
IsWrongAgain command h fault =
    IsWrong (own_fields h) (kind_of h) command.texts.options.items command.texts.fragments.items fault

-- an argument of `--board-id` is wrong for the fragments that are packed
pub record IsBadBoardAgain (command : PackCommand) (world : World) (x : List ℕ) (h : Header) (fault : BootCommandFault)
    : Type 0 where
  pub said : List FragmentSpec
  pub ramdisks : List (List ℕ)
  pub fragments : AreFragmentsAgain world command.texts.fragments.items x h said ramdisks
  pub bad : IsBadBoard (board_id_words command) (length said) fault

-- packing what the arguments describe fails, of the image x: because of these fields and of the sizes of the parts
pub record IsNotRepacked (command : PackCommand) (world : World) (x : List ℕ) (h : Header) (f : SectionFault) : Type 0
  where
    pub given : BootFields
    pub are_given : AreFieldsAgain command h given
    pub packing : Packing
    pub asked : AreAskedAgain command world x h given packing
    pub refused : refusal_from (kind_of h) packing ≡ Some f

-- why an image x with this header is not packed again. Failed states which calls and devices have failed, Done that
-- everything was done.
pub data RefusesAgain (command : PackCommand) (x : List ℕ) (h : Header) (old new : World) (Failed : Cause → Type 0)
    (Done : Type 0) (fault : BootCommandFault) : Type 0 where
  -- an argument is wrong, before OUT is opened
  wrong_words : IsWrongAgain command h fault → new ≡ old → RefusesAgain command x h old new Failed Done fault
  wrong_board : IsBadBoardAgain command old x h fault → new ≡ old
      → RefusesAgain command x h old new Failed Done fault
  -- packing fails, before OUT is opened
  not_packed : (f : SectionFault) → fault ≡ faults.Section f → IsNotRepacked command old x h f → new ≡ old
      → RefusesAgain command x h old new Failed Done fault
  -- a path is no UTF-8, before OUT is opened
  no_text : (path : List ℕ) → IsGivenPath command.texts (kind_of h) path → ¬ IsUtf8 path
      → fault ≡ faults.Host hosts.CannotOpen → new ≡ old → RefusesAgain command x h old new Failed Done fault
  -- memory was refused, before OUT is opened
  no_memory : LacksMemory fault Failed → new ≡ old → RefusesAgain command x h old new Failed Done fault
  -- a call of the disk has failed, or a device, and the fault is the one of that
  failed : IsFailure fault Failed → RefusesAgain command x h old new Failed Done fault
  -- all is done, the line could not be printed, and the fault is that of a report
  untold : fault ≡ faults.Host hosts.Write → Done → RefusesAgain command x h old new Failed Done fault

-- Why `repack` fails: IN could not be read or is no image, before anything is opened for writing; or the contents of
-- its file are not packed again.
pub data RefusesRepack (input : List ℕ) (command : PackCommand) (old new : World) (held held' : OpenFiles)
    (Done : Type 0)
    (fault : BootCommandFault) : Type 0 where
  no_image : RefusesImage input old (λ cause. HasFailed cause held held') ⊥ fault → new ≡ old
      → RefusesRepack input command old new held held' Done fault
  not_again : (x : List ℕ) (h : Header) → BeginsWith input old x h
      → RefusesAgain command x h old new (λ cause. HasFailed cause held held') Done fault
      → RefusesRepack input command old new held held' Done fault

-- ---- on the way

-- why the data from which an image is packed again is incomplete: a call failed, a path is no UTF-8, memory was
-- refused, or a board id is wrong
pub data StopsFillingAgain (command : PackCommand) (world : World) (x : List ℕ) (h : Header) (Failed : Cause → Type 0)
    (fault : BootCommandFault) : Type 0 where
  unopened : IsFailure fault Failed → StopsFillingAgain command world x h Failed fault
  not_text : (path : List ℕ) → IsGivenPath command.texts (kind_of h) path → ¬ IsUtf8 path
      → fault ≡ faults.Host hosts.CannotOpen → StopsFillingAgain command world x h Failed fault
  no_space : LacksMemory fault Failed → StopsFillingAgain command world x h Failed fault
  bad_board : IsBadBoardAgain command world x h fault → StopsFillingAgain command world x h Failed fault
