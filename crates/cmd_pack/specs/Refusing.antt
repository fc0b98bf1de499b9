-- Why the commands `pack` and `repack` fail: each fault has its cause.
use Rattle.std.specs.Prelude.{◌≡◌, ℕ, List, length, Some}
use Rattle.std.specs.Str.{IsUtf8}
use Rattle.sys_disk.specs.World.{World, OpenFiles, HasFailed}
use Rattle.sys_refusals.specs.declared.refusal.HostFault.TheVariants as hosts
use Rattle.abt_sections.specs.Fields.{BootFields}
use Rattle.abt_sections.specs.declared.fault.SectionFault.{SectionFault}
use Rattle.cmd_common_boot.specs.Given.{AreGiven, no_fields}
use Rattle.cmd_common_boot.specs.Wrong.{IsWrong}
use Rattle.cmd_common_boot.specs.declared.fault.BootCommandFault.{BootCommandFault}
use Rattle.cmd_common_boot.specs.declared.fault.BootCommandFault.TheVariants as faults
use Rattle.cmd_common_boot.specs.declared.pack_command.PackCommand.{PackCommand}
use Rattle.cmd_pack_outputs.specs.Contents.{Packing, refusal_from}
use Rattle.cmd_pack.specs.Packing.{AreAskedFor, board_id_words, asked_kind}
use Rattle.cmd_pack_inputs.specs.Parts.{IsGivenPath}
use Rattle.cmd_common_boot.specs.Fault.{IsFailure, LacksMemory}
use Rattle.cmd_pack_inputs.specs.BadBoards.{IsBadBoard}

-- why an image is not filled: one of its files was not opened, or a board id is wrong
pub data StopsFilling (named : List ℕ → Type 0) (words : List (List ℕ)) (count : ℕ) (held held' : OpenFiles)
    (fault : BootCommandFault) : Type 0 where
  unopened : IsFailure fault (λ cause. HasFailed cause held held') → StopsFilling named words count held held' fault
  no_text : (path : List ℕ) → named path → ¬ IsUtf8 path → fault ≡ faults.Host hosts.CannotOpen
      → StopsFilling named words count held held' fault
  no_memory : LacksMemory fault (λ cause. HasFailed cause held held') → StopsFilling named words count held held' fault
  wrong_board : IsBadBoard words count fault → StopsFilling named words count held held' fault

-- packing what the arguments describe fails, because of these fields and of the sizes of the parts
pub record IsNotPacked (command : PackCommand) (world : World) (f : SectionFault) : Type 0 where
  pub given : BootFields
  pub are_given : AreGiven no_fields (asked_kind command) command.page command.texts.options.items given
  pub packing : Packing
  pub asked : AreAskedFor command world given packing
  pub refused : refusal_from (asked_kind command) packing ≡ Some f

-- Why `pack` fails, with these worlds before and after it. Done states that everything was done.
pub data RefusesPack (command : PackCommand) (old new : World) (held held' : OpenFiles) (Done : Type 0)
    (fault : BootCommandFault) : Type 0 where
  -- the arguments are wrong, before anything is opened
  wrong_words : IsWrong no_fields (asked_kind command) command.texts.options.items command.texts.fragments.items fault
      → held' ≡ held → new ≡ old → RefusesPack command old new held held' Done fault
  -- a board id is, before OUT is opened
  bad_board : IsBadBoard (board_id_words command) (length command.texts.fragments.items) fault → new ≡ old
      → RefusesPack command old new held held' Done fault
  -- packing fails, before OUT is opened
  not_packed : (f : SectionFault) → fault ≡ faults.Section f → IsNotPacked command old f → new ≡ old
      → RefusesPack command old new held held' Done fault
  -- a path is no UTF-8, before OUT is opened
  no_path : (path : List ℕ) → IsGivenPath command.texts (asked_kind command) path → ¬ IsUtf8 path
      → fault ≡ faults.Host hosts.CannotOpen → new ≡ old → RefusesPack command old new held held' Done fault
  -- memory was refused, before OUT is opened
  too_little : LacksMemory fault (λ cause. HasFailed cause held held') → new ≡ old
      → RefusesPack command old new held held' Done fault
  -- a call of the disk has failed, or a device, and the fault is the one of that
  failed : IsFailure fault (λ cause. HasFailed cause held held') → RefusesPack command old new held held' Done fault
  -- all is done, the line could not be printed, and the fault is that of a report
  untold : fault ≡ faults.Host hosts.Write → Done → RefusesPack command old new held held' Done fault
