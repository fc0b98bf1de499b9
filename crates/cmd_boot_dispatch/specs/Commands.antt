-- What a command of boot images does with the files of its arguments, what it leaves of them, and why it fails.
use Rattle.std.specs.Prelude.{◌≡◌, ◌+◌, ℕ, List, Bool, IsTrue, if◌then◌else◌}
use Rattle.sys_refusals.specs.Paths.{output_path}
use Rattle.words_orders.specs.declared.order.BootTask.{BootTask}
use Rattle.words_orders.specs.declared.order.BootTask.TheVariants as tasks
use Rattle.sys_report.specs.declared.report.Report.{Report}
use Rattle.sys_report.specs.Shows.{CannotPrint, ShowsBeside, Unprinted}
use Rattle.sys_disk.specs.Among.{OnlyAmong}
use Rattle.sys_disk.specs.World.{World, OpenFiles, HasFailed, OnlyAt, KeepsFile, MayWrite, SparesInUse}
use Rattle.cmd_common_boot.specs.declared.fault.BootCommandFault.{BootCommandFault}
use Rattle.cmd_common_boot.specs.ImageFaults.{RefusesImage}
use Rattle.cmd_unpack.specs.Lines.{ShowsEach}
use Rattle.cmd_unpack.specs.Unpacking.{IsPartOf, PartsStand, SyncsParts, Unpacks, path_of_part}
use Rattle.cmd_info.specs.Informing.{RefusesInfo, TellsFile, notation_of}
use Rattle.cmd_pack.specs.Packing.{HoldsNoPart, KeepsGiven, PacksFile}
use Rattle.cmd_pack.specs.Refusing.{RefusesPack}
use Rattle.cmd_pack.specs.RefusingAgain.{RefusesRepack}
use Rattle.cmd_pack.specs.Repacking.{HoldsNoPartAgain, KeepsRead, RepacksFile, ShowsFirst}
use Rattle.cmd_boot_dispatch.specs.Ordered.{IsCommandOf}
use Rattle.cmd_boot_dispatch.specs.declared.command.BootCommandKind.{BootCommandKind}
use Rattle.cmd_boot_dispatch.specs.declared.command.BootCommandKind.TheVariants as kinds

-- the command that a task asks for, with the bytes that its arguments encode
abbrev pub IsKindOf : BootTask → BootCommandKind → Type 0
IsKindOf (tasks.Pack order) (kinds.Pack command) = IsCommandOf order command
IsKindOf (tasks.Repack input order) (kinds.Repack from command) = (from.now ≡ input.now) × IsCommandOf order command
IsKindOf (tasks.Unpack input folder with_words) (kinds.Unpack from onto are_wanted) =
    (from.now ≡ input.now) × (onto.now ≡ folder.now) × (are_wanted ≡ with_words)
IsKindOf (tasks.Info input with_check with_hex) (kinds.Info from check hex) =
    (from.now ≡ input.now) × (check ≡ with_check) × (hex ≡ with_hex)
IsKindOf task kind = ⊥

-- one output more was synced, where that is requested
abbrev pub SyncsOne : OpenFiles → OpenFiles → Type 0
SyncsOne old new = new.syncs ≡ old.syncs + (if old.is_synced then 1 else 0)

-- ---- what is done, from one state to another, where these outputs are where standard output goes

abbrev pub DoesKind : (List ℕ → Bool) → BootCommandKind → World → OpenFiles → Report → World → OpenFiles → Report
    → Type 0
DoesKind on_output (kinds.Pack command) world held report world' held' report' =
    PacksFile command world world' (ShowsBeside (on_output (output_path command.output.now)) report report')
    × SyncsOne held held'
DoesKind on_output (kinds.Repack input command) world held report world' held' report' =
    RepacksFile input.now command world world' (ShowsFirst (on_output (output_path command.output.now)) report report')
    × SyncsOne held held'
DoesKind on_output (kinds.Unpack input folder with_words) world held report world' held' report' =
    Unpacks input.now folder.now with_words world world'
    (λ told. ShowsEach (λ part. on_output (path_of_part folder.now part)) told report report')
    × SyncsParts input.now with_words world held held'
DoesKind on_output (kinds.Info input with_check with_hex) world held report world' held' report' =
    TellsFile input.now (notation_of with_hex) with_check world report report'

-- ---- what stays, whatever the outcome: only OUT may hold anything else, or files with the parts' names, and none of
-- them where it is in use and that is not allowed

abbrev pub SparesKind : BootCommandKind → World → OpenFiles → World → OpenFiles → Type 0
SparesKind (kinds.Pack command) world held world' held' =
    OnlyAt held.read (output_path command.output.now) world world' × KeepsGiven command world world'
    × SparesInUse (output_path command.output.now) held world world'
SparesKind (kinds.Repack input command) world held world' held' =
    OnlyAt held.read (output_path command.output.now) world world' × KeepsRead input.now command world world'
    × SparesInUse (output_path command.output.now) held world world'
SparesKind (kinds.Unpack input folder with_words) world held world' held' =
    OnlyAmong (λ path. IsPartOf input.now folder.now with_words world path × MayWrite path held) held.read held'.begun
    world world' × KeepsFile input.now world world'
SparesKind (kinds.Info input with_check with_hex) world held world' held' = world' ≡ world

-- OUT of these has no part of an image, where it can be overwritten
abbrev pub LeavesNoPartOfBoot : (List ℕ → Bool) → BootCommandKind → World → World → Type 0
LeavesNoPartOfBoot over (kinds.Pack command) world world' =
    IsTrue (over (output_path command.output.now)) → HoldsNoPart command world world'
LeavesNoPartOfBoot over (kinds.Repack input command) world world' =
    IsTrue (over (output_path command.output.now)) → HoldsNoPartAgain input.now command world world'
LeavesNoPartOfBoot over (kinds.Unpack input folder with_words) world world' = Unit {0}
LeavesNoPartOfBoot over (kinds.Info input with_check with_hex) world world' = Unit {0}

-- ---- why it fails

abbrev pub RefusesKind : BootCommandFault → BootCommandKind → World → OpenFiles → Report → World → OpenFiles → Report
    → Type 0
RefusesKind fault (kinds.Pack command) world held report world' held' report' =
    RefusesPack command world world' held held' (PacksFile command world world' (Unprinted report report')) fault
RefusesKind fault (kinds.Repack input command) world held report world' held' report' =
    RefusesRepack input.now command world world' held held'
    (RepacksFile input.now command world world' (Unprinted report report')) fault
RefusesKind fault (kinds.Unpack input folder with_words) world held report world' held' report' =
    RefusesImage input.now world (λ cause. HasFailed cause held held')
    (PartsStand input.now folder.now with_words world held' world' × CannotPrint report report') fault
RefusesKind fault (kinds.Info input with_check with_hex) world held report world' held' report' =
    RefusesInfo input.now (notation_of with_hex) with_check world (λ cause. HasFailed cause held held') report report'
    fault
