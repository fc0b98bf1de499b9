-- How unpack_bootimg ends, whatever its status. It makes each of its steps on a disk of its own.
use Rattle.std.specs.Prelude.{◌≡◌, ◌≢◌, ◌<◌, ◌≤◌, ◌⊎◌, ◌++◌, ℕ, List, Some, false}
use Rattle.abt_sections.specs.Header.{Header}
use Rattle.abt_sections.specs.Open.{HasImage, IsReadFault, RefusedAs}
use Rattle.abt_sections.specs.declared.fault.SectionFault.{SectionFault}
use Rattle.abt_sections.specs.declared.fault.SectionFault.TheVariants as faults
use Rattle.sys_disk.specs.Counts.{Cause}
use Rattle.sys_disk.specs.World.{World, OpenFiles, HasFailed, HasNotFailed, KeepsFile, MayWrite}
use Rattle.sys_disk.specs.Among.{OnlyAmong}
use Rattle.sys_report.specs.Shows.{CannotPrint, IsTold}
use Rattle.sys_report.specs.declared.report.Report.{Report}
use Rattle.sys_host.specs.Answering.{PrintsNothing}
use Rattle.words_tools.specs.declared.unpack_bootimg.UnpackImage.{UnpackImage}
use Rattle.words_tools.specs.declared.unpack_bootimg.UnpackText.{UnpackText}
use Rattle.words_tools.specs.declared.unpack_bootimg.UnpackText.TheVariants as asked
use Rattle.cmd_common_boot.specs.declared.fault.BootCommandFault.{BootCommandFault}
use Rattle.cmd_unpack_aosp.specs.AospFiles.{IsFileOf, RefusesUnpack, UnpacksAsAosp}
use Rattle.cmd_unpack_aosp_texts.specs.Texts.{aosp_text}
use Rattle.cmd_unpack_aosp_texts.specs.declared.options.Ending.TheVariants as endings
use Rattle.cmd_unpack_aosp_texts.specs.declared.text.AospText.{AospText}
use Rattle.cmd_unpack_aosp_texts.specs.declared.text.AospText.TheVariants as texts
use Rattle.abootimg.specs.OrderDone.{IsReadyForOrder}
use Rattle.abootimg.specs.Stored.{KeepsStored, NothingFails, SomeFails, Stored}

-- ---- what is printed

-- the text that is asked for
abbrev pub text_wanted : UnpackText → AospText
text_wanted asked.Info = texts.Info
text_wanted asked.Words = texts.Words endings.Blank
text_wanted asked.ZeroWords = texts.Words endings.Zero

-- x begins with an image, and exactly its text went to standard output
pub record PrintsText (image : UnpackImage) (x : List ℕ) (old new : Report) : Type 0 where
  pub header : Header
  pub has : HasImage x header
  pub printed : new.out.log.state.bytes
      ≡ old.out.log.state.bytes ++ aosp_text (text_wanted image.text) image.folder.now x header

-- the same of what the image's file holds
pub record PrintsTextOf (image : UnpackImage) (world : World) (old new : Report) : Type 0 where
  pub file : ℕ
  pub there : world.at image.input.now ≡ Some file
  pub prints : PrintsText image (world.holds file) old new

-- why it is not: a read has failed, or standard output has; or x is no image
abbrev pub TextCause : SectionFault → List ℕ → ℕ → ℕ → Report → Report → Type 0
TextCause (faults.Read f) x r r' old new = r < r'
TextCause (faults.Write f) x r r' old new = CannotPrint old new
TextCause fault x r r' old new = RefusedAs x fault

-- ---- the steps

-- A step that changes no file: the image is looked at, a folder is made, or links are. If it is done, it prints
-- nothing, and nothing has failed.
pub record StepStays (a : Stored) (report : Report) (z : Stored) (report' : Report) (status : ℕ) : Type 0 where
  pub kept : KeepsStored a z
  pub status_is : status ≤ 1
  pub quiet : status ≡ 0 → PrintsNothing report report'
  pub clean : status ≡ 0 → NothingFails a z

-- no image is at a path, for a fault of what its file holds
pub record HoldsNoImage (path : List ℕ) (world : World) : Type 0 where
  pub file : ℕ
  pub there : world.at path ≡ Some file
  pub fault : SectionFault
  pub unread : IsReadFault fault → ⊥
  pub refused : RefusedAs (world.holds file) fault

-- why the links or the text are refused: a call has failed, or a read; no image is there; or the text can't be printed,
-- and after that nothing goes to standard output
pub data WhyRefused (image : UnpackImage) (a : Stored) (report : Report) (z : Stored) (report' : Report) : Type 0 where
  failed : SomeFails a z → WhyRefused image a report z report'
  no_image : HoldsNoImage image.input.now z.world → WhyRefused image a report z report'
  unprinted : (told : Report) → CannotPrint report told → IsTold told report' → WhyRefused image a report z report'

-- the command refuses the parts, for a fault of the image or since a call failed
pub record PartsRefused (image : UnpackImage) (world : World) (held held' : OpenFiles) : Type 0 where
  pub fault : BootCommandFault
  pub refuses : RefusesUnpack image.input.now world (λ cause. HasFailed cause held held') fault

-- how the parts are written, on a disk
pub record PartsOn (image : UnpackImage) (world : World) (held : OpenFiles) (world' : World) (held' : OpenFiles)
    (status : ℕ) : Type 0 where
  -- status 0: each part is stored in its file, and nothing has failed
  pub done : status ≡ 0 → UnpacksAsAosp image.input.now image.folder.now world world'
  pub clean : status ≡ 0 → HasNotFailed held held'
  -- else, which is status 1, the command refuses them
  pub status_is : status ≤ 1
  pub refused : status ≢ 0 → PartsRefused image world held held'
  -- whatever the status, only files of parts were created or changed, at paths that may be written, and the image's
  -- file holds what it held
  pub only : OnlyAmong (λ path. IsFileOf image.input.now image.folder.now world path × MayWrite path held) held.read
      held'.begun world world'
  pub keeps : KeepsFile image.input.now world world'

-- The same on a disk of their own, on which nothing was open, and which may write no device in use. What has failed on
-- it has failed in the run.
pub record PartsEnd (image : UnpackImage) (a z : Stored) (status : ℕ) : Type 0 where
  pub held : OpenFiles
  pub held' : OpenFiles
  pub ready : IsReadyForOrder held
  pub in_use : held.in_use ≡ a.in_use
  pub unallowed : held.allows_mounted ≡ false
  pub from : (cause : Cause) → a.counts.failed cause ≤ held.counts.failed cause
  pub upto : (cause : Cause) → held'.counts.failed cause ≤ z.counts.failed cause
  pub parts : PartsOn image a.world held z.world held' status

-- the text is printed, and nothing has failed; or that is refused with status 1
pub record TextStep (image : UnpackImage) (a : Stored) (report : Report) (z : Stored) (report' : Report)
    (status : ℕ) : Type 0 where
  pub kept : KeepsStored a z
  pub status_is : status ≤ 1
  pub printed : status ≡ 0 → PrintsTextOf image a.world report report'
  pub clean : status ≡ 0 → NothingFails a z
  pub refused : status ≢ 0 → WhyRefused image a report z report'

-- ---- all of it

-- The parts were begun. If they are refused, that is the status, and no file changes any more. If they are stored, the
-- links are made and the text is printed, or one of these is refused: no file changes any more then, either.
pub record UnpackBegun (image : UnpackImage) (a : Stored) (report : Report) (z : Stored) (report' : Report)
    (status : ℕ) : Type 0 where
  pub parts_status : ℕ
  pub parts : PartsEnd image a z parts_status
  pub stops : parts_status ≢ 0 → status ≡ parts_status
  pub behind : parts_status ≡ 0 → status ≢ 0 → WhyRefused image a report z report'

pub record UnpackEnds (image : UnpackImage) (a : Stored) (report : Report) (z : Stored) (report' : Report)
    (status : ℕ) : Type 0 where
  -- status 0: each part is stored in its file, the text of the image was printed, and nothing has failed
  pub done : status ≡ 0 → UnpacksAsAosp image.input.now image.folder.now a.world z.world
  pub printed : status ≡ 0 → PrintsTextOf image a.world report report'
  pub clean : status ≡ 0 → NothingFails a z
  -- else it is 1
  pub status_is : status ≤ 1
  -- no part was begun, so every file is as before, and the status is not 0; or the parts were begun
  pub ends : ((z.world ≡ a.world) × (status ≢ 0)) ⊎ UnpackBegun image a report z report' status
