-- What the command `info` prints, and why it fails.
use Rattle.std.specs.Prelude.{◌≡◌, ◌<◌, ◌-◌, ◌⊎◌, ℕ, List, length, Some, Bool, true, false, IsTrue, ◌&&◌}
use Rattle.std.specs.Prelude.{Result, Ok, Err, option_map}
use Rattle.sys_disk.specs.Counts.{Cause, call, reading}
use Rattle.sys_disk.specs.World.{World}
use Rattle.sys_refusals.specs.declared.refusal.HostFault.{HostFault}
use Rattle.sys_refusals.specs.declared.refusal.HostFault.TheVariants as hosts
use Rattle.sys_report.specs.Shows.{CannotPrint, ShowsHere}
use Rattle.sys_report.specs.declared.report.Report.{Report}
use Rattle.abt_sections.specs.declared.checking.Verdict.{Verdict}
use Rattle.abt_sections.specs.declared.fault.SectionFault.{SectionFault}
use Rattle.abt_sections.specs.declared.fault.SectionFault.TheVariants as sections
use Rattle.abt_sections.specs.Canonical.{StartsAsPacked}
use Rattle.abt_sections.specs.Check.{padding_holds, IdHolds, IsVerdict, offset_holds}
use Rattle.abt_sections.specs.Header.{Header}
use Rattle.abt_sections.specs.Open.{HasImage, RefusedAs}
use Rattle.cmd_common_findings.specs.Finding.{first_unpadded}
use Rattle.cmd_common_findings.specs.LeftOut.{end_of}
use Rattle.cmd_common_findings.specs.ReasonLines.{lines_of, printed}
use Rattle.cmd_common_findings.specs.Reasons.{ReasonsAre}
use Rattle.cmd_common_findings.specs.declared.reasons.Findings.{Findings}
use Rattle.cmd_common_findings.specs.declared.reasons.Reason.TheVariants.{Byte}
use Rattle.cmd_common_boot.specs.declared.fault.BootCommandFault.{BootCommandFault}
use Rattle.cmd_common_boot.specs.declared.fault.BootCommandFault.TheVariants as faults
use Rattle.cmd_common_texts.specs.Info.{Reports}
use Rattle.cmd_common_texts.specs.declared.info_lines.Notation.{Notation}
use Rattle.cmd_common_texts.specs.declared.info_lines.Notation.TheVariants as notations

abbrev pub notation_of : Bool → Notation
notation_of true = notations.Hexadecimal
notation_of false = notations.Decimal

-- all four answers of the check are yes
abbrev pub is_good : Verdict → Bool
is_good v = v.canonical && v.padding && v.id && v.offset

-- x begins with exactly what packing writes, and each rule of the check holds of the image with the header h
pub record IsSound (x : List ℕ) (h : Header) : Type 0 where
  pub packed : StartsAsPacked x
  pub padding : padding_holds x h ≡ true
  pub id : IdHolds x h
  pub offset : offset_holds h ≡ true

-- x begins with an image of which that is so
abbrev pub IsSoundImage : List ℕ → Type 0
IsSoundImage x = (h : Header) × HasImage x h × IsSound x h

-- or with one of which it isn't
abbrev pub IsFlawedImage : List ℕ → Type 0
IsFlawedImage x = (h : Header) × HasImage x h × (IsSound x h → ⊥)

-- the text of the image x went to standard output, and nothing to standard error, before whatever else was printed
pub record TellsText (o : Notation) (x : List ℕ) (old new : Report) : Type 0 where
  pub between : Report
  pub alone : between ≡ record old { out = between.out }
  pub text : Reports o x old.out.log.state.bytes between.out.log.state.bytes

-- What a check finds of the image x: each answer that is no has a reason, and no other has one. The reason of the
-- padding is the first byte that is wrong there. So many bytes follow the image.
pub record IsFoundOf (x : List ℕ) (found : Findings) : Type 0 where
  pub header : Header
  pub image : HasImage x header
  pub verdict : Verdict
  pub right : IsVerdict x header verdict
  pub reasons : ReasonsAre found verdict
  pub padding : found.padding ≡ option_map (λ n. Byte n) (first_unpadded x header)
  pub trailing : found.trailing ≡ length x - end_of header

-- the lines of what a check finds of it went out, and nothing else
pub record TellsFindings (x : List ℕ) (old new : Report) : Type 0 where
  pub found : Findings
  pub is_found : IsFoundOf x found
  pub shown : ShowsHere old new (printed (lines_of found))

-- The text of the image x was printed, and nothing else without the check. With the check the lines of what it finds
-- follow, and all answers are yes.
pub record TellsImage (o : Notation) (with_check : Bool) (x : List ℕ) (old new : Report) : Type 0 where
  pub told : TellsText o x old new
  pub alone : with_check ≡ false → told.between ≡ new
  pub checked : IsTrue with_check → TellsFindings x told.between new
  pub good : IsTrue with_check → IsSoundImage x

-- The text and these lines were printed of an image of which an answer is no.
pub record TellsFlaws (o : Notation) (x : List ℕ) (old new : Report) : Type 0 where
  pub told : TellsText o x old new
  pub checked : TellsFindings x told.between new
  pub flawed : IsFlawedImage x

-- the file at this path holds such an image
pub record TellsFile (input : List ℕ) (o : Notation) (with_check : Bool) (world : World) (old new : Report)
    : Type 0 where
  pub file : ℕ
  pub there : world.at input ≡ Some file
  pub told : TellsImage o with_check (world.holds file) old new

-- ---- why it fails

-- standard output failed
abbrev pub OutFailed : Report → Report → Type 0
OutFailed old new = old.out.faults.number < new.out.faults.number

-- the bytes x have this fault; or the source has, and a read has failed; or standard output has
abbrev pub IsInfoFault : List ℕ → Type 0 → Report → Report → SectionFault → Type 0
IsInfoFault x failed old new (sections.Read f) = failed
IsInfoFault x failed old new (sections.Write f) = OutFailed old new
IsInfoFault x failed old new sections.SourceChanged = ⊥
IsInfoFault x failed old new (sections.Header f) = RefusedAs x (sections.Header f)
IsInfoFault x failed old new (sections.Entry i) = RefusedAs x (sections.Entry i)
IsInfoFault x failed old new sections.Name = ⊥
IsInfoFault x failed old new sections.CommandLine = ⊥
IsInfoFault x failed old new (sections.SectionTruncated s) = RefusedAs x (sections.SectionTruncated s)
IsInfoFault x failed old new (sections.SectionTooLarge s) = ⊥

-- of the image x: such a fault; or its text was printed, and a line after it could not be, which has the fault `Write`,
-- or an answer is no
abbrev pub IsInfoRefusal : List ℕ → Notation → Bool → Type 0 → Report → Report → BootCommandFault → Type 0
IsInfoRefusal x o with_check failed old new (faults.Host f) =
    (f ≡ hosts.Write) × IsTrue with_check × TellsText o x old new × CannotPrint old new
IsInfoRefusal x o with_check failed old new (faults.Section f) = IsInfoFault x failed old new f
IsInfoRefusal x o with_check failed old new (faults.OptionNotCarried name) = ⊥
IsInfoRefusal x o with_check failed old new (faults.BadFragment word) = ⊥
IsInfoRefusal x o with_check failed old new (faults.BadNumber word) = ⊥
IsInfoRefusal x o with_check failed old new (faults.BadBoardId word) = ⊥
IsInfoRefusal x o with_check failed old new faults.CheckFailed = IsTrue with_check × TellsFlaws o x old new

-- of the check alone, which had this verdict: `failed` is a read, `changed` what was read, and `unprinted` a line
abbrev pub IsCheckRefusal : Verdict → Type 0 → Type 0 → Type 0 → BootCommandFault → Type 0
IsCheckRefusal v failed changed unprinted (faults.Host f) = (f ≡ hosts.Write) × unprinted
IsCheckRefusal v failed changed unprinted (faults.Section (sections.Read f)) = failed
IsCheckRefusal v failed changed unprinted (faults.Section sections.SourceChanged) = changed
IsCheckRefusal v failed changed unprinted (faults.Section f) = ⊥
IsCheckRefusal v failed changed unprinted (faults.OptionNotCarried name) = ⊥
IsCheckRefusal v failed changed unprinted (faults.BadFragment word) = ⊥
IsCheckRefusal v failed changed unprinted (faults.BadNumber word) = ⊥
IsCheckRefusal v failed changed unprinted (faults.BadBoardId word) = ⊥
IsCheckRefusal v failed changed unprinted faults.CheckFailed = is_good v ≡ false

-- a check ended: it is done, or an answer is no
abbrev pub IfChecked : {F : Type 0} → (F → BootCommandFault) → Result (Unit {0}) F → Type 0 → Type 0
IfChecked fault_of (Ok done) then = then
IfChecked fault_of (Err refusal) then = fault_of refusal ≡ faults.CheckFailed → then

-- the fault of a call of the disk, which has failed
abbrev pub IsFailedHost : (Cause → Type 0) → BootCommandFault → Type 0
IsFailedHost failed fault = (host : HostFault) × (fault ≡ faults.Host host) × failed (call host)

-- Of the file at this path: a fault of what it holds, or of reading it, and then a read has failed; or it could not be
-- opened.
abbrev pub RefusesInfo : List ℕ → Notation → Bool → World → (Cause → Type 0) → Report → Report → BootCommandFault
    → Type 0
RefusesInfo path o with_check world failed old new fault = IsFailedHost failed fault ⊎ ((file : ℕ)
    × (world.at path ≡ Some file)
    × IsInfoRefusal (world.holds file) o with_check (failed reading) old new fault)
