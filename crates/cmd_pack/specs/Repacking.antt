-- What the command `repack` leaves of files, and what it prints.
use Rattle.std.specs.Prelude.{◌≡◌, ◌≢◌, ◌⊎◌, ℕ, List, [], ◌∷◌, ◌++◌, length, map, Some}
use Rattle.std.specs.Prelude.{Bool, Contains, IsTrue}
use Rattle.std.specs.List.{All}
use Rattle.sys_refusals.specs.Paths.{output_path}
use Rattle.abt_sections.specs.Fields.{BootFields}
use Rattle.abt_sections.specs.Header.{Header, fragment_count, view_of}
use Rattle.abt_sections.specs.Open.{HasImage, IsOpened}
use Rattle.abt_sections.specs.declared.spec.FragmentSpec.{FragmentSpec}
use Rattle.sys_disk.specs.World.{World, Spares, KeepsFile}
use Rattle.sys_report.specs.Shows.{IsNoted, ShowsBeside}
use Rattle.sys_report.specs.declared.report.Report.{Report}
use Rattle.sys_disk.specs.Among.{FileHolds}
use Rattle.cmd_common_fields.specs.Kind.{kind_of}
use Rattle.cmd_common_fields.specs.declared.image_kind.ImageKind.{ImageKind}
use Rattle.cmd_common_boot.specs.Carried.{IsTaken}
use Rattle.cmd_common_boot.specs.Given.{AreGiven}
use Rattle.cmd_common_boot.specs.declared.pack_command.PackCommand.{PackCommand}
use Rattle.cmd_common_boot.specs.declared.pack_texts.FragmentText.{FragmentText}
use Rattle.cmd_common_boot.specs.declared.pack_texts.PackTexts.{PackTexts}
use Rattle.cmd_pack_outputs.specs.Contents.{Packing, image_from}
use Rattle.cmd_pack_outputs.specs.Lines.{image_line, counted_in_u64}
use Rattle.cmd_pack_inputs.specs.Own.{StandsIn, fragment_bytes, entries_to, kept_behind, own_fields, said_of}
use Rattle.cmd_pack.specs.Packing.{ArePacked, board_id_words}
use Rattle.cmd_pack_inputs.specs.Parts.{AreFragmentsOf, IsGivenPath}
use Rattle.cmd_pack_outputs.specs.Writing.{HoldsNoPartOf}
use Rattle.cmd_pack_inputs.specs.declared.kept.OwnData.{OwnData}
use Rattle.cmd_pack_inputs.specs.declared.own.Own.{Own}

-- the ramdisk fragments of the image x, in the order of its table
pub record AreOwnFragments (x : List ℕ) (h : Header) (said : List FragmentSpec) (ramdisks : List (List ℕ)) : Type 0
  where
    pub specs : said ≡ map said_of (entries_to x h (fragment_count h))
    pub bytes : ramdisks ≡ map (fragment_bytes x h) (entries_to x h (fragment_count h))

-- the given fragments, and where none was given, those of the image
abbrev pub AreFragmentsAgain : World → List FragmentText → List ℕ → Header → List FragmentSpec → List (List ℕ) → Type 0
AreFragmentsAgain world [] x h said ramdisks = AreOwnFragments x h said ramdisks
AreFragmentsAgain world (text ∷ texts) x h said ramdisks = AreFragmentsOf world (text ∷ texts) said ramdisks

-- what the arguments describe, and what the image x has where they give nothing
abbrev pub AreAskedAgain : PackCommand → World → List ℕ → Header → BootFields → Packing → Type 0
AreAskedAgain command world x h given p = ArePacked world command.texts (board_id_words command) (StandsIn x h)
    (AreFragmentsAgain world command.texts.fragments.items x h) (kind_of h) given p

-- the fields that the arguments give, and else those of the header
abbrev pub AreFieldsAgain : PackCommand → Header → BootFields → Type 0
AreFieldsAgain command h given = AreGiven (own_fields h) (kind_of h) command.page command.texts.options.items given

-- IN's file begins with an image: these bytes, with this header
pub record BeginsWith (input : List ℕ) (world : World) (x : List ℕ) (h : Header) : Type 0 where
  pub file : FileHolds world input x
  pub has : HasImage x h

-- the image of IN's kind: from the given fields, parts and fragments, and else IN's own; then the kept bytes after IN's
pub record IsPackedAgain (command : PackCommand) (x : List ℕ) (h : Header) (world : World) (bytes : List ℕ) : Type 0
  where
    pub given : BootFields
    pub are_given : AreFieldsAgain command h given
    pub packing : Packing
    pub asked : AreAskedAgain command world x h given packing
    pub is : bytes ≡ image_from (kind_of h) packing ++ kept_behind command.keeps_trailing x h

-- a file that is read: IN, or one that the arguments name
abbrev pub IsReadPath : List ℕ → PackCommand → Header → List ℕ → Type 0
IsReadPath input command h path = (path ≡ input) ⊎ IsGivenPath command.texts (kind_of h) path

-- OUT's file holds the image to which the image x is packed again. No other file has changed. OUT's file is none that
-- is read or that the arguments name. The line that was printed has its number of bytes.
pub record PacksAgain (command : PackCommand) (x : List ℕ) (h : Header) (read : List ℕ) (old new : World)
    (shows : List ℕ → Type 0) : Type 0 where
  pub onto : ℕ
  pub here : new.at (output_path command.output.now) ≡ Some onto
  pub free : ¬ Contains read onto
  pub apart : (path : List ℕ) → IsGivenPath command.texts (kind_of h) path → old.at path ≢ Some onto
  pub image : IsPackedAgain command x h old (new.holds onto)
  pub spares : Spares onto old new
  pub shown : shows (image_line (counted_in_u64 (length (new.holds onto))) ++ (10 ∷ []))

-- each file that the arguments name holds what it held
abbrev pub KeepsGivenAgain : PackCommand → Header → World → World → Type 0
KeepsGivenAgain command h old new =
    (path : List ℕ) → IsGivenPath command.texts (kind_of h) path → KeepsFile path old new

-- OUT's file holds what IN's image is packed again to, no other file has changed, OUT's is none that is read, and the
-- line that was printed has its number of bytes
pub record RepacksFile (input : List ℕ) (command : PackCommand) (old new : World) (shows : List ℕ → Type 0) : Type 0
  where
    pub own : List ℕ
    pub header : Header
    pub begins : BeginsWith input old own header
    pub onto : ℕ
    pub here : new.at (output_path command.output.now) ≡ Some onto
    pub apart : (path : List ℕ) → IsReadPath input command header path → old.at path ≢ Some onto
    pub image : IsPackedAgain command own header old (new.holds onto)
    pub spares : Spares onto old new
    pub shown : shows (image_line (counted_in_u64 (length (new.holds onto))) ++ (10 ∷ []))

-- maybe a note went to standard error, and nothing to standard output
abbrev pub HasNote : Report → Report → Type 0
HasNote old new = IsNoted old new × ((note : List ℕ) × (new.err.log.state.bytes ≡ old.err.log.state.bytes ++ note))

-- this was printed beside an output, and maybe a note after it
pub record ShowsFirst (is_on_output : Bool) (old new : Report) (told : List ℕ) : Type 0 where
  pub between : Report
  pub line : ShowsBeside is_on_output old between told
  pub behind : HasNote between new

-- these bytes are such an image of what IN's file holds
pub record IsRepackedOf (input : List ℕ) (command : PackCommand) (world : World) (bytes : List ℕ) : Type 0 where
  pub own : List ℕ
  pub header : Header
  pub begins : BeginsWith input world own header
  pub image : IsPackedAgain command own header world bytes

-- whatever the outcome, OUT's file holds what it held, or what is no image, or all of it
abbrev pub HoldsNoPartAgain : List ℕ → PackCommand → World → World → Type 0
HoldsNoPartAgain input command old new =
    HoldsNoPartOf (output_path command.output.now) (IsRepackedOf input command old) old new

-- and IN's file and each that the arguments name hold what they held
pub record KeepsRead (input : List ℕ) (command : PackCommand) (old new : World) : Type 0 where
  pub input_kept : KeepsFile input old new
  pub given : (x : List ℕ) (h : Header) → BeginsWith input old x h → KeepsGivenAgain command h old new

-- ---- on the way

-- an image that is packed again was opened, whose kind is this: that kind takes the given fragments, and where none
-- is given, all entries of the image's table are kept
pub record IsAtHand {S : Type 0} (models : Bool) (content : S → List ℕ) (own : Own S) (kept : OwnData)
    (texts : PackTexts)
    (its_kind : ImageKind) : Type 0 where
  pub opened : IsTrue models → IsOpened (content own.source) own.image
  pub kind : its_kind ≡ kind_of (view_of own.image.header)
  pub taken : All (IsTaken its_kind) texts.fragments.items
  pub entries : IsTrue models → texts.fragments.items ≡ [] → kept.entries.items
      ≡ entries_to (content own.source) (view_of own.image.header) (fragment_count (view_of own.image.header))
