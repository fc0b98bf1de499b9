-- What the command `pack` leaves of files, and what it prints.
use Rattle.std.specs.Prelude.{◌≡◌, ◌≢◌, ℕ, List, [], ◌∷◌, ◌++◌, IsTrue, length, map, Some}
use Rattle.sys_refusals.specs.Paths.{output_path}
use Rattle.abt_headers.specs.declared.sections.Section.{Section}
use Rattle.abt_sections.specs.Fields.{BootFields, cmd_common_fields}
use Rattle.abt_sections.specs.declared.spec.FragmentSpec.{FragmentSpec}
use Rattle.sys_disk.specs.World.{World, Spares, KeepsFile}
use Rattle.cmd_common_fields.specs.Kind.{is_version, kind_for}
use Rattle.cmd_common_fields.specs.declared.image_kind.ImageKind.{ImageKind}
use Rattle.cmd_common_boot.specs.Boards.{AreSet}
use Rattle.cmd_common_boot.specs.Given.{AreGiven, no_fields}
use Rattle.cmd_common_boot.specs.Parts.{part_sections}
use Rattle.cmd_common_boot.specs.declared.pack_command.PackCommand.{PackCommand}
use Rattle.cmd_common_boot.specs.declared.pack_texts.PackTexts.{PackTexts}
use Rattle.cmd_pack_outputs.specs.Contents.{Packing, image_from}
use Rattle.cmd_pack.specs.Filling.{loaded_at}
use Rattle.cmd_pack_outputs.specs.Lines.{image_line, counted_in_u64}
use Rattle.cmd_pack_inputs.specs.Parts.{ArePartsOf, AreFragmentsOf, IsGivenPath}
use Rattle.cmd_pack_outputs.specs.Writing.{HoldsNoPartOf}

-- These are packed for an image of a kind that has these fields: its parts, by the options, its ramdisk fragments,
-- and the board ids that the arguments set. The texts say whether a zero ends the first field of the command line. The
-- image may have parts of its own, `own`, and fragments, `Fragments`.
pub record ArePacked (world : World) (texts : PackTexts) (words : List (List ℕ)) (own : Section → List ℕ → Type 0)
    (Fragments : List FragmentSpec → List (List ℕ) → Type 0) (kind : ImageKind) (given : BootFields) (p : Packing)
    : Type 0 where
  pub parts : ArePartsOf world texts.options.items own (part_sections kind) p.parts
  pub said : List FragmentSpec
  pub fragments : Fragments said p.ramdisks
  pub boards : AreSet words said p.specs
  pub loaded : cmd_common_fields p.fields ≡ loaded_at kind texts.options.items p.parts given
  pub front : p.fields.is_front_ended ≡ texts.is_front_ended

-- ---- of the arguments of `pack`

-- the kind of image that they describe
abbrev pub asked_kind : PackCommand → ImageKind
asked_kind command = kind_for command.is_vendor command.version

abbrev pub board_id_words : PackCommand → List (List ℕ)
board_id_words command = map (λ word. word.now) command.board_ids.items

-- a section for which no file was given has no bytes
abbrev pub nothing : Section → List ℕ → Type 0
nothing section bytes = bytes ≡ []

-- what they describe, from these fields and from the contents of the files that they name
abbrev pub AreAskedFor : PackCommand → World → BootFields → Packing → Type 0
AreAskedFor command world given p = ArePacked world command.texts (board_id_words command) nothing
    (AreFragmentsOf world command.texts.fragments.items) (asked_kind command) given p

-- The image that the arguments describe: of their kind and fields, from the contents of the files that they name.
pub record IsPackedBy (command : PackCommand) (world : World) (bytes : List ℕ) : Type 0 where
  pub known : IsTrue (is_version command.is_vendor command.version)
  pub given : BootFields
  pub are_given : AreGiven no_fields (asked_kind command) command.page command.texts.options.items given
  pub packing : Packing
  pub asked : AreAskedFor command world given packing
  pub is : bytes ≡ image_from (asked_kind command) packing

-- OUT's file holds the image that the arguments describe. No other file has changed, and no file that the arguments
-- name is OUT's. The line that was printed has the image's number of bytes.
pub record PacksFile (command : PackCommand) (old new : World) (shows : List ℕ → Type 0) : Type 0 where
  pub onto : ℕ
  pub here : new.at (output_path command.output.now) ≡ Some onto
  pub apart : (path : List ℕ) → IsGivenPath command.texts (asked_kind command) path → old.at path ≢ Some onto
  pub image : IsPackedBy command old (new.holds onto)
  pub spares : Spares onto old new
  pub shown : shows (image_line (counted_in_u64 (length (new.holds onto))) ++ (10 ∷ []))

-- whatever the outcome, OUT's file holds what it held, or what is no image, or all of it
abbrev pub HoldsNoPart : PackCommand → World → World → Type 0
HoldsNoPart command old new = HoldsNoPartOf (output_path command.output.now) (IsPackedBy command old) old new

-- and each file that the arguments name holds what it held
abbrev pub KeepsGiven : PackCommand → World → World → Type 0
KeepsGiven command old new =
    (path : List ℕ) → IsGivenPath command.texts (asked_kind command) path → KeepsFile path old new
