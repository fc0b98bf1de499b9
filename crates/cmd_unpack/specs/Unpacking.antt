-- What the command `unpack` leaves of files.
use Rattle.std.specs.Prelude.{◌≡◌, ◌<◌, ℕ, ◌+◌, Bool, true, false, IsTrue, if◌then◌else◌, List, Option, Some, None}
use Rattle.std.specs.Prelude.{length, codes}
use Rattle.std.specs.Prelude.{slice_index_or}
use Rattle.abt_headers.specs.declared.sections.SectionPlace.{SectionPlace}
use Rattle.abt_headers.specs.Places.{section_name}
use Rattle.abt_sections.specs.Header.{Header, places_of, fragment_count, fragment_of}
use Rattle.abt_sections.specs.Layout.{part_of}
use Rattle.abt_sections.specs.Open.{HasImage}
use Rattle.sys_refusals.specs.Paths.{in_folder, numbered, path_of}
use Rattle.sys_refusals.specs.declared.place.FileArg.{FileArg}
use Rattle.sys_refusals.specs.declared.told.Side.TheVariants as sides
use Rattle.cmd_common_boot.specs.Fault.{boot_side_of}
use Rattle.cmd_common_boot.specs.declared.fault.BootCommandFault.{BootCommandFault}
use Rattle.sys_disk.specs.World.{World, OpenFiles, IsFree}
use Rattle.cmd_common_boot.specs.declared.part_names.ImagePart.{ImagePart}
use Rattle.cmd_common_boot.specs.declared.part_names.ImagePart.TheVariants as parts
use Rattle.cmd_common_boot.specs.Unpacked.{IsPart}
use Rattle.cmd_common_texts.specs.Words.{words_text, image_words}
use Rattle.sys_disk.specs.Among.{FileHolds, IsMade, OnlyAmong}
use Rattle.cmd_unpack.specs.Lines.{ToldPart, told_parts}

-- the name of a part's file, and the number after it
abbrev pub part_name : ImagePart → List ℕ
part_name (parts.Section kind) = section_name kind
part_name (parts.Fragment index) = codes "fragment"
part_name parts.Words = codes "pack.words"

abbrev pub part_number : ImagePart → Option ℕ
part_number (parts.Section kind) = None
part_number (parts.Fragment index) = Some index
part_number parts.Words = None

-- the path of its file: `DIR/kernel`, `DIR/fragment.0`, `DIR/pack.words`
abbrev pub path_of_part : List ℕ → ImagePart → List ℕ
path_of_part folder part = in_folder (Some folder) (numbered (part_name part) (part_number part))

-- the section at a place
abbrev pub section_part : SectionPlace → ImagePart
section_part p = parts.Section p.kind

-- the path of one of the first m sections
pub record IsSectionPath (folder : List ℕ) (h : Header) (m : ℕ) (path : List ℕ) : Type 0 where
  pub index : ℕ
  pub place : SectionPlace
  pub below : index < m
  pub there : index < length (places_of h)
  pub found : place ≡ slice_index_or (places_of h) index place
  pub is_path : path ≡ path_of_part folder (section_part place)

-- of one of the first m fragments
pub record IsFragmentPath (folder : List ℕ) (h : Header) (m : ℕ) (path : List ℕ) : Type 0 where
  pub index : ℕ
  pub below : index < m
  pub there : index < fragment_count h
  pub is_path : path ≡ path_of_part folder (parts.Fragment index)

-- of one of the first s sections or f fragments, or of the arguments where they are meant
pub data IsFirstPath (folder : List ℕ) (h : Header) (s f : ℕ) (with_words : Bool) (path : List ℕ) : Type 0 where
  of_section : IsSectionPath folder h s path → IsFirstPath folder h s f with_words path
  of_fragment : IsFragmentPath folder h f path → IsFirstPath folder h s f with_words path
  of_words : IsTrue with_words → path ≡ path_of_part folder parts.Words → IsFirstPath folder h s f with_words path

-- of any part
abbrev pub IsPartPath : List ℕ → Bool → Header → List ℕ → Type 0
IsPartPath folder with_words h path = IsFirstPath folder h (length (places_of h)) (fragment_count h) with_words path

-- the path of a part of the image that the file at another path holds
pub record IsPartOf (input folder : List ℕ) (with_words : Bool) (world : World) (path : List ℕ) : Type 0 where
  pub from : ℕ
  pub there : world.at input ≡ Some from
  pub header : Header
  pub image : HasImage (world.holds from) header
  pub is_part : IsPartPath folder with_words header path

-- ---- the look at all names, before the first part

-- part i has a name that leads to no file that is read or was begun
pub record HasFreeName (folder : List ℕ) (h : Header) (held : OpenFiles) (world : World) (i : ℕ) : Type 0 where
  pub part : ImagePart
  pub is_part : IsPart h i part
  pub free : IsFree (path_of_part folder part) held world

-- so have the first m parts
abbrev pub HaveFreeNames : List ℕ → Header → ℕ → OpenFiles → World → Type 0
HaveFreeNames folder h m held world = (i : ℕ) → i < m → HasFreeName folder h held world i

-- Nothing was changed; or the file at a path held an image, and the name of none of its parts leads to that file.
pub data LooksAtParts (input folder : List ℕ) (with_words : Bool) (old new : World) : Type 0 where
  unchanged : new ≡ old → LooksAtParts input folder with_words old new
  none_taken : (from : ℕ) → old.at input ≡ Some from → (header : Header) → HasImage (old.holds from) header
      → ((path : List ℕ) → IsPartPath folder with_words header path → ¬ (old.at path ≡ Some from))
      → LooksAtParts input folder with_words old new

-- ---- on the way

-- section i of an image x is in its file
abbrev pub SectionDone : List ℕ → Header → List ℕ → ℕ → OpenFiles → World → Type 0
SectionDone folder h x i held world =
    (p : SectionPlace) → p ≡ slice_index_or (places_of h) i p
    → IsMade held world (path_of_part folder (section_part p)) (part_of x p)

-- the first n sections are
abbrev pub SectionsDone : List ℕ → Header → List ℕ → ℕ → OpenFiles → World → Type 0
SectionsDone folder h x n held world = (k : ℕ) → k < n → SectionDone folder h x k held world

-- and the first n fragments
abbrev pub FragmentsDone : List ℕ → Header → List ℕ → ℕ → OpenFiles → World → Type 0
FragmentsDone folder h x n held world =
    (k : ℕ) → k < n → IsMade held world (path_of_part folder (parts.Fragment k)) (fragment_of x h k)

-- and the arguments
abbrev pub WordsDone : List ℕ → Header → List ℕ → OpenFiles → World → Type 0
WordsDone folder h x held world =
    IsMade held world (path_of_part folder parts.Words) (words_text (image_words folder x h))

-- this many outputs more were synced, where outputs are synced
pub record SyncsMore (n : ℕ) (old new : OpenFiles) : Type 0 where
  pub wanted : new.is_synced ≡ old.is_synced
  pub added : new.syncs ≡ old.syncs + (if old.is_synced then n else 0)

-- the first parts of an image x are in their files: one at least
pub data PartsBegun (folder : List ℕ) (with_words : Bool) (h : Header) (x : List ℕ) (held : OpenFiles) (world : World)
    : Type 0 where
  up_to_section : (i : ℕ) → i < length (places_of h) → SectionsDone folder h x (i + 1) held world
      → PartsBegun folder with_words h x held world
  up_to_fragment : (i : ℕ) → i < fragment_count h → SectionsDone folder h x (length (places_of h)) held world
      → FragmentsDone folder h x (i + 1) held world → PartsBegun folder with_words h x held world
  up_to_words : IsTrue with_words → SectionsDone folder h x (length (places_of h)) held world
      → FragmentsDone folder h x (fragment_count h) held world → WordsDone folder h x held world
      → PartsBegun folder with_words h x held world

-- Where not all parts are written: those before the one at fault are in their files, and `Only` holds of the names of
-- these files and of the next one. `Tells` holds of the one at fault.
pub data PartsLeft (folder : List ℕ) (h : Header) (x : List ℕ) (Tells : ImagePart → Type 0) (held : OpenFiles)
    (world : World) (Only : (List ℕ → Type 0) → Type 0) : Type 0 where
  in_sections : (i : ℕ) → ((p : SectionPlace) → p ≡ slice_index_or (places_of h) i p → Tells (section_part p))
      → SectionsDone folder h x i held world → Only (IsFirstPath folder h (i + 1) 0 false)
      → PartsLeft folder h x Tells held world Only
  in_fragments : (i : ℕ) → Tells (parts.Fragment i) → SectionsDone folder h x (length (places_of h)) held world
      → FragmentsDone folder h x i held world → Only (IsFirstPath folder h (length (places_of h)) (i + 1) false)
      → PartsLeft folder h x Tells held world Only
  in_words : Tells parts.Words → SectionsDone folder h x (length (places_of h)) held world
      → FragmentsDone folder h x (fragment_count h) held world
      → Only (IsFirstPath folder h (length (places_of h)) (fragment_count h) true)
      → PartsLeft folder h x Tells held world Only

-- ---- which file a refusal is told of

-- the file at this path
pub record IsNamedAt (place : Option FileArg) (path : List ℕ) : Type 0 where
  pub named : FileArg
  pub is_named : place ≡ Some named
  pub leads : path_of named ≡ path

-- a fault of what is written is told of the file of this part
abbrev pub TellsOfPart : BootCommandFault → Option FileArg → List ℕ → ImagePart → Type 0
TellsOfPart fault place folder part = boot_side_of fault ≡ sides.Output → IsNamedAt place (path_of_part folder part)

-- ---- all of it

-- The file at a path held a boot image or a vendor boot image. In the folder there is a file for each of its sections
-- and one for each of its ramdisk fragments, under its name. It holds exactly its bytes. Where they are requested,
-- one file holds the arguments that pack the image again. A line was printed of each, with the number of its bytes.
pub record Unpacks (input folder : List ℕ) (with_words : Bool) (old new : World) (shows : List ToldPart → Type 0)
    : Type 0 where
  pub from : ℕ
  pub there : old.at input ≡ Some from
  pub header : Header
  pub image : HasImage (old.holds from) header
  pub sections : (i : ℕ) (p : SectionPlace) → i < length (places_of header) → p ≡ slice_index_or (places_of header) i p
      → FileHolds new (path_of_part folder (section_part p)) (part_of (old.holds from) p)
  pub fragments : (i : ℕ) → i < fragment_count header
      → FileHolds new (path_of_part folder (parts.Fragment i)) (fragment_of (old.holds from) header i)
  pub words : IsTrue with_words
      → FileHolds new (path_of_part folder parts.Words) (words_text (image_words folder (old.holds from) header))
  pub shown : shows (told_parts (old.holds from) header with_words
      (words_text (image_words folder (old.holds from) header)))

-- how many parts an image has
abbrev pub part_total : Bool → Header → ℕ
part_total with_words h = length (places_of h) + fragment_count h + (if with_words then 1 else 0)

-- each part of the image that the file at a path holds was synced, where outputs are
pub record SyncsParts (input : List ℕ) (with_words : Bool) (world : World) (old new : OpenFiles) : Type 0 where
  pub from : ℕ
  pub there : world.at input ≡ Some from
  pub header : Header
  pub image : HasImage (world.holds from) header
  pub syncs : SyncsMore (part_total with_words header) old new

-- the first parts of it are in their files, and a line could not be printed
pub record PartsStand (input folder : List ℕ) (with_words : Bool) (old : World) (held : OpenFiles) (new : World)
    : Type 0 where
  pub from : ℕ
  pub there : old.at input ≡ Some from
  pub header : Header
  pub image : HasImage (old.holds from) header
  pub begun : PartsBegun folder with_words header (old.holds from) held new

-- Nothing was changed, for a fault of what is read or of files; or the file at a path held an image, whose first parts
-- are in their files, and only their files and the next one's were created or changed. A fault of what is written is
-- told of that next one.
pub data LeavesParts (input folder : List ℕ) (fault : BootCommandFault) (place : Option FileArg)
    (held held' : OpenFiles) (old new : World) : Type 0 where
  no_part : new ≡ old → ¬ (boot_side_of fault ≡ sides.Output) → LeavesParts input folder fault place held held' old new
  first_parts : (from : ℕ) → old.at input ≡ Some from → (header : Header) → HasImage (old.holds from) header
      → PartsLeft folder header (old.holds from) (TellsOfPart fault place folder) held' new
      (λ named. OnlyAmong named held.read held'.begun old new)
      → LeavesParts input folder fault place held held' old new
