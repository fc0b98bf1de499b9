-- What unpack_bootimg leaves of files.
use Rattle.std.specs.Prelude.{◌≡◌, ◌<◌, ◌≤◌, ◌⊎◌, ℕ, ◌+◌, ◌-◌, List, Option, Some, IfSome, if◌then◌else◌}
use Rattle.std.specs.Prelude.{length, nat_lt}
use Rattle.std.specs.Prelude.{get_or}
use Rattle.abt_headers.specs.declared.sections.SectionPlace.{SectionPlace}
use Rattle.abt_headers.specs.declared.sections.Section.TheVariants as sections
use Rattle.abt_sections.specs.declared.fault.SectionFault.TheVariants as section_faults
use Rattle.abt_sections.specs.Header.{Header, places_of, fragment_count, fragment_of}
use Rattle.abt_sections.specs.Layout.{part_of}
use Rattle.abt_sections.specs.Open.{HasImage}
use Rattle.sys_refusals.specs.Paths.{in_folder}
use Rattle.sys_refusals.specs.declared.refusal.HostFault.{HostFault}
use Rattle.sys_disk.specs.Counts.{Cause, call}
use Rattle.sys_disk.specs.World.{World, OpenFiles, IsFree}
use Rattle.sys_disk.specs.Among.{FileHolds, IsMade}
use Rattle.cmd_common_boot.specs.ImageFaults.{IsRefusedOver, RefusesImage}
use Rattle.cmd_common_boot.specs.declared.fault.BootCommandFault.{BootCommandFault}
use Rattle.cmd_common_boot.specs.declared.fault.BootCommandFault.TheVariants as faults
use Rattle.cmd_common_texts.specs.Words.{has_table}
use Rattle.cmd_unpack_aosp_texts.specs.Files.{name_of_fragment, name_of_section}

-- ---- the parts: the sections in their order, and after them the ramdisk fragments

abbrev pub file_count : Header → ℕ
file_count h = length (places_of h) + fragment_count h

abbrev pub no_place : SectionPlace
no_place = record { kind = sections.Kernel; at = 0; size = 0 }

-- section i
abbrev pub place_at : Header → ℕ → SectionPlace
place_at h i = get_or (places_of h) i no_place

-- the name of the file of part i, where it has one
abbrev pub name_at : Header → ℕ → Option (List ℕ)
name_at h i =
    if nat_lt i (length (places_of h)) then name_of_section (has_table h) (place_at h i)
    else Some (name_of_fragment (i - length (places_of h)))

-- the bytes of part i of an image x
abbrev pub part_bytes_at : List ℕ → Header → ℕ → List ℕ
part_bytes_at x h i =
    if nat_lt i (length (places_of h)) then part_of x (place_at h i) else fragment_of x h (i - length (places_of h))

abbrev pub path_in_folder : List ℕ → List ℕ → List ℕ
path_in_folder folder name = in_folder (Some folder) name

-- the path of the file of one of the first n parts
pub record IsFilePath (folder : List ℕ) (h : Header) (n : ℕ) (path : List ℕ) : Type 0 where
  pub index : ℕ
  pub name : List ℕ
  pub below : index < n
  pub there : index < file_count h
  pub found : name_at h index ≡ Some name
  pub is_path : path ≡ path_in_folder folder name

-- the path of a file of the image that the file at another path holds
pub record IsFileOf (input folder : List ℕ) (world : World) (path : List ℕ) : Type 0 where
  pub from : ℕ
  pub there : world.at input ≡ Some from
  pub header : Header
  pub image : HasImage (world.holds from) header
  pub is_file : IsFilePath folder header (file_count header) path

-- ---- the look at all names, before the first part

-- part i has no file, or a name that leads to no file that is read or was begun
abbrev pub HasFreeFile : List ℕ → Header → OpenFiles → World → ℕ → Type 0
HasFreeFile folder h held world i = IfSome (name_at h i) (λ name. IsFree (path_in_folder folder name) held world)

-- so have the first m parts
abbrev pub HaveFreeFiles : List ℕ → Header → ℕ → OpenFiles → World → Type 0
HaveFreeFiles folder h m held world = (i : ℕ) → i < m → HasFreeFile folder h held world i

-- Nothing was changed; or the file at a path held an image, and the name of none of its parts leads to that file.
pub data LooksAtFiles (input folder : List ℕ) (old new : World) : Type 0 where
  unchanged : new ≡ old → LooksAtFiles input folder old new
  none_taken : (from : ℕ) → old.at input ≡ Some from → (header : Header) → HasImage (old.holds from) header
      → ((path : List ℕ) → IsFilePath folder header (file_count header) path → ¬ (old.at path ≡ Some from))
      → LooksAtFiles input folder old new

-- ---- on the way

-- part i of an image x is in its file, where it has one
abbrev pub FileDone : List ℕ → Header → List ℕ → ℕ → OpenFiles → World → Type 0
FileDone folder h x i held world =
    IfSome (name_at h i) (λ name. IsMade held world (path_in_folder folder name) (part_bytes_at x h i))

-- the first n parts are
abbrev pub FilesDone : List ℕ → Header → List ℕ → ℕ → OpenFiles → World → Type 0
FilesDone folder h x n held world = (k : ℕ) → k < n → FileDone folder h x k held world

-- ---- why it fails

-- a fragment that the image has is without a name: it is behind the first hundred
pub record IsUnnamed (h : Header) (fault : BootCommandFault) : Type 0 where
  pub index : ℕ
  pub behind : 100 ≤ index
  pub there : index < fragment_count h
  pub told : fault ≡ faults.Section (section_faults.Entry index)

-- the same for what the file at a path holds
pub record IsUnnamedAt (path : List ℕ) (world : World) (fault : BootCommandFault) : Type 0 where
  pub from : ℕ
  pub there : world.at path ≡ Some from
  pub header : Header
  pub image : HasImage (world.holds from) header
  pub unnamed : IsUnnamed header fault

-- a call with this fault has failed
pub record IsCallFault (failed : Cause → Type 0) (fault : BootCommandFault) : Type 0 where
  pub host : HostFault
  pub told : fault ≡ faults.Host host
  pub rises : failed (call host)

-- either, before any part is read
abbrev pub RefusesName : Header → (Cause → Type 0) → BootCommandFault → Type 0
RefusesName h failed fault = IsCallFault failed fault ⊎ IsUnnamed h fault

-- a fault of the image x, or of a device or a call that has failed
abbrev pub RefusesPart : List ℕ → Header → (Cause → Type 0) → BootCommandFault → Type 0
RefusesPart x h failed fault = IsRefusedOver x failed ⊥ fault ⊎ IsUnnamed h fault

-- the same for what the file at a path holds
abbrev pub RefusesUnpack : List ℕ → World → (Cause → Type 0) → BootCommandFault → Type 0
RefusesUnpack path world failed fault = RefusesImage path world failed ⊥ fault ⊎ IsUnnamedAt path world fault

-- ---- all of it

-- The file at a path held a boot image or a vendor boot image. In the folder there is a file for each of its parts
-- that has one in the tool, under its name. It holds exactly the part's bytes.
pub record UnpacksAsAosp (input folder : List ℕ) (old new : World) : Type 0 where
  pub from : ℕ
  pub there : old.at input ≡ Some from
  pub header : Header
  pub image : HasImage (old.holds from) header
  pub files : (i : ℕ) → i < file_count header → IfSome (name_at header i)
      (λ name. FileHolds new (path_in_folder folder name) (part_bytes_at (old.holds from) header i))
