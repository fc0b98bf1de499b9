-- The own data of an image that is packed again.
use Rattle.std.specs.Prelude.{◌≡◌, ◌<◌, ◌≤◌, ℕ, zero, suc, ◌+◌, List, [], ◌∷◌, ◌++◌, Bool, if◌then◌else◌, take, drop}
use Rattle.std.specs.Prelude.{Option}
use Rattle.std.specs.Prelude.{Some, None}
use Rattle.std.specs.Borrow.{Bor}
use Rattle.std.specs.List.{All}
use Rattle.abt_headers.specs.declared.entry.RamdiskEntry.{RamdiskEntry}
use Rattle.abt_headers.specs.declared.sections.Section.{Section}
use Rattle.abt_headers.specs.declared.sections.SectionPlace.{SectionPlace}
use Rattle.abt_sections.specs.Fields.{BootFields}
use Rattle.abt_sections.specs.Header.{Header, entry_of, page_of, ramdisk_at, view_of}
use Rattle.abt_sections.specs.Layout.{part_of}
use Rattle.abt_sections.specs.Open.{IsOpened}
use Rattle.abt_sections.specs.declared.spec.FragmentSpec.{FragmentSpec}
use Rattle.cmd_common_fields.specs.Fields.{address_of, os_number_of, text_of}
use Rattle.cmd_common_fields.specs.declared.fields.Address.TheVariants.{Kernel, Ramdisk, Second, Tags, Dtb}
use Rattle.cmd_common_findings.specs.LeftOut.{cmdline_of, end_of, header_name}
use Rattle.cmd_common_findings.specs.Places.{first_place_of}
use Rattle.cmd_pack_inputs.specs.declared.own.Own.{Own}

-- ---- parts

-- the bytes at a place, or none
abbrev pub bytes_at : List ℕ → Option SectionPlace → List ℕ
bytes_at x None = []
bytes_at x (Some place) = part_of x place

-- the part in a section of the image x, or no bytes
abbrev pub StandsIn : List ℕ → Header → Section → List ℕ → Type 0
StandsIn x h section bytes = bytes ≡ bytes_at x (first_place_of h section)

-- the part that an image has in a section: no bytes, where there is no image
abbrev pub IsOwnPart : {S : Type 0} → (S → List ℕ) → Option (Bor (Own S)) → Section → List ℕ → Type 0
IsOwnPart content None section bytes = bytes ≡ []
IsOwnPart content (Some own) section bytes =
    StandsIn (content own.now.source) (view_of own.now.image.header) section bytes

-- the image, if there is one, was opened of these bytes
abbrev pub IsOpenOwn : {S : Type 0} → (S → List ℕ) → Option (Bor (Own S)) → Type 0
IsOpenOwn content None = Unit {0}
IsOpenOwn content (Some own) = IsOpened (content own.now.source) own.now.image

-- the bytes after the image, where they are kept
abbrev pub kept_behind : Bool → List ℕ → Header → List ℕ
kept_behind is_kept x h = if is_kept then drop (end_of h) x else []

-- ---- fields

abbrev pub or_zero : Option ℕ → ℕ
or_zero None = 0
or_zero (Some n) = n

-- the fields that a header has, and 0 in place of the others; the version is that of its kind
abbrev pub own_fields : Header → BootFields
own_fields h = record {
  version = 0;
  page = page_of h;
  kernel_addr = or_zero (address_of h Kernel);
  ramdisk_addr = or_zero (address_of h Ramdisk);
  second_addr = or_zero (address_of h Second);
  tags_addr = or_zero (address_of h Tags);
  dtb_addr = or_zero (address_of h Dtb);
  os = record { number = or_zero (os_number_of h) };
  name = text_of (header_name h);
  cmdline = text_of (cmdline_of h);
}

-- ---- ramdisk fragments

-- the first n entries of the table
abbrev pub entries_to : List ℕ → Header → ℕ → List RamdiskEntry
entries_to x h zero = []
entries_to x h (suc n) = entries_to x h n ++ (entry_of x h n ∷ [])

-- what an entry holds of its fragment, beside its position and size
abbrev pub said_of : RamdiskEntry → FragmentSpec
said_of e = record { kind = e.ramdisk_type; name = e.name; board_id = e.board_id }

-- the bytes of its fragment, of a vendor ramdisk that begins there
abbrev pub bytes_behind : List ℕ → ℕ → RamdiskEntry → List ℕ
bytes_behind x front e = take e.ramdisk_size (drop (front + e.ramdisk_offset) x)

abbrev pub fragment_bytes : List ℕ → Header → RamdiskEntry → List ℕ
fragment_bytes x h e = bytes_behind x (ramdisk_at h) e

-- the fragment is empty, or ends within n bytes
abbrev pub EndsBehind : ℕ → ℕ → RamdiskEntry → Type 0
EndsBehind front n e = 0 < e.ramdisk_size → front + e.ramdisk_offset + e.ramdisk_size ≤ n

abbrev pub AllEndBehind : ℕ → ℕ → List RamdiskEntry → Type 0
AllEndBehind front n entries = All (EndsBehind front n) entries

-- the arguments name no path
abbrev pub no_path : List ℕ → Type 0
no_path path = ⊥
