-- What the options of `pack` and `repack` set in the fields of an image.
use Rattle.std.specs.Prelude.{◌≡◌, ℕ, Bool, List, [], ◌∷◌, Option, Some, None, codes, option_map, is_some, nat_le}
use Rattle.std.specs.Prelude.{if◌then◌else◌}
use Rattle.std.specs.List.{find, list_any}
use Rattle.std.specs.Option.{unwrap_or}
use Rattle.std.specs.Str.{bytes_eq}
use Rattle.abt_headers.specs.Os.{IsOsVersion, os_raw}
use Rattle.abt_headers.specs.declared.os.OsParts.{OsParts}
use Rattle.abt_sections.specs.Fields.{BootFields}
use Rattle.cmd_common_fields.specs.Kind.{version_of}
use Rattle.cmd_common_fields.specs.Loading.{base_for, load_at, most_address, usual_offset}
use Rattle.cmd_common_fields.specs.Options.{address_option, offset_option}
use Rattle.cmd_common_fields.specs.OsWord.{IsOsWord}
use Rattle.cmd_common_fields.specs.declared.fields.Address.{Address}
use Rattle.cmd_common_fields.specs.declared.fields.Address.TheVariants.{Kernel, Ramdisk, Second, Tags, Dtb}
use Rattle.cmd_common_fields.specs.declared.image_kind.ImageKind.{ImageKind}
use Rattle.cmd_common_fields.specs.declared.loading.AddressWords.{AddressWords}
use Rattle.cmd_common_boot.specs.declared.pack_texts.OptionText.{OptionText}

-- ---- single options

abbrev pub has_name : List ℕ → OptionText → Bool
has_name name option = bytes_eq option.name.now name

-- the first option of this name
abbrev pub found : List OptionText → List ℕ → Option OptionText
found options name = find (has_name name) options

-- the number that it was given
abbrev pub number_in : List OptionText → List ℕ → Option ℕ
number_in options name = option_map (λ option. option.number) (found options name)

-- the bytes that it was given, or else these
abbrev pub bytes_or : List OptionText → List ℕ → List ℕ → List ℕ
bytes_or options name own = unwrap_or (option_map (λ option. option.bytes.items) (found options name)) own

-- ---- addresses

-- any offset is given, so that mkbootimg's base is used
abbrev pub has_offset : List OptionText → Bool
has_offset options =
    list_any (λ which. is_some (found options (offset_option which))) (Kernel ∷ Ramdisk ∷ Second ∷ Tags ∷ Dtb ∷ [])

-- what the options set of an address
abbrev pub words_for : List OptionText → Address → AddressWords
words_for options which = record {
  address = number_in options (address_option which);
  base = base_for (number_in options (codes "base")) (has_offset options);
  offset = number_in options (offset_option which);
}

abbrev pub up_to : ℕ → Option ℕ → Option ℕ
up_to most None = None
up_to most (Some n) = if nat_le n most then Some n else None

-- the address that the options set, or else the image's own; none where it exceeds the header's field
abbrev pub address_for : List OptionText → Address → ℕ → Option ℕ
address_for options which own = up_to (most_address which) (load_at (words_for options which) (usual_offset which) own)

-- ---- the OS version and patch level

-- an argument of `--os` encodes this number
pub record OsWordSays (word : List ℕ) (os : ℕ) : Type 0 where
  pub parts : OsParts
  pub shape : IsOsWord word parts
  pub fits : IsOsVersion parts
  pub is : os ≡ os_raw parts

abbrev pub IsOsOf : Option ℕ → Option OptionText → ℕ → ℕ → Type 0
IsOsOf (Some number) option own os = os ≡ number
IsOsOf None (Some option) own os = OsWordSays option.word.now os
IsOsOf None None own os = os ≡ own

-- the number of `--os-number`, or else the number that the argument of `--os` encodes, or else the image's own
abbrev pub IsOsGiven : List OptionText → ℕ → ℕ → Type 0
IsOsGiven options own os = IsOsOf (number_in options (codes "os-number")) (found options (codes "os")) own os

-- ---- all fields

-- the fields of `pack` where nothing is given
abbrev pub no_fields : BootFields
no_fields = record {
  version = 0;
  page = 4096;
  kernel_addr = 0;
  ramdisk_addr = 0;
  second_addr = 0;
  tags_addr = 0;
  dtb_addr = 0;
  os = record { number = 0 };
  name = [];
  cmdline = [];
}

-- the address that these fields have
abbrev pub address_in : BootFields → Address → ℕ
address_in s Kernel = s.kernel_addr
address_in s Ramdisk = s.ramdisk_addr
address_in s Second = s.second_addr
address_in s Tags = s.tags_addr
address_in s Dtb = s.dtb_addr

-- these fields are of this kind; they are those that the options set, and else the image's own
pub record AreGiven (own : BootFields) (kind : ImageKind) (page : Option ℕ) (options : List OptionText)
    (fields : BootFields) : Type 0 where
  pub version : fields.version ≡ version_of kind
  pub page_size : fields.page ≡ unwrap_or page own.page
  pub addresses : (which : Address) → address_for options which (address_in own which) ≡ Some (address_in fields which)
  pub os : IsOsGiven options own.os.number fields.os.number
  pub name : fields.name ≡ bytes_or options (codes "name") own.name
  pub cmdline : fields.cmdline ≡ bytes_or options (codes "cmdline") own.cmdline
