-- An entry of the vendor ramdisk table (`vendor_ramdisk_table_entry_v4` of AOSP's `bootimg.h`).
use Rattle.std.specs.Prelude.{◌≡◌, ℕ, zero, suc, ◌+◌, ◌<◌, ◌^◌, List, [], ◌∷◌, ◌++◌, length, map, get_or}
use Rattle.byteorder.specs.Endian.{little_bytes}
use Rattle.abt_headers.specs.declared.entry.RamdiskEntry.{RamdiskEntry}
use Rattle.abt_headers.specs.Field.{number_at, part_at, joined_fields}

-- ---- the record: the fields' bytes in their order, joined

-- bytes 0 to 11
abbrev pub entry_numbers : RamdiskEntry → List (List ℕ)
entry_numbers e = little_bytes 4 e.ramdisk_size ∷ little_bytes 4 e.ramdisk_offset ∷ little_bytes 4 e.ramdisk_type ∷ []

abbrev pub words_fields : List ℕ → List (List ℕ)
words_fields ws = map (λ w. little_bytes 4 w) ws

-- bytes 0 to 107
abbrev pub entry_fields : RamdiskEntry → List (List ℕ)
entry_fields e = entry_numbers e ++ (e.name ∷ words_fields e.board_id)

unfoldable pub entry_record : RamdiskEntry → List ℕ
entry_record e = joined_fields (entry_fields e)

-- ---- reading: each field from its place

-- k numbers of four bytes each from a place on
abbrev pub words_at : ℕ → ℕ → List ℕ → List ℕ
words_at place zero x = []
words_at place (suc k) x = number_at place 4 x ∷ words_at (place + 4) k x

unfoldable pub entry_at : List ℕ → RamdiskEntry
entry_at x = record {
  ramdisk_size = number_at 0 4 x;
  ramdisk_offset = number_at 4 4 x;
  ramdisk_type = number_at 8 4 x;
  name = part_at 12 32 x;
  board_id = words_at 44 16 x;
}

-- the values that the fields may have
pub record EntryFits (e : RamdiskEntry) : Type 0 where
  pub ramdisk_size : e.ramdisk_size < 2 ^ 32
  pub ramdisk_offset : e.ramdisk_offset < 2 ^ 32
  pub ramdisk_type : e.ramdisk_type < 2 ^ 32
  pub name : length e.name ≡ 32
  pub board_long : length e.board_id ≡ 16
  pub board_id : (i : ℕ) → get_or e.board_id i 0 < 2 ^ 32
