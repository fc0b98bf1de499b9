-- The load addresses of the parts of a boot image, which may have no bytes.
use Rattle.std.specs.Prelude.{ℕ, Bool, ◌&&◌, ◌==◌, nat_lt, List, [], length, slice_index_or, if◌then◌else◌}
use Rattle.std.specs.Prelude.{◌≡◌, IsTrue, Result, IfOk, OnOk}
use Rattle.sys_disk.specs.World.{World, OpenFiles}
use Rattle.abt_sections.specs.Fields.{BootFields}
use Rattle.cmd_common_fields.specs.Loading.{is_sum}
use Rattle.cmd_common_fields.specs.declared.fields.Address.TheVariants.{Ramdisk, Second}
use Rattle.cmd_common_fields.specs.declared.image_kind.ImageKind.{ImageKind}
use Rattle.cmd_common_fields.specs.declared.image_kind.ImageKind.TheVariants.{Boot, Vendor}
use Rattle.cmd_common_boot.specs.Given.{words_for}
use Rattle.cmd_common_boot.specs.declared.pack_texts.OptionText.{OptionText}
use Rattle.cmd_pack_inputs.specs.Opening.{OnlyOpens, OpensMore}
use Rattle.cmd_pack_outputs.specs.Contents.{faults_in}
use Rattle.cmd_pack_outputs.specs.declared.contents.ImageContents.{ImageContents}

-- the ramdisk is the second part of a boot image, and the second stage the third of versions 0 to 2
abbrev pub ramdisk_in : List (List ℕ) → List ℕ
ramdisk_in parts = slice_index_or parts 1 []

abbrev pub second_in : ℕ → List (List ℕ) → List ℕ
second_in version parts = if nat_lt version 3 then slice_index_or parts 2 [] else []

-- the address of a part: where that counts from a base, mkbootimg's 0 is the one of a part without bytes
abbrev pub address_where : Bool → Bool → ℕ → ℕ
address_where counts is_empty address = if counts && is_empty then 0 else address

abbrev pub address_at : Bool → List ℕ → ℕ → ℕ
address_at counts part address = address_where counts (length part == 0) address

-- the given fields, with those addresses: where the ramdisk's counts from a base, and the second stage's
abbrev pub loaded_where : ImageKind → Bool → Bool → List (List ℕ) → BootFields → BootFields
loaded_where (Boot n) of_ramdisk of_second parts s = record s {
  ramdisk_addr = address_at of_ramdisk (ramdisk_in parts) s.ramdisk_addr;
  second_addr = address_at of_second (second_in n parts) s.second_addr;
}
loaded_where (Vendor n) of_ramdisk of_second parts s = s

-- the same, with what the options set
abbrev pub loaded_at : ImageKind → List OptionText → List (List ℕ) → BootFields → BootFields
loaded_at kind options parts s =
    loaded_where kind (is_sum (words_for options Ramdisk)) (is_sum (words_for options Second)) parts s

-- all is open that an image of this kind is written from, and none of it has failed yet; no file has changed
pub record FillsAll {P F : Type 0} (models : Bool) (r : Result (ImageContents P) F) (its_kind : ImageKind)
    (named : List ℕ → Type 0) (its_size its_faults : P → ℕ) (h h' : OpenFiles) (old new : World) : Type 0 where
  pub kind : IfOk r (λ c. c.kind ≡ its_kind)
  pub nothing : IfOk r (λ c. its_size c.nothing ≡ 0)
  pub unread : IsTrue models → IfOk r (λ c. faults_in its_faults c ≡ 0)
  pub opened : IsTrue models → OnOk r (OpensMore named old h h')
  pub keeps : IsTrue models → OnlyOpens h h' old new
