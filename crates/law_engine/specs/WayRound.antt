-- The whole way round: an image is packed of parts, sent to a partition, and unpacked from there.
--
-- Each step is what the contracts of its functions state:
--
-- - `pack_boot` and `pack_vendor` write the canonical image.
-- - `sparsify` writes the encoding of its blocks.
-- - `deliver` and `deliver_raw` leave what `LaysBlocks` states, `resume` and `resume_raw` what `MendsBlocks` states.
-- - `open` finds an image, and `unpack` and `unpack_fragment` write the content of its sections.
use Rattle.std.specs.Prelude.{◌≡◌, ℕ, ◌+◌, ◌*◌, ◌^◌, ◌<◌, ◌≤◌, true, List, length, Ok}
use Rattle.abt_sparse.specs.Block.{IsBlockSize, block_count, classify}
use Rattle.abt_sparse.specs.Chunk.{spelling}
use Rattle.abt_sparse.specs.Mending.{Mendable}
use Rattle.abt_flash.specs.Delivering.{ImageBlocks, LaysBlocks, MendsBlocks, Room, blocks_in_first}
use Rattle.abt_flash.specs.Devices.{PartitionState}
use Rattle.abt_flash.specs.Raw.{raw_image}
use Rattle.abt_flash.specs.Sparse.{sparse_image}
use Rattle.abt_flash.specs.declared.answer.Delivered.{Delivered}
use Rattle.abt_sections.specs.BootCanon.{boot_canon}
use Rattle.abt_sections.specs.Canonical.{IsBootInput, IsVendorInput}
use Rattle.abt_sections.specs.Fields.{BootFields, VendorFields}
use Rattle.abt_sections.specs.Header.{Header, OfVendor, places_of}
use Rattle.abt_sections.specs.Layout.{parts_of}
use Rattle.abt_sections.specs.Open.{HasImage}
use Rattle.abt_sections.specs.Unpacked.{HoldsParts, HoldsBoot, HoldsFragment, HoldsVendor}
use Rattle.abt_sections.specs.VendorCanon.{VendorParts, vendor_canon, vendor_header_of}

-- y is the sparse image of the bytes x, in blocks of b bytes, with raw chunks of at most r blocks
pub record Sparsed (b r : ℕ) (x y : List ℕ) : Type 0 where
  pub size : IsBlockSize b
  pub chunk : (1 ≤ r) × (12 + r * b < 2 ^ 32)
  pub count : block_count b x < 2 ^ 32
  pub written : y ≡ spelling b r (classify b x)

-- what is sent of the bytes x: their sparse image at any block size, or they themselves in blocks of any size
pub data SentAs (x : List ℕ) : ImageBlocks → Type 0 where
  sparse : (b r : ℕ) (y : List ℕ) → Sparsed b r x y → SentAs x (sparse_image y)
  raw : (b : ℕ) → IsBlockSize b → SentAs x (raw_image b x)

-- An image arrives on a partition that held p before, which then holds the last list: delivered at once, or by
-- continuing from a piece that a stop left unfinished, or from any before it.
pub data Arrives (i : ImageBlocks) (limit : ℕ) (p : List ℕ) : List ℕ → Type 0 where
  at_once : (d : Delivered) (old new : PartitionState) → old.content ≡ p
      → LaysBlocks true true true i limit 0 (Ok d) old new → Arrives i limit p new.content
  going_on : (d : Delivered) (old new : PartitionState) (made done : ℕ) → made ≤ done
      → Mendable i.size i.blocks p old.content (blocks_in_first limit i.size i.blocks done)
      → MendsBlocks i limit made (Ok d) old new → Arrives i limit p new.content

-- the bytes x were sent within a limit to a partition with room for all their blocks, which held p and now holds q
pub record Carried (x p q : List ℕ) : Type 0 where
  pub limit : ℕ
  pub image : ImageBlocks
  pub sent : SentAs x image
  pub room : Room limit image.size (length image.blocks) (length p)
  pub arrives : Arrives image limit p q

-- Whatever the partition held, it is an image of these fields and parts then: opened as their header, with the parts in
-- its sections.
abbrev pub BootWay : Type 0
BootWay = (s : BootFields) (parts : List (List ℕ)) (p q : List ℕ) → IsBootInput s parts
    → Carried (boot_canon s parts) p q → HoldsBoot q s parts

abbrev pub VendorWay : Type 0
VendorWay = (s : VendorFields) (v : VendorParts) (p q : List ℕ) → IsVendorInput s v → Carried (vendor_canon s v) p q
    → HoldsVendor q s v

-- and in version 4 of a vendor boot image fragment k is ramdisk k
abbrev pub FragmentWay : Type 0
FragmentWay = (s : VendorFields) (v : VendorParts) (p q : List ℕ) (k : ℕ) → IsVendorInput s v → s.version ≡ 4
    → k < length v.ramdisks → Carried (vendor_canon s v) p q
    → HoldsFragment q (OfVendor (vendor_header_of s v)) v.fragments v.ramdisks k

-- What opening finds there is that header and no other, so what is unpacked is the parts.
abbrev pub FoundAgain : Type 0
FoundAgain = (q : List ℕ) (h found : Header) (parts : List (List ℕ)) → HoldsParts q h parts → HasImage q found
    → (found ≡ h) × (parts_of q (places_of found) ≡ parts)
