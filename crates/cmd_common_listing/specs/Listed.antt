-- What printing a listing writes, and with which faults it fails.
use Rattle.std.specs.Prelude.{◌≡◌, ◌<◌, ◌≤◌, ℕ, List, [], ◌∷◌, ◌++◌, flat_map, Option, Some, None, Result, Ok, Err}
use Rattle.abt_sparse.specs.Chunk.{Header}
use Rattle.abt_chunks.specs.declared.progress.ChunkInfo.{ChunkInfo}
use Rattle.abt_chunks.specs.Listing.{Listing, listing_of}
use Rattle.abt_sparse.specs.declared.fault.SparseFault.{SparseFault}
use Rattle.abt_sparse.specs.declared.fault.SparseFault.TheVariants as faults
use Rattle.cmd_common_listing.specs.Listing.{chunk_text, header_text}

abbrev pub header_line : Header → List ℕ
header_line h = header_text h ++ (10 ∷ [])

abbrev pub chunk_line : ChunkInfo → List ℕ
chunk_line c = chunk_text c ++ (10 ∷ [])

-- P holds of the lines of the image at the beginning of x, after which y is left
pub record Listed (x y : List ℕ) (P : List ℕ → Type 0) : Type 0 where
  pub header : Header
  pub chunks : List ChunkInfo
  pub image : listing_of x ≡ record { head = Some header; shown = chunks; ending = Ok y }
  pub holds : P (header_line header ++ flat_map chunk_line chunks)

-- what is printed of a listing: its header's line, where there is one, and a line for each chunk
abbrev pub head_text : Option Header → List ℕ
head_text None = []
head_text (Some h) = header_line h

abbrev pub listing_text : Listing → List ℕ
listing_text l = head_text l.head ++ flat_map chunk_line l.shown

-- ---- faults

-- The fault f is the listing's own, and P holds of the lines of everything before it.
pub record ListingRefuses (l : Listing) (f : SparseFault) (P : List ℕ → Type 0) : Type 0 where
  pub ending : l.ending ≡ Err f
  pub holds : P (listing_text l)

abbrev pub IsWrite : SparseFault → Type 0
IsWrite (faults.Write d) = Unit {0}
IsWrite f = ⊥

-- the fault is Write exactly where the count of failed writes rose
abbrev pub WriteTold : SparseFault → ℕ → ℕ → Type 0
WriteTold (faults.Write d) w w' = w < w'
WriteTold f w w' = w' ≡ w

-- the fault is Read only where the count of failed reads rose, and that count rises for no other fault, except where
-- a write failed after it
abbrev pub ReadTold : {X : Type 0} → Result X SparseFault → ℕ → ℕ → Type 0
ReadTold (Err (faults.Read d)) r r' = r < r'
ReadTold (Err (faults.Write d)) r r' = r ≤ r'
ReadTold a r r' = r' ≡ r
