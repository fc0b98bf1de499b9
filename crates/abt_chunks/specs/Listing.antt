-- What a listing shows of an image: its header, its chunks in order, and how it ends.
use Rattle.std.specs.Prelude.{◌≡◌, ℕ, ◌+◌, ◌-◌, ◌<◌, ◌≤◌, List, [], ◌∷◌, ◌++◌, length, drop, Option, Some, None, Result}
use Rattle.std.specs.Prelude.{Ok, Err, nat_lt, if◌then◌else◌}
use Rattle.abt_sparse.specs.declared.fault.SparseFault.{SparseFault}
use Rattle.abt_sparse.specs.declared.fault.SparseFault.TheVariants.{TooFewBlocks, Truncated}
use Rattle.abt_sparse.specs.declared.kind.ChunkKind.TheVariants as kinds
use Rattle.abt_sparse.specs.Chunk.{Header, IsHeader, header_record, Chunk, Raws, Fills, Skips, Crc}
use Rattle.abt_sparse.specs.Reading.{checked_header, ChunksRead, Done, Failed, chunks_at}
use Rattle.abt_sparse.specs.Fails.{ChunkFails, Front, HeaderFails, Spells, counted_in}
use Rattle.abt_chunks.specs.declared.progress.ChunkInfo.{ChunkInfo}

abbrev pub no_word : List ℕ
no_word = 0 ∷ 0 ∷ 0 ∷ 0 ∷ []

-- what is shown of a chunk: raw bytes and gaps have no word, and a checksum has no blocks
abbrev pub info_of : ℕ → Chunk → ChunkInfo
info_of i (Raws blocks) = record { index = i; kind = kinds.Raw; blocks = length blocks; word = no_word }
info_of i (Fills word n) = record { index = i; kind = kinds.Fill; blocks = n; word = word }
info_of i (Skips n) = record { index = i; kind = kinds.Skip; blocks = n; word = no_word }
info_of i (Crc word) = record { index = i; kind = kinds.Crc; blocks = 0; word = word }

-- of chunks in a row, of which the first is chunk i
abbrev pub infos : ℕ → List Chunk → List ChunkInfo
infos i [] = []
infos i (c ∷ cs) = info_of i c ∷ infos (i + 1) cs

-- The header, where it is good; the chunks that are whole, in order; and the bytes after the image, or its fault.
pub record Listing : Type 0 where
  pub head : Option Header
  pub shown : List ChunkInfo
  pub ending : Result (List ℕ) SparseFault

abbrev pub headless : SparseFault → Listing
headless f = record { head = None; shown = []; ending = Err f }

abbrev pub listed : Header → ℕ → ChunksRead → Listing
listed h i (Done cs rest) = record { head = Some h; shown = infos i cs; ending = Ok rest }
listed h i (Failed f cs came) = record { head = Some h; shown = infos i cs; ending = Err f }

-- the listing of an input of size bytes from chunk i on, after so many blocks
unfoldable pub listing_from : Header → ℕ → ℕ → ℕ → List ℕ → Listing
listing_from h size i have y = listed h i (chunks_at h size i have (h.total_chunks - i) y)

abbrev pub listing_behind : List ℕ → Result Header SparseFault → Listing
listing_behind x (Err f) = headless f
listing_behind x (Ok h) =
    if nat_lt (length x) h.file_hdr_sz then headless (Truncated (length x))
    else listing_from h (length x) 0 0 (drop h.file_hdr_sz x)

-- the listing of a whole input
unfoldable pub listing_of : List ℕ → Listing
listing_of x = if nat_lt (length x) 28 then headless (Truncated (length x)) else listing_behind x (checked_header x)

-- ---- what a listing is, apart from how it is found

-- A listing shows the chunks of an image in order, and of bytes with a fault the chunks before it, and the fault.
pub record ListingsAreRight : Type 0 where
  pub image : (x : List ℕ) (h : Header) (cs : List Chunk) (rest : List ℕ) → Spells x h cs rest
      → listing_of x ≡ record { head = Some h; shown = infos 0 cs; ending = Ok rest }
  pub bad_chunk : (x : List ℕ) (h : Header) (cs : List Chunk) (y : List ℕ) (f : SparseFault) (came : List ℕ)
      → Front x h cs y → length cs < h.total_chunks
      → ChunkFails h (length x) (length cs) (counted_in cs) y f came
      → listing_of x ≡ record { head = Some h; shown = infos 0 cs; ending = Err f }
  pub too_few : (x : List ℕ) (h : Header) (cs : List Chunk) (y : List ℕ) → Front x h cs y → length cs ≡ h.total_chunks
      → counted_in cs < h.total_blks
      → listing_of x ≡ record { head = Some h; shown = infos 0 cs; ending = Err (TooFewBlocks (counted_in cs)) }
  pub no_image : (x : List ℕ) → length x < 28 → listing_of x ≡ headless (Truncated (length x))
  pub bad_header : (x : List ℕ) (f : SparseFault) → 28 ≤ length x → HeaderFails x f → listing_of x ≡ headless f
  pub cut_header : (x : List ℕ) (h : Header) (y : List ℕ) → IsHeader h → x ≡ header_record h ++ y
      → length x < h.file_hdr_sz → listing_of x ≡ headless (Truncated (length x))
