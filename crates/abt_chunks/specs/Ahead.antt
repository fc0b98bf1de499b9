-- What the rest of an input gives to a reader in the middle of an image, by the numbers that the reader keeps.
use Rattle.std.specs.Prelude.{ℕ, ◌-◌, ◌*◌, ◌/◌, Bool, true, false, List, [], ◌++◌, length, take, drop, map, replicate}
use Rattle.std.specs.Prelude.{Option, Some, None, Result, Ok, Err, nat_lt, if◌then◌else◌}
use Rattle.std.specs.List.{concat}
use Rattle.abt_sparse.specs.declared.fault.SparseFault.{SparseFault}
use Rattle.abt_sparse.specs.declared.fault.SparseFault.TheVariants.{Truncated}
use Rattle.abt_sparse.specs.declared.kind.ChunkKind.{ChunkKind}
use Rattle.abt_sparse.specs.declared.kind.ChunkKind.TheVariants as kinds
use Rattle.abt_sparse.specs.Block.{cells, laid}
use Rattle.abt_sparse.specs.Chunk.{Header, classed}
use Rattle.abt_sparse.specs.Reading.{ChunksRead, Done, Failed, chunks_at, Outcome, Image, Fault}

-- What is still to come: the cells, one for each byte, and how it ends, with the header and the bytes after the image
-- or with a fault.
pub record Ahead : Type 0 where
  pub cells : List (Option ℕ)
  pub ending : Result (Header × List ℕ) SparseFault

-- a fault, with nothing before it
abbrev pub stopping : SparseFault → Ahead
stopping f = record { cells = []; ending = Err f }

-- these cells, and then what is ahead
abbrev pub before : List (Option ℕ) → Ahead → Ahead
before cs a = record { cells = cs ++ a.cells; ending = a.ending }

-- bytes as cells; a word, so many times; and so many words that do not matter
abbrev pub somes : List ℕ → List (Option ℕ)
somes xs = map (λ x. Some x) xs

abbrev pub fills : ℕ → List ℕ → List (Option ℕ)
fills n word = somes (concat (replicate n word))

abbrev pub gaps : ℕ → List (Option ℕ)
gaps n = replicate (4 * n) None

-- an outcome as cells and an ending
abbrev pub seen_chunks : Header → ChunksRead → Ahead
seen_chunks h (Done cs rest) = record { cells = cells h.blk_sz (classed cs); ending = Ok (h, rest) }
seen_chunks h (Failed f cs came) = record { cells = cells h.blk_sz (classed cs) ++ somes came; ending = Err f }

abbrev pub seen : Outcome → Ahead
seen (Image h cs rest) = record { cells = cells h.blk_sz (classed cs); ending = Ok (h, rest) }
seen (Fault f cs) = record { cells = cs; ending = Err f }

-- what follows i chunks that have so many blocks, where the whole input has size bytes
unfoldable pub chunks_ahead : Header → ℕ → ℕ → ℕ → List ℕ → Ahead
chunks_ahead h size i have y = seen_chunks h (chunks_at h size i have (h.total_chunks - i) y)

-- a word is read, and then what f says of it and of the bytes after it
abbrev pub word_then : ℕ → List ℕ → (List ℕ → List ℕ → Ahead) → Ahead
word_then size y f = if nat_lt (length y) 4 then stopping (Truncated size) else f (take 4 y) (drop 4 y)

-- The same in the data of a chunk of this kind: its word is still due or has been read, and so many raw bytes and so
-- many words are left.
unfoldable pub body_ahead : ChunkKind → Bool → Header → ℕ → ℕ → ℕ → ℕ → List ℕ → ℕ → List ℕ → Ahead
body_ahead kinds.Raw due h i have raw words word size y =
    if nat_lt (length y) raw then record { cells = somes y; ending = Err (Truncated size) }
    else before (somes (take raw y)) (chunks_ahead h size i have (drop raw y))
body_ahead kinds.Fill true h i have raw words word size y =
    word_then size y (λ w rest. before (fills words w) (chunks_ahead h size i have rest))
body_ahead kinds.Fill false h i have raw words word size y = before (fills words word) (chunks_ahead h size i have y)
body_ahead kinds.Skip due h i have raw words word size y = before (gaps words) (chunks_ahead h size i have y)
body_ahead kinds.Crc true h i have raw words word size y = word_then size y (λ w rest. chunks_ahead h size i have rest)
body_ahead kinds.Crc false h i have raw words word size y = chunks_ahead h size i have y

-- and with so many extra bytes of a header before it
unfoldable pub walk : ChunkKind → Bool → Header → ℕ → ℕ → ℕ → ℕ → ℕ → List ℕ → ℕ → List ℕ → Ahead
walk k due h i have extra raw words word size y =
    if nat_lt (length y) extra then stopping (Truncated size)
    else body_ahead k due h i have raw words word size (drop extra y)

-- what the header of a chunk of n blocks of b bytes announces: raw bytes, a word, words to give
abbrev pub raw_announced : ChunkKind → ℕ → ℕ → ℕ
raw_announced kinds.Raw n b = n * b
raw_announced k n b = 0

abbrev pub due_of : ChunkKind → Bool
due_of kinds.Fill = true
due_of kinds.Crc = true
due_of k = false

abbrev pub words_announced : ChunkKind → ℕ → ℕ → ℕ
words_announced kinds.Fill n b = n * (b / 4)
words_announced kinds.Skip n b = n * (b / 4)
words_announced k n b = 0

-- how many bytes of its blocks are left
abbrev pub left_of : ChunkKind → ℕ → ℕ → ℕ
left_of kinds.Raw raw words = raw
left_of kinds.Fill raw words = 4 * words
left_of kinds.Skip raw words = 4 * words
left_of kinds.Crc raw words = 0

-- what has been written once all that lies ahead is written after these bytes, and the ending
abbrev pub finish : List ℕ → Ahead → List ℕ × Result (Header × List ℕ) SparseFault
finish front a = (front ++ laid a.cells, a.ending)
