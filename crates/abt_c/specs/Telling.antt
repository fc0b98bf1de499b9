-- A part of an image as the numbers that are reported to C.
use Rattle.abt_chunks.specs.Listing.{no_word}
use Rattle.std.specs.Prelude.{◌≡◌, ℕ, ◌+◌, ◌*◌, List}
use Rattle.abt_sparse.specs.Number.{number_of}
use Rattle.abt_sparse.specs.declared.fault.SparseFault.{SparseFault}
use Rattle.abt_sparse.specs.declared.fault.SparseFault.TheVariants as faults
use Rattle.abt_chunks.specs.declared.walk.Part.TheVariants as parts
use Rattle.abt_chunks.specs.declared.feed.Pull.{Pull}
use Rattle.abt_chunks.specs.declared.feed.Pull.TheVariants as pulls
use Rattle.abt_c.specs.declared.state.AbtPart.{AbtPart}

-- the detail of a fault beside its number
abbrev pub detail_of : SparseFault → ℕ
detail_of faults.Magic = 0
detail_of (faults.Major n) = n
detail_of (faults.FileHeaderSize n) = n
detail_of (faults.ChunkHeaderSize n) = n
detail_of (faults.BlockSize n) = n
detail_of (faults.ChunkType i k) = i + 4294967296 * k
detail_of (faults.ChunkLength i) = i
detail_of (faults.TooManyBlocks i) = i
detail_of (faults.TooFewBlocks n) = n
detail_of (faults.Truncated at) = at
detail_of (faults.Read d) = 0
detail_of (faults.Write d) = 0

-- a part that refuses nothing: what its kind does not use is 0
abbrev pub HasNumbers : AbtPart → ℕ → ℕ → List ℕ → Type 0
HasNumbers o kind length word = (o.kind ≡ kind) × (o.fault ≡ 0) × (o.detail ≡ 0) × (o.length ≡ length) × (o.word ≡ word)

-- the part with these numbers; only one that refuses the image has a fault
abbrev pub PartIs : Pull → AbtPart → Type 0
PartIs pulls.Need o = HasNumbers o 0 0 no_word
PartIs (pulls.Gives (parts.Raw n)) o = HasNumbers o 1 n no_word
PartIs (pulls.Gives (parts.Words word n)) o = HasNumbers o 2 (4 * n) word
PartIs (pulls.Gives (parts.Skip n)) o = HasNumbers o 3 (4 * n) no_word
PartIs (pulls.Gives parts.Nothing) o = HasNumbers o 4 0 no_word
PartIs (pulls.Gives parts.End) o = HasNumbers o 5 0 no_word
PartIs (pulls.Gives (parts.Fault f)) o =
    (o.kind ≡ 6) × (o.fault ≡ number_of f) × (o.detail ≡ detail_of f) × (o.length ≡ 0) × (o.word ≡ no_word)

-- a fault, and nothing beside it
pub record IsBare (o : AbtPart) : Type 0 where
  pub kind : o.kind ≡ 6
  pub used : o.used ≡ 0
  pub position : o.position ≡ 0
  pub length : o.length ≡ 0
  pub offset : o.offset ≡ 0
  pub word : o.word ≡ no_word
