-- The number of each fault.
use Rattle.std.specs.Prelude.{ℕ}
use Rattle.abt_sparse.specs.declared.fault.SparseFault.{SparseFault}
use Rattle.abt_sparse.specs.declared.fault.SparseFault.TheVariants.{Magic, Major, FileHeaderSize, ChunkHeaderSize}
use Rattle.abt_sparse.specs.declared.fault.SparseFault.TheVariants.{BlockSize, ChunkType, ChunkLength, TooManyBlocks}
use Rattle.abt_sparse.specs.declared.fault.SparseFault.TheVariants.{TooFewBlocks, Truncated, Read, Write}

abbrev pub number_of : SparseFault → ℕ
number_of Magic = 1
number_of (Major n) = 2
number_of (FileHeaderSize n) = 3
number_of (ChunkHeaderSize n) = 4
number_of (BlockSize n) = 5
number_of (ChunkType i k) = 6
number_of (ChunkLength i) = 7
number_of (TooManyBlocks i) = 8
number_of (TooFewBlocks n) = 9
number_of (Truncated n) = 10
number_of (Read d) = 11
number_of (Write d) = 12
