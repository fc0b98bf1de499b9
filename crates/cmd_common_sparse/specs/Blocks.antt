-- The blocks of a raw image, and the limits that have room for one block.
use Rattle.std.specs.Prelude.{◌≡◌, ◌<◌, ◌≤◌, ◌+◌, ◌%◌, ◌/◌, ℕ, Bool, if◌then◌else◌}
use Rattle.abt_pieces.specs.declared.fault.PieceFault.TheVariants.{LimitTooSmall}
use Rattle.abt_runs.specs.Raw.{RefusedRaw}
use Rattle.cmd_common_sparse.specs.declared.fault.SparseCommandFault.{SparseCommandFault}
use Rattle.cmd_common_sparse.specs.declared.fault.SparseCommandFault.TheVariants as faults

-- a block has whole words, and at most 65,536 bytes
abbrev pub IsRawBlockSize : ℕ → Type 0
IsRawBlockSize size = (4 ≤ size) × (size ≤ 65536) × (size % 4 ≡ 0)

-- A raw chunk has at most as many blocks of this size as fit into 64 MiB. As img2simg has it, these are as many as its
-- header can say: all its bytes, with 12 of the header, are a number below 2 ^ 32.
abbrev pub most_of : Bool → ℕ → ℕ
most_of as_img2simg size = (if as_img2simg then 4294967283 else 67108864) / size

-- why a raw image so long is not cut: it has no such blocks, or too many, or the limit has no room for one
abbrev pub RefusedCut : SparseCommandFault → ℕ → ℕ → ℕ → Type 0
RefusedCut (faults.Run fault) size long limit = RefusedRaw fault size long
RefusedCut (faults.Piece fault) size long limit = (fault ≡ LimitTooSmall (64 + size)) × (limit < 64 + size)
RefusedCut (faults.Sparse fault) size long limit = ⊥
RefusedCut (faults.Flash fault) size long limit = ⊥
RefusedCut (faults.Verify fault) size long limit = ⊥
RefusedCut (faults.OtherBlocks image) size long limit = ⊥
RefusedCut (faults.OtherCut image) size long limit = ⊥
RefusedCut (faults.Host fault) size long limit = ⊥
