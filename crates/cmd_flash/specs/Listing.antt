-- What the command `list` prints of a file, which it leaves as it is.
use Rattle.std.specs.Prelude.{ℕ, List, ◌++◌, flat_map, Option}
use Rattle.abt_sparse.specs.declared.fault.SparseFault.{SparseFault}
use Rattle.abt_sparse.specs.declared.fault.SparseFault.TheVariants as of_sparse
use Rattle.abt_sparse.specs.Chunk.{Header, Chunk}
use Rattle.abt_sparse.specs.Fails.{Fails, Spells}
use Rattle.abt_chunks.specs.Listing.{infos}
use Rattle.cmd_common_listing.specs.Listed.{chunk_line, header_line}
use Rattle.sys_disk.specs.Counts.{call, reading}
use Rattle.sys_disk.specs.World.{World, OpenFiles, HasFailed}
use Rattle.cmd_common_sparse.specs.declared.fault.SparseCommandFault.{SparseCommandFault}
use Rattle.cmd_common_sparse.specs.declared.fault.SparseCommandFault.TheVariants as faults
use Rattle.cmd_flash.specs.Files.{OfFile}

-- x begins with an image, and its header and its chunks were printed, a line each
pub record IsListed (x : List ℕ) (printed : List ℕ → Type 0) : Type 0 where
  pub header : Header
  pub chunks : List Chunk
  pub rest : List ℕ
  pub spelled : Spells x header chunks rest
  pub shown : printed (header_line header ++ flat_map chunk_line (infos 0 chunks))

-- the first fault of x; or reading has failed, or printing
abbrev pub IsUnlisted : Type 0 → Type 0 → SparseFault → List ℕ → Type 0
IsUnlisted unread unprinted (of_sparse.Read d) x = unread
IsUnlisted unread unprinted (of_sparse.Write d) x = unprinted
IsUnlisted unread unprinted f x = (given : List (Option ℕ)) × Fails x f given

-- why the command fails: for what the file holds, or the file has failed; or the rows were not printed, which is no
-- call of the disk, so that the report counts it
abbrev pub RefusesList : SparseCommandFault → List ℕ → World → OpenFiles → OpenFiles → Type 0 → Type 0
RefusesList (faults.Sparse f) input world held held' unprinted =
    OfFile input world (IsUnlisted (HasFailed reading held held') unprinted f)
RefusesList (faults.Host f) input world held held' unprinted = HasFailed (call f) held held'
RefusesList f input world held held' unprinted = ⊥
