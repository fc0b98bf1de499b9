-- What the command `verify` finds in files, which it leaves as they are.
use Rattle.std.specs.Prelude.{◌≡◌, ℕ, List, [], ◌∷◌, ◌++◌, ◌⊎◌, length, true, Result, Ok, Err}
use Rattle.std.specs.Int.{div_ceil}
use Rattle.abt_sparse.specs.Block.{cells}
use Rattle.abt_sparse.specs.Chunk.{Header, Chunk, classed}
use Rattle.abt_sparse.specs.Fails.{Spells}
use Rattle.abt_chunks.specs.Ahead.{somes}
use Rattle.abt_verify.specs.Raw.{IsRawBlock}
use Rattle.abt_verify.specs.Standing.{FirstDiffers, Stands, held_in}
use Rattle.abt_verify.specs.Verifying.{Different, RefusedVerify}
use Rattle.abt_verify.specs.declared.fault.VerifyFault.{VerifyFault}
use Rattle.abt_verify.specs.declared.fault.VerifyFault.TheVariants as verifies
use Rattle.sys_disk.specs.Counts.{call, reading}
use Rattle.sys_disk.specs.World.{World, OpenFiles, HasFailed}
use Rattle.sys_refusals.specs.declared.refusal.HostFault.TheVariants as hosts
use Rattle.cmd_common_sparse.specs.declared.fault.SparseCommandFault.{SparseCommandFault}
use Rattle.cmd_common_sparse.specs.declared.fault.SparseCommandFault.TheVariants as faults
use Rattle.cmd_common_sparse.specs.declared.lines.Line.TheVariants as lines
use Rattle.cmd_common_sparse.specs.Lines.{line_text}
use Rattle.cmd_flash.specs.Files.{OfBoth}

-- ---- a sparse image x, and a partition that holds p

-- x begins with an image that has n raw and fill blocks, and each byte of these is at its place
pub record IsThere (n : ℕ) (x p : List ℕ) : Type 0 where
  pub header : Header
  pub chunks : List Chunk
  pub rest : List ℕ
  pub spelled : Spells x header chunks rest
  pub stands : Stands p (cells header.blk_sz (classed chunks))
  pub blocks : n ≡ held_in (classed chunks)

-- the first fault of x, after what is stored; the first byte that differs; or a device has failed
abbrev pub IsNotThere : Type 0 → VerifyFault → List ℕ → List ℕ → Type 0
IsNotThere failed (verifies.Sparse f) x p = RefusedVerify true f p x
IsNotThere failed (verifies.Differs n) x p = Different true n p x
IsNotThere failed (verifies.Read d) x p = failed
IsNotThere failed (verifies.PartitionRead d) x p = failed
IsNotThere failed f x p = ⊥

-- what the call returns
abbrev pub Finds : Type 0 → Result ℕ SparseCommandFault → List ℕ → List ℕ → Type 0
Finds failed (Ok n) x p = IsThere n x p
Finds failed (Err (faults.Verify f)) x p = IsNotThere failed f x p
Finds failed (Err f) x p = ⊥

-- ---- a raw image x of blocks of b bytes, and a partition that holds p

-- each byte of x is at its place, and n blocks hold them
pub record IsThereRaw (n b : ℕ) (x p : List ℕ) : Type 0 where
  pub size : IsRawBlock b
  pub stands : Stands p (somes x)
  pub blocks : n ≡ div_ceil (length x) b

-- no image has such blocks; the first byte that differs; or a device has failed
abbrev pub IsNotThereRaw : Type 0 → VerifyFault → ℕ → List ℕ → List ℕ → Type 0
IsNotThereRaw failed (verifies.BadBlock n) b x p = (n ≡ b) × ¬ IsRawBlock b
IsNotThereRaw failed (verifies.Differs n) b x p = FirstDiffers p (somes x) n
IsNotThereRaw failed (verifies.Read d) b x p = failed
IsNotThereRaw failed (verifies.PartitionRead d) b x p = failed
IsNotThereRaw failed f b x p = ⊥

-- what the call returns
abbrev pub FindsRaw : Type 0 → Result ℕ SparseCommandFault → ℕ → List ℕ → List ℕ → Type 0
FindsRaw failed (Ok n) b x p = IsThereRaw n b x p
FindsRaw failed (Err (faults.Verify f)) b x p = IsNotThereRaw failed f b x p
FindsRaw failed (Err f) b x p = ⊥

-- ---- of files

-- the image that the file at one path holds is what the other's holds, and the line that was printed has its blocks
pub record VerifiesFile (input partition : List ℕ) (world : World) (shows : List ℕ → Type 0) : Type 0 where
  pub blocks : ℕ
  pub both : OfBoth input partition world (IsThere blocks)
  pub shown : shows (line_text (lines.Blocks blocks) ++ (10 ∷ []))

pub record VerifiesRawFile (size : ℕ) (input partition : List ℕ) (world : World)
    (shows : List ℕ → Type 0) : Type 0 where
  pub blocks : ℕ
  pub both : OfBoth input partition world (IsThereRaw blocks size)
  pub shown : shows (line_text (lines.Blocks blocks) ++ (10 ∷ []))

-- why the command fails: for what both files hold; or a file or a device has failed; or only the write of
-- its line
abbrev pub RefusesVerify : SparseCommandFault → List ℕ → List ℕ → World → OpenFiles → OpenFiles → (List ℕ → Type 0)
    → Type 0
RefusesVerify (faults.Verify f) input partition world held held' untold =
    OfBoth input partition world (IsNotThere (HasFailed reading held held') f)
RefusesVerify (faults.Host f) input partition world held held' untold =
    HasFailed (call f) held held' ⊎ ((f ≡ hosts.Write) × VerifiesFile input partition world untold)
RefusesVerify f input partition world held held' untold = ⊥

abbrev pub RefusesVerifyRaw : SparseCommandFault → ℕ → List ℕ → List ℕ → World → OpenFiles → OpenFiles
    → (List ℕ → Type 0)
    → Type 0
RefusesVerifyRaw (faults.Verify f) size input partition world held held' untold =
    OfBoth input partition world (IsNotThereRaw (HasFailed reading held held') f size)
RefusesVerifyRaw (faults.Host f) size input partition world held held' untold =
    HasFailed (call f) held held' ⊎ ((f ≡ hosts.Write) × VerifiesRawFile size input partition world untold)
RefusesVerifyRaw f size input partition world held held' untold = ⊥
