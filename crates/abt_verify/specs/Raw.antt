-- What verifying a raw image against a partition returns.
use Rattle.std.specs.Prelude.{◌≡◌, ℕ, ◌+◌, ◌%◌, ◌≤◌, Bool, List, length, Result, Ok, Err, IsTrue}
use Rattle.std.specs.Int.{div_ceil}
use Rattle.abt_chunks.specs.Ahead.{somes}
use Rattle.abt_verify.specs.Standing.{FirstDiffers, Stands}
use Rattle.abt_verify.specs.declared.fault.VerifyFault.{VerifyFault}
use Rattle.abt_verify.specs.declared.fault.VerifyFault.TheVariants.{BadBlock, Differs}
use Rattle.abt_verify.specs.declared.stage.Verified.{Verified}

-- a size that the blocks of a raw image may have
pub record IsRawBlock (b : ℕ) : Type 0 where
  pub least : 4 ≤ b
  pub most : b ≤ 65536
  pub words : b % 4 ≡ 0

-- Each byte of x is at its place, and was read of the partition, once. The result counts the blocks that hold them.
pub record WholeRaw (models : Bool) (e : Verified) (b : ℕ) (p x : List ℕ) (given given' : ℕ) : Type 0 where
  pub stands : IsTrue models → Stands p (somes x)
  pub blocks : e.blocks ≡ div_ceil (length x) b
  pub once : given' ≡ given + length x

-- what is returned over a raw image x, and a partition that holds p, save where bytes were not read
abbrev pub VerifiesRaw : Bool → Result Verified VerifyFault → ℕ → List ℕ → List ℕ → ℕ → ℕ → Type 0
VerifiesRaw models (Ok e) b p x given given' = WholeRaw models e b p x given given'
VerifiesRaw models (Err (Differs n)) b p x given given' = IsTrue models → FirstDiffers p (somes x) n
VerifiesRaw models (Err f) b p x given given' = Unit {0}

-- 15 comes for this size of blocks, which none may have; any other result where one may
abbrev pub JudgesBlockSize : Result Verified VerifyFault → ℕ → Type 0
JudgesBlockSize (Err (BadBlock n)) b = (n ≡ b) × (IsRawBlock b → ⊥)
JudgesBlockSize r b = IsRawBlock b
