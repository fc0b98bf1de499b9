-- What verifying a whole input against a partition returns, in terms of what an image is and what a fault is.
use Rattle.std.specs.Prelude.{◌≡◌, ℕ, ◌+◌, ◌*◌, Bool, List, Option, Result, Ok, Err, IsTrue}
use Rattle.abt_sparse.specs.declared.fault.SparseFault.{SparseFault}
use Rattle.abt_sparse.specs.Block.{cells}
use Rattle.abt_sparse.specs.Chunk.{Header, Chunk, classed}
use Rattle.abt_sparse.specs.Fails.{Fails, Spells}
use Rattle.abt_verify.specs.Standing.{FirstDiffers, Stands, held_in}
use Rattle.abt_verify.specs.declared.fault.VerifyFault.{VerifyFault}
use Rattle.abt_verify.specs.declared.fault.VerifyFault.TheVariants.{Sparse, Differs}
use Rattle.abt_verify.specs.declared.stage.Verified.{Verified}

-- An image is at the beginning of x, and rest after it. Each byte of its raw and fill blocks is at its place of a
-- partition that holds p. The result counts these blocks, and each of their bytes was read of the partition, once.
pub record WholeVerify (models : Bool) (e : Verified) (p x rest : List ℕ) (given given' : ℕ) : Type 0 where
  pub header : Header
  pub chunks : List Chunk
  pub spelled : Spells x header chunks rest
  pub stands : IsTrue models → Stands p (cells header.blk_sz (classed chunks))
  pub blocks : e.blocks ≡ held_in (classed chunks)
  pub once : given' ≡ given + header.blk_sz * e.blocks

-- x has this fault, and what comes before it stands
pub record RefusedVerify (models : Bool) (f : SparseFault) (p x : List ℕ) : Type 0 where
  pub before : List (Option ℕ)
  pub fails : Fails x f before
  pub stands : IsTrue models → Stands p before

-- What bytes say of a partition: an image its blocks, and bytes with a fault what comes before it.
pub data SaysOfPartition (x : List ℕ) : List (Option ℕ) → Type 0 where
  image : (h : Header) (cs : List Chunk) (rest : List ℕ) → Spells x h cs rest
      → SaysOfPartition x (cells h.blk_sz (classed cs))
  fault : (f : SparseFault) (before : List (Option ℕ)) → Fails x f before → SaysOfPartition x before

-- byte n is the first that differs from what x says
pub record Different (models : Bool) (n : ℕ) (p x : List ℕ) : Type 0 where
  pub said : List (Option ℕ)
  pub says : SaysOfPartition x said
  pub first : IsTrue models → FirstDiffers p said n

-- what is returned over an input x of which rest is left, and a partition that holds p, save where bytes were not read
abbrev pub Verifies : Bool → Result Verified VerifyFault → List ℕ → List ℕ → List ℕ → ℕ → ℕ → Type 0
Verifies models (Ok e) p x rest given given' = WholeVerify models e p x rest given given'
Verifies models (Err (Sparse f)) p x rest given given' = RefusedVerify models f p x
Verifies models (Err (Differs n)) p x rest given given' = Different models n p x
Verifies models (Err f) p x rest given given' = Unit {0}
