-- What an expansion of a whole input returns and writes, in terms of what an image is and what a fault is.
use Rattle.std.specs.Prelude.{◌≡◌, ℕ, ◌+◌, ◌*◌, ◌<◌, List, ◌++◌, length, take, Option, Result, Ok, Err}
use Rattle.abt_sparse.specs.declared.fault.SparseFault.TheVariants.{Truncated}
use Rattle.abt_sparse.specs.declared.fault.SparseFault.{SparseFault}
use Rattle.abt_sparse.specs.Block.{laid, expansion}
use Rattle.abt_sparse.specs.Chunk.{Header, Chunk, classed}
use Rattle.abt_sparse.specs.Fails.{Fails, Spells}
use Rattle.abt_chunks.specs.declared.progress.Expanded.{Expanded}
use Rattle.abt_chunks.specs.Expanding.{IsFrontOf, UnlessExpandingDevice}

-- An image is at the beginning of x, and rest after it; its expansion was written, and the result counts it.
pub record Expansion (e : Expanded) (old new x rest : List ℕ) : Type 0 where
  pub header : Header
  pub chunks : List Chunk
  pub spelled : Spells x header chunks rest
  pub written : new ≡ old ++ expansion header.blk_sz (classed chunks)
  pub blocks : e.blocks ≡ header.total_blks
  pub bytes : e.bytes ≡ header.total_blks * header.blk_sz

-- x has this fault; what comes before it was written: the blocks of the chunks before it, and the raw bytes that came
pub record Refusal (f : SparseFault) (old new x : List ℕ) : Type 0 where
  pub given : List (Option ℕ)
  pub fails : Fails x f given
  pub written : new ≡ old ++ laid given

-- what is returned over an input x of which rest is left, save where a device failed
abbrev pub Expands : Result Expanded SparseFault → List ℕ → List ℕ → List ℕ → List ℕ → Type 0
Expands (Ok e) old new x rest = Expansion e old new x rest
Expands (Err f) old new x rest = UnlessExpandingDevice f (Refusal f old new x)

-- what bytes give where nothing was before, whether an image is at their beginning or they have a fault
pub data Gives (y : List ℕ) : List ℕ → Type 0 where
  image : (h : Header) (cs : List Chunk) (rest : List ℕ) → Spells y h cs rest
      → Gives y (expansion h.blk_sz (classed cs))
  fault : (f : SparseFault) (given : List (Option ℕ)) → Fails y f given → Gives y (laid given)

-- what was written is a beginning of what the bytes y give
pub record Begun (old new y : List ℕ) : Type 0 where
  pub whole : List ℕ
  pub gives : Gives y whole
  pub begins : IsFrontOf new (old ++ whole)

-- All that the bytes y give was written after what was there, but for fewer bytes than a window has.
pub record AlmostWhole (old new y : List ℕ) : Type 0 where
  pub whole : List ℕ
  pub gives : Gives y whole
  pub few : length old + length whole < length new + 65536

-- of these bytes nothing is known but that they end too soon
pub record EndsTooSoon (y : List ℕ) : Type 0 where
  pub came : List (Option ℕ)
  pub fails : Fails y (Truncated (length y)) came

-- No byte of x was read that was not needed: any fewer bytes than these end too soon.
abbrev pub AllNeeded : List ℕ → ℕ → Type 0
AllNeeded x read = (n : ℕ) → n < read → EndsTooSoon (take n x)
