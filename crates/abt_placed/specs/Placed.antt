-- What a placer has written of the blocks that it has taken.
use Rattle.std.specs.Prelude.{◌≡◌, ℕ, ◌+◌, List, ◌++◌, length, drop, replicate}
use Rattle.abt_sparse.specs.Block.{Block, Skip, AreBlocks}
use Rattle.abt_sparse.specs.Chunk.{chunks_of}
use Rattle.abt_runs.specs.Part.{AllOf, raw_of}
use Rattle.abt_runs.specs.Tail.{tailed}
use Rattle.abt_runs.specs.declared.part.RunKind.{RunKind}
use Rattle.abt_sparsify.specs.Sparsify.{bytes_of}
use Rattle.abt_placed.specs.Placer.{kept_for, data_for}
use Rattle.abt_placed.specs.declared.placer.Placer.{Placer}

-- the first n blocks of b bytes, of which the first p are by class, and the others raw
abbrev pub classes : ℕ → ℕ → ℕ → List ℕ → List Block
classes b p n x = tailed b n p x

-- so many blocks that are skipped
abbrev pub skips : ℕ → List Block
skips n = replicate n Skip

-- what is written of the open chunk, whose header is not written yet
abbrev pub open_bytes : RunKind → List Block → List ℕ
open_bytes k g = kept_for k ++ data_for k (raw_of g)

-- Of the blocks g all were taken: after the earlier bytes come zeros for the image's header, the chunks that are
-- whole, and of the open chunk what is written as its blocks come. Whatever blocks t follow, the chunks of all are
-- those that are whole, and then those of the open chunk's blocks and t.
pub record Placed (b : ℕ) (g : List Block) (now : List ℕ) (s : Placer) : Type 0 where
  pub before : List ℕ
  pub done : List ℕ
  pub front : length before ≡ s.front
  pub stands : now ≡ (before ++ (replicate 28 0 ++ done)) ++ open_bytes s.kind (drop s.blocks g)
  pub bytes : (t : List Block) → AreBlocks b t
      → bytes_of s.most (g ++ t) ≡ done ++ bytes_of s.most (drop s.blocks g ++ t)
  pub chunks : (t : List Block) → AreBlocks b t
      → length (chunks_of s.most (g ++ t)) ≡ s.chunks + length (chunks_of s.most (drop s.blocks g ++ t))
  pub all : AllOf s.kind (drop s.blocks g)
  pub count : length g ≡ s.blocks + s.count
  pub good : AreBlocks b g
