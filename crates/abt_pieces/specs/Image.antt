-- Whatever the source gave, a piece is a sparse image of all blocks. And what may still follow in a piece that is
-- being written.
use Rattle.std.specs.Prelude.{◌≡◌, ℕ, ◌+◌, ◌-◌, ◌^◌, ◌<◌, List, [], ◌++◌, length, Option, Some, None}
use Rattle.std.specs.List.{flat_map, AllByRecursion}
use Rattle.abt_sparse.specs.Chunk.{Chunk, IsChunk, data_of, plain, plain_header}
use Rattle.abt_sparse.specs.Fails.{Spells, counted_in}
use Rattle.abt_pieces.specs.Write.{begins}
use Rattle.abt_pieces.specs.declared.write.Copying.{Copying}
use Rattle.abt_pieces.specs.declared.write.Writer.{Writer}
use Rattle.abt_pieces.specs.declared.stage.CutterStage.{CutterStage}
use Rattle.abt_pieces.specs.declared.stage.CutterStage.TheVariants.{Between, Plan, Begin, Write, Done, Failed}

-- after `old` there is more in `new`, of which P is so
pub record Appended (P : List ℕ → Type 0) (old new : List ℕ) : Type 0 where
  pub wrote : List ℕ
  pub behind : new ≡ old ++ wrote
  pub is : P wrote

-- Q may follow what was written since: then P came after what was there before
abbrev pub Leads : (List ℕ → Type 0) → (List ℕ → Type 0) → List ℕ → List ℕ → Type 0
Leads P Q old new = Appended (λ x. (t : List ℕ) → Q t → P (x ++ t)) old new

-- x is a sparse image of n blocks of b bytes, with as many chunks as its header says, and nothing after it
pub record IsPlainImage (b n : ℕ) (x : List ℕ) : Type 0 where
  pub chunks : List Chunk
  pub spelled : Spells x (plain_header b n (length chunks)) chunks []

-- a chunk that is encoded plainly
pub record IsPlain (b : ℕ) (c : Chunk) : Type 0 where
  pub is : IsChunk b c
  pub fits : 12 + length (data_of c) < 2 ^ 32

-- x is k such chunks, which count j blocks
pub record AreChunks (b k j : ℕ) (x : List ℕ) : Type 0 where
  pub chunks : List Chunk
  pub count : length chunks ≡ k
  pub blocks : counted_in chunks ≡ j
  pub all : AllByRecursion (IsPlain b) chunks
  pub bytes : x ≡ flat_map plain chunks

-- how many bytes of the open chunk are still to be copied, and how many blocks of the raw run are in chunks still to
-- be begun
abbrev pub copy_to_come : Option Copying → ℕ
copy_to_come None = 0
copy_to_come (Some c) = c.left

abbrev pub blocks_to_come : Option Copying → ℕ
blocks_to_come None = 0
blocks_to_come (Some c) = c.after

-- t may follow what is written: the rest of the open chunk, and all chunks still to be begun, with all blocks that
-- are left
pub record MayCome (b n : ℕ) (w : Writer) (t : List ℕ) : Type 0 where
  pub raw : List ℕ
  pub rest : List ℕ
  pub long : length raw ≡ copy_to_come w.copying
  pub chunks : AreChunks b w.chunks (blocks_to_come w.copying + (n - begins w.gatherer)) rest
  pub bytes : t ≡ raw ++ rest

-- the same at any stage: all of an image, or the rest of one
abbrev pub StageMayCome : ℕ → ℕ → CutterStage → List ℕ → Type 0
StageMayCome b n Between t = IsPlainImage b n t
StageMayCome b n (Plan p) t = IsPlainImage b n t
StageMayCome b n (Begin o) t = IsPlainImage b n t
StageMayCome b n (Write o w) t = MayCome b n w t
StageMayCome b n Done t = IsPlainImage b n t
StageMayCome b n (Failed f) t = IsPlainImage b n t
