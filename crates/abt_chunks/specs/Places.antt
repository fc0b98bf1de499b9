-- Where a walk is in the expanded image, and what it still gives without another byte of input.
use Rattle.std.specs.Prelude.{ℕ, ◌+◌, ◌-◌, ◌*◌, Bool, List, [], ◌∷◌, ◌++◌, replicate, Option, Some, None, ◌==◌}
use Rattle.std.specs.Prelude.{if◌then◌else◌}
use Rattle.abt_sparse.specs.declared.kind.ChunkKind.{ChunkKind}
use Rattle.abt_sparse.specs.declared.kind.ChunkKind.TheVariants as kinds
use Rattle.abt_chunks.specs.declared.walk.Phase.{Phase}
use Rattle.abt_chunks.specs.declared.walk.Phase.TheVariants as phases
use Rattle.abt_chunks.specs.declared.walk.Walk.{Walk}
use Rattle.abt_chunks.specs.Ahead.{fills, gaps, left_of}

-- where the next byte of a block lies in the image
abbrev pub place_in : Phase → Walk → ℕ
place_in phases.Header s = 0
place_in p s = s.have * s.header.blk_sz - left_of s.kind s.raw s.words

abbrev pub place_of : Walk → ℕ
place_of s = place_in s.phase s

-- where the blocks of the chunks so far end
abbrev pub upto_in : Phase → Walk → ℕ
upto_in phases.Header s = 0
upto_in p s = s.have * s.header.blk_sz

abbrev pub upto_of : Walk → ℕ
upto_of s = upto_in s.phase s

-- what is given without another byte: the words that are left of a fill or of a gap whose data has been read
abbrev pub owed_of : ChunkKind → Bool → ℕ → List ℕ → List (Option ℕ)
owed_of kinds.Raw due words word = []
owed_of kinds.Fill due words word = if due then [] else fills words word
owed_of kinds.Skip due words word = gaps words
owed_of kinds.Crc due words word = []

abbrev pub owed_in : Phase → Walk → List (Option ℕ)
owed_in phases.Body s = if s.extra == 0 then owed_of s.kind s.due s.words s.word else []
owed_in p s = []

abbrev pub owed : Walk → List (Option ℕ)
owed s = owed_in s.phase s

-- cells from a place on
abbrev pub from_place : ℕ → List (Option ℕ) → List (Option ℕ)
from_place at cs = replicate at None ++ cs

-- how many bytes cells say
abbrev pub said_by : List (Option ℕ) → ℕ
said_by [] = 0
said_by (None ∷ cs) = said_by cs
said_by (Some x ∷ cs) = 1 + said_by cs
