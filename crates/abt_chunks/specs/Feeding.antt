-- What a walk that gets its input in pieces may hold of it: the beginning of a header or of a word.
use Rattle.std.specs.Prelude.{ℕ, Bool, if◌then◌else◌, ◌==◌}
use Rattle.abt_sparse.specs.declared.kind.ChunkKind.{ChunkKind}
use Rattle.abt_sparse.specs.declared.kind.ChunkKind.TheVariants as kinds
use Rattle.abt_chunks.specs.Cause.{head_wanted}
use Rattle.abt_chunks.specs.declared.walk.Phase.{Phase}
use Rattle.abt_chunks.specs.declared.walk.Phase.TheVariants as phases
use Rattle.abt_chunks.specs.declared.walk.Walk.{Walk}
use Rattle.abt_chunks.specs.declared.walk.Turn.{Turn}
use Rattle.abt_chunks.specs.declared.walk.Turn.TheVariants as turns

-- a header or a word, which is taken whole and gives nothing of a block
abbrev pub TakesWhole : Turn → Type 0
TakesWhole turns.Header = Unit {0}
TakesWhole turns.Word = Unit {0}
TakesWhole turns.Chunk = Unit {0}
TakesWhole t = ⊥

-- how many bytes it takes whole
abbrev pub whole_of : Turn → ℕ
whole_of turns.Header = 28
whole_of turns.Word = 4
whole_of turns.Chunk = 12
whole_of t = 0

-- the same of a walk: of the data of a chunk, where its header has been passed and the next one's takes so many
abbrev pub whole_in_data : ChunkKind → Bool → ℕ → ℕ → ℕ → ℕ
whole_in_data kinds.Raw due raw words head = if raw == 0 then head else 0
whole_in_data kinds.Fill due raw words head = if due then 4 else (if words == 0 then head else 0)
whole_in_data kinds.Skip due raw words head = if words == 0 then head else 0
whole_in_data kinds.Crc due raw words head = if due then 4 else head

abbrev pub whole_in : Phase → Walk → ℕ
whole_in phases.Header s = 28
whole_in phases.Body s = if s.extra == 0 then whole_in_data s.kind s.due s.raw s.words (head_wanted s) else 0
whole_in p s = 0

-- how many bytes it takes whole next
abbrev pub whole_next : Walk → ℕ
whole_next s = whole_in s.phase s
