-- What a walk does next: its turn, how many bytes it asks for, and how much work is left.
use Rattle.std.specs.Prelude.{◌≡◌, ℕ, ◌+◌, ◌-◌, ◌*◌, ◌^◌, ◌<◌, ◌≤◌, Bool, true, false, if◌then◌else◌, min}
use Rattle.abt_sparse.specs.declared.kind.ChunkKind.{ChunkKind}
use Rattle.abt_sparse.specs.declared.kind.ChunkKind.TheVariants as kinds
use Rattle.abt_chunks.specs.declared.walk.Phase.{Phase}
use Rattle.abt_chunks.specs.declared.walk.Phase.TheVariants as phases
use Rattle.abt_chunks.specs.declared.walk.Walk.{Walk}
use Rattle.abt_chunks.specs.declared.walk.Turn.{Turn}
use Rattle.abt_chunks.specs.declared.walk.Turn.TheVariants as turns
use Rattle.abt_chunks.specs.Ahead.{due_of}

-- The measure of its steps: extra bytes, raw bytes, words and a word that is due, and 2 ^ 68 for each chunk to come,
-- which is more than any chunk takes.
abbrev pub todo_in : Phase → Walk → ℕ
todo_in phases.Header s = 2 ^ 102
todo_in phases.Body s =
    1 + (s.extra + s.raw + s.words + (if s.due then 1 else 0)) + (s.header.total_chunks - s.index) * 2 ^ 68
todo_in phases.Done s = 0
todo_in (phases.Failed f) s = 0

abbrev pub todo : Walk → ℕ
todo s = todo_in s.phase s

-- nothing of a chunk of this kind is left
abbrev pub SpentBy : ChunkKind → Bool → ℕ → ℕ → Type 0
SpentBy kinds.Raw due raw words = raw ≡ 0
SpentBy kinds.Fill due raw words = (due ≡ false) × (words ≡ 0)
SpentBy kinds.Skip due raw words = words ≡ 0
SpentBy kinds.Crc due raw words = due ≡ false

abbrev pub IsWalkOver : Phase → Type 0
IsWalkOver phases.Done = Unit {0}
IsWalkOver (phases.Failed f) = Unit {0}
IsWalkOver p = ⊥

abbrev pub SpentChunk : Walk → Type 0
SpentChunk s = SpentBy s.kind s.due s.raw s.words

-- when a walk is at each turn
abbrev pub AtTurn : Turn → Walk → Type 0
AtTurn turns.Header s = s.phase ≡ phases.Header
AtTurn turns.Extra s = (s.phase ≡ phases.Body) × (0 < s.extra)
AtTurn turns.Raw s = (s.phase ≡ phases.Body) × (s.extra ≡ 0) × (s.kind ≡ kinds.Raw) × (0 < s.raw)
AtTurn turns.Word s = (s.phase ≡ phases.Body) × (s.extra ≡ 0) × (due_of s.kind ≡ true) × (s.due ≡ true)
AtTurn turns.Fill s = (s.phase ≡ phases.Body) × (s.extra ≡ 0) × (s.kind ≡ kinds.Fill) × (s.due ≡ false) × (0 < s.words)
AtTurn turns.Gap s = (s.phase ≡ phases.Body) × (s.extra ≡ 0) × (s.kind ≡ kinds.Skip) × (0 < s.words)
AtTurn turns.Chunk s = (s.phase ≡ phases.Body) × (s.extra ≡ 0) × SpentChunk s × (s.index < s.header.total_chunks)
AtTurn turns.End s = (s.phase ≡ phases.Body) × (s.extra ≡ 0) × SpentChunk s × (s.header.total_chunks ≤ s.index)
AtTurn turns.Over s = IsWalkOver s.phase

-- how many bytes are asked for, and how few may come where the input has not ended
abbrev pub ask_of : Turn → Walk → ℕ
ask_of turns.Header s = 28
ask_of turns.Extra s = min s.extra 65536
ask_of turns.Raw s = min s.raw 65536
ask_of turns.Word s = 4
ask_of turns.Chunk s = 12
ask_of t s = 0

abbrev pub needed_of : Turn → ℕ
needed_of turns.Header = 28
needed_of turns.Extra = 1
needed_of turns.Raw = 1
needed_of turns.Word = 4
needed_of turns.Chunk = 12
needed_of t = 0
