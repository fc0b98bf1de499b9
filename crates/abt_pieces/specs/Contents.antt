-- The content of a piece, counted from left to right as its blocks are passed.
use Rattle.std.specs.Prelude.{◌≡◌, ℕ, ◌+◌, ◌*◌, List, [], ◌∷◌, zero, suc, if◌then◌else◌}
use Rattle.abt_sparse.specs.Block.{Block, Raw, Fill, Skip}
use Rattle.abt_runs.specs.declared.part.RunKind.{RunKind}
use Rattle.abt_runs.specs.declared.part.RunKind.TheVariants as kinds
use Rattle.abt_runs.specs.Whole.{alike_kinds}
use Rattle.abt_pieces.specs.declared.contents.PieceContents.{PieceContents}

abbrev pub run_kind_of : Block → RunKind
run_kind_of (Raw x) = kinds.Raw
run_kind_of (Fill w) = kinds.Fill w
run_kind_of Skip = kinds.Skip

-- one chunk more, after this class
abbrev pub opens : RunKind → RunKind → ℕ
opens j k = if alike_kinds j k then 0 else 1

-- the header of a chunk of this class, with the word of a fill
abbrev pub head_len : RunKind → ℕ
head_len kinds.Raw = 12
head_len (kinds.Fill w) = 16
head_len kinds.Skip = 12
head_len kinds.End = 0

abbrev pub opens_len : RunKind → RunKind → ℕ
opens_len j k = if alike_kinds j k then 0 else head_len k

-- the bytes of q blocks of b bytes that are copied into a chunk
abbrev pub copy_len : RunKind → ℕ → ℕ → ℕ
copy_len kinds.Raw q b = q * b
copy_len (kinds.Fill w) q b = 0
copy_len kinds.Skip q b = 0
copy_len kinds.End q b = 0

-- how many of q blocks are raw or fill
abbrev pub held : RunKind → ℕ → ℕ
held kinds.Raw q = q
held (kinds.Fill w) q = q
held kinds.Skip q = 0
held kinds.End q = 0

-- with q blocks of class k more, after class j
abbrev pub with_blocks : PieceContents → RunKind → RunKind → ℕ → ℕ → PieceContents
with_blocks c j k q b = record {
  chunks = c.chunks + opens j k;
  written = c.written + held k q;
  bytes = c.bytes + (opens_len j k + copy_len k q b);
}

-- with nothing but n skipped blocks
abbrev pub contents_before : ℕ → PieceContents
contents_before zero = record { chunks = 0; written = 0; bytes = 28 }
contents_before (suc n) = record { chunks = 1; written = 0; bytes = 40 }

-- ---- the same of lists, after class j

abbrev pub chunks_of_kinds : RunKind → List Block → ℕ
chunks_of_kinds j [] = 0
chunks_of_kinds j (x ∷ l) = opens j (run_kind_of x) + chunks_of_kinds (run_kind_of x) l

abbrev pub sizes : ℕ → RunKind → List Block → ℕ
sizes b j [] = 0
sizes b j (x ∷ l) = opens_len j (run_kind_of x) + copy_len (run_kind_of x) 1 b + sizes b (run_kind_of x) l

-- how many blocks are raw or fill
abbrev pub written_in : List Block → ℕ
written_in [] = 0
written_in (x ∷ l) = held (run_kind_of x) 1 + written_in l

abbrev pub last_of : RunKind → List Block → RunKind
last_of j [] = j
last_of j (x ∷ l) = last_of (run_kind_of x) l

-- the numbers of a piece of these blocks; End means none, since no block is like it
pub record IsContents (b : ℕ) (l : List Block) (c : PieceContents) : Type 0 where
  pub chunks : c.chunks ≡ chunks_of_kinds kinds.End l
  pub written : c.written ≡ written_in l
  pub bytes : c.bytes ≡ 28 + sizes b kinds.End l
