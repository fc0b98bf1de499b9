-- The twelve bytes of a chunk's header, and the header that twelve bytes encode.
use Rattle.std.specs.Prelude.{ℕ, List, ◌++◌, Option, Some, None, Result, Ok, Err}
use Rattle.std.specs.Int.{w16, w32, to_le_bytes}
use Rattle.abt_sparse.specs.declared.kind.ChunkKind.{ChunkKind}
use Rattle.abt_sparse.specs.Chunk.{code}
use Rattle.abt_sparse.specs.Reading.{number_at, kind_at}
use Rattle.abt_sparse.specs.declared.chunk_header.ChunkHeader.{ChunkHeader}

-- the three fields after a type that is known, or the type that is not
abbrev pub header_of_kind : Option ChunkKind → List ℕ → Result ChunkHeader ℕ
header_of_kind None bytes = Err (number_at 0 2 bytes)
header_of_kind (Some k) bytes = Ok (record { kind = k; blocks = number_at 4 4 bytes; total = number_at 8 4 bytes })

-- the header at the beginning of bytes
abbrev pub chunk_header_at : List ℕ → Result ChunkHeader ℕ
chunk_header_at bytes = header_of_kind (kind_at (number_at 0 2 bytes)) bytes

-- the bytes of a header, with this number in the reserved field
abbrev pub chunk_record : ChunkHeader → ℕ → List ℕ
chunk_record h reserved = to_le_bytes w16 (code h.kind)
    ++ (to_le_bytes w16 reserved ++ (to_le_bytes w32 h.blocks ++ to_le_bytes w32 h.total))
