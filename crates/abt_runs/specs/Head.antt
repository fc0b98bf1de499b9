-- The twelve bytes of a chunk's header, as each pass reads them again.
use Rattle.std.specs.Prelude.{◌≡◌, ℕ, ◌+◌, ◌-◌, ◌≤◌, ◌<◌, ◌==◌, nat_lt, Bool, true, false, ◌&&◌, not, List, Option}
use Rattle.std.specs.Prelude.{Some, None, if◌then◌else◌}
use Rattle.abt_sparse.specs.declared.kind.ChunkKind.{ChunkKind}
use Rattle.abt_sparse.specs.declared.kind.ChunkKind.TheVariants as kinds
use Rattle.abt_sparse.specs.declared.chunk_header.ChunkHeader.{ChunkHeader}
use Rattle.abt_sparse.specs.Chunk.{Header}
use Rattle.abt_sparse.specs.Reading.{number_at, kind_at, data_len, counted}
use Rattle.abt_runs.specs.declared.part.Cursor.{Cursor}
use Rattle.abt_runs.specs.declared.part.Run.{Run}
use Rattle.abt_runs.specs.declared.part.RunKind.{RunKind}
use Rattle.abt_runs.specs.declared.part.RunKind.TheVariants as classes

-- the fields, or nothing where the type is unknown
abbrev pub head_of_kind : Option ChunkKind → List ℕ → Option ChunkHeader
head_of_kind None bytes = None
head_of_kind (Some k) bytes = Some (record { kind = k; blocks = number_at 4 4 bytes; total = number_at 8 4 bytes })

abbrev pub chunk_header_of : List ℕ → Option ChunkHeader
chunk_header_of bytes = head_of_kind (kind_at (number_at 0 2 bytes)) bytes

abbrev pub is_raw : ChunkKind → Bool
is_raw kinds.Raw = true
is_raw k = false

-- the fields are as they were found at opening, as far as their numbers show
pub record HeadFits (h : Header) (image : ℕ) (c : Cursor) (k : ChunkHeader) : Type 0 where
  pub total : k.total ≡ h.chunk_hdr_sz + data_len h.blk_sz k.kind k.blocks
  pub counted : c.block - c.used + counted k.kind k.blocks ≤ h.total_blks
  pub whole : c.at + k.total ≤ image
  pub going : 0 < c.used → (k.kind ≡ kinds.Raw) × (c.used < k.blocks)

-- a word is to be read: that of a fill chunk that has blocks
abbrev pub has_word : ChunkKind → ℕ → Bool
has_word kinds.Fill n = not (n == 0)
has_word k n = false

abbrev pub class_of_kind : ChunkKind → List ℕ → RunKind
class_of_kind kinds.Raw word = classes.Raw
class_of_kind kinds.Fill word = classes.Fill word
class_of_kind kinds.Skip word = classes.Skip
class_of_kind kinds.Crc word = classes.Skip

-- the place after a chunk
abbrev pub behind_chunk : ChunkHeader → Cursor → Cursor
behind_chunk k c = record {
  block = c.block - c.used + counted k.kind k.blocks;
  at = c.at + k.total;
  chunk = c.chunk + 1;
  used = 0;
  ask = c.ask;
}

-- the part of a chunk from a place in it on
abbrev pub part_of_chunk : ChunkHeader → List ℕ → Cursor → ℕ → Run
part_of_chunk k word c cap =
    let left = counted k.kind k.blocks - c.used in
    if left == 0 then record { kind = classes.Skip; blocks = 0; here = behind_chunk k c; next = behind_chunk k c }
    else if is_raw k.kind && nat_lt cap left then record {
      kind = classes.Raw;
      blocks = cap;
      here = c;
      next = record c { block = c.block + cap; used = c.used + cap };
    }
    else record { kind = class_of_kind k.kind word; blocks = left; here = c; next = behind_chunk k c }
