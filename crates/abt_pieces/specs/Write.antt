-- A piece that is being written, and what is still to be written of it.
use Rattle.std.specs.Prelude.{◌≡◌, ℕ, ◌+◌, ◌-◌, ◌*◌, ◌/◌, ◌^◌, ◌≤◌, ◌<◌, List, [], ◌++◌, length, drop, map}
use Rattle.std.specs.Prelude.{Option, Some, None, ⊤, ◌⊎◌, ◌==◌, ◌&&◌, not, min, nat_lt, if◌then◌else◌}
use Rattle.std.specs.List.{flat_map}
use Rattle.abt_sparse.specs.declared.kind.ChunkKind.TheVariants as chunks
use Rattle.abt_sparse.specs.Block.{Block}
use Rattle.abt_sparse.specs.Chunk.{Raws, plain, raw_bytes, cut_run, chunks_of}
use Rattle.abt_sparse.specs.ChunkHead.{chunk_record}
use Rattle.abt_runs.specs.Part.{AllOf, raw_of, is_end}
use Rattle.abt_runs.specs.declared.part.RunKind.{RunKind}
use Rattle.abt_runs.specs.declared.part.RunKind.TheVariants as kinds
use Rattle.abt_runs.specs.declared.part.Cursor.{Cursor}
use Rattle.abt_runs.specs.declared.part.Run.{Run}
use Rattle.abt_pieces.specs.Plan.{between, last_words}
use Rattle.abt_pieces.specs.Contents.{head_len, copy_len}
use Rattle.abt_pieces.specs.Gather.{frame, SoundGatherer, ToldGatherer, look_left, silent_left}
use Rattle.abt_pieces.specs.declared.fault.PieceFault.{PieceFault}
use Rattle.abt_pieces.specs.declared.fault.PieceFault.TheVariants.{Read, Write, TooLarge, SourceChanged, BadBlock}
use Rattle.abt_pieces.specs.declared.fault.PieceFault.TheVariants.{LimitTooSmall}
use Rattle.abt_pieces.specs.declared.gather.Gatherer.{Gatherer}
use Rattle.abt_pieces.specs.declared.write.Copying.{Copying}
use Rattle.abt_pieces.specs.declared.write.Writer.{Writer}

-- the header of a chunk of n blocks, of so many bytes in total, and the word of a fill
abbrev pub front_bytes : RunKind → ℕ → ℕ → List ℕ
front_bytes kinds.Raw n total = chunk_record (record { kind = chunks.Raw; blocks = n; total = total }) 0
front_bytes (kinds.Fill w) n total = chunk_record (record { kind = chunks.Fill; blocks = n; total = total }) 0 ++ w
front_bytes kinds.Skip n total = chunk_record (record { kind = chunks.Skip; blocks = n; total = total }) 0
front_bytes kinds.End n total = []

-- in how many chunks a run of q blocks is written, a raw one cut every r blocks
abbrev pub chunks_in : RunKind → ℕ → ℕ → ℕ
chunks_in kinds.Raw q r = (q + (r - 1)) / r
chunks_in (kinds.Fill w) q r = 1
chunks_in kinds.Skip q r = 1
chunks_in kinds.End q r = 1

-- the bytes of all chunks of these blocks
abbrev pub bytes_of : ℕ → List Block → List ℕ
bytes_of r l = flat_map plain (chunks_of r l)

-- the bytes of raw blocks in chunks of r
abbrev pub cut_bytes : ℕ → List Block → List ℕ
cut_bytes r g = flat_map plain (cut_run r (Raws (map raw_bytes g)))

-- the block at which the open run begins
abbrev pub begins : Gatherer → ℕ
begins g = g.at.block - g.count

-- what is left of the raw run that goes up to block u: of its open chunk, and the chunks after that
abbrev pub to_copy : ℕ → List Block → ℕ → Option Copying → List ℕ
to_copy r f u None = []
to_copy r f u (Some c) = drop c.done (raw_of (between f c.here.block (u - c.after)))
    ++ cut_bytes r (between f (u - c.after) u)

-- how many of its chunks are still to be begun
abbrev pub to_begin : ℕ → Option Copying → ℕ
to_begin r None = 0
to_begin r (Some c) = chunks_in kinds.Raw c.after r

-- what is left of the piece of the blocks f
abbrev pub rest_of : List Block → Writer → List ℕ
rest_of f w = to_copy w.most f (begins w.gatherer) w.copying ++ bytes_of w.most (drop (begins w.gatherer) f)

abbrev pub frame_of : List Block → Writer → List Block
frame_of l w = frame l w.first w.past

-- ---- the numbers, whatever the source gave

pub record IsCopying (W : Cursor → Type 0) (reach : Cursor → ℕ) (b s e u bytes : ℕ) (c : Copying) : Type 0 where
  pub first : s ≤ c.here.block
  pub order : c.here.block ≤ c.next.block
  pub until : c.next.block ≤ u
  pub past : u ≤ e
  pub part : c.size ≡ (c.next.block - c.here.block) * b
  pub copied : c.done ≤ c.size
  pub inner : c.here.block + c.after ≤ u
  pub total : c.left + c.done ≡ (u - c.after - c.here.block) * b
  pub some : 0 < c.left + c.after
  pub room : c.left ≤ bytes
  pub here : W c.here
  pub next : W c.next
  pub reached : c.size ≤ reach c.here

abbrev pub SoundCopying : (Cursor → Type 0) → (Cursor → ℕ) → ℕ → ℕ → ℕ → ℕ → ℕ → Option Copying → Type 0
SoundCopying W reach b s e u bytes None = ⊤
SoundCopying W reach b s e u bytes (Some c) = IsCopying W reach b s e u bytes c

pub record SoundWriter (W : Cursor → Type 0) (reach : Cursor → ℕ) (n b : ℕ) (w : Writer) : Type 0 where
  pub gathering : SoundGatherer W n w.first w.past w.gatherer
  pub copies : SoundCopying W reach b w.first w.past (begins w.gatherer) w.bytes w.copying
  pub most : 0 < w.most
  pub small : 12 + w.most * b < 2 ^ 32
  pub fits : w.bytes < 2 ^ 64

-- ---- what is known of a source that models its content

pub record ToldCopy (P : Cursor → Type 0) (together : Cursor → ℕ) (f : List Block) (u : ℕ) (c : Copying) : Type 0 where
  pub here : P c.here
  pub next : P c.next
  pub all : AllOf kinds.Raw (between f c.here.block u)
  pub stands : c.next.block - c.here.block ≤ together c.here

abbrev pub ToldCopying : (Cursor → Type 0) → (Cursor → ℕ) → List Block → ℕ → Option Copying → Type 0
ToldCopying P together f u None = ⊤
ToldCopying P together f u (Some c) = ToldCopy P together f u c

pub record ToldWriter (P : Cursor → Type 0) (together : Cursor → ℕ) (l : List Block) (w : Writer) : Type 0 where
  pub gathering : ToldGatherer P l w.first w.past w.gatherer
  pub copies : ToldCopying P together (frame_of l w) (begins w.gatherer) w.copying
  pub count : w.chunks ≡ to_begin w.most w.copying + length
      (chunks_of w.most (drop (begins w.gatherer) (frame_of l w)))
  pub long : w.bytes ≡ length (rest_of (frame_of l w) w)

-- ---- a writer that goes on

-- how long the chunk of q blocks is
abbrev pub chunk_len : RunKind → ℕ → ℕ → ℕ
chunk_len k q b = head_len k + copy_len k q b

-- with the beginning of a chunk written
abbrev pub front_begun : Writer → RunKind → Writer
front_begun w k = record {
  first = w.first;
  past = w.past;
  most = w.most;
  gatherer = w.gatherer;
  copying = w.copying;
  chunks = w.chunks - 1;
  bytes = w.bytes - head_len k;
}

-- what of a run is written as soon as it has ended: all of a fill, nothing of a raw one
abbrev pub run_front : RunKind → ℕ → List ℕ
run_front kinds.Raw q = []
run_front (kinds.Fill w) q = front_bytes (kinds.Fill w) q 16
run_front kinds.Skip q = front_bytes kinds.Skip q 12
run_front kinds.End q = []

abbrev pub run_head : RunKind → ℕ
run_head kinds.Raw = 0
run_head (kinds.Fill w) = 16
run_head kinds.Skip = 12
run_head kinds.End = 0

-- where the copying of a raw run of q blocks begins
abbrev pub starts : Cursor → ℕ → Copying
starts here q = record { here = here; next = here; size = 0; done = 0; left = 0; after = q }

abbrev pub raw_begun : Writer → Run → Writer
raw_begun w x = record {
  first = w.first;
  past = w.past;
  most = w.most;
  gatherer = w.gatherer;
  copying = Some (starts x.here x.blocks);
  chunks = w.chunks;
  bytes = w.bytes;
}

abbrev pub begun_as : RunKind → Writer → Run → Writer
begun_as kinds.Raw w x = raw_begun w x
begun_as (kinds.Fill v) w x = front_begun w (kinds.Fill v)
begun_as kinds.Skip w x = front_begun w kinds.Skip
begun_as kinds.End w x = front_begun w kinds.End

abbrev pub run_begun : Writer → Run → Writer
run_begun w x = begun_as x.kind w x

-- the next chunk of a raw run
abbrev pub next_blocks : Copying → ℕ → ℕ
next_blocks c r = min c.after r

abbrev pub opened_with : Copying → ℕ → ℕ → Copying
opened_with c q b = record
    { here = c.here; next = c.next; size = c.size; done = c.done; left = q * b; after = c.after - q }

abbrev pub opened_on : Copying → ℕ → ℕ → Copying
opened_on c r b = opened_with c (next_blocks c r) b

abbrev pub chunk_opened : Writer → Copying → ℕ → Writer
chunk_opened w c b = record {
  first = w.first;
  past = w.past;
  most = w.most;
  gatherer = w.gatherer;
  copying = Some (opened_on c w.most b);
  chunks = w.chunks - 1;
  bytes = w.bytes - 12;
}

-- why the beginning of a chunk is not written
abbrev pub ChunkCause : PieceFault → ℕ → ℕ → ℕ → ℕ → ℕ → Type 0
ChunkCause SourceChanged chunks bytes need faults faults' = (chunks ≡ 0) ⊎ (bytes < need)
ChunkCause (Write f) chunks bytes need faults faults' = faults < faults'
ChunkCause (Read f) chunks bytes need faults faults' = ⊥
ChunkCause TooLarge chunks bytes need faults faults' = ⊥
ChunkCause (BadBlock n) chunks bytes need faults faults' = ⊥
ChunkCause (LimitTooSmall n) chunks bytes need faults faults' = ⊥

-- with the part after the one that is copied: None where that is not raw
abbrev pub raw_part : RunKind → Copying → Run → ℕ → Option Copying
raw_part kinds.Raw c r b = Some (record
    { here = r.here; next = r.next; size = r.blocks * b; done = 0; left = c.left; after = c.after })
raw_part (kinds.Fill w) c r b = None
raw_part kinds.Skip c r b = None
raw_part kinds.End c r b = None

abbrev pub next_copying : Copying → Run → ℕ → Option Copying
next_copying c r b = if (r.blocks == 0) && not (is_end r.kind)
    then Some (record
    { here = c.here; next = r.next; size = c.size; done = c.done; left = c.left; after = c.after })
    else raw_part r.kind c r b

-- with n bytes more copied
abbrev pub copied_on : Copying → ℕ → Option Copying
copied_on c n = if (c.after == 0) && (c.left == n) then None
    else Some (record
    { here = c.here; next = c.next; size = c.size; done = c.done + n; left = c.left - n; after = c.after })

-- how many steps there can be before the end of a piece
abbrev pub copy_left : (Cursor → ℕ) → ℕ → Option Copying → ℕ
copy_left left bytes None = 0
copy_left left bytes (Some c) = bytes + left c.next

unfoldable pub write_left : (Cursor → ℕ) → ℕ → Writer → ℕ
write_left left n w = look_left left n w.past w.gatherer * 2 ^ 65 + copy_left left w.bytes w.copying

-- ---- what its steps cost

-- whether a part of the open chunk is still to be found, of a raw run up to block u
abbrev pub to_find : ℕ → Option Copying → ℕ
to_find u None = 0
to_find u (Some c) = if nat_lt c.next.block (u - c.after) then 1 else 0

-- how many of its steps may read nothing and write nothing
abbrev pub silent_write : ℕ → Writer → ℕ
silent_write n w = silent_left n w.past w.gatherer + to_find (begins w.gatherer) w.copying

-- the block up to which raw runs have been passed to copy them
abbrev pub passed_to : ℕ → Option Copying → ℕ
passed_to u None = u
passed_to u (Some c) = c.next.block

-- how many words of the last of n blocks both passes may have compared without reading them
unfoldable pub writer_words : ℕ → ℕ → Writer → ℕ
writer_words one n w = last_words one n (min w.gatherer.at.block w.past)
    + last_words one n (min (passed_to (begins w.gatherer) w.copying) w.past)
