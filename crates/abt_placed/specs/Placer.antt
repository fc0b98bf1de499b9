-- A placer in numbers, and the bytes that are written as it goes on.
use Rattle.std.specs.Prelude.{◌≡◌, ℕ, ◌+◌, ◌-◌, ◌*◌, ◌^◌, ◌≤◌, ◌<◌, Bool, true, false, List, [], ◌++◌, length}
use Rattle.std.specs.Prelude.{replicate, ◌&&◌, nat_lt, if◌then◌else◌}
use Rattle.abt_runs.specs.Part.{is_end}
use Rattle.abt_runs.specs.declared.part.RunKind.{RunKind}
use Rattle.abt_runs.specs.declared.part.RunKind.TheVariants as kinds
use Rattle.abt_runs.specs.Whole.{alike_kinds}
use Rattle.abt_pieces.specs.Write.{front_bytes}
use Rattle.abt_pieces.specs.Contents.{copy_len}
use Rattle.abt_io.specs.Moment.{put_at}
use Rattle.abt_placed.specs.declared.placer.Placer.{Placer}

-- how many bytes of the open chunk are written already
abbrev pub open_len : RunKind → ℕ → ℕ → ℕ
open_len kinds.Raw q b = 12 + q * b
open_len (kinds.Fill w) q b = 0
open_len kinds.Skip q b = 0
open_len kinds.End q b = 0

-- the numbers of a placer of blocks of b bytes, where `long` bytes are written, whatever the source gave
pub record SoundPlacer (b long : ℕ) (s : Placer) : Type 0 where
  pub chunks : s.chunks ≤ s.blocks
  pub none : is_end s.kind ≡ true → s.count ≡ 0
  pub some : is_end s.kind ≡ false → 0 < s.count
  pub raw : s.kind ≡ kinds.Raw → s.count ≤ s.most
  pub room : s.front + 28 + open_len s.kind s.count b ≤ long
  pub few : long ≤ s.front + 28 + s.blocks * (b + 16) + open_len s.kind s.count b
  pub most : 0 < s.most
  pub small : 12 + s.most * b < 2 ^ 32

-- what the open chunk of a placer asks for to be made whole, where `long` bytes are written
pub record CanClose (b long : ℕ) (s : Placer) : Type 0 where
  pub raw : s.kind ≡ kinds.Raw → s.count ≤ s.most
  pub some : is_end s.kind ≡ false → 0 < s.count
  pub room : s.front + 28 + open_len s.kind s.count b ≤ long
  pub small : 12 + s.most * b < 2 ^ 32

-- a placer of blocks of b bytes that can take q more
pub record CanTake (b q long : ℕ) (s : Placer) : Type 0 where
  pub within : s.blocks + s.count + q < 2 ^ 32
  pub sound : SoundPlacer b long s

-- ---- a placer that goes on

-- with the open chunk whole
abbrev pub closed_as : RunKind → Placer → Placer
closed_as kinds.End s = s
closed_as kinds.Raw s = record {
  front = s.front;
  most = s.most;
  chunks = s.chunks + 1;
  blocks = s.blocks + s.count;
  kind = kinds.End;
  count = 0;
}
closed_as (kinds.Fill w) s = record {
  front = s.front;
  most = s.most;
  chunks = s.chunks + 1;
  blocks = s.blocks + s.count;
  kind = kinds.End;
  count = 0;
}
closed_as kinds.Skip s = record {
  front = s.front;
  most = s.most;
  chunks = s.chunks + 1;
  blocks = s.blocks + s.count;
  kind = kinds.End;
  count = 0;
}

abbrev pub closed : Placer → Placer
closed s = closed_as s.kind s

-- whether blocks of this class go on with the open chunk
abbrev pub goes_on_as : RunKind → Placer → Bool
goes_on_as kinds.Raw s = nat_lt s.count s.most && alike_kinds s.kind kinds.Raw
goes_on_as (kinds.Fill w) s = alike_kinds s.kind (kinds.Fill w)
goes_on_as kinds.Skip s = alike_kinds s.kind kinds.Skip
goes_on_as kinds.End s = alike_kinds s.kind kinds.End

abbrev pub goes_on_with : Placer → RunKind → Bool
goes_on_with s k = goes_on_as k s

-- with q blocks more in the open chunk, and with a chunk begun
abbrev pub longer : Placer → ℕ → Placer
longer s q = record {
  front = s.front;
  most = s.most;
  chunks = s.chunks;
  blocks = s.blocks;
  kind = s.kind;
  count = s.count + q;
}

abbrev pub with_chunk_begun : Placer → RunKind → ℕ → Placer
with_chunk_begun s k q =
    record { front = s.front; most = s.most; chunks = s.chunks; blocks = s.blocks; kind = k; count = q }

abbrev pub with_part : Placer → RunKind → ℕ → Placer
with_part s k q = if goes_on_with s k then longer s q else with_chunk_begun (closed s) k q

-- how many blocks more the open chunk has room for, or the next one
abbrev pub room_of : Placer → ℕ
room_of s = if nat_lt s.count s.most then s.most - s.count else s.most

-- ---- what is written

-- w with the open chunk whole
abbrev pub closing_as : RunKind → Placer → ℕ → List ℕ → List ℕ
closing_as kinds.Raw s b w = put_at w (length w - (12 + s.count * b)) (front_bytes kinds.Raw s.count (12 + s.count * b))
closing_as (kinds.Fill v) s b w = w ++ front_bytes (kinds.Fill v) s.count 16
closing_as kinds.Skip s b w = w ++ front_bytes kinds.Skip s.count 12
closing_as kinds.End s b w = w

abbrev pub closing : Placer → ℕ → List ℕ → List ℕ
closing s b w = closing_as s.kind s b w

-- what is kept for the header of a chunk, and what of its blocks is written as they come
abbrev pub kept_for : RunKind → List ℕ
kept_for kinds.Raw = replicate 12 0
kept_for (kinds.Fill v) = []
kept_for kinds.Skip = []
kept_for kinds.End = []

abbrev pub data_for : RunKind → List ℕ → List ℕ
data_for kinds.Raw x = x
data_for (kinds.Fill v) x = []
data_for kinds.Skip x = []
data_for kinds.End x = []

-- w with a chunk begun for blocks of this class, and with their bytes
abbrev pub beginning : Placer → RunKind → ℕ → List ℕ → List ℕ
beginning s k b w = if goes_on_with s k then w else closing s b w ++ kept_for k

abbrev pub taking : Placer → RunKind → ℕ → List ℕ → List ℕ → List ℕ
taking s k b x w = beginning s k b w ++ data_for k x

-- ---- how many bytes that adds at most

abbrev pub closing_len : RunKind → ℕ
closing_len kinds.Raw = 0
closing_len (kinds.Fill v) = 16
closing_len kinds.Skip = 12
closing_len kinds.End = 0

abbrev pub beginning_len : Placer → RunKind → ℕ
beginning_len s k = if goes_on_with s k then 0 else closing_len s.kind + length (kept_for k)

abbrev pub taking_len : Placer → RunKind → ℕ → ℕ → ℕ
taking_len s k q b = beginning_len s k + copy_len k q b
