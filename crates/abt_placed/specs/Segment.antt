-- The segment of a piece that is written in one pass: its numbers, and what of it is written.
use Rattle.std.specs.Prelude.{◌≡◌, ℕ, ◌+◌, ◌-◌, ◌*◌, ◌^◌, ◌≤◌, ◌<◌, Bool, true, false, IsTrue, List, [], ◌∷◌, ◌++◌}
use Rattle.std.specs.Prelude.{drop, ⊤}
use Rattle.std.specs.List.{AllByRecursion}
use Rattle.abt_sparse.specs.Block.{Block, Raw, Fill, Skip}
use Rattle.abt_sparse.specs.Runs.{weight}
use Rattle.abt_sparse.specs.Gains.{Fresh, behind_all}
use Rattle.abt_runs.specs.declared.part.RunKind.{RunKind}
use Rattle.abt_runs.specs.declared.part.RunKind.TheVariants as kinds
use Rattle.abt_pieces.specs.Plan.{between, tail_of}
use Rattle.abt_pieces.specs.declared.segment_tail.Tail.{Tail}
use Rattle.abt_pieces.specs.declared.segment_tail.Tail.TheVariants as tails
use Rattle.abt_placed.specs.Placer.{SoundPlacer}
use Rattle.abt_placed.specs.Placed.{Placed, skips}
use Rattle.abt_placed.specs.Whole.{taken}
use Rattle.abt_placed.specs.declared.segment.Segment.{Segment}
use Rattle.std.specs.Prelude.{◌%◌, length, Result, OnOk}
use Rattle.abt_runs.specs.Part.{is_end}
use Rattle.abt_runs.specs.Tail.{raw_list}
use Rattle.abt_runs.specs.declared.raw.RawRuns.{RawRuns}
use Rattle.abt_pieces.specs.Fault.{full_cut}
use Rattle.abt_pieces.specs.Plan.{gain_of}
use Rattle.abt_pieces.specs.declared.fault.PieceFault.{PieceFault}
use Rattle.abt_placed.specs.Calls.{LaysOn, Scene}
use Rattle.abt_placed.specs.Whole.{read_of}
use Rattle.abt_placed.specs.Unfinished.{KeepsFront}

-- what a segment ends in, by the open chunk of its piece: the blocks before it are skipped
abbrev pub tail_of_open : RunKind → Tail
tail_of_open kinds.Raw = tails.Raw
tail_of_open (kinds.Fill w) = tails.Fill w
tail_of_open kinds.Skip = tails.Fresh
tail_of_open kinds.End = tails.Fresh

-- whether it has no block
abbrev pub is_fresh : RunKind → Bool
is_fresh kinds.Raw = false
is_fresh (kinds.Fill w) = false
is_fresh kinds.Skip = true
is_fresh kinds.End = true

-- how many bytes of its weight are not written, where this chunk is open: that chunk's header, and those of what is
-- skipped
abbrev pub to_come : RunKind → ℕ
to_come kinds.Raw = 12
to_come (kinds.Fill w) = 28
to_come kinds.Skip = 24
to_come kinds.End = 24

-- no raw run within the limit has more blocks than a raw chunk may have
abbrev pub IsUncut : ℕ → ℕ → ℕ → Type 0
IsUncut b limit most = limit < 12 + (most + 1) * b

-- The numbers of a segment of blocks of b bytes, where `long` bytes are written, whatever the source gave. Where no raw
-- run is cut, no more is written than it weighs.
pub record SoundSegment (b long : ℕ) (s : Segment) : Type 0 where
  pub placer : SoundPlacer b long s.placer
  pub order : s.first ≤ taken s.placer
  pub fits : IsUncut b s.limit s.placer.most → long + to_come s.placer.kind ≤ s.placer.front + s.weight
  pub least : 52 ≤ s.weight
  pub light : s.weight ≤ 52 + (taken s.placer - s.first) * (b + 16)
  pub room : s.weight ≤ s.limit
  pub granted : 64 + b ≤ s.limit
  pub raw : IsUncut b s.limit s.placer.most → s.placer.kind ≡ kinds.Raw → 64 + s.placer.count * b ≤ s.weight
  pub fresh : is_fresh s.placer.kind ≡ true → s.weight ≡ 52
  pub some : is_fresh s.placer.kind ≡ false → s.first < taken s.placer

-- a block that counts
abbrev pub IsHeldBlock : Block → Type 0
IsHeldBlock (Raw x) = ⊤
IsHeldBlock (Fill w) = ⊤
IsHeldBlock Skip = ⊥

-- the blocks g of the segment are after as many skipped ones as are before it
pub record LaidSegment (b : ℕ) (g : List Block) (now : List ℕ) (s : Segment) : Type 0 where
  pub placed : Placed b (skips s.first ++ g) now s.placer
  pub heavy : s.weight ≡ weight b g
  pub tail : tail_of_open s.placer.kind ≡ tail_of (behind_all Fresh g)
  pub held : AllByRecursion IsHeldBlock g

-- some blocks are written so, and where the source models its content x they are those of x, its tail raw where t
-- says so
pub record ToldSegment (models t : Bool) (x : List ℕ) (b : ℕ) (now : List ℕ) (s : Segment) : Type 0 where
  pub blocks : List Block
  pub laid : LaidSegment b blocks now s
  pub told : IsTrue models → blocks ≡ between (raw_list t b x) s.first (taken s.placer)

-- not one block more of the rest would be within the limit
abbrev pub OneMoreExceeds : ℕ → ℕ → List Block → List Block → Type 0
OneMoreExceeds limit b g rest = (x : Block) (more : List Block) → rest ≡ x ∷ more → limit < weight b (g ++ x ∷ [])

-- The segment goes no further: of n blocks all are taken, or one more would be beyond the limit, which then is one that
-- an image can reach.
pub record EndedSegment (models t : Bool) (x : List ℕ) (b n : ℕ) (s : Segment) : Type 0 where
  pub moves : taken s.placer < n → s.first < taken s.placer
  pub reached : taken s.placer < n → s.limit < 2 ^ 49
  pub over : IsTrue models
      → OneMoreExceeds s.limit b (between (raw_list t b x) s.first (taken s.placer))
      (drop (taken s.placer) (raw_list t b x))

-- ---- what a call asks for, and leaves

-- a size of blocks, in whole words
pub record IsWordSize (b : ℕ) : Type 0 where
  pub some : 4 ≤ b
  pub words : b % 4 ≡ 0

-- x are the bytes of n blocks of b bytes, of a class that counts, that can be taken at once
pub record PartBlocks (k : RunKind) (n b : ℕ) (x : List ℕ) : Type 0 where
  pub some : 0 < n
  pub goes : is_end k ≡ false
  pub bytes : length x ≡ n * b
  pub window : length x ≤ 65536
  pub words : 4 ≤ b
  pub held : is_fresh k ≡ false

-- The blocks of a segment of these runs, whose source holds x, are taken so far, and are in the output.
pub record ReadySegment (models t : Bool) (x : List ℕ) (runs : RawRuns) (s : Segment) (now : List ℕ) : Type 0 where
  pub sound : SoundSegment runs.size (length now) s
  pub within : taken s.placer ≤ runs.blocks
  pub opened : IsTrue models → runs.length ≡ length x
  pub told : ToldSegment models t x runs.size now s

-- A segment goes on, by which up to n blocks are written in all. What was stored before its chunks stays; where no raw
-- run is cut it stays within its limit, also where the output is full.
pub record SegmentGoes {X E : Type 0} (b n full : ℕ) (r : Result X E) (s s' : Segment) (old new : List ℕ) : Type 0
  where
    pub kept : KeepsFront (s.placer.front + 28) old new
    pub sound : OnOk r (SoundSegment b (length new) s')
    pub same : (s'.placer.most ≡ s.placer.most) × (s'.placer.front ≡ s.placer.front) × (s'.first ≡ s.first)
        × (s'.limit ≡ s.limit)
    pub within : length new ≤ s.placer.front + 28 + n * (b + 16)
    pub long : IsUncut b s.limit s.placer.most → length new + full ≤ s.placer.front + s.limit

-- A segment that can take up to n blocks more.
pub record CanGoOn (b n long : ℕ) (s : Segment) : Type 0 where
  pub within : taken s.placer + n < 2 ^ 32
  pub sound : SoundSegment b long s

-- These blocks don't fit, so the segment ends before them.
pub record PartOver (b n : ℕ) (k : RunKind) (s : Segment) (unchanged : Type 0) : Type 0 where
  pub still : unchanged
  pub some : s.first < taken s.placer
  pub over : s.limit - s.weight < gain_of (tail_of_open s.placer.kind) k n b
  pub reached : s.limit < 52 + (taken s.placer + n) * (b + 16)

-- What is read for the blocks that are taken: each byte once, and at most a window more.
pub record SegmentReads {X E : Type 0} (r : Result X E) (runs : RawRuns) (s s' : Segment) (given given' : ℕ) : Type 0
  where
    pub economy : given' + read_of runs.length runs.size (taken s.placer) ≤ given + runs.length
    pub least : OnOk r (given + read_of runs.length runs.size (taken s'.placer)
        ≤ given' + read_of runs.length runs.size (taken s.placer))
    pub last : OnOk r (given' + read_of runs.length runs.size (taken s.placer)
        ≤ given + read_of runs.length runs.size (taken s'.placer) + 65536)

-- A segment takes blocks of its source, which is read for them: what it reports is written.
pub record SegmentLays {X : Type 0} (r : Result X PieceFault) (models t : Bool) (runs : RawRuns) (s s' : Segment)
    (old new : List ℕ) (a z : Scene) : Type 0 where
  pub lays : LaysOn r models a z
  pub told : OnOk r (ToldSegment models t a.content runs.size new s')
  pub segment : SegmentGoes runs.size runs.blocks (full_cut r) r s s' old new
  pub inside : OnOk r (taken s'.placer ≤ runs.blocks)
  pub reads : SegmentReads r runs s s' a.given z.given
