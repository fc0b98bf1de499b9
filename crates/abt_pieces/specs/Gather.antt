-- The runs of a piece, and a run that is being gathered.
use Rattle.std.specs.Prelude.{◌≡◌, ℕ, ◌+◌, ◌-◌, ◌≤◌, ◌<◌, true, List, ◌∷◌, length, drop, nat_lt, ◌==◌, ◌&&◌, not}
use Rattle.std.specs.Prelude.{Option, Some, None, if◌then◌else◌}
use Rattle.abt_sparse.specs.Block.{Block}
use Rattle.abt_sparse.specs.Runs.{framed, runs}
use Rattle.abt_runs.specs.Part.{AllOf, is_end, entry}
use Rattle.abt_runs.specs.declared.part.RunKind.TheVariants as kinds
use Rattle.abt_runs.specs.declared.part.Cursor.{Cursor}
use Rattle.abt_runs.specs.declared.part.Run.{Run}
use Rattle.abt_pieces.specs.Plan.{between}
use Rattle.abt_runs.specs.Whole.{alike_kinds}
use Rattle.abt_pieces.specs.declared.gather.Gatherer.{Gatherer}

-- the blocks of the piece from s up to e: skipped ones in the place of all others
abbrev pub frame : List Block → ℕ → ℕ → List Block
frame l s e = framed s (between l s e) (length l - e)

-- The blocks of the open run are of its class, and not yet all adjacent ones.
pub record Gathered (l : List Block) (g : Gatherer) : Type 0 where
  pub behind : g.count ≤ g.at.block
  pub within : g.at.block ≤ length l
  pub all : AllOf g.kind (between l (g.at.block - g.count) g.at.block)

-- The run r is the first of what was left, and the next one begins after it, if there is one.
pub record Closed (l : List Block) (old new : Gatherer) (r : Run) : Type 0 where
  pub first : runs (drop (old.at.block - old.count) l)
      ≡ between l (old.at.block - old.count) old.at.block ∷ runs (drop old.at.block l)
  pub all : AllOf old.kind (between l (old.at.block - old.count) old.at.block)

-- the same in numbers alone
pub record ClosedRun (old new : Gatherer) (r : Run) : Type 0 where
  pub kind : r.kind ≡ old.kind
  pub blocks : r.blocks ≡ old.count
  pub here : r.here ≡ old.from
  pub some : 0 < old.count
  pub start : new.at.block ≡ old.at.block + new.count

-- raw blocks are within the segment from block s up to e, and the place of the first is known
pub record RawFrom (W : Cursor → Type 0) (s e : ℕ) (g : Gatherer) : Type 0 where
  pub first : s ≤ g.from.block
  pub whole : g.from.block + g.count ≡ g.at.block
  pub past : g.at.block ≤ e
  pub within : W g.from

-- The numbers of a gatherer, whatever the source gave, where the image has n blocks.
pub record SoundGatherer (W : Cursor → Type 0) (n s e : ℕ) (g : Gatherer) : Type 0 where
  pub order : s ≤ g.at.block
  pub inner : s ≤ e
  pub past : e ≤ n
  pub room : g.at.block ≤ n
  pub behind_it : g.count ≤ g.at.block
  pub within : g.at.block < e → W g.at
  pub behind : e < g.at.block → g.at.block ≡ n
  pub ended : is_end g.kind ≡ true → (g.count ≡ 0) × (g.at.block ≡ n)
  pub raw : g.kind ≡ kinds.Raw → 0 < g.count → RawFrom W s e g

-- What a gatherer knows of a source that models its content.
pub record ToldGatherer (P : Cursor → Type 0) (l : List Block) (s e : ℕ) (g : Gatherer) : Type 0 where
  pub gathered : Gathered (frame l s e) g
  pub place : g.at.block < e → P g.at
  pub raw : g.kind ≡ kinds.Raw → 0 < g.count → P g.from

-- before the first block of a piece whose segment begins here: the blocks before it are skipped
abbrev pub first_gatherer : Cursor → Gatherer
first_gatherer c = record { kind = kinds.Skip; count = c.block; from = c; at = c }

-- a run that begins with this part
abbrev pub begun_with : Run → Gatherer
begun_with r = record { kind = r.kind; count = r.blocks; from = r.here; at = r.next }

-- with a part more, and the run that has ended before it, if one has
abbrev pub gathered_on : Gatherer → Run → Gatherer × Option Run
gathered_on g r =
    if (r.blocks == 0) && not (is_end r.kind)
    then (record { kind = g.kind; count = g.count; from = g.from; at = r.next }, None)
    else if g.count == 0 then (begun_with r, None)
    else if alike_kinds g.kind r.kind
    then (record { kind = g.kind; count = g.count + r.blocks; from = g.from; at = r.next }, None)
    else (begun_with r, Some (record { kind = g.kind; blocks = g.count; here = g.from; next = g.at }))

-- how many parts there can be before the end of a piece
abbrev pub look_left : (Cursor → ℕ) → ℕ → ℕ → Gatherer → ℕ
look_left left n past g =
    if nat_lt g.at.block past then left g.at + 3 else if nat_lt g.at.block n then 2 else if is_end g.kind then 0 else 1

-- how many of these may read nothing: the part after the segment, and the end
abbrev pub silent_left : ℕ → ℕ → Gatherer → ℕ
silent_left n past g = look_left (λ c. 0) n past g

-- how many bytes a pass may have read before a place of a segment that ends at the place d: a segment that begins
-- inside a chunk has that chunk's header read again
abbrev pub gathered_to : (Cursor → ℕ) → ℕ → Cursor → Cursor → ℕ
gathered_to charge past d c = if nat_lt c.block past then charge c + (16 - entry c) else charge d + 16
