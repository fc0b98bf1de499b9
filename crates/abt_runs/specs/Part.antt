-- What a part of an image is.
use Rattle.std.specs.Prelude.{◌≡◌, ℕ, ◌+◌, ◌*◌, ◌≤◌, ◌<◌, Bool, true, false, IsTrue, List, [], length, take, drop}
use Rattle.std.specs.Prelude.{replicate, ⊤, ◌==◌, nat_lt, nat_le, ◌&&◌, if◌then◌else◌}
use Rattle.std.specs.List.{AllByRecursion, flat_map}
use Rattle.abt_io.specs.declared.device.DeviceFault.TheVariants.{Failed}
use Rattle.abt_sparse.specs.Chunk.{raw_bytes}
use Rattle.abt_sparse.specs.Block.{Block}
use Rattle.abt_sparse.specs.Block as blocks
use Rattle.abt_runs.specs.declared.part.Cursor.{Cursor}
use Rattle.abt_runs.specs.declared.part.Run.{Run}
use Rattle.abt_runs.specs.declared.part.RunKind.{RunKind}
use Rattle.abt_runs.specs.declared.part.RunKind.TheVariants.{Raw, Fill, Skip, End}
use Rattle.abt_runs.specs.declared.part.RunFault.{RunFault}
use Rattle.abt_runs.specs.declared.part.RunFault.TheVariants.{Sparse, Read, TooLarge, SourceChanged, BadBlock}

abbrev pub is_end : RunKind → Bool
is_end End = true
is_end k = false

abbrev pub IsRaw : Block → Type 0
IsRaw (blocks.Raw x) = ⊤
IsRaw b = ⊥

-- blocks that are all of one kind
abbrev pub AllOf : RunKind → List Block → Type 0
AllOf Raw xs = AllByRecursion IsRaw xs
AllOf (Fill w) xs = xs ≡ replicate (length xs) (blocks.Fill w)
AllOf Skip xs = xs ≡ replicate (length xs) blocks.Skip
AllOf End xs = xs ≡ []

-- the part r begins at block i of the image
pub record PartOf (l : List Block) (i : ℕ) (r : Run) : Type 0 where
  pub within : i + r.blocks ≤ length l
  pub next : r.next.block ≡ i + r.blocks
  pub all : AllOf r.kind (take r.blocks (drop i l))
  pub ended : IsTrue (is_end r.kind) → i ≡ length l

-- what is left grows less, unless this is the end
abbrev pub MovesOn : (Cursor → ℕ) → Cursor → Run → Type 0
MovesOn left from r = is_end r.kind ≡ false → left r.next < left from

-- raw blocks are at most so many, and there are so many more before the next place
pub record Capped (cap : ℕ) (r : Run) : Type 0 where
  pub raw : r.kind ≡ Raw → r.blocks ≤ cap

-- a device has failed and returned this, or one that models nothing has changed
abbrev pub RunCaused : RunFault → Bool → ℕ → ℕ → Type 0
RunCaused (Read f) models before after = (before < after) × (f ≡ Failed)
RunCaused SourceChanged models before after = models ≡ false
RunCaused (Sparse f) models before after = ⊥
RunCaused TooLarge models before after = ⊥
RunCaused (BadBlock n) models before after = ⊥

-- what a part may read besides what it passes: where it begins inside a chunk, that chunk's header
abbrev pub entry : Cursor → ℕ
entry c = if c.used == 0 then 0 else 16

-- the same place, where the asks of a raw image begin again with one block
abbrev pub afresh : Cursor → Cursor
afresh c = record c { ask = 1 }

-- of all places before this block or a later one it is the first: neither copying nor a pass has read less up to
-- another
abbrev pub Earliest : (Cursor → Type 0) → (Cursor → ℕ) → (Cursor → ℕ) → Cursor → Type 0
Earliest IsPlace copied charge c =
    (d : Cursor) → IsPlace d → c.block ≤ d.block → (copied c ≤ copied d) × (charge c ≤ charge (afresh d))

-- a place is one afresh: no less has been read before it, and no more is to pass
pub record Afresh (W : Cursor → Type 0) (charges takes copies lefts : Cursor → ℕ) (c : Cursor) : Type 0 where
  pub within : W (afresh c)
  pub charge : charges c ≤ charges (afresh c)
  pub taken : takes c ≤ takes (afresh c)
  pub copied : copies c ≤ copies (afresh c)
  pub left : lefts (afresh c) ≤ lefts c

-- how many blocks of a raw image are asked for next, where so many of those that were asked for were alike
abbrev pub next_ask : ℕ → ℕ → ℕ → ℕ → ℕ
next_ask ask asked blocks size =
    if nat_lt blocks asked then 1 else if (asked == ask) && nat_le (2 * ask * size) 65536 then 2 * ask else ask

-- the bytes of raw blocks
abbrev pub raw_of : List Block → List ℕ
raw_of l = flat_map raw_bytes l

-- how many bytes a part takes in a piece: raw blocks their bytes, and a chunk's header where they begin one
abbrev pub piece_bytes : ℕ → ℕ → RunKind → ℕ → ℕ
piece_bytes size used Raw n = (if used == 0 then 12 else 0) + n * size
piece_bytes size used (Fill w) n = 16
piece_bytes size used Skip n = 12
piece_bytes size used End n = 0
