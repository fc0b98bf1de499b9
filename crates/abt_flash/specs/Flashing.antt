-- What flashing a whole input returns, and what the partition holds then.
use Rattle.std.specs.Prelude.{◌≡◌, ℕ, ◌+◌, ◌-◌, ◌*◌, ◌<◌, ◌≤◌, Bool, IsTrue, List, [], Option, Result, Ok, Err}
use Rattle.std.specs.Prelude.{OnOk, is_ok, length, max, take, if◌then◌else◌}
use Rattle.abt_io.specs.Moment.{Past}
use Rattle.abt_io.specs.declared.meter.Meter.{Meter}
use Rattle.abt_sparse.specs.declared.fault.SparseFault.{SparseFault}
use Rattle.abt_sparse.specs.Chunk.{Header, Chunk, classed}
use Rattle.abt_sparse.specs.Fails.{Fails, Spells, SpellsHeader}
use Rattle.abt_sparse.specs.Pieces.{flashed, given}
use Rattle.abt_sparse.specs.Reading.{outcome}
use Rattle.abt_pieces.specs.Contents.{written_in}
use Rattle.abt_flash.specs.Devices.{Flow}
use Rattle.abt_flash_faults.specs.Fault.{refused_syncs}
use Rattle.abt_flash.specs.Laying.{IsFrontLaid, Touches, writes}
use Rattle.abt_flash_faults.specs.declared.fault.FlashFault.{FlashFault}
use Rattle.abt_flash_faults.specs.declared.fault.FlashFault.TheVariants.{Sparse, Read, Write, Sync, PartitionTooSmall}
use Rattle.abt_flash.specs.declared.stage.Flashed.{Flashed}

-- An image that fits a partition of this size is at the beginning of x, and rest after it. The result counts its raw
-- and fill blocks, and each of their bytes was written once.
pub record WholeFlash (e : Flashed) (size taken taken' : ℕ) (x rest : List ℕ) : Type 0 where
  pub header : Header
  pub chunks : List Chunk
  pub spelled : Spells x header chunks rest
  pub fits : header.total_blks * header.blk_sz ≤ size
  pub blocks : e.blocks ≡ written_in (classed chunks)
  pub once : taken' ≡ taken + header.blk_sz * e.blocks

-- x has this fault, and where a header is at its beginning, the image's blocks fit
pub record RefusedFlash (f : SparseFault) (size : ℕ) (x : List ℕ) : Type 0 where
  pub given : List (Option ℕ)
  pub fails : Fails x f given
  pub fits : (h : Header) (y : List ℕ) → SpellsHeader x h y → h.total_blks * h.blk_sz ≤ size

-- a header is at the beginning of x, the image's blocks do not fit, and nothing was written
pub record Short (need size taken taken' : ℕ) (x : List ℕ) : Type 0 where
  pub header : Header
  pub behind : List ℕ
  pub spelled : SpellsHeader x header behind
  pub needs : need ≡ header.total_blks * header.blk_sz
  pub short : size < need
  pub none : taken' ≡ taken

-- what is returned over an input x of which rest is left, and a partition of this size, save where bytes were not read
-- or not written. A sync is refused after the whole image.
abbrev pub Flashes : Result Flashed FlashFault → ℕ → ℕ → ℕ → List ℕ → List ℕ → Type 0
Flashes (Ok e) size taken taken' x rest = WholeFlash e size taken taken' x rest
Flashes (Err (Sparse f)) size taken taken' x rest = RefusedFlash f size x
Flashes (Err (PartitionTooSmall need)) size taken taken' x rest = Short need size taken taken' x
Flashes (Err (Sync d)) size taken taken' x rest = (e : Flashed) × WholeFlash e size taken taken' x rest
Flashes (Err f) size taken taken' x rest = Unit {0}

-- Where a device failed after `got` bytes of x were read: p' is p under a front of what these bytes give, and up to
-- `torn` bytes behind it may be any. The front lacks less than a window of what all of them but the last give, which
-- may complete a word that is repeated any number of times.
pub record IsLaidSoFar (torn got : ℕ) (x p p' : List ℕ) : Type 0 where
  pub front : IsFrontLaid torn 0 (given (outcome (take got x))) p p'
  pub least : length (given (outcome (take (got - 1) x))) < front.laid + 65536

-- What a partition that held p holds after `got` bytes of x were read: what x gives is written over it, an image or
-- what comes before a fault. One that is too small is as it was, and one that was not synced holds all of the image, of
-- which a crash may leave less. Where reading or writing failed, what was read so far is written.
abbrev pub Holds : Result Flashed FlashFault → ℕ → List ℕ → List ℕ → List ℕ → Type 0
Holds (Ok e) got p p' x = p' ≡ flashed p x
Holds (Err (Sparse f)) got p p' x = p' ≡ flashed p x
Holds (Err (PartitionTooSmall need)) got p p' x = p' ≡ p
Holds (Err (Sync d)) got p p' x = p' ≡ flashed p x
Holds (Err (Read d)) got p p' x = IsLaidSoFar 0 got x p p'
Holds (Err (Write d)) got p p' x = IsLaidSoFar 65536 got x p p'
Holds (Err f) got p p' x = Unit {0}

-- In every intermediate state from the first to the last no byte was touched but those that the cells write.
abbrev pub TouchesOnly : List (Option ℕ) → Past → Past → List ℕ → List ℕ → Type 0
TouchesOnly cells past past' p p' = Touches (writes cells) past past' p p'

-- A sync has succeeded where the result is Ok, and then nothing is pending; every other one that was called was
-- refused, as the result says.
pub record Syncs (models : Bool) (r : Result Flashed FlashFault) (past past' : Past) (syncs syncs' : ℕ) : Type 0 where
  pub settled : IsTrue models → OnOk r (past'.pending ≡ [])
  pub synced : past'.synced ≡ past.synced + (if is_ok r then 1 else 0)
  pub refused : syncs' + past.synced ≡ syncs + past'.synced + refused_syncs r

-- The calls of both devices, and the turns of loops, are at most 8 for each byte that was moved, and 64. No step
-- receives more than 65,580 bytes.
pub record FlashCosts (old new : Flow) (m m' : Meter) : Type 0 where
  pub calls : new.reads + new.puts + new.syncs + 8 * old.given + 8 * old.taken
      ≤ old.reads + old.puts + old.syncs + 8 * new.given + 8 * new.taken + 64
  pub turns : m'.turns.number + 8 * old.given + 8 * old.taken ≤ m.turns.number + 8 * new.given + 8 * new.taken + 64
  pub steps : new.given + 65580 * m.steps.number ≤ old.given + 65580 * m'.steps.number
  pub greatest : m'.greatest.number ≤ max m.greatest.number 65580
