-- A sparse image that is counted, and why one is not written.
use Rattle.std.specs.Prelude.{◌≡◌, ℕ, ◌+◌, ◌-◌, ◌*◌, ◌%◌, ◌^◌, ◌++◌, ◌≤◌, ◌<◌, Bool, false, IsTrue, List, length, take}
use Rattle.std.specs.Prelude.{drop, max, None, Result, Err, OnOk, IfOk, IfErr}
use Rattle.abt_io.specs.Lent.{OnlyReads, OnlyWrites}
use Rattle.abt_io.specs.declared.device.Source as sources
use Rattle.abt_io.specs.declared.device.Output as outputs
use Rattle.abt_io.specs.declared.meter.Meter.{Meter}
use Rattle.abt_sparse.specs.Block.{Block}
use Rattle.abt_sparse.specs.Chunk.{chunks_of, spelling}
use Rattle.abt_runs.specs.Raw.{raw_charge}
use Rattle.abt_runs.specs.declared.part.Cursor.{Cursor}
use Rattle.abt_runs.specs.declared.part.Run.{Run}
use Rattle.abt_pieces.specs.Calls.{CallCosts, devices}
use Rattle.abt_pieces.specs.Contents.{head_len, copy_len}
use Rattle.abt_pieces.specs.Fault.{CutCause, full_cut}
use Rattle.abt_pieces.specs.Gather.{first_gatherer, gathered_to}
use Rattle.abt_pieces.specs.Image.{Appended, IsPlainImage}
use Rattle.abt_io.specs.declared.device.DeviceFault.TheVariants.{Failed}
pub use Rattle.abt_pieces.specs.Write.{chunks_in, bytes_of, cut_bytes}
use Rattle.abt_pieces.specs.Write.{begins}
use Rattle.abt_pieces.specs.declared.fault.PieceFault.{PieceFault}
use Rattle.abt_pieces.specs.declared.fault.PieceFault.TheVariants.{Read, Write, TooLarge, SourceChanged, BadBlock}
use Rattle.abt_pieces.specs.declared.fault.PieceFault.TheVariants.{LimitTooSmall}
use Rattle.abt_pieces.specs.declared.gather.Gatherer.{Gatherer}
use Rattle.abt_pieces.specs.declared.write.Writer.{Writer}
use Rattle.abt_sparsify.specs.declared.count.Written.{Written}

-- ---- counting

abbrev pub no_runs : ℕ → Written
no_runs n = record { blocks = n; chunks = 0; bytes = 28 }

-- with the chunks of a run more, of blocks of b bytes
abbrev pub with_run : Written → Run → ℕ → ℕ → Written
with_run a x b r = record {
  blocks = a.blocks;
  chunks = a.chunks + chunks_in x.kind x.blocks r;
  bytes = a.bytes + (chunks_in x.kind x.blocks r * head_len x.kind + copy_len x.kind x.blocks b);
}

-- the numbers of an image of the blocks f up to where a gatherer's open run begins
pub record Counted (r : ℕ) (f : List Block) (g : Gatherer) (a : Written) : Type 0 where
  pub chunks : a.chunks + length (chunks_of r (drop (begins g) f)) ≡ length (chunks_of r f)
  pub bytes : a.bytes + length (bytes_of r (drop (begins g) f)) ≡ 28 + length (bytes_of r f)

-- the same in numbers alone, whatever the source gave
pub record SoundCount (b : ℕ) (g : Gatherer) (a : Written) : Type 0 where
  pub chunks : a.chunks ≤ begins g
  pub least : 28 ≤ a.bytes
  pub bytes : a.bytes ≤ 28 + begins g * (b + 16)

-- the numbers of the whole image
pub record CountsOf (r b : ℕ) (l : List Block) (a : Written) : Type 0 where
  pub chunks : a.chunks ≡ length (chunks_of r l)
  pub bytes : a.bytes ≡ length (spelling b r l)

-- what counting costs, over all its steps
pub record CountCosts (b : ℕ) {A : Type 0} (s : sources.Ghosts A) (source source' : A) (m m' : Meter) : Type 0 where
  pub given : s.given source ≤ s.given source'
  pub received : s.given source' + 65536 * m.steps.number ≤ s.given source + 65536 * m'.steps.number
  pub calls : s.reads source' ≤ s.reads source + 3 * (s.given source' - s.given source) + 8
  pub turns : m'.turns.number ≤ m.turns.number + 5 * (s.given source' - s.given source) + 12 + b
  pub greatest : m'.greatest.number ≤ max m.greatest.number 65536

-- ---- writing

-- the image x of len bytes, opened in blocks of b bytes, can be written in chunks of at most r raw blocks
pub record ReadyRuns (models : Bool) (r b len : ℕ) (x : List ℕ) : Type 0 where
  pub some : 0 < r
  pub small : 12 + r * b < 2 ^ 32
  pub opened : IsTrue models → len ≡ length x

-- what writing an opened image, or its chunks, leaves of both devices, and why it is refused
pub record MovesImage {X : Type 0} (r : Result X PieceFault) {A B : Type 0} (s : sources.Ghosts A)
    (o : outputs.Ghosts B) (source source' : A) (output output' : B) : Type 0 where
  pub reads : OnlyReads r s source source'
  pub writes : OnlyWrites r (full_cut r) o output output'
  pub full : full_cut r ≡ 1 → IsTrue (o.is_full output')
  pub cause : IfErr r (λ e. CutCause e s.models (s.read_faults source) (s.read_faults source') (o.write_faults output)
      (o.write_faults output'))

-- what writing all chunks costs, over all its steps
pub record ChunkCosts (b : ℕ) {A B : Type 0} (s : sources.Ghosts A) (o : outputs.Ghosts B) (source source' : A)
    (output output' : B) (m m' : Meter) : Type 0 where
  pub given : s.given source ≤ s.given source'
  pub received : s.given source' + 65536 * m.steps.number ≤ s.given source + 65536 * m'.steps.number
  pub calls : s.reads source' ≤ s.reads source + 3 * (s.given source' - s.given source)
      + 2 * (length (o.written output') - length (o.written output)) + 8
  pub write_calls : o.writes output' ≤ o.writes output + (s.given source' - s.given source)
      + 2 * (length (o.written output') - length (o.written output)) + 4
  pub turns : m'.turns.number ≤ m.turns.number + 6 * (s.given source' - s.given source)
      + 5 * (length (o.written output') - length (o.written output)) + 15 + 2 * b
  pub greatest : m'.greatest.number ≤ max m.greatest.number 65536

-- n bytes are after w as a sparse image, in blocks of b
pub record Sparsified (b n : ℕ) (w w' : List ℕ) (a : Written) : Type 0 where
  pub blocks : (n ≤ a.blocks * b) × (a.blocks * b < n + b)
  pub long : length w' ≡ length w + a.bytes
  pub image : Appended (IsPlainImage b a.blocks) w w'

-- Of a source that models n bytes, the blocks l: what is written is their image, or after a refusal a prefix of it. The
-- source had given g bytes before, and g' then.
pub record ToldImage (r : Result Written PieceFault) (b most : ℕ) (l : List Block) (w w' : List ℕ) (n g g' : ℕ)
    : Type 0 where
  pub chunks : IfOk r (λ a. (a.blocks ≡ length l) × (a.chunks ≡ length (chunks_of most l)))
  pub front : w' ≡ w ++ take (length w' - length w) (spelling b most l)
  pub whole : OnOk r (w' ≡ w ++ spelling b most l)
  pub economy : IfOk r (λ a. g' ≤ g + 8 * n)

-- a writer of all chunks of an image of n blocks, raw runs cut every r blocks
abbrev pub writer_at_start : ℕ → ℕ → Cursor → Written → Writer
writer_at_start n r c a = record {
  first = 0;
  past = n;
  most = r;
  gatherer = first_gatherer c;
  copying = None;
  chunks = a.chunks;
  bytes = a.bytes - 28;
}

-- ---- what is read

-- the place after the last of n blocks
abbrev pub end_place : ℕ → Cursor
end_place n = record { block = n; at = 0; chunk = 0; used = 0; ask = 1 }

-- how many bytes a pass over a raw image of n blocks of b bytes may have read before a place, and 16 more
abbrev pub read_to : ℕ → ℕ → ℕ → Cursor → ℕ
read_to len n b c = gathered_to (λ d. raw_charge len n b d) n (end_place n) c

-- ---- refusals

-- the sizes that a raw image's blocks may have
abbrev pub IsRawSize : ℕ → Type 0
IsRawSize b = (4 ≤ b) × (b ≤ 65536) × (b % 4 ≡ 0)

-- why an image of so many bytes is not written in blocks of b
abbrev pub SparsifyCause : PieceFault → ℕ → ℕ → Bool → ℕ → ℕ → ℕ → ℕ → Type 0
SparsifyCause (Read f) b long models reads reads' writes writes' = (reads < reads') × (f ≡ Failed)
SparsifyCause (Write f) b long models reads reads' writes writes' = writes < writes'
SparsifyCause SourceChanged b long models reads reads' writes writes' = models ≡ false
SparsifyCause TooLarge b long models reads reads' writes writes' = IsRawSize b × ((2 ^ 32 - 1) * b < long)
SparsifyCause (BadBlock n) b long models reads reads' writes writes' = (n ≡ b) × (IsRawSize b → ⊥)
SparsifyCause (LimitTooSmall n) b long models reads reads' writes writes' = ⊥

-- What writing a raw image as a sparse one, in blocks of b bytes, leaves of both devices, and when it is refused.
pub record WritesSparse (r : Result Written PieceFault) (b : ℕ) {A B : Type 0} (s : sources.Ghosts A)
    (o : outputs.Ghosts B) (source source' : A) (output output' : B) (m m' : Meter) : Type 0 where
  pub reads : OnlyReads r s source source'
  pub writes : OnlyWrites r (full_cut r) o output output'
  pub bad_block : (IsRawSize b → ⊥) → (r ≡ Err (BadBlock b)) × (output' ≡ output) × (source' ≡ source)
  pub too_large : IsRawSize b → (2 ^ 32 - 1) * b < s.size source → (r ≡ Err TooLarge) × (output' ≡ output)
      × (source' ≡ source)
  pub within : (n : ℕ) → s.size source ≤ n * b → length (o.written output')
      ≤ length (o.written output) + (28 + n * (b + 16))
  pub costs : CallCosts b (devices s o source output) (devices s o source' output') m m'
  pub full : full_cut r ≡ 1 → IsTrue (o.is_full output')
  pub cause : IfErr r (λ e. SparsifyCause e b (s.size source) s.models (s.read_faults source) (s.read_faults source')
      (o.write_faults output) (o.write_faults output'))
