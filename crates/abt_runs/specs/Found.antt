-- What is known of a part or a run that was found, and the costs of finding and copying.
use Rattle.std.specs.Prelude.{◌≡◌, ℕ, ◌+◌, ◌-◌, ◌*◌, ◌≤◌, ◌<◌, ◌↔◌, Bool, true, false, IsTrue, List, max, min, Result}
use Rattle.std.specs.Prelude.{IfOk, IfErr}
use Rattle.abt_io.specs.Count.{count_of}
use Rattle.abt_io.specs.Lent.{OnlyReads, OneStep}
use Rattle.abt_io.specs.declared.device.Source as sources
use Rattle.abt_io.specs.declared.meter.Meter.{Meter}
use Rattle.abt_sparse.specs.Block.{Block}
use Rattle.abt_runs.specs.declared.part.Cursor.{Cursor}
use Rattle.abt_runs.specs.declared.part.Run.{Run}
use Rattle.abt_runs.specs.declared.part.RunFault.{RunFault}
use Rattle.abt_runs.specs.declared.part.RunKind.TheVariants.{Raw}
use Rattle.abt_runs.specs.Part.{RunCaused, PartOf, MovesOn, Capped, Earliest, afresh, entry, is_end, piece_bytes}
use Rattle.abt_runs.specs.Whole.{RunOf}

-- An image's source is only read. It is refused where the source has failed, or models nothing and is another.
pub record ReadsImage {X : Type 0} (r : Result X RunFault) {A : Type 0} (s : sources.Ghosts A) (old new : A) : Type 0
  where
    pub reads : OnlyReads r s old new
    pub cause : IfErr r (λ e. RunCaused e s.models (s.read_faults old) (s.read_faults new))

-- Some blocks are asked for from a place on, of an image that was opened over the bytes x of the borrowed source.
pub record AsksPart (W : Cursor → Type 0) (Opened : List ℕ → Type 0) (P : List ℕ → Cursor → Type 0) (models : Bool)
    (x : List ℕ) (from : Cursor) (cap : ℕ) : Type 0 where
  pub some : 0 < cap
  pub within : W from
  pub told : IsTrue models → Opened x × P x from

-- Of whatever source: r, of at most `cap` blocks of `size` bytes where they are raw, was found from a place on in an
-- image of `count` blocks. The source had given g bytes before, and g' then.
pub record Found (W : Cursor → Type 0) (size count : ℕ) (lefts charge reach taken copied padding : Cursor → ℕ)
    (held : Cursor → ℕ → ℕ) (from : Cursor) (cap g g' : ℕ) (r : Run) : Type 0 where
  pub within : W r.next
  pub here : (r.here.block ≡ from.block) × W r.here × (charge from ≤ charge r.here)
  pub inside : r.here.used ≤ from.used
  pub reached : r.kind ≡ Raw → r.blocks * size ≤ reach r.here
  pub nowhere : r.blocks ≡ 0 → r.here ≡ r.next
  pub anew : charge (afresh r.here) ≤ charge r.here
  pub moved : r.next.block ≡ from.block + r.blocks
  pub capped : Capped cap r
  pub on : MovesOn lefts from r
  pub stops : 0 < r.next.used → (r.kind ≡ Raw) × (r.blocks ≡ cap)
  pub goes_on : 0 < from.used → (r.kind ≡ Raw) × (0 < r.blocks)
  pub at_end : is_end r.kind ≡ true → (from.block ≡ count) × (r.blocks ≡ 0)
  pub charged : g' + charge from ≤ g + charge r.next + entry from
  pub takes : piece_bytes size from.used r.kind r.blocks + taken from ≤ taken r.next
  pub copies : r.kind ≡ Raw → copied r.here + held r.here (r.blocks * size) ≤ copied r.next
  pub onward : (copied from ≤ copied r.here) × (copied r.here ≤ copied r.next)
  pub filled_up : 0 < padding from → 0 < r.blocks

-- Of a source that models its content: r is a part of the blocks l, between places of the image that the source is.
pub record IsToldRun (l : List Block) (W P : Cursor → Type 0) (together copied charge : Cursor → ℕ) (from : Cursor)
    (cap : ℕ) (r : Run) : Type 0 where
  pub part : PartOf l from.block r
  pub place : P r.next
  pub here_place : P r.here
  pub stands : r.kind ≡ Raw → r.blocks ≤ together r.here
  pub first : 0 < r.blocks → Earliest (λ d. W d × P d) copied charge r.next
  pub not_past : (d : Cursor) → W d → P d → d.block ≡ from.block + cap → r.blocks ≤ cap

-- It was read, the end alone without a read, of a source as long as when it was opened.
pub record Asked (long opened g g' : ℕ) (r : Run) : Type 0 where
  pub length : is_end r.kind ≡ false → long ≡ opened
  pub fetched : is_end r.kind ≡ false → g < g'
  pub ended : is_end r.kind ≡ true → g' ≡ g

-- What finding costs, one step in all: the source went from c calls and g bytes that it gave to c' and g'. Besides what
-- was read, `more` words may have been compared.
pub record PartCosts (more c g c' g' : ℕ) (m m' : Meter) : Type 0 where
  pub given : g ≤ g'
  pub received : g' ≤ g + 65536
  pub calls : c' ≤ c + (g' - g) + 2
  pub turns : m'.turns.number ≤ m.turns.number + 2 * (g' - g) + 2 + more
  pub one_step : OneStep (g' - g) m m'

-- A part from a place on was found in an image, with the borrowed source: all that is known of it.
pub record FindsPart (W : Cursor → Type 0) (size count : ℕ) (lefts charge reach taken copied padding : Cursor → ℕ)
    (held : Cursor → ℕ → ℕ) (list : List ℕ → List Block) (P : List ℕ → Cursor → Type 0)
    (together : List ℕ → Cursor → ℕ) (r : Result Run RunFault) {A : Type 0} (s : sources.Ghosts A) (old new : A)
    (from : Cursor) (cap : ℕ) (m m' : Meter) : Type 0 where
  pub source : ReadsImage r s old new
  pub told : IsTrue s.models → IfOk r (λ q. IsToldRun (list (s.content old)) W (P (s.content old))
      (together (s.content old)) copied charge from cap q)
  pub found : IfOk r (λ q. Found W size count lefts charge reach taken copied padding held from cap (s.given old)
      (s.given new) q)
  pub costs : PartCosts (padding from) (s.reads old) (s.given old) (s.reads new) (s.given new) m m'

-- What copying n bytes from byte `at` on costs, one step in all: at most one call, and no byte that is not copied.
pub record CopyCosts (held : ℕ → ℕ) (at n c g c' g' : ℕ) (m m' : Meter) : Type 0 where
  pub given : (g ≤ g') × (g' ≤ g + n)
  pub read : g' + held at ≤ g + held (at + n)
  pub calls : c' ≤ c + 1
  pub turns : m'.turns.number ≡ m.turns.number
  pub one_step : OneStep (g' - g) m m'

-- What copying to `long` bytes gives, of whatever source, and what that costs.
pub record CopiesBytes (r : Result ℕ RunFault) (held : ℕ → ℕ) (at long c g c' g' : ℕ) (m m' : Meter) : Type 0 where
  pub within : count_of r ≤ long
  pub some : IfOk r (λ n. 0 < long → 0 < n)
  pub few : IfOk r (λ n. n ≤ 80 + (g' - g))
  pub costs : CopyCosts held at (count_of r) c g c' g' m m'

-- Of whatever source: the run r was found from a place on, and what was read is counted against what it passes.
pub record FoundRun (W : Cursor → Type 0) (size count one : ℕ) (charge reach : Cursor → ℕ) (from : Cursor)
    (cap g g' : ℕ) (r : Run) : Type 0 where
  pub nowhere : r.blocks ≡ 0 → r.here ≡ r.next
  pub within : W r.here × W r.next
  pub reached : r.kind ≡ Raw → size ≤ reach r.here
  pub moved : (r.here.block ≡ from.block) × (r.next.block ≡ from.block + r.blocks)
  pub capped : Capped cap r
  pub end : IsTrue (is_end r.kind) ↔ from.block ≡ count
  pub charged : g' + charge from ≤ g + charge r.next + entry from + min 65536 (16 + cap * one)

-- Of a source that models its content: r is the first run of the blocks l from a place on, between places of the image.
pub record ToldRun (l : List Block) (P : Cursor → Type 0) (together : Cursor → ℕ) (from : Cursor) (cap : ℕ) (r : Run)
    : Type 0 where
  pub run : RunOf cap l from.block r
  pub places : P r.here × P r.next
  pub stands : r.kind ≡ Raw → 0 < together r.here

-- What finding a run costs, over all its steps.
pub record RunCosts (one c g c' g' : ℕ) (m m' : Meter) : Type 0 where
  pub given : g ≤ g'
  pub received : g' + 65536 * m.steps.number ≤ g + 65536 * m'.steps.number
  pub calls : c' + 2 * m.steps.number ≤ c + (g' - g) + 2 * m'.steps.number
  pub turns : m'.turns.number + (3 + one) * m.steps.number
      ≤ m.turns.number + 2 * (g' - g) + (3 + one) * m'.steps.number + 1
  pub greatest : m'.greatest.number ≤ max m.greatest.number 65536
