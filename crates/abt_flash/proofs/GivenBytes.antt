-- How many bytes a delivery reads of its source.
use Rattle.std.proofs.Common.{mul-le-mul_right, mul_comm, inl, inr, nat_lt, ltb-true, ltb-false, List, length, ◌≡◌, ℕ}
use Rattle.std.proofs.Common.{◌+◌, ◌-◌, ◌*◌, ◌≤◌, ◌<◌, subst, IfOk, Result, Ok, Err, arith, max, ap, ◌∙◌}
use Rattle.abt_sparse.specs.Chunk.{Header}
use Rattle.abt_sparse.specs.Reading.{Outcome, outcome}
use Rattle.std.proofs.lemmas.Bool.{cases_Bool}
use Rattle.abt_sparse.specs.Block.{classify}
use Rattle.abt_runs.specs.Raw.{RawPlace, raw_before, raw_charge}
use Rattle.abt_runs.specs.RawLaws.{raw_economy, raw_long, raw_spared}
use Rattle.abt_runs.specs.declared.raw.RawRuns.{RawRuns}
use Rattle.abt_placed.specs.Whole.{read_of}
use Rattle.abt_runs.specs.Sparse.{SparseOpened}
use Rattle.abt_flash.specs.Sparse.{image_length, rest_in}
use Rattle.abt_runs.specs.declared.part.Cursor.{Cursor}
use Rattle.abt_pieces.specs.SpentStage.{all_passes}
use Rattle.abt_flash.specs.Delivering.{begun}
use Rattle.abt_flash.specs.Way.{ReadFor, ReadForRaw}
use Rattle.abt_flash.specs.declared.answer.Delivered.{Delivered}
use Rattle.abt_flash_faults.specs.declared.fault.FlashFault.{FlashFault}
use Rattle.abt_flash.proofs.Summing.{reads_of}

pub read_for : (r : Result Delivered FlashFault) (within : Cursor → Type 0) (charge before : Cursor
    → ℕ) (one each last all start made old new : ℕ) (place : Cursor) (given : ℕ) → place.block ≡ start → within place
    → given ≤ old + charge place + made * (48 + one)
    → IfOk r (λ d. new + before place + each ≤ given + all + last + d.pieces * each)
    → IfOk r (λ d. ReadFor within charge before one each last all start made d.pieces old new)
read_for (Ok d) within charge before one each last all start made old new place given at inside planned delivered =
    record { place = place; at = at; inside = inside; given = given; planned = planned; delivered = delivered }
read_for (Err e) within charge before one each last all start made old new place given at inside planned delivered = tt

pub few_of : (r : Result Delivered FlashFault) (before n : ℕ) → begun before r ≤ n → IfOk r (λ d. before + d.pieces ≤ n)
few_of (Ok d) before n h = h
few_of (Err e) before n h = tt

-- ---- forward, in four passes

pub forward_read : (r : Result Delivered FlashFault) (within : Cursor → Type 0) (charge copied : Cursor
    → ℕ) (one pass image n opening start made old new : ℕ) → IfOk r (λ d. 0 < d.pieces)
    → IfOk r (λ d. made + d.pieces ≤ max 1 n) → (n - 1) * one ≤ image → opening + 3 * pass + 2 * image ≤ 8 * image
    → IfOk r (λ d. ReadFor within charge (λ c. all_passes charge copied c) one (80 + one) 48
    (3 * pass + image) start made d.pieces old new)
    → IfOk r (λ d. new + opening ≤ old + 8 * image + 128 * (made + d.pieces + 1))
forward_read (Ok d) within charge copied one pass image n opening start made old new some few spared economy h =
    reads_of (Ok d) old h.given new 0 (charge h.place) (all_passes charge copied h.place) pass image n one opening
    made some few spared economy (omega (arith, h.planned)) (omega arith) (omega (arith, h.delivered))
forward_read (Err e) within charge copied one pass image n opening start made old new some few spared economy h = tt

-- from the first piece on none is passed over
pub of_all : (P : ℕ → Type 0) (r : Result Delivered FlashFault) → IfOk r (λ d. P (0 + d.pieces))
    → IfOk r (λ d. P d.pieces)
of_all P (Ok d) h = subst P (let z : 0 + d.pieces ≡ d.pieces = omega arith in z) h
of_all P (Err f) h = tt

-- after an opening that read so much
pub behind_opening : (r : Result Delivered FlashFault) (a b c opening most : ℕ) (extra : ℕ → ℕ) → b ≤ a + opening
    → IfOk r (λ d. c + opening ≤ b + most + extra d.pieces) → IfOk r (λ d. c ≤ a + most + extra d.pieces)
behind_opening (Ok d) a b c opening most extra le h = omega (arith, le, h)
behind_opening (Err e) a b c opening most extra le h = tt

-- how long the sparse image is that was opened
pub image_is : (h : Header) (long image : ℕ) (x : List ℕ) → SparseOpened h long image x → image ≡ image_length x
image_is h long image x o =
    let rest : length (rest_in (outcome x)) ≡ length o.rest = ap (λ (y : Outcome). length (rest_in y)) o.is_image in
    omega (arith, rest, o.image_is)

-- ---- of a raw image

pub read_raw : (r : Result Delivered FlashFault) (runs : RawRuns) (before : RawRuns → Cursor
    → ℕ) (each last all : RawRuns → ℕ) (b long start start' made old new : ℕ) → runs.size ≡ b → runs.length ≡ long
    → start ≡ start'
    → IfOk r (λ d. ReadFor (λ c. RawPlace runs.blocks runs.size c)
    (λ c. raw_charge runs.length runs.blocks runs.size c) (before runs) runs.size (each runs) (last runs)
    (all runs) start made d.pieces old new)
    → IfOk r (λ d. ReadForRaw before each last all b long start' made d.pieces old new)
read_raw (Ok d) runs before each last all b long start start' made old new size length same h = record {
  runs = runs;
  size = size;
  length = length;
  reads = subst (λ (n : ℕ). ReadFor (λ c. RawPlace runs.blocks runs.size c)
      (λ c. raw_charge runs.length runs.blocks runs.size c) (before runs) runs.size (each runs) (last runs)
      (all runs) n made d.pieces old new) same h;
}
read_raw (Err e) runs before each last all b long start start' made old new size length same h = tt

-- forward
pub forward_raw : (r : Result Delivered FlashFault) (x : List ℕ) (b start made old new : ℕ)
    → IfOk r (λ d. 0 < d.pieces) → IfOk r (λ d. made + d.pieces ≤ max 1 (length (classify b x)))
    → IfOk r (λ d. ReadForRaw (λ s c. all_passes (λ p. raw_charge s.length s.blocks s.size p)
    (λ p. raw_before s.length s.size p) c) (λ s. 80 + s.size) (λ s. 48) (λ s. 3 * (2 * s.length) + s.length) b
    (length x) start made d.pieces old new) → IfOk r (λ d. new ≤ old + 8 * length x + 128 * (made + d.pieces + 1))
forward_raw (Ok d) x b start made old new some few h =
    let s = h.runs in
    let count : length (classify b x) ≡ s.blocks =
    rw h.size at (raw_long s.length s.blocks s.size x s.some s.covers s.last h.length) in
    let z = forward_read (Ok d) (λ c. RawPlace s.blocks s.size c) (λ c. raw_charge s.length s.blocks s.size c)
    (λ c. raw_before s.length s.size c) s.size (2 * s.length) s.length s.blocks 0 start made old new some
    (rw count at few) (raw_spared s.length s.blocks s.size s.some s.last) (raw_economy s.length) h.reads in
    let same = h.length in
    omega (arith, z, same)
forward_raw (Err e) x b start made old new some few h = tt

-- once: what planning read before a place is what is delivered before it, and so much again
late_charge : (len blocks size : ℕ) (c : Cursor) → len ≤ blocks * size → blocks * size < len + size
    → RawPlace blocks size c → raw_charge len blocks size c ≤ read_of len size c.block + size * c.block
late_charge len blocks size c covers last h = elim (cases_Bool (nat_lt c.block blocks)) [
  | inl t ↦
      let lt = ltb-true c.block blocks t in
      let m : (2 * c.block + 1 - c.ask) * size ≤ (2 * c.block) * size =
      mul-le-mul_right size (let z : 2 * c.block + 1 - c.ask ≤ 2 * c.block = omega (arith, h.some) in z) in
      let n : (c.block + 1) * size ≤ blocks * size =
      mul-le-mul_right size (let z : c.block + 1 ≤ blocks = omega (arith, lt) in z) in
      let p : (c.block + 1) * size ≡ c.block * size + size = omega arith in
      let q : (2 * c.block) * size ≡ c.block * size + c.block * size = omega arith in
      let o : size * c.block ≡ c.block * size = mul_comm size c.block in
      rw t (omega (arith, m, n, p, q, o, last))
  | inr t ↦
      let le = ltb-false c.block blocks t in
      let n : blocks * size ≤ c.block * size = mul-le-mul_right size le in
      let o : size * c.block ≡ c.block * size = mul_comm size c.block in
      rw t (omega (arith, n, o, covers))
]

pub once_raw : (r : Result Delivered FlashFault) (b long start made old new : ℕ)
    → IfOk r (λ d. ReadForRaw (λ s c. read_of s.length s.size c.block) (λ s. 65536) (λ s. 65536)
    (λ s. s.length) b long start made d.pieces old new)
    → IfOk r (λ d. new ≤ old + long + 65536 * d.pieces + b * start + made * (48 + b))
once_raw (Ok d) b long start made old new h =
    let s = h.runs in
    let k = h.reads in
    let charge = late_charge s.length s.blocks s.size k.place s.covers s.last k.inside in
    let at : s.size * k.place.block ≡ b * start = ap (λ (n : ℕ). n * k.place.block) h.size
    ∙ ap (λ (n : ℕ). b * n) k.at in
    let each : made * (48 + s.size) ≡ made * (48 + b) = ap (λ (n : ℕ). made * (48 + n)) h.size in
    let same = h.length in
    omega (arith, charge, at, each, same, k.planned, k.delivered)
once_raw (Err e) b long start made old new h = tt

-- from the first piece on nothing was planned
pub once_first : (r : Result Delivered FlashFault) (b long start old new : ℕ) → start ≡ 0
    → IfOk r (λ d. new ≤ old + long + 65536 * d.pieces + b * start + 0 * (48 + b))
    → IfOk r (λ d. new ≤ old + long + 65536 * d.pieces)
once_first (Ok d) b long start old new none h = let z : b * start ≡ b * 0 = ap (λ (n : ℕ). b * n) none in
    let y : 0 * (48 + b) ≡ 0 = omega arith in omega (arith, h, z, y)
once_first (Err e) b long start old new none h = tt
