-- Fewer bytes than a walk lacks give no more bytes of blocks than they are themselves. So at any time all that was read
-- is written, but for less than a window, and for what the last byte completes.
use Rattle.std.proofs.Common.{◌≡◌, ℕ, zero, suc, ◌+◌, ◌-◌, ◌<◌, ◌≤◌, ◌==◌, Bool, true, false, List, [], ◌++◌, length}
use Rattle.std.proofs.Common.{take, drop, Option, Some, refl, sym, ap, ◌∙◌, arith, inl, inr, lt-ltb, le-ltb, ltb-true}
use Rattle.std.proofs.Common.{Result, length-append, nat_lt, if◌then◌else◌}
use Rattle.std.specs.Prelude.{unwrap_or}
use Rattle.std.proofs.lemmas.Bool.{cases_Bool}
use Rattle.std.proofs.lemmas.List.{length-map, length-take-le}
use Rattle.abt_io.proofs.Parts.{take_plus}
use Rattle.abt_sparse.specs.declared.fault.SparseFault.{SparseFault}
use Rattle.abt_sparse.specs.declared.fault.SparseFault.TheVariants.{Truncated}
use Rattle.abt_sparse.specs.declared.kind.ChunkKind.{ChunkKind}
use Rattle.abt_sparse.specs.declared.kind.ChunkKind.TheVariants as kinds
use Rattle.abt_sparse.specs.Block.{cells, laid}
use Rattle.abt_sparse.specs.Chunk.{Header, classed}
use Rattle.abt_sparse.specs.Fails.{IsOutcome}
use Rattle.abt_sparse.specs.Reading.{chunks_at, Outcome, Image, Fault, outcome}
use Rattle.abt_sparse.specs.View.{view}
use Rattle.abt_sparse.proofs.Exactly.{chunks-bad}
use Rattle.abt_sparse.proofs.Lay.{laid_is}
use Rattle.abt_chunks.specs.declared.walk.Phase.{Phase}
use Rattle.abt_chunks.specs.declared.walk.Phase.TheVariants as phases
use Rattle.abt_chunks.specs.declared.walk.Walk.{Walk}
use Rattle.abt_chunks.specs.Ahead.{Ahead, finish, seen, seen_chunks, chunks_ahead, body_ahead, walk}
use Rattle.abt_chunks.specs.Cause.{wanted, wanted_in, data_wanted}
use Rattle.abt_chunks.specs.Parts.{ahead, ahead_in}
use Rattle.abt_chunks.specs.Whole.{AlmostWhole, image, fault}
use Rattle.abt_chunks.proofs.Causes.{some_of}
use Rattle.abt_chunks.proofs.Needed.{short_head}

abbrev Ending : Type 0
Ending = Result (Header × List ℕ) SparseFault

no_chunks : (h : Header) (size i have left : ℕ) (y : List ℕ) → 0 < left → length y < 12
    → (seen_chunks h (chunks_at h size i have left y)).cells ≡ []
no_chunks h size i have zero y some short = absurd (omega arith)
no_chunks h size i have (suc left) y some short =
    rw (chunks-bad h size i have left y (Truncated size) [] (short_head h size i have y short)) refl

short_chunks : (h : Header) (size i have : ℕ) (y : List ℕ) → length y < (if nat_lt i h.total_chunks then 12 else 0)
    → (chunks_ahead h size i have y).cells ≡ []
unfolding chunks_ahead
short_chunks h size i have y short = elim (cases_Bool (nat_lt i h.total_chunks)) [
  | inl e ↦ let few : length y < 12 = rw e at short in let some : i < h.total_chunks = ltb-true _ _ e in
      no_chunks h size i have (h.total_chunks - i) y (omega arith) few
  | inr e ↦ absurd (let few : length y < 0 = rw e at short in omega arith)
]

no_word : (words head short : ℕ) → short < (if suc words == 0 then head else 0) → ⊥
no_word words head short lt = let few : short < 0 = rw (some_of (suc words) head 0 (omega arith)) at lt in omega arith

short_body : (k : ChunkKind) (due : Bool) (h : Header) (i have raw words : ℕ) (word : List ℕ) (size : ℕ) (y : List ℕ)
    → length y < data_wanted k due raw words (if nat_lt i h.total_chunks then 12 else 0)
    → length (body_ahead k due h i have raw words word size y).cells ≤ length y
unfolding body_ahead
short_body kinds.Raw due h i have zero words word size y short = let none : nat_lt (length y) 0 ≡ false =
    le-ltb _ _ (omega arith) in rw (none, short_chunks h size i have y short) (omega arith)
short_body kinds.Raw due h i have (suc raw) words word size y short = let few : length y < suc raw =
    rw (some_of (suc raw) (if nat_lt i h.total_chunks then 12 else 0) (suc raw) (omega arith)) at short in
    rw (lt-ltb _ _ few) (omega (arith, length-map y (λ x. Some x)))
short_body kinds.Fill true h i have raw words word size y short = rw (lt-ltb _ _ short) (omega arith)
short_body kinds.Fill false h i have raw zero word size y short =
    rw (short_chunks h size i have y short) (omega arith)
short_body kinds.Fill false h i have raw (suc words) word size y short =
    absurd (no_word words (if nat_lt i h.total_chunks then 12 else 0) (length y) short)
short_body kinds.Skip due h i have raw zero word size y short = rw (short_chunks h size i have y short) (omega arith)
short_body kinds.Skip due h i have raw (suc words) word size y short =
    absurd (no_word words (if nat_lt i h.total_chunks then 12 else 0) (length y) short)
short_body kinds.Crc true h i have raw words word size y short = rw (lt-ltb _ _ short) (omega arith)
short_body kinds.Crc false h i have raw words word size y short = rw (short_chunks h size i have y short) (omega arith)

short_walk : (k : ChunkKind) (due : Bool) (h : Header) (i have extra raw words : ℕ) (word : List ℕ) (size : ℕ)
    (y : List ℕ)
    → length y < (if extra == 0 then data_wanted k due raw words
    (if nat_lt i h.total_chunks then 12 else 0) else extra)
    → length (walk k due h i have extra raw words word size y).cells ≤ length y
unfolding walk
short_walk k due h i have zero raw words word size y short = let none : nat_lt (length y) 0 ≡ false =
    le-ltb _ _ (omega arith) in rw none (short_body k due h i have raw words word size y short)
short_walk k due h i have (suc extra) raw words word size y short =
    let few : length y < suc extra =
    rw (some_of (suc extra) (data_wanted k due raw words (if nat_lt i h.total_chunks then 12 else 0)) (suc extra)
    (omega arith)) at short in
    rw (lt-ltb _ _ few) (omega arith)

pub too_few : (y : List ℕ) → length y < 28 → (seen (outcome y)).cells ≡ []
unfolding outcome
too_few y short = rw (lt-ltb _ _ short) refl

short_in : (p : Phase) (s : Walk) (y : List ℕ) → length y < wanted_in p s → length (ahead_in p s y).cells ≤ length y
short_in phases.Header s y short = rw (too_few y short) (omega arith)
short_in phases.Body s y short =
    short_walk s.kind s.due (view s.header) s.index s.have s.extra s.raw s.words s.word
    (s.position + length y) y short
short_in phases.Done s y short = absurd (omega arith)
short_in (phases.Failed f) s y short = absurd (omega arith)

pub short_ahead : (s : Walk) (y : List ℕ) → length y < wanted s → length (ahead s y).cells ≤ length y
short_ahead s y short = short_in s.phase s y short

-- the same of some of the bytes that a walk lacks
pub short_of : (s : Walk) (y : List ℕ) (n m : ℕ) → n ≤ length y → n ≤ wanted s → m < n
    → length (ahead s (take m y)).cells ≤ m
short_of s y n m there lacks less =
    let long : length (take m y) ≡ m = length-take-le m y (omega arith) in
    let few = short_ahead s (take m y) (omega (arith, long)) in
    omega (arith, few, long)

-- ---- an expander at any time

length_laid : (cs : List (Option ℕ)) → length (laid cs) ≡ length cs
length_laid cs = ap length (laid_is cs) ∙ length-map cs (λ o. unwrap_or o 0)

-- all that the first k bytes of rem give but the last of them is written, but for less than a window
abbrev pub IsNear : List ℕ → List ℕ → List ℕ → ℕ → Type 0
IsNear w0 w rem k = length w0 + length (seen (outcome (take (k - 1) rem))).cells < length w + 65536

pub near_first : (w rem : List ℕ) (k : ℕ) → k ≡ 0 → IsNear w w rem k
near_first w rem k none =
    let z : take (k - 1) rem ≡ [] = ap (λ (n : ℕ). take n rem) (let q : k - 1 ≡ 0 = omega (arith, none) in q) in
    let e : length (seen (outcome (take (k - 1) rem))).cells ≡ 0 =
    ap (λ (l : List ℕ). length (seen (outcome l)).cells) z ∙ ap length (too_few [] (omega arith)) in
    omega (arith, e)

-- before the first byte was read
pub first_told : (w rem : List ℕ) (s : Walk) (k : ℕ) (t : List ℕ) → s.phase ≡ phases.Header → k ≡ 0
    → finish w (seen (outcome (take k rem ++ t))) ≡ finish w (ahead s t)
first_told w rem s k t first none = ap (λ (n : ℕ). finish w (seen (outcome (take n rem ++ t)))) none
    ∙ sym (ap (λ (p : Phase). finish w (ahead_in p s t)) first)

pub near_more : (w0 w w' rem rem' : List ℕ) (s : Walk) (k n j : ℕ) → rem' ≡ drop k rem → j ≡ k + n
    → n ≤ length rem' → n ≤ wanted s → n ≤ 65536 → length w ≤ length w'
    → ((t : List ℕ) → finish w0 (seen (outcome (take k rem ++ t))) ≡ finish w (ahead s t)) → IsNear w0 w rem k
    → IsNear w0 w' rem j
near_more w0 w w' rem rem' s k zero j rest same there lacks small le told near =
    let e : length (seen (outcome (take (j - 1) rem))).cells ≡ length (seen (outcome (take (k - 1) rem))).cells =
    ap (λ (i : ℕ). length (seen (outcome (take (i - 1) rem))).cells) (let z : j ≡ k = omega (arith, same) in z) in
    omega (arith, e, near, le)
near_more w0 w w' rem rem' s k (suc m) j rest same there lacks small le told near =
    let t = take m rem' in
    let all : take k rem ++ t ≡ take (j - 1) rem = ap (λ (l : List ℕ). take k rem ++ take m l) rest
    ∙ take_plus k m rem ∙ ap (λ (i : ℕ). take i rem) (let z : k + m ≡ j - 1 = omega (arith, same) in z) in
    let few = short_of s rem' (suc m) m there lacks (omega arith) in
    let sum = ap (λ (p : List ℕ × Ending). length p.0) (told t) in
    let one = length-append w0 (laid (seen (outcome (take k rem ++ t))).cells) in
    let two = length-append w (laid (ahead s t).cells) in
    let cs = length_laid (seen (outcome (take k rem ++ t))).cells in
    let ds = length_laid (ahead s t).cells in
    let e : length (seen (outcome (take k rem ++ t))).cells ≡ length (seen (outcome (take (j - 1) rem))).cells =
    ap (λ (l : List ℕ). length (seen (outcome l)).cells) all in
    omega (arith, few, sum, one, two, cs, ds, e, small, le)

pub near_found : (y : List ℕ) (o : Outcome) (old new : List ℕ) → IsOutcome y o
    → length old + length (seen o).cells < length new + 65536 → AlmostWhole old new y
near_found y (Image h cs rest) old new is near = record {
  whole = laid (cells h.blk_sz (classed cs));
  gives = image h cs rest is;
  few = let e = length_laid (cells h.blk_sz (classed cs)) in omega (arith, e, near);
}
near_found y (Fault f cs) old new is near =
    record { whole = laid cs; gives = fault f cs is; few = let e = length_laid cs in omega (arith, e, near) }
