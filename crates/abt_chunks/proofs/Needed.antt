-- Fewer bytes than a walk lacks end too soon, so no byte was read that was not needed.
use Rattle.std.proofs.Common.{◌≡◌, ℕ, zero, suc, ◌+◌, ◌-◌, ◌<◌, ◌≤◌, ◌==◌, Bool, true, false, List, [], ◌++◌, length}
use Rattle.std.proofs.Common.{take, drop, Result, Ok, Err, refl, ap, subst, ◌∙◌, arith, inl, inr, lt-ltb, le-ltb}
use Rattle.std.proofs.Common.{ltb-true, ltb-false, nat_lt, if◌then◌else◌, Option}
use Rattle.std.specs.Prelude.{⊤}
use Rattle.std.proofs.lemmas.Bool.{cases_Bool}
use Rattle.std.proofs.lemmas.List.{length-take-le}
use Rattle.abt_io.specs.Bytes.{AreBytes}
use Rattle.abt_io.specs.BytesLaws.{bytes_of_take}
use Rattle.abt_io.proofs.Parts.{take_plus}
use Rattle.abt_sparse.specs.declared.fault.SparseFault.{SparseFault}
use Rattle.abt_sparse.specs.declared.fault.SparseFault.TheVariants.{Truncated}
use Rattle.abt_sparse.specs.declared.kind.ChunkKind.{ChunkKind}
use Rattle.abt_sparse.specs.declared.kind.ChunkKind.TheVariants as kinds
use Rattle.abt_sparse.specs.Chunk.{Header}
use Rattle.abt_sparse.specs.Reading.{Bad, chunk_at, chunks_at, Outcome, Image, Fault, outcome}
use Rattle.abt_sparse.specs.Fails.{counted_in, HeaderFails, ChunkFails, Fails, IsOutcome, no_magic, other_major}
use Rattle.abt_sparse.specs.Fails.{short_header, short_chunk_header, bad_block_size, no_header, unknown_type}
use Rattle.abt_sparse.specs.Fails.{wrong_length, too_many, cut_short, no_image, bad_header, cut_header, bad_chunk}
use Rattle.abt_sparse.specs.Fails.{too_few}
use Rattle.abt_sparse.specs.View.{view}
use Rattle.abt_sparse.proofs.Exactly.{chunks-bad, is_so}
use Rattle.abt_chunks.specs.declared.walk.Phase.{Phase}
use Rattle.abt_chunks.specs.declared.walk.Phase.TheVariants as phases
use Rattle.abt_chunks.specs.declared.walk.Walk.{Walk}
use Rattle.abt_chunks.specs.Ahead.{Ahead, finish, seen, seen_chunks, chunks_ahead, body_ahead, walk}
use Rattle.abt_chunks.specs.Cause.{wanted, wanted_in, data_wanted}
use Rattle.abt_chunks.specs.Parts.{ahead, ahead_in}
use Rattle.abt_chunks.specs.Whole.{EndsTooSoon, AllNeeded}
use Rattle.abt_chunks.proofs.Causes.{some_of}

abbrev Ending : Type 0
Ending = Result (Header × List ℕ) SparseFault

-- ---- what lies ahead of a walk, where fewer bytes than it lacks are left

pub short_head : (h : Header) (size i have : ℕ) (y : List ℕ) → length y < 12
    → chunk_at h size i have y ≡ Bad (Truncated size) []
unfolding chunk_at
short_head h size i have y short = rw (lt-ltb _ _ short) refl

cut_chunks : (h : Header) (size i have left : ℕ) (y : List ℕ) → 0 < left → length y < 12
    → (seen_chunks h (chunks_at h size i have left y)).ending ≡ Err (Truncated size)
cut_chunks h size i have zero y some short = absurd (omega arith)
cut_chunks h size i have (suc left) y some short =
    rw (chunks-bad h size i have left y (Truncated size) [] (short_head h size i have y short)) refl

cut_ahead : (h : Header) (size i have : ℕ) (y : List ℕ) → length y < (if nat_lt i h.total_chunks then 12 else 0)
    → (chunks_ahead h size i have y).ending ≡ Err (Truncated size)
unfolding chunks_ahead
cut_ahead h size i have y short = elim (cases_Bool (nat_lt i h.total_chunks)) [
  | inl e ↦ let few : length y < 12 = rw e at short in let some : i < h.total_chunks = ltb-true _ _ e in
      cut_chunks h size i have (h.total_chunks - i) y (omega arith) few
  | inr e ↦ absurd (let few : length y < 0 = rw e at short in omega arith)
]

cut_word : (words : ℕ) (a : Ahead) (short head : ℕ) (e : Ending) → short < (if words == 0 then head else 0)
    → (short < head → a.ending ≡ e) → a.ending ≡ e
cut_word words a short head e lt go = elim (cases_Bool (words == 0)) [
  | inl z ↦ go (rw z at lt)
  | inr z ↦ absurd (let few : short < 0 = rw z at lt in omega arith)
]

cut_body : (k : ChunkKind) (due : Bool) (h : Header) (i have raw words : ℕ) (word : List ℕ) (size : ℕ) (y : List ℕ)
    → length y < data_wanted k due raw words (if nat_lt i h.total_chunks then 12 else 0)
    → (body_ahead k due h i have raw words word size y).ending ≡ Err (Truncated size)
unfolding body_ahead
cut_body kinds.Raw due h i have zero words word size y short = let none : nat_lt (length y) 0 ≡ false =
    le-ltb _ _ (omega arith) in rw none (cut_ahead h size i have y short)
cut_body kinds.Raw due h i have (suc raw) words word size y short = let few : length y < suc raw =
    rw (some_of (suc raw) (if nat_lt i h.total_chunks then 12 else 0) (suc raw) (omega arith)) at short in
    rw (lt-ltb _ _ few) refl
cut_body kinds.Fill true h i have raw words word size y short = rw (lt-ltb _ _ short) refl
cut_body kinds.Fill false h i have raw words word size y short =
    cut_word words (chunks_ahead h size i have y) (length y) (if nat_lt i h.total_chunks then 12 else 0)
    (Err (Truncated size)) short (cut_ahead h size i have y)
cut_body kinds.Skip due h i have raw words word size y short =
    cut_word words (chunks_ahead h size i have y) (length y) (if nat_lt i h.total_chunks then 12 else 0)
    (Err (Truncated size)) short (cut_ahead h size i have y)
cut_body kinds.Crc true h i have raw words word size y short = rw (lt-ltb _ _ short) refl
cut_body kinds.Crc false h i have raw words word size y short = cut_ahead h size i have y short

cut_walk : (k : ChunkKind) (due : Bool) (h : Header) (i have extra raw words : ℕ) (word : List ℕ) (size : ℕ)
    (y : List ℕ)
    → length y < (if extra == 0 then data_wanted k due raw words
    (if nat_lt i h.total_chunks then 12 else 0) else extra)
    → (walk k due h i have extra raw words word size y).ending ≡ Err (Truncated size)
unfolding walk
cut_walk k due h i have zero raw words word size y short = let none : nat_lt (length y) 0 ≡ false =
    le-ltb _ _ (omega arith) in rw none (cut_body k due h i have raw words word size y short)
cut_walk k due h i have (suc extra) raw words word size y short =
    let few : length y < suc extra =
    rw (some_of (suc extra) (data_wanted k due raw words (if nat_lt i h.total_chunks then 12 else 0)) (suc extra)
    (omega arith)) at short in
    rw (lt-ltb _ _ few) refl

record Cut (e : Ending) : Type 0 where
  pub at : ℕ
  pub is : e ≡ Err (Truncated at)

cut_image : (y : List ℕ) → length y < 28 → (seen (outcome y)).ending ≡ Err (Truncated (length y))
unfolding outcome
cut_image y short = rw (lt-ltb _ _ short) refl

cut : (p : Phase) (s : Walk) (y : List ℕ) → length y < wanted_in p s → Cut (ahead_in p s y).ending
cut phases.Header s y short = record { at = length y; is = cut_image y short }
cut phases.Body s y short =
    record {
      at = s.position + length y;
      is = cut_walk s.kind s.due (view s.header) s.index s.have s.extra s.raw s.words s.word
          (s.position + length y) y short;
    }
cut phases.Done s y short = absurd (omega arith)
cut (phases.Failed f) s y short = absurd (omega arith)

-- ---- bytes that are cut short say so at their end

abbrev AtEnd : SparseFault → ℕ → Type 0
AtEnd (Truncated m) n = m ≡ n
AtEnd f n = ⊤

header_end : (x : List ℕ) (f : SparseFault) (n : ℕ) → HeaderFails x f → AtEnd f n
header_end x _ n (no_magic a) = tt
header_end x _ n (other_major a b) = tt
header_end x _ n (short_header a b) = tt
header_end x _ n (short_chunk_header a b c) = tt
header_end x _ n (bad_block_size a b c d) = tt

chunk_end : (h : Header) (size i have : ℕ) (y : List ℕ) (f : SparseFault) (came : List ℕ)
    → ChunkFails h size i have y f came → AtEnd f size
chunk_end h size i have y _ _ (no_header a) = refl
chunk_end h size i have y _ _ (unknown_type a b) = tt
chunk_end h size i have y _ _ (wrong_length k n total a b) = tt
chunk_end h size i have y _ _ (too_many k n total a b c) = tt
chunk_end h size i have y _ _ (cut_short k n total a b c d) = refl

at_end : (x : List ℕ) (f : SparseFault) (given : List (Option ℕ)) → Fails x f given → AtEnd f (length x)
at_end x _ _ (no_image a) = refl
at_end x _ _ (bad_header f a b) = header_end x f (length x) b
at_end x _ _ (cut_header h y a b c) = refl
at_end x _ _ (bad_chunk h cs y f came a b c) = chunk_end h (length x) (length cs) (counted_in cs) y f came c
at_end x _ _ (too_few h cs y a b c) = tt

ends : (x : List ℕ) (o : Outcome) (m : ℕ) → IsOutcome x o → (seen o).ending ≡ Err (Truncated m) → EndsTooSoon x
ends x (Image h cs rest) m is e = absurd (no_end h rest m e)
  where
    no_end : (h : Header) (rest : List ℕ) (m : ℕ)
        → (let a : Ending = Ok (h, rest) in let b : Ending = Err (Truncated m) in a ≡ b) → ⊥
    no_end h rest m q = cc
ends x (Fault f given) m is e =
    let same : f ≡ Truncated m = same_fault f (Truncated m) e in
    let fails : Fails x (Truncated m) given = subst (λ (k : SparseFault). Fails x k given) same is in
    let long : m ≡ length x = at_end x (Truncated m) given fails in
    record { came = given; fails = subst (λ (n : ℕ). Fails x (Truncated n) given) long fails }
  where
    same_fault : (f g : SparseFault) → (let a : Ending = Err f in let b : Ending = Err g in a ≡ b) → f ≡ g
    same_fault f g q = cc

-- ---- one step more

pub needed_more : (w0 w rem rem' : List ℕ) (s : Walk) (k n j : ℕ) → AreBytes rem → rem' ≡ drop k rem → j ≡ k + n
    → n ≤ length rem' → n ≤ wanted s
    → ((t : List ℕ) → finish w0 (seen (outcome (take k rem ++ t))) ≡ finish w (ahead s t)) → AllNeeded rem k
    → AllNeeded rem j
needed_more w0 w rem rem' s k n j bytes rest same long few told before m lt = elim (cases_Bool (nat_lt m k)) [
  | inl e ↦ before m (ltb-true _ _ e)
  | inr e ↦
      let le : k ≤ m = ltb-false _ _ e in
      let t = take (m - k) rem' in
      let t_long : length t ≡ m - k = length-take-le (m - k) rem' (omega arith) in
      let all : take k rem ++ t ≡ take m rem = ap (λ (l : List ℕ). take k rem ++ take (m - k) l) rest
      ∙ take_plus k (m - k) rem ∙ ap (λ (i : ℕ). take i rem) (let z : k + (m - k) ≡ m = omega arith in z) in
      let c = cut s.phase s t (omega (arith, t_long)) in
      let ending : (seen (outcome (take k rem ++ t))).ending ≡ Err (Truncated c.at) =
      ap (λ (p : List ℕ × Ending). p.1) (told t) ∙ c.is in
      let here : (seen (outcome (take m rem))).ending ≡ Err (Truncated c.at) = rw all at ending in
      ends (take m rem) (outcome (take m rem)) c.at (is_so (take m rem) (bytes_of_take m rem bytes)) here
]
