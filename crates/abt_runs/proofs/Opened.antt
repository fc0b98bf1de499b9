-- An opening from one place to the next.
use Rattle.std.proofs.Common.{◌≡◌, ℕ, zero, suc, ◌+◌, ◌-◌, ◌*◌, ◌%◌, ◌<◌, ◌≤◌, Bool, true, false, cond, List, [], ◌++◌}
use Rattle.std.proofs.Common.{length, get_or, take, drop, Option, Some, None, Result, Ok, Err, refl, sym, ap, subst}
use Rattle.std.proofs.Common.{◌∙◌, arith, length-drop, take-append-drop, not, ◌==◌, ◌||◌, nat_lt, le-ltb, lt-ltb}
use Rattle.std.proofs.Common.{eq-eqb, ne_eqb, get_or-drop}
use Rattle.std.proofs.lemmas.List.{get_or_append_left, length-take-le, drop-drop}
use Rattle.byteorder.specs.Endian.{little_from}
use Rattle.abt_sparse.specs.declared.fault.SparseFault.{SparseFault}
use Rattle.abt_sparse.specs.declared.fault.SparseFault.TheVariants.{Magic, Major, FileHeaderSize, ChunkHeaderSize}
use Rattle.abt_sparse.specs.declared.fault.SparseFault.TheVariants.{BlockSize, Truncated, TooFewBlocks, ChunkType}
use Rattle.abt_sparse.specs.declared.fault.SparseFault.TheVariants.{ChunkLength, TooManyBlocks}
use Rattle.abt_sparse.specs.declared.kind.ChunkKind.{ChunkKind}
use Rattle.abt_sparse.specs.Number.{number_of}
use Rattle.abt_sparse.specs.Chunk.{Header, Chunk}
use Rattle.abt_sparse.specs.Reading.{number_at, header_at, checked_header, kind_at, data_len, counted, chunk_from}
use Rattle.abt_sparse.specs.Reading.{partial_of, Got, Bad, chunk_body, chunk_at, ChunksRead, Done, Failed, behind}
use Rattle.abt_sparse.specs.Reading.{chunks_at, body_at, outcome_of, outcome}
use Rattle.abt_sparse.proofs.Exactly.{chunks-got, chunks-bad}
use Rattle.abt_sparse.specs.declared.chunk_header.ChunkHeader.{ChunkHeader}
use Rattle.abt_runs.specs.declared.part.RunFault.TheVariants.{Sparse, Read, TooLarge, SourceChanged, BadBlock}
use Rattle.abt_runs.specs.declared.stage.OpeningStage.{OpeningStage}
use Rattle.abt_runs.specs.declared.stage.OpeningStage.TheVariants as stages
use Rattle.abt_runs.specs.Head.{chunk_header_of, head_of_kind}
use Rattle.abt_runs.specs.Verdict.{ends, chunks_end, rest_ends, Verdict, CausedIn, ComesTo, IsFormat}
use Rattle.abt_runs.specs.Part.{RunCaused}
use Rattle.abt_runs.specs.Advance.{Advances, Takes}
use Rattle.abt_runs.specs.declared.opening_state.SparseOpening.{SparseOpening}
use Rattle.abt_runs.specs.declared.part.RunFault.{RunFault}
use Rattle.abt_runs.specs.declared.stage.OpeningProgress.{OpeningProgress}
use Rattle.std.specs.Prelude.{IsTrue, IfErr}

-- ---- fields that lie in front

little-front : (c t : List ℕ) (p i n : ℕ) → p + (i + n) ≤ length c
    → little_from i n (drop p (c ++ t)) ≡ little_from i n (drop p c)
little-front c t p i zero le = refl
little-front c t p i (suc n) le =
    let a : get_or (drop p (c ++ t)) i 0 ≡ get_or (drop p c) i 0 = get_or-drop p (c ++ t) i 0
    ∙ get_or_append_left c t 0 (p + i) (omega arith) ∙ sym (get_or-drop p c i 0) in
    ap (λ (m : ℕ). m + 256 * little_from (suc i) n (drop p (c ++ t))) a
    ∙ ap (λ (m : ℕ). get_or (drop p c) i 0 + 256 * m) (little-front c t p (suc i) n (omega arith))

number-front : (p n : ℕ) (c t : List ℕ) → p + n ≤ length c → number_at p n (c ++ t) ≡ number_at p n c
number-front p n c t le = little-front c t p 0 n (omega arith)

-- a number in the first bytes of y
pub number_taken : (p n e : ℕ) (c y : List ℕ) → c ≡ take e y → e ≤ length y → p + n ≤ e
    → number_at p n y ≡ number_at p n c
number_taken p n e c y is long le =
    let whole : y ≡ c ++ drop e y = sym (take-append-drop e y) ∙ ap (λ (l : List ℕ). l ++ drop e y) (sym is) in
    let enough : length c ≡ e = ap length is ∙ length-take-le e y long in
    ap (λ (l : List ℕ). number_at p n l) whole ∙ number-front p n c (drop e y) (omega arith)

-- ---- the image's header

header_same : (c x : List ℕ) → c ≡ take 28 x → 28 ≤ length x → checked_header x ≡ checked_header c
unfolding checked_header header_at
header_same c x is long =
    rw (
      number_taken 0 4 28 c x is long (omega arith),
      number_taken 4 2 28 c x is long (omega arith),
      number_taken 6 2 28 c x is long (omega arith),
      number_taken 8 2 28 c x is long (omega arith),
      number_taken 10 2 28 c x is long (omega arith),
      number_taken 12 4 28 c x is long (omega arith),
      number_taken 16 4 28 c x is long (omega arith),
      number_taken 20 4 28 c x is long (omega arith),
      number_taken 24 4 28 c x is long (omega arith),
    ) refl

ends_of : (h : Header) (r : ChunksRead) → ends (outcome_of h r) ≡ chunks_end h r
ends_of h (Done cs rest) = refl
ends_of h (Failed f cs came) = refl

pub no_header : (x : List ℕ) → length x < 28 → ends (outcome x) ≡ Err (Truncated (length x))
unfolding outcome
no_header x l = let t : nat_lt (length x) 28 ≡ true = lt-ltb _ _ l in rw t refl

pub bad_header : (f : SparseFault) (c x : List ℕ) → c ≡ take 28 x → 28 ≤ length x → checked_header c ≡ Err f
    → ends (outcome x) ≡ Err f
unfolding outcome
bad_header f c x is l e =
    let long : nat_lt (length x) 28 ≡ false = le-ltb _ _ l in
    let err : checked_header x ≡ Err f = header_same c x is l ∙ e in
    rw (long, err) refl

pub cut_header : (h : Header) (c x : List ℕ) → c ≡ take 28 x → 28 ≤ length x → checked_header c ≡ Ok h
    → length x < h.file_hdr_sz → ends (outcome x) ≡ Err (Truncated (length x))
unfolding outcome body_at
cut_header h c x is l e short =
    let long : nat_lt (length x) 28 ≡ false = le-ltb _ _ l in
    let ok : checked_header x ≡ Ok h = header_same c x is l ∙ e in
    let cut : nat_lt (length x) h.file_hdr_sz ≡ true = lt-ltb _ _ short in
    rw (long, ok, cut) refl

pub past_header : (h : Header) (c x : List ℕ) → c ≡ take 28 x → 28 ≤ length x → checked_header c ≡ Ok h
    → h.file_hdr_sz ≤ length x → ends (outcome x) ≡ rest_ends h 0 0 h.file_hdr_sz x
unfolding outcome body_at
past_header h c x is l e le =
    let long : nat_lt (length x) 28 ≡ false = le-ltb _ _ l in
    let ok : checked_header x ≡ Ok h = header_same c x is l ∙ e in
    let whole : nat_lt (length x) h.file_hdr_sz ≡ false = le-ltb _ _ le in
    let z : h.total_chunks - 0 ≡ h.total_chunks = omega arith in
    rw (long, ok, whole, z) (ends_of h (chunks_at h (length x) 0 0 h.total_chunks (drop h.file_hdr_sz x)))

-- a header's own fault is one of 1 to 5
abbrev IsLow : SparseFault → Type 0
IsLow f = number_of f ≤ 10

low_err : (t : Bool) (f g : SparseFault) (r : Result Header SparseFault) → IsLow f → (r ≡ Err g → IsLow g)
    → cond t (Err f) r ≡ Err g → IsLow g
low_err true f g r own k e = let s : f ≡ g = cc in subst IsLow s own
low_err false f g r own k e = k e

ok_err : (h : Header) (f : SparseFault) (r : Result Header SparseFault) → r ≡ Ok h → r ≡ Err f → IsLow f
ok_err h f r a q = absurd cc

pub header_low : (x : List ℕ) (f : SparseFault) → checked_header x ≡ Err f → number_of f ≤ 10
unfolding checked_header
header_low x f e =
    let h = header_at x in
    let r5 : Result Header SparseFault =
    cond ((h.blk_sz == 0) || not (h.blk_sz % 4 == 0)) (Err (BlockSize h.blk_sz)) (Ok h) in
    let r4 : Result Header SparseFault = cond (nat_lt h.chunk_hdr_sz 12) (Err (ChunkHeaderSize h.chunk_hdr_sz)) r5 in
    let r3 : Result Header SparseFault = cond (nat_lt h.file_hdr_sz 28) (Err (FileHeaderSize h.file_hdr_sz)) r4 in
    let r2 : Result Header SparseFault = cond (not (number_at 4 2 x == 1)) (Err (Major (number_at 4 2 x))) r3 in
    low_err (not (number_at 0 4 x == 0xED26FF3A)) Magic f r2 (omega arith)
    (low_err (not (number_at 4 2 x == 1)) (Major (number_at 4 2 x)) f r3 (omega arith)
    (low_err (nat_lt h.file_hdr_sz 28) (FileHeaderSize h.file_hdr_sz) f r4 (omega arith)
    (low_err (nat_lt h.chunk_hdr_sz 12) (ChunkHeaderSize h.chunk_hdr_sz) f r5 (omega arith)
    (low_err ((h.blk_sz == 0) || not (h.blk_sz % 4 == 0)) (BlockSize h.blk_sz) f (Ok h) (omega arith)
    (λ q. ok_err h f (Ok h) refl q))))) e

-- ---- the chunks

chunks-behind : (h : Header) (c : Chunk) (r : ChunksRead) → chunks_end h (behind c r) ≡ chunks_end h r
chunks-behind h c (Done cs rest) = refl
chunks-behind h c (Failed f cs came) = refl

one_more : (h : Header) (i : ℕ) → i < h.total_chunks → h.total_chunks - i ≡ suc (h.total_chunks - (i + 1))
one_more h i lt = omega arith

bad_ends : (h : Header) (i have at : ℕ) (x : List ℕ) (f : SparseFault) (came : List ℕ) → i < h.total_chunks
    → chunk_at h (length x) i have (drop at x) ≡ Bad f came → rest_ends h i have at x ≡ Err f
bad_ends h i have at x f came lt e =
    rw (one_more h i lt, chunks-bad h (length x) i have (h.total_chunks - (i + 1)) (drop at x) f came e) refl

pub short_ends : (h : Header) (i have at : ℕ) (x : List ℕ) → i < h.total_chunks → length x - at < 12
    → rest_ends h i have at x ≡ Err (Truncated (length x))
unfolding chunk_at
short_ends h i have at x lt l = bad_ends h i have at x (Truncated (length x)) [] lt at_it where
  at_it : chunk_at h (length x) i have (drop at x) ≡ Bad (Truncated (length x)) []
  at_it = let t : nat_lt (length (drop at x)) 12 ≡ true = lt-ltb _ _ (omega (arith, length-drop at x)) in rw t refl

pub kind_ends : (h : Header) (i have at : ℕ) (c x : List ℕ) → i < h.total_chunks → at + 12 ≤ length x
    → c ≡ take 12 (drop at x) → kind_at (number_at 0 2 c) ≡ None
    → rest_ends h i have at x ≡ Err (ChunkType i (number_at 0 2 c))
unfolding chunk_at
kind_ends h i have at c x lt l is e = bad_ends h i have at x (ChunkType i (number_at 0 2 c)) [] lt at_it where
  at_it : chunk_at h (length x) i have (drop at x) ≡ Bad (ChunkType i (number_at 0 2 c)) []
  at_it =
      let long : 12 ≤ length (drop at x) = omega (arith, length-drop at x) in
      let t : nat_lt (length (drop at x)) 12 ≡ false = le-ltb _ _ long in
      let f : number_at 0 2 (drop at x) ≡ number_at 0 2 c = number_taken 0 2 12 c (drop at x) is long (omega arith) in
      let k : kind_at (number_at 0 2 (drop at x)) ≡ None = ap kind_at f ∙ e in
      rw (t, k) (ap (λ (m : ℕ). Bad (ChunkType i m) []) f)

-- what the twelve bytes say where the type is known
pub record Known (c : List ℕ) (k : ChunkKind) (n total : ℕ) : Type 0 where
  pub kind_is : kind_at (number_at 0 2 c) ≡ Some k
  pub blocks_is : number_at 4 4 c ≡ n
  pub total_is : number_at 8 4 c ≡ total

known_at : (h : Header) (size i have : ℕ) (c y : List ℕ) (k : ChunkKind) (n total : ℕ) → 12 ≤ length y → c ≡ take 12 y
    → Known c k n total → chunk_at h size i have y ≡ chunk_body h size i have y k
unfolding chunk_at
known_at h size i have c y k n total long is g =
    let t : nat_lt (length y) 12 ≡ false = le-ltb _ _ long in
    let kind : kind_at (number_at 0 2 y) ≡ Some k = ap kind_at (number_taken 0 2 12 c y is long (omega arith))
    ∙ g.kind_is in
    rw (t, kind) refl

pub length_ends : (h : Header) (i have at : ℕ) (c x : List ℕ) (k : ChunkKind) (n total : ℕ) → i < h.total_chunks
    → at + 12 ≤ length x → c ≡ take 12 (drop at x) → Known c k n total
    → (total ≡ h.chunk_hdr_sz + data_len h.blk_sz k n → ⊥) → rest_ends h i have at x ≡ Err (ChunkLength i)
length_ends h i have at c x k n total lt l is g ne =
    let long : 12 ≤ length (drop at x) = omega (arith, length-drop at x) in
    let blocks : number_at 4 4 (drop at x) ≡ n = number_taken 4 4 12 c (drop at x) is long (omega arith)
    ∙ g.blocks_is in
    let whole : number_at 8 4 (drop at x) ≡ total = number_taken 8 4 12 c (drop at x) is long (omega arith)
    ∙ g.total_is in
    let wrong : (total == h.chunk_hdr_sz + data_len h.blk_sz k n) ≡ false = ne_eqb _ _ ne in
    let it : chunk_body h (length x) i have (drop at x) k ≡ Bad (ChunkLength i) [] = rw (blocks, whole, wrong) refl in
    bad_ends h i have at x (ChunkLength i) [] lt (known_at h (length x) i have c (drop at x) k n total long is g ∙ it)

pub room_ends : (h : Header) (i have at : ℕ) (c x : List ℕ) (k : ChunkKind) (n total : ℕ) → i < h.total_chunks
    → at + 12 ≤ length x → c ≡ take 12 (drop at x) → Known c k n total
    → total ≡ h.chunk_hdr_sz + data_len h.blk_sz k n → h.total_blks < have + counted k n
    → rest_ends h i have at x ≡ Err (TooManyBlocks i)
room_ends h i have at c x k n total lt l is g right many =
    let long : 12 ≤ length (drop at x) = omega (arith, length-drop at x) in
    let blocks : number_at 4 4 (drop at x) ≡ n = number_taken 4 4 12 c (drop at x) is long (omega arith)
    ∙ g.blocks_is in
    let whole : number_at 8 4 (drop at x) ≡ total = number_taken 8 4 12 c (drop at x) is long (omega arith)
    ∙ g.total_is in
    let good : (total == h.chunk_hdr_sz + data_len h.blk_sz k n) ≡ true = eq-eqb _ _ right in
    let over : nat_lt h.total_blks (have + counted k n) ≡ true = lt-ltb _ _ many in
    let it : chunk_body h (length x) i have (drop at x) k ≡ Bad (TooManyBlocks i) [] =
    rw (blocks, whole, good, over) refl in
    bad_ends h i have at x (TooManyBlocks i) [] lt (known_at h (length x) i have c (drop at x) k n total long is g ∙ it)

pub cut_ends : (h : Header) (i have at : ℕ) (c x : List ℕ) (k : ChunkKind) (n total : ℕ) → i < h.total_chunks
    → at + 12 ≤ length x → c ≡ take 12 (drop at x) → Known c k n total
    → total ≡ h.chunk_hdr_sz + data_len h.blk_sz k n → have + counted k n ≤ h.total_blks → length x - at < total
    → rest_ends h i have at x ≡ Err (Truncated (length x))
cut_ends h i have at c x k n total lt l is g right few short =
    let long : 12 ≤ length (drop at x) = omega (arith, length-drop at x) in
    let blocks : number_at 4 4 (drop at x) ≡ n = number_taken 4 4 12 c (drop at x) is long (omega arith)
    ∙ g.blocks_is in
    let whole : number_at 8 4 (drop at x) ≡ total = number_taken 8 4 12 c (drop at x) is long (omega arith)
    ∙ g.total_is in
    let good : (total == h.chunk_hdr_sz + data_len h.blk_sz k n) ≡ true = eq-eqb _ _ right in
    let under : nat_lt h.total_blks (have + counted k n) ≡ false = le-ltb _ _ few in
    let cut : nat_lt (length (drop at x)) total ≡ true = lt-ltb _ _ (omega (arith, length-drop at x)) in
    let came = partial_of k (drop h.chunk_hdr_sz (drop at x)) in
    let it : chunk_body h (length x) i have (drop at x) k ≡ Bad (Truncated (length x)) came =
    rw (blocks, whole, good, under, cut) refl in
    bad_ends h i have at x (Truncated (length x)) came lt
    (known_at h (length x) i have c (drop at x) k n total long is g ∙ it)

-- a chunk that is whole
pub got_it : (h : Header) (size i have : ℕ) (c y : List ℕ) (k : ChunkKind) (n total : ℕ) → 12 ≤ length y → c ≡ take 12 y
    → Known c k n total
    → total ≡ h.chunk_hdr_sz + data_len h.blk_sz k n → have + counted k n ≤ h.total_blks → total ≤ length y
    → chunk_at h size i have y ≡ Got (chunk_from h.blk_sz k n (drop h.chunk_hdr_sz (take total y))) (counted k n)
    (drop total y)
got_it h size i have c y k n total long is g right few enough =
    let blocks : number_at 4 4 y ≡ n = number_taken 4 4 12 c y is long (omega arith) ∙ g.blocks_is in
    let whole : number_at 8 4 y ≡ total = number_taken 8 4 12 c y is long (omega arith) ∙ g.total_is in
    let good : (total == h.chunk_hdr_sz + data_len h.blk_sz k n) ≡ true = eq-eqb _ _ right in
    let under : nat_lt h.total_blks (have + counted k n) ≡ false = le-ltb _ _ few in
    let there : nat_lt (length y) total ≡ false = le-ltb _ _ enough in
    known_at h size i have c y k n total long is g ∙ (rw (blocks, whole, good, under, there) refl)

pub past_ends : (h : Header) (i have at : ℕ) (c x : List ℕ) (k : ChunkKind) (n total : ℕ) → i < h.total_chunks
    → at + 12 ≤ length x → c ≡ take 12 (drop at x) → Known c k n total
    → total ≡ h.chunk_hdr_sz + data_len h.blk_sz k n → have + counted k n ≤ h.total_blks → total ≤ length x - at
    → rest_ends h i have at x ≡ rest_ends h (i + 1) (have + counted k n) (at + total) x
past_ends h i have at c x k n total lt l is g right few enough =
    let long : 12 ≤ length (drop at x) = omega (arith, length-drop at x) in
    let got = got_it h (length x) i have c (drop at x) k n total long is g right few
    (omega (arith, length-drop at x)) in
    let ch = chunk_from h.blk_sz k n (drop h.chunk_hdr_sz (take total (drop at x))) in
    ap (λ (m : ℕ). chunks_end h (chunks_at h (length x) i have m (drop at x))) (one_more h i lt)
    ∙ ap (λ (r : ChunksRead). chunks_end h r)
    (chunks-got h (length x) i have (h.total_chunks - (i + 1)) (drop at x) ch (counted k n)
    (drop total (drop at x)) got)
    ∙ chunks-behind h ch (chunks_at h (length x) (i + 1) (have + counted k n) (h.total_chunks - (i + 1))
    (drop total (drop at x)))
    ∙ ap (λ (y : List ℕ). chunks_end h
    (chunks_at h (length x) (i + 1) (have + counted k n) (h.total_chunks - (i + 1)) y)) (drop-drop total at x)

pub done_ends : (h : Header) (i have at : ℕ) (x : List ℕ) → h.total_chunks ≤ i → have ≡ h.total_blks
    → rest_ends h i have at x ≡ Ok (h, length x - at)
unfolding chunks_at
done_ends h i have at x le e =
    let k : h.total_chunks - i ≡ 0 = omega arith in
    let t : (have == h.total_blks) ≡ true = eq-eqb _ _ e in
    rw (k, t) (ap (λ (n : ℕ). Ok (h, n)) (length-drop at x))

pub few_ends : (h : Header) (i have at : ℕ) (x : List ℕ) → h.total_chunks ≤ i → (have ≡ h.total_blks → ⊥)
    → rest_ends h i have at x ≡ Err (TooFewBlocks have)
unfolding chunks_at
few_ends h i have at x le e =
    let k : h.total_chunks - i ≡ 0 = omega arith in
    let t : (have == h.total_blks) ≡ false = ne_eqb _ _ e in
    rw (k, t) refl

-- ---- what an opening has seen, from one stage to the next

pub failed_is : (s : OpeningStage) (f : SparseFault) (h : Header) (long i have at : ℕ) (x : List ℕ)
    (v : Result (Header × ℕ) SparseFault) → s ≡ stages.Failed (Sparse f) → Err f ≡ v → Verdict s h long i have at x v
failed_is s f h long i have at x v e k = rw e k

-- a fault of the image's own bytes blames no device
format_caused : (e : RunFault) (b a : ℕ) (P : Type 0) → IsFormat e → CausedIn e b a P
format_caused (Sparse f) b a P h = h
format_caused (Read f) b a P h = absurd h
format_caused TooLarge b a P h = absurd h
format_caused SourceChanged b a P h = absurd h
format_caused (BadBlock n) b a P h = absurd h

pub own_caused : (r : Result OpeningProgress RunFault) (b a : ℕ) (P : Type 0) → IfErr r IsFormat
    → IfErr r (λ e. CausedIn e b a P)
own_caused (Ok x) b a P h = tt
own_caused (Err e) b a P h = format_caused e b a P h

pub load_caused : (e : RunFault) (models : Bool) (b a : ℕ) (S : Type 0) → RunCaused e models b a
    → CausedIn e b a (IsTrue models × S)
load_caused (Sparse f) models b a S h = absurd h
load_caused (Read f) models b a S h = h
load_caused TooLarge models b a S h = absurd h
load_caused SourceChanged models b a S h = λ p. absurd (let z : true ≡ false = sym p.0 ∙ h in cc)
load_caused (BadBlock n) models b a S h = absurd h

-- a fault that is returned is kept
pub failed_takes : {least : ℕ} {o o' : SparseOpening} (r : Result OpeningProgress RunFault) (f : RunFault) → r ≡ Err f
    → o'.stage ≡ stages.Failed f → IsFormat f → Takes least r o o'
failed_takes r f e stage own = rw e (record { leaves = stage; on = tt; own = own })

pub failed_advances : {models : Bool} {x : List ℕ} {g g' : ℕ} {o o' : SparseOpening}
    (r : Result OpeningProgress RunFault)
    (f : RunFault) → r ≡ Err f → o'.stage ≡ stages.Failed f
    → (IsTrue models → (v : Result (Header × ℕ) SparseFault) → ComesTo o x v → ComesTo o' x v)
    → Advances models x g g' r o o'
failed_advances r f e stage keeps = rw e (record {
  keeps = keeps;
  leaves = stage;
  fewer = λ more. absurd cc;
  charged = tt;
  some = λ more. absurd cc;
})

pub from_chunks : (s : OpeningStage) (h : Header) (long i have at : ℕ) (x : List ℕ)
    (v : Result (Header × ℕ) SparseFault) → s ≡ stages.Chunks → Verdict s h long i have at x v
    → (long ≡ length x) × (rest_ends h i have at x ≡ v)
from_chunks s h long i have at x v e k = rw e at k

pub from_header : (s : OpeningStage) (h : Header) (long i have at : ℕ) (x : List ℕ)
    (v : Result (Header × ℕ) SparseFault) → s ≡ stages.Header → Verdict s h long i have at x v → ends (outcome x) ≡ v
from_header s h long i have at x v e k = rw e at k

some_is : {a b : ChunkHeader} → Some a ≡ Some b → a ≡ b
some_is {a} {b} e = cc

pub known_is : (c : List ℕ) (k : ChunkHeader) → chunk_header_of c ≡ Some k → Known c k.kind k.blocks k.total
known_is c k e = step (kind_at (number_at 0 2 c)) refl
  where
    step : (o : Option ChunkKind) → kind_at (number_at 0 2 c) ≡ o → Known c k.kind k.blocks k.total
    step None o = absurd (let f : None ≡ Some k = ap (λ (p : Option ChunkKind). head_of_kind p c) (sym o) ∙ e in cc)
    step (Some j) o =
        let f : Some (record { kind = j; blocks = number_at 4 4 c; total = number_at 8 4 c }) ≡ Some k =
        ap (λ (p : Option ChunkKind). head_of_kind p c) (sym o) ∙ e in
        let g : record { kind = j; blocks = number_at 4 4 c; total = number_at 8 4 c } ≡ k = some_is f in
        record {
          kind_is = o ∙ ap (λ (r : ChunkHeader). Some r.kind) g;
          blocks_is = ap (λ (r : ChunkHeader). r.blocks) g;
          total_is = ap (λ (r : ChunkHeader). r.total) g;
        }

pub no_kind : (c : List ℕ) → chunk_header_of c ≡ None → kind_at (number_at 0 2 c) ≡ None
no_kind c e = step (kind_at (number_at 0 2 c)) refl
  where
    step : (o : Option ChunkKind) → kind_at (number_at 0 2 c) ≡ o → kind_at (number_at 0 2 c) ≡ None
    step None o = o
    step (Some j) o = absurd (let f : Some (record { kind = j; blocks = number_at 4 4 c; total = number_at 8 4 c })
        ≡ None = ap (λ (p : Option ChunkKind). head_of_kind p c) (sym o) ∙ e in cc)
