-- What is ahead, from one place to the next.
use Rattle.std.proofs.Common.{◌≡◌, ℕ, zero, suc, ◌+◌, ◌-◌, ◌*◌, ◌/◌, ◌%◌, ◌<◌, ◌≤◌, Bool, true, false, cond, List, []}
use Rattle.std.proofs.Common.{◌++◌, length, get_or, take, drop, map, replicate, Option, Some, None, Result, Ok, Err}
use Rattle.std.proofs.Common.{refl, sym, ap, subst, ◌∙◌, append_assoc, arith, inl, inr, length-drop, length-take}
use Rattle.std.proofs.Common.{length-append, drop-drop, take-append-drop, zero-mul, not, ◌==◌, ◌||◌, nat_lt, ltb-false}
use Rattle.std.proofs.Common.{ltb-true, le-ltb, lt-ltb, eq-eqb, ne_eqb, get_or-drop}
use Rattle.std.specs.List.{concat}
use Rattle.std.proofs.lemmas.Bool.{cases_Bool}
use Rattle.std.proofs.lemmas.List.{map-append, get_or_append_left, drop_all, take_at, drop_at, drop-take}
use Rattle.std.proofs.lemmas.List.{nil_from_length, replicate-append-replicate}
use Rattle.std.proofs.Math.Seq.{drop-append-add}
use Rattle.byteorder.specs.Endian.{little_from}
use Rattle.abt_sparse.specs.declared.fault.SparseFault.{SparseFault}
use Rattle.abt_sparse.specs.declared.fault.SparseFault.TheVariants.{Magic, Major, FileHeaderSize, ChunkHeaderSize}
use Rattle.abt_sparse.specs.declared.fault.SparseFault.TheVariants.{BlockSize, Truncated, TooFewBlocks, ChunkType}
use Rattle.abt_sparse.specs.declared.fault.SparseFault.TheVariants.{ChunkLength, TooManyBlocks}
use Rattle.abt_sparse.specs.declared.kind.ChunkKind.{ChunkKind}
use Rattle.abt_sparse.specs.declared.kind.ChunkKind.TheVariants as kinds
use Rattle.abt_sparse.specs.Block.{Raw, Fill, Skip, cells, split}
use Rattle.abt_sparse.specs.Chunk.{Header, Chunk, blocks_of, classed}
use Rattle.abt_sparse.specs.Reading.{number_at, header_at, checked_header, kind_at, data_len, counted, chunk_from}
use Rattle.abt_sparse.specs.Reading.{partial_of, Got, Bad, chunk_at, ChunksRead, Done, Failed, behind, chunks_at}
use Rattle.abt_sparse.specs.Reading.{body_at, outcome_of, outcome}
use Rattle.abt_io.proofs.Words.{take_past, words_add}
use Rattle.abt_sparse.proofs.Lay.{cells-append, cells-skips}
use Rattle.abt_sparse.proofs.Exactly.{chunks-got, chunks-bad}
use Rattle.abt_chunks.specs.Cause.{IsOwn}
use Rattle.abt_chunks.specs.Turns.{SpentBy}
use Rattle.abt_chunks.specs.Ahead.{Ahead, stopping, before, somes, fills, gaps, seen_chunks, seen, chunks_ahead}
use Rattle.abt_chunks.specs.Ahead.{body_ahead, walk, raw_announced, due_of, words_announced, left_of}

-- ---- lists

pub drop_past : {A : Type 0} (c t : List A) (n e : ℕ) → length c ≡ n → n ≤ e → drop e (c ++ t) ≡ drop (e - n) t
drop_past c t n e l le = ap (λ (j : ℕ). drop j (c ++ t)) (let j : e ≡ length c + (e - n) = omega arith in j)
    ∙ drop-append-add c t (e - n)

-- a test on a length, after n bytes
pub shorter : (c t : List ℕ) (n e : ℕ) → length c ≡ n → n ≤ e → nat_lt (length (c ++ t)) e ≡ nat_lt (length t) (e - n)
shorter c t n e l le = elim (cases_Bool (nat_lt (length t) (e - n))) [
  | inl s ↦ let lt = ltb-true _ _ s in lt-ltb _ _ (omega (arith, length-append c t)) ∙ sym s
  | inr s ↦ let ge = ltb-false _ _ s in le-ltb _ _ (omega (arith, length-append c t)) ∙ sym s
]

pub before-append : (a b : List (Option ℕ)) (x : Ahead) → before (a ++ b) x ≡ before a (before b x)
before-append a b x = ap (λ (cs : List (Option ℕ)). let r : Ahead = record { cells = cs; ending = x.ending } in
    r) (append_assoc a b x.cells)

-- ---- through a chunk

-- after some of the header's extra bytes
pub past_extra : (k : ChunkKind) (due : Bool) (h : Header) (i have extra raw words : ℕ) (word : List ℕ) (size : ℕ)
    (c t : List ℕ) (n : ℕ) → length c ≡ n → n ≤ extra
    → walk k due h i have extra raw words word size (c ++ t) ≡ walk k due h i have (extra - n) raw words word size t
unfolding walk
past_extra k due h i have extra raw words word size c t n l le =
    rw (shorter c t n extra l le, drop_past c t n extra l le) refl

pub no_extra : (k : ChunkKind) (due : Bool) (h : Header) (i have raw words : ℕ) (word : List ℕ) (size : ℕ)
    (y : List ℕ) → walk k due h i have 0 raw words word size y ≡ body_ahead k due h i have raw words word size y
unfolding walk
no_extra k due h i have raw words word size y = let t : nat_lt (length y) 0 ≡ false = le-ltb _ _ (omega arith) in
    rw t refl

-- after some raw bytes
past_raw_body : (due : Bool) (h : Header) (i have raw words : ℕ) (word : List ℕ) (size : ℕ) (c t : List ℕ) (n : ℕ)
    → length c ≡ n → n ≤ raw
    → body_ahead kinds.Raw due h i have raw words word size (c ++ t) ≡ before (somes c)
    (body_ahead kinds.Raw due h i have (raw - n) words word size t)
unfolding body_ahead
past_raw_body due h i have raw words word size c t n l le = elim (cases_Bool (nat_lt (length t) (raw - n))) [
  | inl s ↦ rw (shorter c t n raw l le, s, map-append (λ (x : ℕ). Some x) c t) refl
  | inr s ↦ rw (
    shorter c t n raw l le,
    s,
    take_past c t n raw l le,
    drop_past c t n raw l le,
    map-append (λ (x : ℕ). Some x) c (take (raw - n) t),
  ) (before-append (somes c) (somes (take (raw - n) t)) _)
]

pub past_raw : (due : Bool) (h : Header) (i have raw words : ℕ) (word : List ℕ) (size : ℕ) (c t : List ℕ) (n : ℕ)
    → length c ≡ n → n ≤ raw
    → walk kinds.Raw due h i have 0 raw words word size (c ++ t) ≡ before (somes c)
    (walk kinds.Raw due h i have 0 (raw - n) words word size t)
past_raw due h i have raw words word size c t n l le =
    no_extra kinds.Raw due h i have raw words word size (c ++ t)
    ∙ past_raw_body due h i have raw words word size c t n l le
    ∙ ap (λ (a : Ahead). before (somes c) a) (sym (no_extra kinds.Raw due h i have (raw - n) words word size t))

-- after the word
past_word_body : (k : ChunkKind) (h : Header) (i have raw words : ℕ) (word : List ℕ) (size : ℕ) (c t : List ℕ)
    → length c ≡ 4 → due_of k ≡ true
    → body_ahead k true h i have raw words word size (c ++ t) ≡ body_ahead k false h i have raw words c size t
unfolding body_ahead
past_word_body kinds.Raw h i have raw words word size c t l d = absurd cc
past_word_body kinds.Fill h i have raw words word size c t l d =
    let s : nat_lt (length (c ++ t)) 4 ≡ false = le-ltb _ _ (omega (arith, length-append c t)) in
    rw (s, take_at c t 4 l, drop_at c t 4 l) refl
past_word_body kinds.Skip h i have raw words word size c t l d = absurd cc
past_word_body kinds.Crc h i have raw words word size c t l d =
    let s : nat_lt (length (c ++ t)) 4 ≡ false = le-ltb _ _ (omega (arith, length-append c t)) in
    rw (s, drop_at c t 4 l) refl

pub past_word : (k : ChunkKind) (h : Header) (i have raw words : ℕ) (word : List ℕ) (size : ℕ) (c t : List ℕ)
    → length c ≡ 4 → due_of k ≡ true
    → walk k true h i have 0 raw words word size (c ++ t) ≡ walk k false h i have 0 raw words c size t
past_word k h i have raw words word size c t l d =
    no_extra k true h i have raw words word size (c ++ t) ∙ past_word_body k h i have raw words word size c t l d
    ∙ sym (no_extra k false h i have raw words c size t)

-- after some of the words of a fill, and of a gap
pub past_fill : (h : Header) (i have raw words : ℕ) (word : List ℕ) (size : ℕ) (y : List ℕ) (n : ℕ) → n ≤ words
    → walk kinds.Fill false h i have 0 raw words word size y ≡ before (fills n word)
    (walk kinds.Fill false h i have 0 raw (words - n) word size y)
unfolding body_ahead
past_fill h i have raw words word size y n le =
    let e : words ≡ n + (words - n) = omega arith in
    let f : fills words word ≡ fills n word ++ fills (words - n) word = ap (λ (j : ℕ). fills j word) e
    ∙ ap somes (words_add n (words - n) word) ∙ map-append (λ (x : ℕ). Some x) (concat (replicate n word))
    (concat (replicate (words - n) word)) in
    no_extra kinds.Fill false h i have raw words word size y
    ∙ ap (λ (cs : List (Option ℕ)). before cs (chunks_ahead h size i have y)) f
    ∙ before-append (fills n word) (fills (words - n) word) (chunks_ahead h size i have y)
    ∙ ap (λ (a : Ahead). before (fills n word) a) (sym (no_extra kinds.Fill false h i have raw (words - n) word size y))

pub past_skip : (due : Bool) (h : Header) (i have raw words : ℕ) (word : List ℕ) (size : ℕ) (y : List ℕ) (n : ℕ)
    → n ≤ words
    → walk kinds.Skip due h i have 0 raw words word size y ≡ before (gaps n)
    (walk kinds.Skip due h i have 0 raw (words - n) word size y)
unfolding body_ahead
past_skip due h i have raw words word size y n le =
    let e : 4 * words ≡ 4 * n + 4 * (words - n) = omega arith in
    let f : gaps words ≡ gaps n ++ gaps (words - n) = ap (λ (j : ℕ). replicate j None) e
    ∙ sym (replicate-append-replicate (4 * n) (4 * (words - n)) None) in
    no_extra kinds.Skip due h i have raw words word size y
    ∙ ap (λ (cs : List (Option ℕ)). before cs (chunks_ahead h size i have y)) f
    ∙ before-append (gaps n) (gaps (words - n)) (chunks_ahead h size i have y)
    ∙ ap (λ (a : Ahead). before (gaps n) a) (sym (no_extra kinds.Skip due h i have raw (words - n) word size y))

-- at the end of a chunk
spent_body : (k : ChunkKind) (due : Bool) (h : Header) (i have raw words : ℕ) (word : List ℕ) (size : ℕ) (y : List ℕ)
    → SpentBy k due raw words
    → body_ahead k due h i have raw words word size y ≡ chunks_ahead h size i have y
unfolding body_ahead
spent_body kinds.Raw due h i have raw words word size y e = let t : nat_lt (length y) 0 ≡ false =
    le-ltb _ _ (omega arith) in rw (e, t) refl
spent_body kinds.Fill due h i have raw words word size y e = rw (e.0, e.1) refl
spent_body kinds.Skip due h i have raw words word size y e = rw e refl
spent_body kinds.Crc due h i have raw words word size y e = rw e refl

pub spent : (k : ChunkKind) (due : Bool) (h : Header) (i have raw words : ℕ) (word : List ℕ) (size : ℕ) (y : List ℕ)
    → SpentBy k due raw words
    → walk k due h i have 0 raw words word size y ≡ chunks_ahead h size i have y
spent k due h i have raw words word size y e = no_extra k due h i have raw words word size y
    ∙ spent_body k due h i have raw words word size y e

-- ---- from chunk to chunk

seen-behind : (h : Header) (c : Chunk) (r : ChunksRead)
    → seen_chunks h (behind c r) ≡ before (cells h.blk_sz (blocks_of c)) (seen_chunks h r)
seen-behind h c (Done cs rest) =
    ap (λ (l : List (Option ℕ)). let r : Ahead = record { cells = l; ending = Ok (h, rest) } in
    r) (cells-append h.blk_sz (blocks_of c) (classed cs))
seen-behind h c (Failed f cs came) =
    ap (λ (l : List (Option ℕ)). let r : Ahead = record { cells = l; ending = Err f } in r)
    (ap (λ (l : List (Option ℕ)). l ++ somes came) (cells-append h.blk_sz (blocks_of c) (classed cs))
    ∙ append_assoc (cells h.blk_sz (blocks_of c)) (cells h.blk_sz (classed cs)) (somes came))

pub ahead_got : (h : Header) (size i have : ℕ) (y : List ℕ) (c : Chunk) (n : ℕ) (rest : List ℕ) → i < h.total_chunks
    → chunk_at h size i have y ≡ Got c n rest
    → chunks_ahead h size i have y ≡ before (cells h.blk_sz (blocks_of c)) (chunks_ahead h size (i + 1) (have + n) rest)
unfolding chunks_ahead
ahead_got h size i have y c n rest lt e =
    let k : h.total_chunks - i ≡ suc (h.total_chunks - (i + 1)) = omega arith in
    rw (k, chunks-got h size i have (h.total_chunks - (i + 1)) y c n rest e) (seen-behind h c _)

pub ahead_bad : (h : Header) (size i have : ℕ) (y : List ℕ) (f : SparseFault) (came : List ℕ) → i < h.total_chunks
    → chunk_at h size i have y ≡ Bad f came
    → chunks_ahead h size i have y ≡ record { cells = somes came; ending = Err f }
unfolding chunks_ahead
ahead_bad h size i have y f came lt e =
    let k : h.total_chunks - i ≡ suc (h.total_chunks - (i + 1)) = omega arith in
    rw (k, chunks-bad h size i have (h.total_chunks - (i + 1)) y f came e) refl

pub ahead_done : (h : Header) (size i have : ℕ) (y : List ℕ) → h.total_chunks ≤ i → have ≡ h.total_blks
    → chunks_ahead h size i have y ≡ record { cells = []; ending = Ok (h, y) }
unfolding chunks_ahead chunks_at
ahead_done h size i have y le e =
    let k : h.total_chunks - i ≡ 0 = omega arith in
    let t : (have == h.total_blks) ≡ true = eq-eqb _ _ e in
    rw (k, t) refl

pub ahead_few : (h : Header) (size i have : ℕ) (y : List ℕ) → h.total_chunks ≤ i → (have ≡ h.total_blks → ⊥)
    → chunks_ahead h size i have y ≡ stopping (TooFewBlocks have)
unfolding chunks_ahead chunks_at
ahead_few h size i have y le e =
    let k : h.total_chunks - i ≡ 0 = omega arith in
    let t : (have == h.total_blks) ≡ false = ne_eqb _ _ e in
    rw (k, t) refl

-- ---- fields that lie in front

little-front : (c t : List ℕ) (p i n : ℕ) → p + (i + n) ≤ length c
    → little_from i n (drop p (c ++ t)) ≡ little_from i n (drop p c)
little-front c t p i zero le = refl
little-front c t p i (suc n) le =
    let a : get_or (drop p (c ++ t)) i 0 ≡ get_or (drop p c) i 0 = get_or-drop p (c ++ t) i 0
    ∙ get_or_append_left c t 0 (p + i) (omega arith) ∙ sym (get_or-drop p c i 0) in
    ap (λ (m : ℕ). m + 256 * little_from (suc i) n (drop p (c ++ t))) a
    ∙ ap (λ (m : ℕ). get_or (drop p c) i 0 + 256 * m) (little-front c t p (suc i) n (omega arith))

pub number-front : (p n : ℕ) (c t : List ℕ) → p + n ≤ length c → number_at p n (c ++ t) ≡ number_at p n c
number-front p n c t le = little-front c t p 0 n (omega arith)

-- ---- a chunk's header

raw_cells : (b n : ℕ) (d : List ℕ) → length d ≡ n * b → cells b (map (λ x. Raw x) (split b n d)) ≡ somes d
raw_cells b zero d l = rw (nil_from_length d (omega arith)) refl
raw_cells b (suc n) d l =
    ap (λ (r : List (Option ℕ)). somes (take b d) ++ r) (raw_cells b n (drop b d) (omega (arith, length-drop b d)))
    ∙ sym (map-append (λ (x : ℕ). Some x) (take b d) (drop b d)) ∙ ap somes (take-append-drop b d)

fill_cells : (b n : ℕ) (w : List ℕ) → cells b (replicate n (Fill w)) ≡ fills (n * (b / 4)) w
fill_cells b zero w = rw zero-mul refl
fill_cells b (suc n) w =
    ap (λ (r : List (Option ℕ)). fills (b / 4) w ++ r) (fill_cells b n w)
    ∙ sym (map-append (λ (x : ℕ). Some x) (concat (replicate (b / 4) w)) (concat (replicate (n * (b / 4)) w)))
    ∙ ap somes (sym (words_add (b / 4) (n * (b / 4)) w)) ∙ ap (λ (j : ℕ). fills j w) (omega arith)

skip_cells : (b n : ℕ) → b % 4 ≡ 0 → cells b (replicate n Skip) ≡ gaps (n * (b / 4))
skip_cells b n four = cells-skips b n ∙ ap (λ (j : ℕ). replicate j None) (words_long b n four) where
  words_long : (b n : ℕ) → b % 4 ≡ 0 → n * b ≡ 4 * (n * (b / 4))
  words_long b n four = let e : b ≡ 4 * (b / 4) = omega arith in ap (λ (j : ℕ). n * j) e ∙ omega arith

-- what the chunk gives, by its kind
made_cells : (h : Header) → h.blk_sz % 4 ≡ 0 → (k : ChunkKind) (n : ℕ) (d : List ℕ) → length d ≡ data_len h.blk_sz k n
    → (size i have : ℕ) (word rest : List ℕ)
    → before (cells h.blk_sz (blocks_of (chunk_from h.blk_sz k n d))) (chunks_ahead h size i have rest)
    ≡ body_ahead k (due_of k) h i have (raw_announced k n h.blk_sz) (words_announced k n h.blk_sz) word size (d ++ rest)
unfolding body_ahead
made_cells h four kinds.Raw n d l size i have word rest =
    let s : nat_lt (length (d ++ rest)) (n * h.blk_sz) ≡ false = le-ltb _ _ (omega (arith, length-append d rest)) in
    rw (s, take_at d rest (n * h.blk_sz) l, drop_at d rest (n * h.blk_sz) l, raw_cells h.blk_sz n d l) refl
made_cells h four kinds.Fill n d l size i have word rest =
    let s : nat_lt (length (d ++ rest)) 4 ≡ false = le-ltb _ _ (omega (arith, length-append d rest)) in
    rw (s, take_at d rest 4 l, drop_at d rest 4 l)
    (ap (λ (cs : List (Option ℕ)). before cs (chunks_ahead h size i have rest)) (fill_cells h.blk_sz n d))
made_cells h four kinds.Skip n d l size i have word rest =
    let e : d ≡ [] = nil_from_length d l in
    rw e (ap (λ (cs : List (Option ℕ)). before cs (chunks_ahead h size i have rest)) (skip_cells h.blk_sz n four))
made_cells h four kinds.Crc n d l size i have word rest =
    let s : nat_lt (length (d ++ rest)) 4 ≡ false = le-ltb _ _ (omega (arith, length-append d rest)) in
    rw (s, drop_at d rest 4 l) refl

-- and where its data is cut off
cut_cells : (h : Header) (k : ChunkKind) (n : ℕ) (y : List ℕ) → length y < data_len h.blk_sz k n
    → (size i have : ℕ) (word : List ℕ)
    → body_ahead k (due_of k) h i have (raw_announced k n h.blk_sz) (words_announced k n h.blk_sz) word size y
    ≡ record { cells = somes (partial_of k y); ending = Err (Truncated size) }
unfolding body_ahead
cut_cells h kinds.Raw n y l size i have word = let s : nat_lt (length y) (n * h.blk_sz) ≡ true = lt-ltb _ _ l in
    rw s refl
cut_cells h kinds.Fill n y l size i have word = let s : nat_lt (length y) 4 ≡ true = lt-ltb _ _ l in rw s refl
cut_cells h kinds.Skip n y l size i have word = absurd (omega arith)
cut_cells h kinds.Crc n y l size i have word = let s : nat_lt (length y) 4 ≡ true = lt-ltb _ _ l in rw s refl

partial_nil : (k : ChunkKind) → partial_of k [] ≡ []
partial_nil kinds.Raw = refl
partial_nil kinds.Fill = refl
partial_nil kinds.Skip = refl
partial_nil kinds.Crc = refl

-- twelve bytes that are a good header
pub record GoodHead (h : Header) (have : ℕ) (c : List ℕ) (k : ChunkKind) (n total : ℕ) : Type 0 where
  pub long : length c ≡ 12
  pub kind_is : kind_at (number_at 0 2 c) ≡ Some k
  pub blocks_is : number_at 4 4 c ≡ n
  pub total_is : number_at 8 4 c ≡ total
  pub total_right : total ≡ h.chunk_hdr_sz + data_len h.blk_sz k n
  pub room : have + counted k n ≤ h.total_blks

pub good_at : (h : Header) (size i have : ℕ) (c t : List ℕ) (k : ChunkKind) (n total : ℕ)
    → GoodHead h have c k n total → (b : Bool) → nat_lt (length (c ++ t)) total ≡ b
    → chunk_at h size i have (c ++ t)
    ≡ cond b (Bad (Truncated size) (partial_of k (drop h.chunk_hdr_sz (c ++ t))))
    (Got (chunk_from h.blk_sz k n (drop h.chunk_hdr_sz (take total (c ++ t)))) (counted k n) (drop total (c ++ t)))
unfolding chunk_at
good_at h size i have c t k n total g b e =
    let long : nat_lt (length (c ++ t)) 12 ≡ false = le-ltb _ _ (omega (arith, length-append c t, g.long)) in
    let kind_is : kind_at (number_at 0 2 (c ++ t)) ≡ Some k =
    ap kind_at (number-front 0 2 c t (omega (arith, g.long))) ∙ g.kind_is in
    let blocks_is : number_at 4 4 (c ++ t) ≡ n = number-front 4 4 c t (omega (arith, g.long)) ∙ g.blocks_is in
    let total_is : number_at 8 4 (c ++ t) ≡ total = number-front 8 4 c t (omega (arith, g.long)) ∙ g.total_is in
    let right : (total == h.chunk_hdr_sz + data_len h.blk_sz k n) ≡ true = eq-eqb _ _ g.total_right in
    let room : nat_lt h.total_blks (have + counted k n) ≡ false = le-ltb _ _ g.room in
    rw (long, kind_is, blocks_is, total_is, right, room, e) refl

-- after a good header
pub past_head : (h : Header) (size i have : ℕ) (word c t : List ℕ) (k : ChunkKind) (n total : ℕ) → h.blk_sz % 4 ≡ 0
    → 12 ≤ h.chunk_hdr_sz → i < h.total_chunks → GoodHead h have c k n total
    → chunks_ahead h size i have (c ++ t) ≡ walk k (due_of k) h (i + 1) (have + counted k n) (h.chunk_hdr_sz - 12)
    (raw_announced k n h.blk_sz) (words_announced k n h.blk_sz) word size t
unfolding walk
past_head h size i have word c t k n total four hdr lt g =
    let y1 = drop (h.chunk_hdr_sz - 12) t in
    let y1_is : drop h.chunk_hdr_sz (c ++ t) ≡ y1 = drop_past c t 12 h.chunk_hdr_sz g.long hdr in
    let y1_long : length y1 ≡ length t - (h.chunk_hdr_sz - 12) = length-drop (h.chunk_hdr_sz - 12) t in
    let all_long = length-append c t in
    elim (cases_Bool (nat_lt (length (c ++ t)) total)) [
      | inl s ↦
          let short = ltb-true _ _ s in
          let bad : chunk_at h size i have (c ++ t) ≡ Bad (Truncated size) (partial_of k y1) =
          good_at h size i have c t k n total g true s ∙ rw y1_is refl in
          ahead_bad h size i have (c ++ t) (Truncated size) (partial_of k y1) lt bad
          ∙ elim (cases_Bool (nat_lt (length t) (h.chunk_hdr_sz - 12))) [
            | inl u ↦ let e : y1 ≡ [] = drop_all (h.chunk_hdr_sz - 12) t (let q = ltb-true _ _ u in omega arith) in
                rw (u, e, partial_nil k) refl
            | inr u ↦ rw u (sym (cut_cells h k n y1 (let q = ltb-false _ _ u in
                omega (arith, g.total_right, g.long)) size (i + 1) (have + counted k n) word))
          ]
      | inr s ↦
          let long = ltb-false _ _ s in
          let d = take (data_len h.blk_sz k n) y1 in
          let rest = drop (data_len h.blk_sz k n) y1 in
          let d_is : drop h.chunk_hdr_sz (take total (c ++ t)) ≡ d =
          ap (λ (j : ℕ). drop h.chunk_hdr_sz (take j (c ++ t))) g.total_right
          ∙ drop-take h.chunk_hdr_sz (data_len h.blk_sz k n) (c ++ t)
          ∙ ap (λ (l : List ℕ). take (data_len h.blk_sz k n) l) y1_is in
          let rest_is : drop total (c ++ t) ≡ rest = ap (λ (j : ℕ). drop j (c ++ t)) g.total_right
          ∙ sym (drop-drop (data_len h.blk_sz k n) h.chunk_hdr_sz (c ++ t))
          ∙ ap (λ (l : List ℕ). drop (data_len h.blk_sz k n) l) y1_is in
          let got : chunk_at h size i have (c ++ t) ≡ Got (chunk_from h.blk_sz k n d) (counted k n) rest =
          good_at h size i have c t k n total g false s ∙ rw (d_is, rest_is) refl in
          let d_long : length d ≡ data_len h.blk_sz k n =
          omega (arith, length-take (data_len h.blk_sz k n) y1, y1_long, g.total_right, g.long) in
          let u : nat_lt (length t) (h.chunk_hdr_sz - 12) ≡ false = le-ltb _ _ (omega (arith, g.total_right, g.long)) in
          ahead_got h size i have (c ++ t) (chunk_from h.blk_sz k n d) (counted k n) rest lt got
          ∙ made_cells h four k n d d_long size (i + 1) (have + counted k n) word rest
          ∙ rw (u, take-append-drop (data_len h.blk_sz k n) y1) refl
    ]

-- a header that isn't good
pub bad_kind_at : (h : Header) (size i have : ℕ) (c t : List ℕ) → i < h.total_chunks → length c ≡ 12
    → kind_at (number_at 0 2 c) ≡ None → chunk_at h size i have (c ++ t) ≡ Bad (ChunkType i (number_at 0 2 c)) []
unfolding chunk_at
bad_kind_at h size i have c t lt l e =
    let long : nat_lt (length (c ++ t)) 12 ≡ false = le-ltb _ _ (omega (arith, length-append c t, l)) in
    let f : number_at 0 2 (c ++ t) ≡ number_at 0 2 c = number-front 0 2 c t (omega (arith, l)) in
    let k : kind_at (number_at 0 2 (c ++ t)) ≡ None = ap kind_at f ∙ e in
    rw (long, k) (ap (λ (m : ℕ). Bad (ChunkType i m) []) f)

pub bad_kind : (h : Header) (size i have : ℕ) (c t : List ℕ) → i < h.total_chunks → length c ≡ 12
    → kind_at (number_at 0 2 c) ≡ None
    → chunks_ahead h size i have (c ++ t) ≡ stopping (ChunkType i (number_at 0 2 c))
bad_kind h size i have c t lt l e = ahead_bad h size i have (c ++ t) _ [] lt (bad_kind_at h size i have c t lt l e)

pub bad_length_at : (h : Header) (size i have : ℕ) (c t : List ℕ) (k : ChunkKind) → i < h.total_chunks → length c ≡ 12
    → kind_at (number_at 0 2 c) ≡ Some k
    → (number_at 8 4 c ≡ h.chunk_hdr_sz + data_len h.blk_sz k (number_at 4 4 c) → ⊥)
    → chunk_at h size i have (c ++ t) ≡ Bad (ChunkLength i) []
unfolding chunk_at
bad_length_at h size i have c t k lt l e ne =
    let long : nat_lt (length (c ++ t)) 12 ≡ false = le-ltb _ _ (omega (arith, length-append c t, l)) in
    let kind_is : kind_at (number_at 0 2 (c ++ t)) ≡ Some k = ap kind_at (number-front 0 2 c t (omega (arith, l)))
    ∙ e in
    let f4 = number-front 4 4 c t (omega (arith, l)) in
    let f8 = number-front 8 4 c t (omega (arith, l)) in
    let wrong : (number_at 8 4 c == h.chunk_hdr_sz + data_len h.blk_sz k (number_at 4 4 c)) ≡ false = ne_eqb _ _ ne in
    rw (long, kind_is, f4, f8, wrong) refl

pub bad_length : (h : Header) (size i have : ℕ) (c t : List ℕ) (k : ChunkKind) → i < h.total_chunks → length c ≡ 12
    → kind_at (number_at 0 2 c) ≡ Some k
    → (number_at 8 4 c ≡ h.chunk_hdr_sz + data_len h.blk_sz k (number_at 4 4 c) → ⊥)
    → chunks_ahead h size i have (c ++ t) ≡ stopping (ChunkLength i)
bad_length h size i have c t k lt l e ne =
    ahead_bad h size i have (c ++ t) _ [] lt (bad_length_at h size i have c t k lt l e ne)

pub bad_room_at : (h : Header) (size i have : ℕ) (c t : List ℕ) (k : ChunkKind) → i < h.total_chunks → length c ≡ 12
    → kind_at (number_at 0 2 c) ≡ Some k
    → number_at 8 4 c ≡ h.chunk_hdr_sz + data_len h.blk_sz k (number_at 4 4 c)
    → h.total_blks < have + counted k (number_at 4 4 c) → chunk_at h size i have (c ++ t) ≡ Bad (TooManyBlocks i) []
unfolding chunk_at
bad_room_at h size i have c t k lt l e right many =
    let long : nat_lt (length (c ++ t)) 12 ≡ false = le-ltb _ _ (omega (arith, length-append c t, l)) in
    let kind_is : kind_at (number_at 0 2 (c ++ t)) ≡ Some k = ap kind_at (number-front 0 2 c t (omega (arith, l)))
    ∙ e in
    let f4 = number-front 4 4 c t (omega (arith, l)) in
    let f8 = number-front 8 4 c t (omega (arith, l)) in
    let good : (number_at 8 4 c == h.chunk_hdr_sz + data_len h.blk_sz k (number_at 4 4 c)) ≡ true = eq-eqb _ _ right in
    let over : nat_lt h.total_blks (have + counted k (number_at 4 4 c)) ≡ true = lt-ltb _ _ many in
    rw (long, kind_is, f4, f8, good, over) refl

pub bad_room : (h : Header) (size i have : ℕ) (c t : List ℕ) (k : ChunkKind) → i < h.total_chunks → length c ≡ 12
    → kind_at (number_at 0 2 c) ≡ Some k
    → number_at 8 4 c ≡ h.chunk_hdr_sz + data_len h.blk_sz k (number_at 4 4 c)
    → h.total_blks < have + counted k (number_at 4 4 c)
    → chunks_ahead h size i have (c ++ t) ≡ stopping (TooManyBlocks i)
bad_room h size i have c t k lt l e right many =
    ahead_bad h size i have (c ++ t) _ [] lt (bad_room_at h size i have c t k lt l e right many)

-- ---- the input ends

pub short_head_at : (h : Header) (size i have : ℕ) (c : List ℕ) → i < h.total_chunks → length c < 12
    → chunk_at h size i have c ≡ Bad (Truncated size) []
unfolding chunk_at
short_head_at h size i have c lt l = let t : nat_lt (length c) 12 ≡ true = lt-ltb _ _ l in rw t refl

pub short_head : (h : Header) (size i have : ℕ) (c : List ℕ) → i < h.total_chunks → length c < 12
    → chunks_ahead h size i have c ≡ stopping (Truncated size)
short_head h size i have c lt l = ahead_bad h size i have c _ [] lt (short_head_at h size i have c lt l)

pub short_extra : (k : ChunkKind) (due : Bool) (h : Header) (i have extra raw words : ℕ) (word : List ℕ) (size : ℕ)
    (c : List ℕ) → length c < extra
    → walk k due h i have extra raw words word size c ≡ stopping (Truncated size)
unfolding walk
short_extra k due h i have extra raw words word size c l = let t : nat_lt (length c) extra ≡ true = lt-ltb _ _ l in
    rw t refl

pub short_raw : (due : Bool) (h : Header) (i have raw words : ℕ) (word : List ℕ) (size : ℕ) → 0 < raw
    → walk kinds.Raw due h i have 0 raw words word size [] ≡ stopping (Truncated size)
unfolding body_ahead
short_raw due h i have raw words word size l = let t : nat_lt 0 raw ≡ true = lt-ltb _ _ l in
    no_extra kinds.Raw due h i have raw words word size [] ∙ rw t refl

pub short_word : (k : ChunkKind) (h : Header) (i have raw words : ℕ) (word : List ℕ) (size : ℕ) (c : List ℕ)
    → length c < 4 → due_of k ≡ true
    → walk k true h i have 0 raw words word size c ≡ stopping (Truncated size)
unfolding body_ahead
short_word k h i have raw words word size c l d = no_extra k true h i have raw words word size c ∙ at_it k d where
  at_it : (k : ChunkKind) → due_of k ≡ true
      → body_ahead k true h i have raw words word size c ≡ stopping (Truncated size)
  at_it kinds.Raw d = absurd cc
  at_it kinds.Fill d = let t : nat_lt (length c) 4 ≡ true = lt-ltb _ _ l in rw t refl
  at_it kinds.Skip d = absurd cc
  at_it kinds.Crc d = let t : nat_lt (length c) 4 ≡ true = lt-ltb _ _ l in rw t refl

-- ---- the first header

pub header-front : (c t : List ℕ) → 28 ≤ length c → checked_header (c ++ t) ≡ checked_header c
unfolding checked_header header_at
header-front c t l =
    rw (
      number-front 0 4 c t (omega arith),
      number-front 4 2 c t (omega arith),
      number-front 6 2 c t (omega arith),
      number-front 8 2 c t (omega arith),
      number-front 10 2 c t (omega arith),
      number-front 12 4 c t (omega arith),
      number-front 16 4 c t (omega arith),
      number-front 20 4 c t (omega arith),
      number-front 24 4 c t (omega arith),
    ) refl

seen-of : (h : Header) (r : ChunksRead) → seen (outcome_of h r) ≡ seen_chunks h r
seen-of h (Done cs rest) = refl
seen-of h (Failed f cs came) = refl

pub past_header : (h : Header) (word c t : List ℕ) → length c ≡ 28 → checked_header c ≡ Ok h → 28 ≤ h.file_hdr_sz
    → seen (outcome (c ++ t)) ≡ walk kinds.Skip false h 0 0 (h.file_hdr_sz - 28) 0 0 word (28 + length t) t
unfolding outcome body_at walk body_ahead chunks_ahead
past_header h word c t l e le =
    let long : nat_lt (length (c ++ t)) 28 ≡ false = le-ltb _ _ (omega (arith, length-append c t)) in
    let ok : checked_header (c ++ t) ≡ Ok h = header-front c t (omega arith) ∙ e in
    let size : length (c ++ t) ≡ 28 + length t = omega (arith, length-append c t) in
    rw (
      long,
      ok,
      seen-of h (body_at h (c ++ t)),
      shorter c t 28 h.file_hdr_sz l le,
      drop_past c t 28 h.file_hdr_sz l le,
      size,
    ) (elim (cases_Bool (nat_lt (length t) (h.file_hdr_sz - 28))) [
      | inl s ↦ rw s refl
      | inr s ↦ let z : h.total_chunks - 0 ≡ h.total_chunks = omega arith in rw (s, z) refl
    ])

pub bad_header : (f : SparseFault) (c t : List ℕ) → length c ≡ 28 → checked_header c ≡ Err f
    → seen (outcome (c ++ t)) ≡ stopping f
unfolding outcome
bad_header f c t l e =
    let long : nat_lt (length (c ++ t)) 28 ≡ false = le-ltb _ _ (omega (arith, length-append c t)) in
    let err : checked_header (c ++ t) ≡ Err f = header-front c t (omega arith) ∙ e in
    rw (long, err) refl

pub short_header : (c : List ℕ) → length c < 28 → seen (outcome c) ≡ stopping (Truncated (length c))
unfolding outcome
short_header c l = let t : nat_lt (length c) 28 ≡ true = lt-ltb _ _ l in rw t refl

-- the data of a chunk, in its parts
pub data_parts : (k : ChunkKind) (n b : ℕ) → raw_announced k n b + cond (due_of k) 4 0 ≡ data_len b k n
data_parts kinds.Raw n b = omega arith
data_parts kinds.Fill n b = refl
data_parts kinds.Skip n b = refl
data_parts kinds.Crc n b = refl

-- a header's own fault is none of a device
own_err : (t : Bool) (f g : SparseFault) (r : Result Header SparseFault) → IsOwn f → (r ≡ Err g → IsOwn g)
    → cond t (Err f) r ≡ Err g → IsOwn g
own_err true f g r own k e = let s : f ≡ g = cc in subst IsOwn s own
own_err false f g r own k e = k e

ok_err : (h : Header) (f : SparseFault) (r : Result Header SparseFault) → r ≡ Ok h → r ≡ Err f → IsOwn f
ok_err h f r a q = absurd cc

pub header_own : (x : List ℕ) (f : SparseFault) → checked_header x ≡ Err f → IsOwn f
unfolding checked_header
header_own x f e =
    let h = header_at x in
    let r5 : Result Header SparseFault = cond ((h.blk_sz == 0) || not (h.blk_sz % 4 == 0)) (Err (BlockSize h.blk_sz))
    (Ok h) in
    let r4 : Result Header SparseFault = cond (nat_lt h.chunk_hdr_sz 12) (Err (ChunkHeaderSize h.chunk_hdr_sz)) r5 in
    let r3 : Result Header SparseFault = cond (nat_lt h.file_hdr_sz 28) (Err (FileHeaderSize h.file_hdr_sz)) r4 in
    let r2 : Result Header SparseFault = cond (not (number_at 4 2 x == 1)) (Err (Major (number_at 4 2 x))) r3 in
    own_err (not (number_at 0 4 x == 0xED26FF3A)) Magic f r2 tt
    (own_err (not (number_at 4 2 x == 1)) (Major (number_at 4 2 x)) f r3 tt
    (own_err (nat_lt h.file_hdr_sz 28) (FileHeaderSize h.file_hdr_sz) f r4 tt
    (own_err (nat_lt h.chunk_hdr_sz 12) (ChunkHeaderSize h.chunk_hdr_sz) f r5 tt
    (own_err ((h.blk_sz == 0) || not (h.blk_sz % 4 == 0)) (BlockSize h.blk_sz) f (Ok h) tt
    (λ q. ok_err h f (Ok h) refl q))))) e

-- the blocks of a chunk, in bytes
pub left_new : (k : ChunkKind) (n b : ℕ) → b % 4 ≡ 0
    → left_of k (raw_announced k n b) (words_announced k n b) ≡ counted k n * b
left_new kinds.Raw n b four = omega arith
left_new kinds.Fill n b four = let e : b ≡ 4 * (b / 4) = omega arith in let f : n * b ≡ n * (4 * (b / 4)) =
    ap (λ (j : ℕ). n * j) e in omega (arith, f)
left_new kinds.Skip n b four = let e : b ≡ 4 * (b / 4) = omega arith in let f : n * b ≡ n * (4 * (b / 4)) =
    ap (λ (j : ℕ). n * j) e in omega (arith, f)
left_new kinds.Crc n b four = omega arith

pub left_spent : (k : ChunkKind) (due : Bool) (raw words : ℕ) → SpentBy k due raw words → left_of k raw words ≡ 0
left_spent kinds.Raw due raw words e = e
left_spent kinds.Fill due raw words e = omega (arith, e.1)
left_spent kinds.Skip due raw words e = omega (arith, e)
left_spent kinds.Crc due raw words e = refl
