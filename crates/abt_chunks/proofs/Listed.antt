-- What a listing shows, from one place to the next.
use Rattle.std.proofs.Common.{◌≡◌, ℕ, suc, ◌+◌, ◌-◌, ◌*◌, ◌<◌, ◌≤◌, Bool, true, false, if◌then◌else◌, List, [], ◌∷◌}
use Rattle.std.proofs.Common.{◌++◌, length, take, drop, Some, Ok, Err, refl, sym, ap, ◌∙◌, arith, inl, inr, zero-add}
use Rattle.std.proofs.Common.{length-append, ◌==◌, ◌&&◌, nat_lt, ltb-false, ltb-true, le-ltb, lt-ltb, eqb-true, eq-eqb}
use Rattle.std.proofs.Common.{ne_eqb}
use Rattle.std.proofs.lemmas.Bool.{cases_Bool}
use Rattle.std.proofs.lemmas.List.{take_at, drop_at, drop-take}
use Rattle.abt_sparse.specs.declared.fault.SparseFault.{SparseFault}
use Rattle.abt_sparse.specs.declared.fault.SparseFault.TheVariants.{TooFewBlocks, Truncated, Read, Write}
use Rattle.abt_sparse.specs.declared.kind.ChunkKind.{ChunkKind}
use Rattle.abt_sparse.specs.declared.kind.ChunkKind.TheVariants as kinds
use Rattle.abt_sparse.specs.Chunk.{Header, Chunk}
use Rattle.abt_sparse.specs.Reading.{checked_header, data_len, counted, chunk_from, partial_of, Got, Bad, chunk_at}
use Rattle.abt_sparse.specs.Reading.{ChunksRead, Done, Failed, behind, chunks_at}
use Rattle.abt_sparse.proofs.ChunkLaws.{length-split}
use Rattle.abt_sparse.proofs.Exactly.{chunks-got, chunks-bad}
use Rattle.abt_sparse.specs.View.{view}
use Rattle.abt_chunks.specs.declared.progress.ChunkInfo.{ChunkInfo}
use Rattle.abt_chunks.specs.declared.walk.Phase.{Phase}
use Rattle.abt_chunks.specs.declared.walk.Phase.TheVariants as phases
use Rattle.abt_chunks.specs.declared.walk.Walk.{Walk}
use Rattle.abt_chunks.specs.declared.walk.Part.{Part}
use Rattle.abt_chunks.specs.declared.walk.Part.TheVariants as parts
use Rattle.abt_chunks.specs.Ahead.{due_of, raw_announced}
use Rattle.abt_chunks.specs.Listing.{no_word, info_of, Listing, headless, listed, listing_from, listing_of}
use Rattle.abt_chunks.specs.Turns.{SpentBy}
use Rattle.abt_chunks.specs.ListingAhead.{lacking, word_shown, head_shown, shown_before, begun_listing, is_spent}
use Rattle.abt_chunks.specs.ListingAhead.{at_end, with_begun, upcoming_ended, upcoming, upcoming_in, breaking, head_in}
use Rattle.abt_chunks.specs.ListingAhead.{info_at, ShowsPart, Lists}
use Rattle.abt_chunks.proofs.Onward.{drop_past, shorter, GoodHead, good_at, header-front}

-- ---- within a chunk

pub extra_passed : (k : ChunkKind) (due : Bool) (h : Header) (i have extra raw : ℕ) (word : List ℕ) (blocks size : ℕ)
    (c t : List ℕ) (n : ℕ) → length c ≡ n → n ≤ extra
    → begun_listing k due h i have extra raw word blocks size (c ++ t) ≡ begun_listing k due h i have
    (extra - n) raw word blocks size t
unfolding begun_listing
extra_passed k due h i have extra raw word blocks size c t n l le =
    let d = lacking k due raw in
    let e : (extra + d) - n ≡ (extra - n) + d = omega arith in
    rw (
      shorter c t n (extra + d) l (omega arith),
      drop_past c t n extra l le,
      drop_past c t n (extra + d) l (omega arith),
      e,
    ) refl

pub raw_passed : (due : Bool) (h : Header) (i have raw : ℕ) (word : List ℕ) (blocks size : ℕ) (c t : List ℕ) (n : ℕ)
    → length c ≡ n → n ≤ raw
    → begun_listing kinds.Raw due h i have 0 raw word blocks size (c ++ t) ≡ begun_listing kinds.Raw due h i have 0
    (raw - n) word blocks size t
unfolding begun_listing
raw_passed due h i have raw word blocks size c t n l le =
    rw (zero-add raw, zero-add (raw - n), shorter c t n raw l le, drop_past c t n raw l le) refl

pub word_passed : (k : ChunkKind) (h : Header) (i have raw : ℕ) (word : List ℕ) (blocks size : ℕ) (c t : List ℕ)
    → length c ≡ 4 → due_of k ≡ true
    → begun_listing k true h i have 0 raw word blocks size (c
    ++ t) ≡ begun_listing k false h i have 0 raw c blocks size t
unfolding begun_listing
word_passed kinds.Raw h i have raw word blocks size c t l d = absurd cc
word_passed kinds.Fill h i have raw word blocks size c t l d =
    let s : nat_lt (length (c ++ t)) 4 ≡ false = le-ltb _ _ (omega (arith, length-append c t)) in
    let z : nat_lt (length t) 0 ≡ false = le-ltb _ _ (omega arith) in
    rw (s, z, take_at c t 4 l, drop_at c t 4 l) refl
word_passed kinds.Skip h i have raw word blocks size c t l d = absurd cc
word_passed kinds.Crc h i have raw word blocks size c t l d =
    let s : nat_lt (length (c ++ t)) 4 ≡ false = le-ltb _ _ (omega (arith, length-append c t)) in
    let z : nat_lt (length t) 0 ≡ false = le-ltb _ _ (omega arith) in
    rw (s, z, take_at c t 4 l, drop_at c t 4 l) refl

-- where the input ends too early
pub too_short : (k : ChunkKind) (due : Bool) (h : Header) (i have extra raw : ℕ) (word : List ℕ) (blocks size : ℕ)
    (y : List ℕ) → length y < extra + lacking k due raw
    → begun_listing k due h i have extra raw word blocks size y ≡ record {
      head = head_shown h i;
      shown = [];
      ending = Err (Truncated size);
    }
unfolding begun_listing
too_short k due h i have extra raw word blocks size y l =
    let t : nat_lt (length y) (extra + lacking k due raw) ≡ true = lt-ltb _ _ l in rw t refl

pub lacks_word : (k : ChunkKind) (raw : ℕ) → due_of k ≡ true → lacking k true raw ≡ 4
lacks_word kinds.Raw raw d = absurd cc
lacks_word kinds.Fill raw d = refl
lacks_word kinds.Skip raw d = absurd cc
lacks_word kinds.Crc raw d = refl

-- ---- at the end of a chunk

pub spent_is : (k : ChunkKind) (due : Bool) (raw words : ℕ) → SpentBy k due raw words → is_spent k due raw words ≡ true
spent_is kinds.Raw due raw words e = eq-eqb _ _ e
spent_is kinds.Fill due raw words e = rw (e.0, e.1) refl
spent_is kinds.Skip due raw words e = eq-eqb _ _ e
spent_is kinds.Crc due raw words e = rw e refl

lacks_nothing : (k : ChunkKind) (due : Bool) (raw words : ℕ) → is_spent k due raw words ≡ true → lacking k due raw ≡ 0
lacks_nothing kinds.Raw due raw words e = eqb-true _ _ e
lacks_nothing kinds.Fill true raw words e = absurd cc
lacks_nothing kinds.Fill false raw words e = refl
lacks_nothing kinds.Skip due raw words e = refl
lacks_nothing kinds.Crc true raw words e = absurd cc
lacks_nothing kinds.Crc false raw words e = refl

-- ---- from chunk to chunk

listed_behind : (h : Header) (i : ℕ) (c : Chunk) (r : ChunksRead)
    → listed h i (behind c r) ≡ shown_before (info_of i c ∷ []) (listed h (i + 1) r)
listed_behind h i c (Done cs rest) = refl
listed_behind h i c (Failed f cs came) = refl

pub listing_got : (h : Header) (size i have : ℕ) (y : List ℕ) (c : Chunk) (n : ℕ) (rest : List ℕ) → i < h.total_chunks
    → chunk_at h size i have y ≡ Got c n rest
    → listing_from h size i have y ≡ shown_before (info_of i c ∷ []) (listing_from h size (i + 1) (have + n) rest)
unfolding listing_from
listing_got h size i have y c n rest lt e =
    let k : h.total_chunks - i ≡ suc (h.total_chunks - (i + 1)) = omega arith in
    rw (k, chunks-got h size i have (h.total_chunks - (i + 1)) y c n rest e) (listed_behind h i c _)

pub listing_bad : (h : Header) (size i have : ℕ) (y : List ℕ) (f : SparseFault) (came : List ℕ) → i < h.total_chunks
    → chunk_at h size i have y ≡ Bad f came
    → listing_from h size i have y ≡ record { head = Some h; shown = []; ending = Err f }
unfolding listing_from
listing_bad h size i have y f came lt e =
    let k : h.total_chunks - i ≡ suc (h.total_chunks - (i + 1)) = omega arith in
    rw (k, chunks-bad h size i have (h.total_chunks - (i + 1)) y f came e) refl

pub listing_done : (h : Header) (size i have : ℕ) (y : List ℕ) → h.total_chunks ≤ i → have ≡ h.total_blks
    → listing_from h size i have y ≡ record { head = Some h; shown = []; ending = Ok y }
unfolding listing_from chunks_at
listing_done h size i have y le e =
    let k : h.total_chunks - i ≡ 0 = omega arith in
    let t : (have == h.total_blks) ≡ true = eq-eqb _ _ e in
    rw (k, t) refl

pub listing_few : (h : Header) (size i have : ℕ) (y : List ℕ) → h.total_chunks ≤ i → (have ≡ h.total_blks → ⊥)
    → listing_from h size i have y ≡ record { head = Some h; shown = []; ending = Err (TooFewBlocks have) }
unfolding listing_from chunks_at
listing_few h size i have y le e =
    let k : h.total_chunks - i ≡ 0 = omega arith in
    let t : (have == h.total_blks) ≡ false = ne_eqb _ _ e in
    rw (k, t) refl

-- ---- after a chunk's header

lacks_data : (k : ChunkKind) (n b : ℕ) → lacking k (due_of k) (raw_announced k n b) ≡ data_len b k n
lacks_data kinds.Raw n b = refl
lacks_data kinds.Fill n b = refl
lacks_data kinds.Skip n b = refl
lacks_data kinds.Crc n b = refl

info_made : (i b : ℕ) (k : ChunkKind) (n : ℕ) (word y : List ℕ)
    → info_of i (chunk_from b k n (take (data_len b k n) y)) ≡ record {
      index = i;
      kind = k;
      blocks = counted k n;
      word = word_shown k (due_of k) word y;
    }
info_made i b kinds.Raw n word y = rw (length-split b n (take (n * b) y)) refl
info_made i b kinds.Fill n word y = refl
info_made i b kinds.Skip n word y = refl
info_made i b kinds.Crc n word y = refl

pub chunk_begun : (h : Header) (size i have : ℕ) (word c t : List ℕ) (k : ChunkKind) (n total : ℕ)
    → 12 ≤ h.chunk_hdr_sz → i < h.total_chunks → GoodHead h have c k n total
    → listing_from h size i have (c ++ t) ≡ begun_listing k (due_of k) h (i + 1) (have + counted k n)
    (h.chunk_hdr_sz - 12) (raw_announced k n h.blk_sz) word (counted k n) size t
unfolding begun_listing
chunk_begun h size i have word c t k n total hdr lt g =
    let len = data_len h.blk_sz k n in
    let extra = h.chunk_hdr_sz - 12 in
    let y1 = drop extra t in
    let lacks = lacks_data k n h.blk_sz in
    let some : (i + 1 == 0) ≡ false = ne_eqb _ _ (λ q. absurd (omega (arith, q))) in
    let less : (i + 1) - 1 ≡ i = omega arith in
    let y1_is : drop h.chunk_hdr_sz (c ++ t) ≡ y1 = drop_past c t 12 h.chunk_hdr_sz g.long hdr in
    let all_long = length-append c t in
    elim (cases_Bool (nat_lt (length (c ++ t)) total)) [
      | inl s ↦
          let short = ltb-true _ _ s in
          let bad : chunk_at h size i have (c ++ t) ≡ Bad (Truncated size) (partial_of k y1) =
          good_at h size i have c t k n total g true s ∙ rw y1_is refl in
          let u : nat_lt (length t) (extra + len) ≡ true = lt-ltb _ _ (omega (arith, g.total_right, g.long)) in
          rw (lacks, u, some) (listing_bad h size i have (c ++ t) (Truncated size) (partial_of k y1) lt bad)
      | inr s ↦
          let long = ltb-false _ _ s in
          let d = take len y1 in
          let rest = drop (extra + len) t in
          let d_is : drop h.chunk_hdr_sz (take total (c ++ t)) ≡ d =
          ap (λ (j : ℕ). drop h.chunk_hdr_sz (take j (c ++ t))) g.total_right
          ∙ drop-take h.chunk_hdr_sz len (c ++ t) ∙ ap (λ (l : List ℕ). take len l) y1_is in
          let rest_is : drop total (c ++ t) ≡ rest = drop_past c t 12 total g.long (omega (arith, g.total_right))
          ∙ ap (λ (j : ℕ). drop j t) (let q : total - 12 ≡ extra + len = omega (arith, g.total_right) in q) in
          let got : chunk_at h size i have (c ++ t) ≡ Got (chunk_from h.blk_sz k n d) (counted k n) rest =
          good_at h size i have c t k n total g false s ∙ rw (d_is, rest_is) refl in
          let u : nat_lt (length t) (extra + len) ≡ false = le-ltb _ _ (omega (arith, g.total_right, g.long)) in
          rw (lacks, u, some, less) (listing_got h size i have (c ++ t) (chunk_from h.blk_sz k n d)
          (counted k n) rest lt got
          ∙ ap (λ (info : ChunkInfo). shown_before (info
          ∷ []) (listing_from h size (i + 1) (have + counted k n) rest)) (info_made i h.blk_sz k n word y1))
    ]

-- ---- the image's header

pub header_begun : (h : Header) (word c t : List ℕ) → length c ≡ 28 → checked_header c ≡ Ok h → 28 ≤ h.file_hdr_sz
    → listing_of (c ++ t) ≡ begun_listing kinds.Skip false h 0 0 (h.file_hdr_sz - 28) 0 word 0 (28 + length t) t
unfolding listing_of begun_listing
header_begun h word c t l e le =
    let long : nat_lt (length (c ++ t)) 28 ≡ false = le-ltb _ _ (omega (arith, length-append c t)) in
    let ok : checked_header (c ++ t) ≡ Ok h = header-front c t (omega arith) ∙ e in
    let size : length (c ++ t) ≡ 28 + length t = omega (arith, length-append c t) in
    let z : (h.file_hdr_sz - 28) + 0 ≡ h.file_hdr_sz - 28 = omega arith in
    rw (long, ok, shorter c t 28 h.file_hdr_sz l le, drop_past c t 28 h.file_hdr_sz l le, size, z)
    (elim (cases_Bool (nat_lt (length t) (h.file_hdr_sz - 28))) [
      | inl s ↦ rw s refl
      | inr s ↦ rw s refl
    ])

pub header_bad : (f : SparseFault) (c t : List ℕ) → length c ≡ 28 → checked_header c ≡ Err f
    → listing_of (c ++ t) ≡ headless f
unfolding listing_of
header_bad f c t l e =
    let long : nat_lt (length (c ++ t)) 28 ≡ false = le-ltb _ _ (omega (arith, length-append c t)) in
    let err : checked_header (c ++ t) ≡ Err f = header-front c t (omega arith) ∙ e in
    rw (long, err) refl

pub header_cut : (c : List ℕ) → length c < 28 → listing_of c ≡ headless (Truncated (length c))
unfolding listing_of
header_cut c l = let t : nat_lt (length c) 28 ≡ true = lt-ltb _ _ l in rw t refl

-- ---- of a walk

pub upcoming_body : (s : Walk) (b : Bool) (y : List ℕ) → s.phase ≡ phases.Body → at_end s ≡ b
    → upcoming s y ≡ upcoming_ended b s y
upcoming_body s b y p e = ap (λ (q : Phase). upcoming_in q s y) p ∙ ap (λ (v : Bool). upcoming_ended v s y) e

abbrev breaking_at : Phase → Bool → Walk → SparseFault → Listing
breaking_at q b s f = record { head = head_in q b s; shown = []; ending = Err f }

pub breaking_body : (s : Walk) (b : Bool) (f : SparseFault) → s.phase ≡ phases.Body → at_end s ≡ b
    → (let l : Listing = record { head = head_in phases.Body b s; shown = []; ending = Err f } in l) ≡ breaking s f
breaking_body s b f p e = ap (λ (v : Bool). breaking_at phases.Body v s f) (sym e)
    ∙ ap (λ (q : Phase). breaking_at q (at_end s) s f) (sym p)

both : (a b : Bool) → (a && b) ≡ true → (a ≡ true) × (b ≡ true)
both true true e = (refl, refl)
both true false e = absurd cc
both false b e = absurd cc

word_shown_spent : (k : ChunkKind) (due : Bool) (raw words : ℕ) (word y : List ℕ) → is_spent k due raw words ≡ true
    → word_shown k due word y ≡ (if due_of k then word else no_word)
word_shown_spent kinds.Raw due raw words word y e = refl
word_shown_spent kinds.Fill true raw words word y e = absurd cc
word_shown_spent kinds.Fill false raw words word y e = refl
word_shown_spent kinds.Skip due raw words word y e = refl
word_shown_spent kinds.Crc true raw words word y e = absurd cc
word_shown_spent kinds.Crc false raw words word y e = refl

-- where all of what was begun has been read
pub ended_listing : (s : Walk) (y : List ℕ) → at_end s ≡ true
    → with_begun s y ≡ shown_before (if s.index == 0 then [] else (info_at s ∷ []))
    (listing_from (view s.header) (s.position + length y) s.index s.have y)
unfolding begun_listing
ended_listing s y e =
    let parts = both (s.extra == 0) (is_spent s.kind s.due s.raw s.words) e in
    let x0 : s.extra ≡ 0 = eqb-true _ _ parts.0 in
    let l0 : lacking s.kind s.due s.raw ≡ 0 = lacks_nothing s.kind s.due s.raw s.words parts.1 in
    let z : nat_lt (length y) 0 ≡ false = le-ltb _ _ (omega arith) in
    rw (x0, l0, z, word_shown_spent s.kind s.due s.raw s.words s.word y parts.1) refl

lists_fault : (f : SparseFault) (s s' : Walk) (c t : List ℕ) → ShowsPart (parts.Fault f) s s' c t
    → Lists (parts.Fault f) s s' c t
lists_fault (Read d) s s' c t h = tt
lists_fault (Write d) s s' c t h = tt
lists_fault f s s' c t h = h

pub lists : (q : Part) (s s' : Walk) (c t : List ℕ) → ShowsPart q s s' c t → Lists q s s' c t
lists (parts.Fault f) s s' c t h = lists_fault f s s' c t h
lists q s s' c t h = h

-- ---- a walk within what was begun, and at its end

pub ended : (s : Walk) → s.extra ≡ 0 → SpentBy s.kind s.due s.raw s.words → at_end s ≡ true
ended s x e = let a : (s.extra == 0) ≡ true = eq-eqb _ _ x in rw (a, spent_is s.kind s.due s.raw s.words e) refl

pub open_extra : (s : Walk) → 0 < s.extra → at_end s ≡ false
open_extra s x = let a : (s.extra == 0) ≡ false = ne_eqb _ _ (λ q. absurd (omega (arith, q))) in rw a refl

left_raw : (k : ChunkKind) (due : Bool) (raw words : ℕ) → k ≡ kinds.Raw → 0 < raw → is_spent k due raw words ≡ false
left_raw k due raw words e x = let a : (raw == 0) ≡ false = ne_eqb _ _ (λ q. absurd (omega (arith, q))) in
    rw (e, a) refl

left_word : (k : ChunkKind) (due : Bool) (raw words : ℕ) → due_of k ≡ true → due ≡ true
    → is_spent k due raw words ≡ false
left_word kinds.Raw due raw words d e = absurd cc
left_word kinds.Fill due raw words d e = rw e refl
left_word kinds.Skip due raw words d e = absurd cc
left_word kinds.Crc due raw words d e = rw e refl

neither : (a b : Bool) → b ≡ false → (a && b) ≡ false
neither true b e = e
neither false b e = refl

pub open_raw : (s : Walk) → s.kind ≡ kinds.Raw → 0 < s.raw → at_end s ≡ false
open_raw s e x = neither (s.extra == 0) (is_spent s.kind s.due s.raw s.words) (left_raw s.kind s.due s.raw s.words e x)

pub open_word : (s : Walk) → due_of s.kind ≡ true → s.due ≡ true → at_end s ≡ false
open_word s d e = neither (s.extra == 0) (is_spent s.kind s.due s.raw s.words)
    (left_word s.kind s.due s.raw s.words d e)

pub upcoming_header : (s : Walk) (y : List ℕ) → s.phase ≡ phases.Header → upcoming s y ≡ listing_of y
upcoming_header s y p = ap (λ (q : Phase). upcoming_in q s y) p

pub breaking_header : (s : Walk) (f : SparseFault) → s.phase ≡ phases.Header → headless f ≡ breaking s f
breaking_header s f p = ap (λ (q : Phase). breaking_at q (at_end s) s f) (sym p)

-- the input ends too early
pub short_listing : (s : Walk) (y : List ℕ) (f : SparseFault) → s.phase ≡ phases.Body → at_end s ≡ false
    → length y < s.extra + lacking s.kind s.due s.raw → f ≡ Truncated (s.position + length y)
    → upcoming s y ≡ breaking s f
short_listing s y f p e l g =
    upcoming_body s false y p e ∙ too_short s.kind s.due (view s.header) s.index s.have s.extra s.raw s.word s.blocks
    (s.position + length y) y l
    ∙ ap (λ (g : SparseFault). breaking_at phases.Body false s g) (sym g) ∙ breaking_body s false f p e

-- within raw data, and at a word, whatever the kind is called
pub raw_behind : (k : ChunkKind) (due : Bool) (h : Header) (i have extra raw : ℕ) (word : List ℕ) (blocks size : ℕ)
    (c t : List ℕ) (n : ℕ) → k ≡ kinds.Raw → extra ≡ 0 → length c ≡ n → n ≤ raw
    → begun_listing k due h i have extra raw word blocks size (c ++ t) ≡ begun_listing k due h i have extra
    (raw - n) word blocks size t
raw_behind k due h i have extra raw word blocks size c t n e x l le =
    rw (e, x) (raw_passed due h i have raw word blocks size c t n l le)

pub word_behind : (k : ChunkKind) (due : Bool) (h : Header) (i have extra raw : ℕ) (word : List ℕ) (blocks size : ℕ)
    (c t : List ℕ) → due ≡ true → extra ≡ 0 → length c ≡ 4 → due_of k ≡ true
    → begun_listing k due h i have extra raw word blocks size (c
    ++ t) ≡ begun_listing k false h i have extra raw c blocks size t
word_behind k due h i have extra raw word blocks size c t e x l d =
    rw (e, x) (word_passed k h i have raw word blocks size c t l d)

pub bad_listing : (s : Walk) (y : List ℕ) (f : SparseFault) (came : List ℕ) → s.phase ≡ phases.Body → at_end s ≡ true
    → s.index < s.header.total_chunks
    → chunk_at (view s.header) (s.position + length y) s.index s.have y ≡ Bad f came → upcoming s y ≡ breaking s f
bad_listing s y f came p e lt bad =
    upcoming_body s true y p e ∙ listing_bad (view s.header) (s.position + length y) s.index s.have y f came lt bad
    ∙ breaking_body s true f p e
