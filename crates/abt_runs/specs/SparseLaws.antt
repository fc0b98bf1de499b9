-- The laws of an opened sparse image.
use Rattle.std.specs.Prelude.{◌≡◌, ℕ, zero, suc, ◌+◌, ◌-◌, ◌*◌, ◌^◌, ◌≤◌, ◌<◌, ◌==◌, nat_lt, false, List, [], ◌∷◌, ◌++◌}
use Rattle.std.specs.Prelude.{length, take, drop, map, replicate, Result, Ok, Err, refl}
use Rattle.std.proofs.Common.{arith, ap, sym, subst, ◌∙◌, inl, inr, length-append, length-drop, length-take-le}
use Rattle.std.proofs.Common.{eqb-true, ltb-false}
use Rattle.std.proofs.lemmas.Bool.{cases_Bool}
use Rattle.std.proofs.lemmas.List.{length-map, length-replicate}
use Rattle.std.specs.List.{AllByRecursion}
use Rattle.abt_sparse.specs.declared.fault.SparseFault.{SparseFault}
use Rattle.abt_sparse.specs.declared.kind.ChunkKind.{ChunkKind}
use Rattle.abt_sparse.specs.declared.kind.ChunkKind.TheVariants as kinds
use Rattle.abt_sparse.specs.Block.{Block, Raw, Fill, Skip, IsBlock, AreBlocks, split}
use Rattle.abt_sparse.specs.Chunk.{Header, Chunk, Raws, Fills, Skips, Crc, count, blocks_of, classed}
use Rattle.abt_sparse.specs.Reading.{checked_header, data_len, counted, chunk_from, ChunkRead, Got, Bad, chunk_at}
use Rattle.abt_sparse.specs.Reading.{ChunksRead, Done, Failed, behind, chunks_at, body_at, Outcome, Image, Fault}
use Rattle.abt_sparse.specs.Reading.{outcome_of, outcome}
use Rattle.abt_sparse.specs.Fails.{counted_in}
use Rattle.abt_sparse.proofs.Exactly.{chunks-got, chunks-bad}
use Rattle.abt_sparse.proofs.ChunkLaws.{got_made}
use Rattle.abt_runs.specs.Sparse.{SparseOpened, blocks_in, sparse_list, SparsePlace, chunk_length, lengths}
use Rattle.abt_runs.specs.Sparse.{SparseWithin, sparse_charge}
use Rattle.abt_runs.specs.Part.{Afresh, afresh}
use Rattle.abt_runs.specs.declared.part.Cursor.{Cursor}

-- ---- a chunk's blocks

pub length-split' : (b n : ℕ) (d : List ℕ) → length (split b n d) ≡ n
length-split' b zero d = refl
length-split' b (suc n) d = ap suc (length-split' b n (drop b d))

pub count_is : (b : ℕ) (k : ChunkKind) (n : ℕ) (d : List ℕ) → count (chunk_from b k n d) ≡ counted k n
count_is b kinds.Raw n d = length-split' b n d
count_is b kinds.Fill n d = refl
count_is b kinds.Skip n d = refl
count_is b kinds.Crc n d = refl

length_is : (h : Header) (k : ChunkKind) (n : ℕ) (d : List ℕ)
    → chunk_length h (chunk_from h.blk_sz k n d) ≡ h.chunk_hdr_sz + data_len h.blk_sz k n
length_is h kinds.Raw n d = ap (λ (m : ℕ). h.chunk_hdr_sz + m * h.blk_sz) (length-split' h.blk_sz n d)
length_is h kinds.Fill n d = refl
length_is h kinds.Skip n d = refl
length_is h kinds.Crc n d = refl

pub counted-classed : (cs : List Chunk) → counted_in cs ≡ length (classed cs)
counted-classed [] = refl
counted-classed (c ∷ cs) = omega (arith, chunk_long c, counted-classed cs, length-append (blocks_of c) (classed cs))
  where
    chunk_long : (c : Chunk) → count c ≡ length (blocks_of c)
    chunk_long (Raws xs) = sym (length-map xs (λ x. Raw x))
    chunk_long (Fills w n) = sym (length-replicate n (Fill w))
    chunk_long (Skips n) = sym (length-replicate n Skip)
    chunk_long (Crc w) = refl

raws_good : (b n : ℕ) (d : List ℕ) → length d ≡ n * b → AllByRecursion (IsBlock b) (map (λ x. Raw x) (split b n d))
raws_good b zero d e = tt
raws_good b (suc n) d e = (length-take-le b d (omega arith), raws_good b n (drop b d) (omega (arith, length-drop b d)))

fills_good : (b n : ℕ) (w : List ℕ) → length w ≡ 4 → AllByRecursion (IsBlock b) (replicate n (Fill w))
fills_good b zero w e = tt
fills_good b (suc n) w e = (e, fills_good b n w e)

skips_good : (b n : ℕ) → AllByRecursion (IsBlock b) (replicate n Skip)
skips_good b zero = tt
skips_good b (suc n) = (tt, skips_good b n)

blocks_good : (b : ℕ) (k : ChunkKind) (n : ℕ) (d : List ℕ) → length d ≡ data_len b k n
    → AllByRecursion (IsBlock b) (blocks_of (chunk_from b k n d))
blocks_good b kinds.Raw n d e = raws_good b n d e
blocks_good b kinds.Fill n d e = fills_good b n d e
blocks_good b kinds.Skip n d e = skips_good b n
blocks_good b kinds.Crc n d e = tt

both_good : (b : ℕ) (xs ys : List Block) → AllByRecursion (IsBlock b) xs → AllByRecursion (IsBlock b) ys
    → AllByRecursion (IsBlock b) (xs ++ ys)
both_good b [] ys h k = k
both_good b (x ∷ xs) ys h k = (h.0, both_good b xs ys h.1 k)

-- ---- all chunks

-- chunks that were read to their end, after so many blocks
pub record ReadThrough (h : Header) (have : ℕ) (y : List ℕ) (cs : List Chunk) (rest : List ℕ) : Type 0 where
  pub total : have + counted_in cs ≡ h.total_blks
  pub good : AllByRecursion (IsBlock h.blk_sz) (classed cs)
  pub long : length y ≡ lengths h cs + length rest

pub done_list : {cs cs' : List Chunk} {r r' : List ℕ} → Done cs r ≡ Done cs' r' → cs ≡ cs'
done_list {cs} {cs'} {r} {r'} e = cc

pub done_rest : {cs cs' : List Chunk} {r r' : List ℕ} → Done cs r ≡ Done cs' r' → r ≡ r'
done_rest {cs} {cs'} {r} {r'} e = cc

pub read_through : (h : Header) (size left i have : ℕ) (y : List ℕ) (cs : List Chunk) (rest : List ℕ)
    → chunks_at h size i have left y ≡ Done cs rest → ReadThrough h have y cs rest
unfolding chunks_at
read_through h size zero i have y cs rest e = elim (cases_Bool (have == h.total_blks)) [
  | inl t ↦
      let f : Done [] y ≡ Done cs rest = rw (t, chunks_at) at e in
      let none : [] ≡ cs = done_list f in
      let same : y ≡ rest = done_rest f in
      subst (λ (ds : List Chunk). ReadThrough h have y ds rest) none
      (record {
        total = omega (arith, eqb-true have h.total_blks t);
        good = tt;
        long = omega (arith, ap length same);
      })
  | inr t ↦ absurd (let f : Failed _ [] [] ≡ Done cs rest = rw (t, chunks_at) at e in cc)
]
read_through h size (suc left) i have y cs rest e =
    step (chunk_at h size i have y) refl (λ n more ds end s. read_through h size left (i + 1) (have + n) more ds end s)
  where
    inner : (c : Chunk) (n : ℕ) (more : List ℕ) → chunk_at h size i have y ≡ Got c n more → (s : ChunksRead)
        → chunks_at h size (i + 1) (have + n) left more ≡ s
        → ((ds : List Chunk) (end : List ℕ) → chunks_at h size (i + 1) (have + n) left more ≡ Done ds end
        → ReadThrough h (have + n) more ds end) → ReadThrough h have y cs rest
    inner c n more r (Failed f ds came) s ih = absurd (let g : Failed f (c ∷ ds) came ≡ Done cs rest =
        ap (λ (t : ChunksRead). behind c t) (sym s) ∙ sym (chunks-got h size i have left y c n more r) ∙ e in cc)
    inner c n more r (Done ds end) s ih =
        let g : Done (c ∷ ds) end ≡ Done cs rest =
        ap (λ (t : ChunksRead). behind c t) (sym s) ∙ sym (chunks-got h size i have left y c n more r) ∙ e in
        let t = ih ds end s in
        let made = got_made h size i have y c n more r in
        let more_long : length y ≡ made.total + length more =
        omega (arith, ap length made.good.rest_is, length-drop made.total y, made.good.whole) in
        let mine_long : chunk_length h c ≡ made.total =
        ap (λ (d : Chunk). chunk_length h d)
        (sym made.c_is) ∙ length_is h made.k made.n made.d ∙ sym made.good.total_right in
        let counts : count c ≡ n = ap count (sym made.c_is) ∙ count_is h.blk_sz made.k made.n made.d ∙ made.m_is in
        let room : length (take made.total y) ≡ made.total = length-take-le made.total y made.good.whole in
        let data_long : length made.d ≡ data_len h.blk_sz made.k made.n =
        omega (
          arith,
          ap length made.good.data_is,
          length-drop h.chunk_hdr_sz (take made.total y),
          room,
          made.good.total_right,
        ) in
        let mine : AllByRecursion (IsBlock h.blk_sz) (blocks_of c) =
        subst (λ (d : Chunk). AllByRecursion (IsBlock h.blk_sz) (blocks_of d)) made.c_is
        (blocks_good h.blk_sz made.k made.n made.d data_long) in
        subst (λ (ds' : List Chunk). ReadThrough h have y ds' rest) (done_list g) (record {
          total = omega (arith, t.total, counts);
          good = both_good h.blk_sz (blocks_of c) (classed ds) mine t.good;
          long = omega (arith, t.long, more_long, mine_long, ap length (done_rest g));
        })

    step : (r : ChunkRead) → chunk_at h size i have y ≡ r
        → ((n : ℕ) (more : List ℕ) (ds : List Chunk) (end : List ℕ)
        → chunks_at h size (i + 1) (have + n) left more ≡ Done ds end → ReadThrough h (have + n) more ds end)
        → ReadThrough h have y cs rest
    step (Bad f came) r ih =
        absurd (let g : Failed f [] came ≡ Done cs rest = sym (chunks-bad h size i have left y f came r) ∙ e in cc)
    step (Got c n more) r ih = inner c n more r (chunks_at h size (i + 1) (have + n) left more) refl (ih n more)

-- ---- the image

-- an image, by its header and its chunks
pub record Parted (x : List ℕ) (h : Header) (cs : List Chunk) (rest : List ℕ) : Type 0 where
  pub file : h.file_hdr_sz ≤ length x
  pub chunks : chunks_at h (length x) 0 0 h.total_chunks (drop h.file_hdr_sz x) ≡ Done cs rest

image_header : {h h' : Header} {cs cs' : List Chunk} {r r' : List ℕ} → Image h cs r ≡ Image h' cs' r' → h ≡ h'
image_header {h} {h'} {cs} {cs'} {r} {r'} e = cc

pub image_chunks : {h h' : Header} {cs cs' : List Chunk} {r r' : List ℕ} → Image h cs r ≡ Image h' cs' r' → cs ≡ cs'
image_chunks {h} {h'} {cs} {cs'} {r} {r'} e = cc

pub image_rest : {h h' : Header} {cs cs' : List Chunk} {r r' : List ℕ} → Image h cs r ≡ Image h' cs' r' → r ≡ r'
image_rest {h} {h'} {cs} {cs'} {r} {r'} e = cc

parted_done : (x : List ℕ) (h h' : Header) (cs : List Chunk) (rest : List ℕ) → h'.file_hdr_sz ≤ length x
    → (r : ChunksRead) → chunks_at h' (length x) 0 0 h'.total_chunks (drop h'.file_hdr_sz x) ≡ r
    → outcome_of h' r ≡ Image h cs rest → Parted x h cs rest
parted_done x h h' cs rest le (Failed f ds came) r e = absurd cc
parted_done x h h' cs rest le (Done ds end) r e =
    let chunks : chunks_at h' (length x) 0 0 h'.total_chunks (drop h'.file_hdr_sz x) ≡ Done cs rest =
    r ∙ ap (λ (l : List Chunk). Done l end) (image_chunks e) ∙ ap (λ (l : List ℕ). Done cs l) (image_rest e) in
    subst (λ (k : Header). Parted x k cs rest) (image_header e) (record { file = le; chunks = chunks })

parted_body : (x : List ℕ) (h h' : Header) (cs : List Chunk) (rest : List ℕ)
    → outcome_of h' (body_at h' x) ≡ Image h cs rest → Parted x h cs rest
unfolding body_at
parted_body x h h' cs rest e = elim (cases_Bool (nat_lt (length x) h'.file_hdr_sz)) [
  | inl t ↦ absurd (let f : outcome_of h' (Failed _ [] []) ≡ Image h cs rest = rw t at e in cc)
  | inr t ↦
      let f : outcome_of h' (chunks_at h' (length x) 0 0 h'.total_chunks (drop h'.file_hdr_sz x)) ≡ Image h cs rest =
      rw t at e in
      parted_done x h h' cs rest (ltb-false _ _ t) (chunks_at h' (length x) 0 0 h'.total_chunks
      (drop h'.file_hdr_sz x)) refl f
]

parted_checked : (x : List ℕ) (h : Header) (cs : List Chunk) (rest : List ℕ) (r : Result Header SparseFault)
    → checked_header x ≡ r → outcome x ≡ Image h cs rest → nat_lt (length x) 28 ≡ false → Parted x h cs rest
unfolding outcome
parted_checked x h cs rest (Err f) r e t = absurd (let g : Fault f [] ≡ Image h cs rest = rw (t, r) at e in cc)
parted_checked x h cs rest (Ok h') r e t =
    parted_body x h h' cs rest (let g : outcome_of h' (body_at h' x) ≡ Image h cs rest = rw (t, r) at e in g)

pub parted : (x : List ℕ) (h : Header) (cs : List Chunk) (rest : List ℕ) → outcome x ≡ Image h cs rest
    → Parted x h cs rest
unfolding outcome
parted x h cs rest e = elim (cases_Bool (nat_lt (length x) 28)) [
  | inl t ↦ absurd (let g : Fault _ [] ≡ Image h cs rest = rw t at e in cc)
  | inr t ↦ parted_checked x h cs rest (checked_header x) refl e t
]

-- ---- the laws

pub sparse_long : (h : Header) (long image : ℕ) (x : List ℕ) → SparseOpened h long image x
    → length (sparse_list x) ≡ h.total_blks
sparse_long h long image x o =
    let p = parted x h o.chunks o.rest o.is_image in
    let t = read_through h (length x) h.total_chunks 0 0 (drop h.file_hdr_sz x) o.chunks o.rest p.chunks in
    omega (arith, ap (λ (r : Outcome). length (blocks_in r)) o.is_image, counted-classed o.chunks, t.total)

pub sparse_are_blocks : (h : Header) (long image : ℕ) (x : List ℕ) → SparseOpened h long image x
    → AreBlocks h.blk_sz (sparse_list x)
sparse_are_blocks h long image x o =
    let p = parted x h o.chunks o.rest o.is_image in
    let t = read_through h (length x) h.total_chunks 0 0 (drop h.file_hdr_sz x) o.chunks o.rest p.chunks in
    subst (λ (l : List Block). AreBlocks h.blk_sz l) (sym (ap blocks_in o.is_image)) t.good

pub sparse_one : (b : ℕ) → 0 ≤ b
sparse_one b = omega arith

pub sparse_left : (blocks chunks block chunk : ℕ) → blocks < 2 ^ 32 → chunks < 2 ^ 32
    → (blocks - block) + (chunks - chunk) < 2 ^ 64
sparse_left blocks chunks block chunk few fewer = omega arith

pub sparse_held_grows : (m n : ℕ) → m ≤ n → (m ≤ n) × (n ≤ n)
sparse_held_grows m n le = (le, omega arith)

pub sparse_place_afresh : (h : Header) (x : List ℕ) (c : Cursor) → SparsePlace h x c → SparsePlace h x (afresh c)
sparse_place_afresh h x c p = record {
  before = p.before;
  after = p.after;
  rest = p.rest;
  is_image = p.is_image;
  ahead = p.ahead;
  chunk = p.chunk;
  block = p.block;
  inside = p.inside;
}

pub sparse_afresh : (h : Header) (image : ℕ) (c : Cursor) → SparseWithin h image c
    → Afresh (λ d. SparseWithin h image d) (λ d. sparse_charge h d) (λ d. sparse_charge h d) (λ d. sparse_charge h d)
    (λ d. (h.total_blks - d.block) + (h.total_chunks - d.chunk)) c
sparse_afresh h image c w = record {
  within = record { chunk = w.chunk; block = w.block; used = w.used; charge = w.charge; going = w.going };
  charge = omega arith;
  taken = omega arith;
  copied = omega arith;
  left = omega arith;
}

pub sparse_spared : (n image : ℕ) → (n - 1) * 0 ≤ image
sparse_spared n image = omega arith

pub sparse_source_long : (h : Header) (long image : ℕ) (x : List ℕ) → SparseOpened h long image x → long ≡ length x
sparse_source_long h long image x o = sym o.long_is

pub sparse_economy : (image : ℕ) → image + 3 * image + 2 * image ≤ 8 * image
sparse_economy image = omega arith

pub sparse_padded : (block count : ℕ) → (4 * 0 ≤ 0) × (0 < 0 → block + 1 ≡ count)
sparse_padded block count = (omega arith, λ h. absurd (omega arith))

-- the first place
pub sparse_start : (h : Header) (long image : ℕ) (x : List ℕ) → SparseOpened h long image x
    → SparsePlace h x (record { block = 0; at = h.file_hdr_sz; chunk = 0; used = 0; ask = 1 })
sparse_start h long image x o =
    let p = parted x h o.chunks o.rest o.is_image in
    record {
      before = [];
      after = o.chunks;
      rest = o.rest;
      is_image = o.is_image;
      ahead = ap (λ (n : ℕ). chunks_at h (length x) 0 0 n (drop h.file_hdr_sz x))
          (let z : h.total_chunks - 0 ≡ h.total_chunks = omega arith in z) ∙ p.chunks;
      chunk = refl;
      block = refl;
      inside = tt;
    }
