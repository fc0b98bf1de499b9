-- The chunk that is at a place of an opened image, and its parts.
use Rattle.std.proofs.Common.{◌≡◌, ℕ, zero, suc, ◌+◌, ◌-◌, ◌*◌, ◌<◌, ◌≤◌, Bool, true, false, IsTrue, ◌&&◌, List, []}
use Rattle.std.proofs.Common.{◌∷◌, ◌++◌, length, take, drop, map, replicate, Option, Some, refl, sym, ap, subst, ◌∙◌}
use Rattle.std.proofs.Common.{arith, inl, inr, ◌==◌, nat_lt, ltb-false, ltb-true, eqb-true, length-drop, length-append}
use Rattle.std.proofs.Common.{append_assoc, not, mul-le-mul_right}
use Rattle.std.specs.List.{AllByRecursion, concat}
use Rattle.std.proofs.lemmas.Bool.{cases_Bool, and_parts}
use Rattle.std.proofs.lemmas.Grind.{flat_map-append}
use Rattle.std.proofs.lemmas.List.{drop-drop, length-map, length-replicate, drop-append-le, take-append-le}
use Rattle.std.proofs.lemmas.List.{take-replicate, drop-take, take-take, take-map, drop-map}
use Rattle.std.proofs.Math.Seq.{drop-append-add, take-add}
use Rattle.abt_sparse.specs.declared.kind.ChunkKind.{ChunkKind}
use Rattle.abt_sparse.specs.declared.kind.ChunkKind.TheVariants as kinds
use Rattle.abt_sparse.specs.declared.chunk_header.ChunkHeader.{ChunkHeader}
use Rattle.abt_sparse.specs.Block.{Block, Raw, Fill, Skip, split}
use Rattle.abt_sparse.specs.Chunk.{Header, Chunk, count, blocks_of, classed}
use Rattle.abt_sparse.specs.Reading.{number_at, kind_at, data_len, counted, chunk_from, ChunkRead, Got, Bad, chunk_at}
use Rattle.abt_sparse.specs.Reading.{ChunksRead, Done, Failed, behind, chunks_at, Image, outcome}
use Rattle.abt_sparse.specs.Fails.{counted_in}
use Rattle.abt_sparse.proofs.Exactly.{chunks-got, chunks-bad}
use Rattle.abt_sparse.proofs.ChunkLaws.{got_made}
use Rattle.abt_runs.specs.Part.{AllOf, IsRaw, PartOf, is_end, raw_of}
use Rattle.abt_runs.specs.Sparse.{SparseOpened, blocks_in, sparse_list, Inside, SparsePlace, raw_blocks}
use Rattle.abt_runs.specs.Sparse.{blocks_together, data_place}
use Rattle.abt_runs.specs.SparseLaws.{length-split', count_is, counted-classed, done_list, done_rest, image_rest}
use Rattle.abt_runs.specs.SparseLaws.{read_through}
use Rattle.abt_runs.specs.Head.{chunk_header_of, head_of_kind, is_raw, HeadFits, has_word, class_of_kind, behind_chunk}
use Rattle.abt_runs.specs.Head.{part_of_chunk}
use Rattle.abt_runs.specs.declared.part.Cursor.{Cursor}
use Rattle.abt_runs.specs.declared.part.Run.{Run}
use Rattle.abt_runs.specs.declared.part.RunKind.TheVariants as classes
use Rattle.abt_runs.proofs.Opened.{number_taken}

-- ---- the chunk at a place

abbrev pub chunk_of : Header → List ℕ → Cursor → ChunkHeader → Chunk
chunk_of h x c k = chunk_from h.blk_sz k.kind k.blocks (drop h.chunk_hdr_sz (take k.total (drop c.at x)))

pub record Standing (h : Header) (x : List ℕ) (image : ℕ) (c : Cursor) (k : ChunkHeader) : Type 0 where
  pub before : List Chunk
  pub after : List Chunk
  pub rest : List ℕ
  pub is_image : outcome x ≡ Image h (before ++ chunk_of h x c k ∷ after) rest
  pub got : chunk_at h (length x) c.chunk (counted_in before) (drop c.at x) ≡ Got (chunk_of h x c k)
      (counted k.kind k.blocks) (drop k.total (drop c.at x))
  pub from_here : chunks_at h (length x) c.chunk (counted_in before) (h.total_chunks - c.chunk) (drop c.at x) ≡ Done
      (chunk_of h x c k ∷ after) rest
  pub ahead : chunks_at h (length x) (c.chunk + 1) (counted_in before + counted k.kind k.blocks)
      (h.total_chunks - (c.chunk + 1)) (drop (c.at + k.total) x) ≡ Done after rest
  pub chunk : c.chunk ≡ length before
  pub block : c.block ≡ counted_in before + c.used
  pub inside : Inside c.used (chunk_of h x c k ∷ after)
  pub fits : HeadFits h image c k
  pub enough : c.at + k.total ≤ length x

head_is : (bytes y : List ℕ) (k : ChunkKind) (n total : ℕ) → bytes ≡ take 12 y → 12 ≤ length y
    → kind_at (number_at 0 2 y) ≡ Some k → number_at 4 4 y ≡ n → number_at 8 4 y ≡ total
    → chunk_header_of bytes ≡ Some (record { kind = k; blocks = n; total = total })
head_is bytes y k n total is long kind blocks all =
    let a : number_at 0 2 bytes ≡ number_at 0 2 y = sym (number_taken 0 2 12 bytes y is long (omega arith)) in
    let b : number_at 4 4 bytes ≡ n = sym (number_taken 4 4 12 bytes y is long (omega arith)) ∙ blocks in
    let t : number_at 8 4 bytes ≡ total = sym (number_taken 8 4 12 bytes y is long (omega arith)) ∙ all in
    ap (λ (o : Option ChunkKind). head_of_kind o bytes) (ap kind_at a ∙ kind) ∙ (rw (b, t) refl)

pub going_on : (b : ℕ) (k : ChunkKind) (n used : ℕ) (d : List ℕ) (cs : List Chunk)
    → Inside used (chunk_from b k n d ∷ cs) → 0 < used → (k ≡ kinds.Raw) × (used < n)
going_on b k n zero d cs h some = absurd (omega arith)
going_on b kinds.Raw n (suc u) d cs h some = (refl, omega (arith, h, length-split' b n d))
going_on b kinds.Fill n (suc u) d cs h some = absurd h
going_on b kinds.Skip n (suc u) d cs h some = absurd h
going_on b kinds.Crc n (suc u) d cs h some = absurd h

-- the chunk ch is there, and the chunks ds after it
stand_on : (h : Header) (long image : ℕ) (x bytes : List ℕ) (c : Cursor) → SparseOpened h long image x
    → (p : SparsePlace h x c) → bytes ≡ take 12 (drop c.at x)
    → (left : ℕ) → left ≡ h.total_chunks - (c.chunk + 1) → (ch : Chunk) (m : ℕ) (next : List ℕ)
    → chunk_at h (length x) c.chunk (counted_in p.before) (drop c.at x) ≡ Got ch m next
    → (ds : List Chunk) (end : List ℕ)
    → chunks_at h (length x) (c.chunk + 1) (counted_in p.before + m) left next ≡ Done ds end
    → Done (ch ∷ ds) end ≡ Done p.after p.rest
    → (k : ChunkHeader) × (chunk_header_of bytes ≡ Some k) × Standing h x image c k
stand_on h long image x bytes c o p is left left_is ch m next r ds end s g =
    let y = drop c.at x in
    let made = got_made h (length x) c.chunk (counted_in p.before) y ch m next r in
    let good = made.good in
    let list : ch ∷ ds ≡ p.after = done_list g in
    let tail : end ≡ p.rest = done_rest g in
    let k : ChunkHeader = record { kind = made.k; blocks = made.n; total = made.total } in
    let ch_is : chunk_of h x c k ≡ ch = ap (λ (d : List ℕ). chunk_from h.blk_sz made.k made.n d) good.data_is
    ∙ made.c_is in
    let at : drop made.total y ≡ drop (c.at + made.total) x = drop-drop made.total c.at x in
    let next_is : next ≡ drop (c.at + made.total) x = sym good.rest_is ∙ at in
    let same_rest : o.rest ≡ p.rest = image_rest (sym o.is_image ∙ p.is_image) in
    let y_long : length y ≡ length x - c.at = length-drop c.at x in
    let within : c.at + made.total ≤ length x = omega (arith, good.whole, y_long, good.long) in
    let short : length end ≤ length next =
    omega (arith, (read_through h (length x) left (c.chunk + 1) (counted_in p.before + m) next ds end s).long) in
    let next_long : length next ≡ length x - (c.at + made.total) = ap length next_is
    ∙ length-drop (c.at + made.total) x in
    let here : Inside c.used (chunk_of h x c k ∷ ds) =
    subst (λ (d : Chunk). Inside c.used (d ∷ ds)) (sym ch_is) (subst (λ (cs : List Chunk). Inside c.used cs)
    (sym list) p.inside) in (
      k,
      head_is bytes y made.k made.n made.total is good.long good.kind_is good.blocks_is good.total_is,
      record {
        before = p.before;
        after = ds;
        rest = p.rest;
        is_image = p.is_image ∙ ap (λ (cs : List Chunk). Image h (p.before ++ cs) p.rest) (sym list)
            ∙ ap (λ (d : Chunk). Image h (p.before ++ d ∷ ds) p.rest) (sym ch_is);
        got = r ∙ ap (λ (d : Chunk). Got d m next) (sym ch_is)
            ∙ ap (λ (n : ℕ). Got (chunk_of h x c k) n next) (sym made.m_is)
            ∙ ap (λ (l : List ℕ). Got (chunk_of h x c k) (counted made.k made.n) l) (sym good.rest_is);
        from_here = p.ahead ∙ ap (λ (cs : List Chunk). Done cs p.rest) (sym list)
            ∙ ap (λ (d : Chunk). Done (d ∷ ds) p.rest) (sym ch_is);
        ahead = ap (λ (n : ℕ). chunks_at h (length x) (c.chunk + 1) (counted_in p.before + counted made.k made.n) n
            (drop (c.at + made.total) x)) (sym left_is)
            ∙ ap (λ (n : ℕ). chunks_at h (length x) (c.chunk + 1) (counted_in p.before + n) left
            (drop (c.at + made.total) x)) made.m_is
            ∙ ap (λ (l : List ℕ). chunks_at h (length x) (c.chunk + 1) (counted_in p.before + m) left l) (sym next_is)
            ∙ s ∙ ap (λ (l : List ℕ). Done ds l) tail;
        chunk = p.chunk;
        block = p.block;
        inside = here;
        fits = record {
          total = good.total_right;
          counted = omega (arith, good.room, p.block);
          whole = omega (arith, short, next_long, o.image_is, ap length same_rest, ap length tail, within);
          going = going_on h.blk_sz made.k made.n c.used (drop h.chunk_hdr_sz (take made.total y)) ds here;
        };
        enough = within;
      },
    )

-- a place before the last chunk's end is in a chunk whose header is as it was found
pub standing : (h : Header) (long image : ℕ) (x bytes : List ℕ) (c : Cursor) → SparseOpened h long image x
    → SparsePlace h x c → c.chunk < h.total_chunks → bytes ≡ take 12 (drop c.at x)
    → (k : ChunkHeader) × (chunk_header_of bytes ≡ Some k) × Standing h x image c k
standing h long image x bytes c o p lt is =
    let left = h.total_chunks - (c.chunk + 1) in
    let more : h.total_chunks - c.chunk ≡ suc left = omega arith in
    let all : chunks_at h (length x) c.chunk (counted_in p.before) (suc left) (drop c.at x) ≡ Done p.after p.rest =
    ap (λ (n : ℕ). chunks_at h (length x) c.chunk (counted_in p.before) n (drop c.at x)) (sym more) ∙ p.ahead in
    step left refl all (chunk_at h (length x) c.chunk (counted_in p.before) (drop c.at x)) refl
  where
    inner : (left : ℕ) → left ≡ h.total_chunks - (c.chunk + 1)
        → chunks_at h (length x) c.chunk (counted_in p.before) (suc left) (drop c.at x) ≡ Done p.after p.rest
        → (ch : Chunk) (m : ℕ) (next : List ℕ)
        → chunk_at h (length x) c.chunk (counted_in p.before) (drop c.at x) ≡ Got ch m next
        → (s : ChunksRead) → chunks_at h (length x) (c.chunk + 1) (counted_in p.before + m) left next ≡ s
        → (k : ChunkHeader) × (chunk_header_of bytes ≡ Some k) × Standing h x image c k
    inner left left_is all ch m next r (Failed f ds came) s =
        absurd (let g : Failed f (ch ∷ ds) came ≡ Done p.after p.rest = ap (λ (t : ChunksRead). behind ch t) (sym s)
        ∙ sym (chunks-got h (length x) c.chunk (counted_in p.before) left (drop c.at x) ch m next r) ∙ all in cc)
    inner left left_is all ch m next r (Done ds end) s =
        let g : Done (ch ∷ ds) end ≡ Done p.after p.rest = ap (λ (t : ChunksRead). behind ch t) (sym s)
        ∙ sym (chunks-got h (length x) c.chunk (counted_in p.before) left (drop c.at x) ch m next r) ∙ all in
        stand_on h long image x bytes c o p is left left_is ch m next r ds end s g

    step : (left : ℕ) → left ≡ h.total_chunks - (c.chunk + 1)
        → chunks_at h (length x) c.chunk (counted_in p.before) (suc left) (drop c.at x) ≡ Done p.after p.rest
        → (r : ChunkRead) → chunk_at h (length x) c.chunk (counted_in p.before) (drop c.at x) ≡ r → (k : ChunkHeader)
        × (chunk_header_of bytes ≡ Some k) × Standing h x image c k
    step left left_is all (Bad f came) r =
        absurd (let g : Failed f [] came ≡ Done p.after p.rest = sym
        (chunks-bad h (length x) c.chunk (counted_in p.before) left (drop c.at x) f came r) ∙ all in cc)
    step left left_is all (Got ch m next) r =
        inner left left_is all ch m next r (chunks_at h (length x) (c.chunk + 1) (counted_in p.before + m) left next)
        refl

heads_are : {a b : ChunkHeader} → Some a ≡ Some b → a ≡ b
heads_are {a} {b} e = cc

-- and it is the chunk whose header was read
pub standing_as : (h : Header) (long image : ℕ) (x bytes : List ℕ) (c : Cursor) (k : ChunkHeader)
    → SparseOpened h long image x → SparsePlace h x c → c.chunk < h.total_chunks → bytes ≡ take 12 (drop c.at x)
    → chunk_header_of bytes ≡ Some k → Standing h x image c k
standing_as h long image x bytes c k o p lt is read =
    let s = standing h long image x bytes c o p lt is in
    subst (λ (j : ChunkHeader). Standing h x image c j) (heads_are (sym s.1 ∙ read)) s.2

-- ---- the last place

no_more : (h : Header) (size i have : ℕ) (y : List ℕ) (cs : List Chunk) (rest : List ℕ)
    → chunks_at h size i have 0 y ≡ Done cs rest → [] ≡ cs
unfolding chunks_at
no_more h size i have y cs rest e = elim (cases_Bool (have == h.total_blks)) [
  | inl t ↦ done_list (let f : Done [] y ≡ Done cs rest = rw (t, chunks_at) at e in f)
  | inr t ↦ absurd (let f : Failed _ [] [] ≡ Done cs rest = rw (t, chunks_at) at e in cc)
]

none_inside : (n : ℕ) (cs : List Chunk) → [] ≡ cs → Inside n cs → n ≡ 0
none_inside zero cs e h = refl
none_inside (suc n) cs e h = absurd (subst (λ (ds : List Chunk). Inside (suc n) ds) (sym e) h)

-- after the last chunk all blocks are passed
pub at_last : (h : Header) (x : List ℕ) (c : Cursor) → SparsePlace h x c → c.chunk ≡ h.total_chunks
    → c.block ≡ h.total_blks
at_last h x c p last =
    let z : h.total_chunks - c.chunk ≡ 0 = omega arith in
    let e : chunks_at h (length x) c.chunk (counted_in p.before) 0 (drop c.at x) ≡ Done p.after p.rest =
    ap (λ (n : ℕ). chunks_at h (length x) c.chunk (counted_in p.before) n (drop c.at x)) (sym z) ∙ p.ahead in
    let t = read_through h (length x) 0 c.chunk (counted_in p.before) (drop c.at x) p.after p.rest e in
    let none = no_more h (length x) c.chunk (counted_in p.before) (drop c.at x) p.after p.rest e in
    let used : c.used ≡ 0 = none_inside c.used p.after none p.inside in
    let left : counted_in p.after ≡ 0 = ap counted_in (sym none) in
    omega (arith, p.block, t.total, used, left)

pub not_telling : (b : Bool) → (IsTrue b → ⊥) → b ≡ false
not_telling true h = absurd (h refl)
not_telling false h = refl

-- ---- a part, case by case

pub data Parts (k : ChunkHeader) (word : List ℕ) (c : Cursor) (cap : ℕ) : Run → Type 0 where
  passes : counted k.kind k.blocks ≤ c.used
      → Parts k word c cap (record {
        kind = classes.Skip;
        blocks = 0;
        here = behind_chunk k c;
        next = behind_chunk k c;
      })
  stops : k.kind ≡ kinds.Raw → c.used + cap < k.blocks
      → Parts k word c cap (record {
        kind = classes.Raw;
        blocks = cap;
        here = c;
        next = record c { block = c.block + cap; used = c.used + cap };
      })
  ends : c.used < counted k.kind k.blocks → (k.kind ≡ kinds.Raw → counted k.kind k.blocks - c.used ≤ cap)
      → Parts k word c cap (record {
        kind = class_of_kind k.kind word;
        blocks = counted k.kind k.blocks - c.used;
        here = c;
        next = behind_chunk k c;
      })

raw_is : (k : ChunkKind) → is_raw k ≡ true → k ≡ kinds.Raw
raw_is kinds.Raw e = refl
raw_is kinds.Fill e = absurd cc
raw_is kinds.Skip e = absurd cc
raw_is kinds.Crc e = absurd cc

pub raw_counts : (k : ChunkKind) (n : ℕ) → k ≡ kinds.Raw → counted k n ≡ n
raw_counts k n e = ap (λ (j : ChunkKind). counted j n) e

raw_few : (k : ChunkKind) (cap left : ℕ) → (is_raw k && nat_lt cap left) ≡ false → k ≡ kinds.Raw → left ≤ cap
raw_few kinds.Raw cap left e h = ltb-false cap left e
raw_few kinds.Fill cap left e h = absurd cc
raw_few kinds.Skip cap left e h = absurd cc
raw_few kinds.Crc cap left e h = absurd cc

pub left_some : (n : ℕ) → (n == 0) ≡ false → 0 < n
left_some zero h = absurd cc
left_some (suc n) h = omega arith

pub parts : (k : ChunkHeader) (word : List ℕ) (c : Cursor) (cap : ℕ) → Parts k word c cap (part_of_chunk k word c cap)
parts k word c cap =
    let left = counted k.kind k.blocks - c.used in
    elim (cases_Bool (left == 0)) [
      | inl z ↦ let none : left ≡ 0 = eqb-true left 0 z in rw z (passes (omega arith))
      | inr z ↦ let some : 0 < left = left_some left z in elim (cases_Bool (is_raw k.kind && nat_lt cap left)) [
        | inl s ↦
            let p = and_parts (is_raw k.kind) (nat_lt cap left) s in
            let raw = raw_is k.kind p.0 in
            let less : cap < left = ltb-true cap left p.1 in
            rw (z, s) (stops raw (omega (arith, raw_counts k.kind k.blocks raw)))
        | inr s ↦ rw (z, s) (ends (omega arith) (raw_few k.kind cap left s))
      ]
    ]

-- ---- the blocks of the part

blocks_long : (b : ℕ) (k : ChunkKind) (n : ℕ) (d : List ℕ) → length (blocks_of (chunk_from b k n d)) ≡ counted k n
blocks_long b kinds.Raw n d = length-map (split b n d) (λ x. Raw x) ∙ length-split' b n d
blocks_long b kinds.Fill n d = length-replicate n (Fill d)
blocks_long b kinds.Skip n d = length-replicate n Skip
blocks_long b kinds.Crc n d = refl

list_is : (h : Header) (x : List ℕ) (image : ℕ) (c : Cursor) (k : ChunkHeader) (s : Standing h x image c k)
    → sparse_list x ≡ classed s.before ++ (blocks_of (chunk_of h x c k) ++ classed s.after)
list_is h x image c k s = ap blocks_in s.is_image ∙ flat_map-append blocks_of s.before (chunk_of h x c k ∷ s.after)

pub list_long : (h : Header) (x : List ℕ) (image : ℕ) (c : Cursor) (k : ChunkHeader) (m : ℕ) → Standing h x image c k
    → c.used + m ≤ counted k.kind k.blocks → c.block + m ≤ length (sparse_list x)
list_long h x image c k m s le =
    omega (
      arith,
      ap length (list_is h x image c k s),
      length-append (classed s.before) (blocks_of (chunk_of h x c k)
          ++ classed s.after),
      length-append (blocks_of (chunk_of h x c k)) (classed s.after),
      blocks_long h.blk_sz k.kind k.blocks (drop h.chunk_hdr_sz (take k.total (drop c.at x))),
      counted-classed s.before,
      s.block,
    )

pub list_front : (h : Header) (x : List ℕ) (image : ℕ) (c : Cursor) (k : ChunkHeader) (m : ℕ) → Standing h x image c k
    → c.used + m ≤ counted k.kind k.blocks
    → take m (drop c.block (sparse_list x)) ≡ take m (drop c.used (blocks_of (chunk_of h x c k)))
list_front h x image c k m s le =
    let mine = blocks_of (chunk_of h x c k) in
    let long : length mine ≡ counted k.kind k.blocks =
    blocks_long h.blk_sz k.kind k.blocks (drop h.chunk_hdr_sz (take k.total (drop c.at x))) in
    let at : c.block ≡ length (classed s.before) + c.used = omega (arith, s.block, counted-classed s.before) in
    ap (λ (l : List Block). take m (drop c.block l)) (list_is h x image c k s)
    ∙ ap (λ (n : ℕ). take m (drop n (classed s.before ++ (mine ++ classed s.after)))) at
    ∙ ap (λ (l : List Block). take m l) (drop-append-add (classed s.before) (mine ++ classed s.after) c.used)
    ∙ ap (λ (l : List Block). take m l) (drop-append-le c.used mine (classed s.after) (omega (arith, long)))
    ∙ take-append-le m (drop c.used mine) (classed s.after) (omega (arith, long, length-drop c.used mine))

raws_all : (xs : List (List ℕ)) → AllByRecursion IsRaw (map (λ x. Raw x) xs)
raws_all [] = tt
raws_all (x ∷ xs) = (tt, raws_all xs)

raws_drop : (q : ℕ) (xs : List Block) → AllByRecursion IsRaw xs → AllByRecursion IsRaw (drop q xs)
raws_drop zero xs h = h
raws_drop (suc q) [] h = tt
raws_drop (suc q) (x ∷ xs) h = raws_drop q xs h.1

raws_take : (q : ℕ) (xs : List Block) → AllByRecursion IsRaw xs → AllByRecursion IsRaw (take q xs)
raws_take zero xs h = tt
raws_take (suc q) [] h = tt
raws_take (suc q) (x ∷ xs) h = (h.0, raws_take q xs h.1)

reps_front : (n u m : ℕ) (y : Block) → u + m ≤ n → take m (drop u (replicate n y)) ≡ replicate m y
reps_front n zero m y le = take-replicate m n y (omega arith)
reps_front zero (suc u) m y le = absurd (omega arith)
reps_front (suc n) (suc u) m y le = reps_front n u m y (omega arith)

same_reps : (xs : List Block) (m : ℕ) (y z : Block) → xs ≡ replicate m y → y ≡ z → xs ≡ replicate (length xs) z
same_reps xs m y z e same = e ∙ ap (λ (n : ℕ). replicate n y) (sym (length-replicate m y) ∙ sym (ap length e))
    ∙ ap (λ (w : Block). replicate (length xs) w) same

some_word : (n : ℕ) → 0 < n → not (n == 0) ≡ true
some_word zero some = absurd (omega arith)
some_word (suc n) some = elim (cases_Bool (suc n == 0)) [
  | inl z ↦ absurd (let e = eqb-true (suc n) 0 z in omega arith)
  | inr z ↦ rw z refl
]

pub all_of_chunk : (b : ℕ) (k : ChunkKind) (n : ℕ) (d word : List ℕ) (u m : ℕ) → (has_word k n ≡ true → word ≡ d)
    → 0 < m → u + m ≤ counted k n → AllOf (class_of_kind k word) (take m (drop u (blocks_of (chunk_from b k n d))))
all_of_chunk b kinds.Raw n d word u m same some le =
    raws_take m (drop u (map (λ x. Raw x) (split b n d))) (raws_drop u (map (λ x. Raw x) (split b n d))
    (raws_all (split b n d)))
all_of_chunk b kinds.Fill n d word u m same some le =
    same_reps (take m (drop u (replicate n (Fill d)))) m (Fill d) (Fill word) (reps_front n u m (Fill d) le)
    (ap Fill (sym (same (some_word n (omega arith)))))
all_of_chunk b kinds.Skip n d word u m same some le =
    same_reps (take m (drop u (replicate n Skip))) m Skip Skip (reps_front n u m Skip le) refl
all_of_chunk b kinds.Crc n d word u m same some le = absurd (omega arith)

-- what the word is
pub word_of_chunk : (h : Header) (x : List ℕ) (c : Cursor) (k : ChunkHeader) → k.kind ≡ kinds.Fill
    → k.total ≡ h.chunk_hdr_sz + data_len h.blk_sz k.kind k.blocks
    → drop h.chunk_hdr_sz (take k.total (drop c.at x)) ≡ take 4 (drop (c.at + h.chunk_hdr_sz) x)
word_of_chunk h x c k e right =
    let all : k.total ≡ h.chunk_hdr_sz + 4 =
    right ∙ ap (λ (j : ChunkKind). h.chunk_hdr_sz + data_len h.blk_sz j k.blocks) e in
    ap (λ (n : ℕ). drop h.chunk_hdr_sz (take n (drop c.at x))) all ∙ drop-take h.chunk_hdr_sz 4 (drop c.at x)
    ∙ ap (λ (l : List ℕ). take 4 l) (drop-drop h.chunk_hdr_sz c.at x)

pub fill_is : (k : ChunkKind) (n : ℕ) → has_word k n ≡ true → k ≡ kinds.Fill
fill_is kinds.Raw n e = absurd cc
fill_is kinds.Fill n e = refl
fill_is kinds.Skip n e = absurd cc
fill_is kinds.Crc n e = absurd cc

-- a chunk of which nothing is left has no blocks
pub none_left : (h : Header) (image : ℕ) (c : Cursor) (k : ChunkHeader) → HeadFits h image c k
    → counted k.kind k.blocks ≤ c.used → (c.used ≡ 0) × (counted k.kind k.blocks ≡ 0)
none_left h image c k f le = elim (cases_Bool (c.used == 0)) [
  | inl z ↦ let n = eqb-true c.used 0 z in (n, omega arith)
  | inr z ↦ let g = f.going (left_some c.used z) in absurd (omega (arith, g.1, raw_counts k.kind k.blocks g.0))
]

no_end : (k : ChunkKind) (word : List ℕ) → is_end (class_of_kind k word) ≡ false
no_end kinds.Raw word = refl
no_end kinds.Fill word = refl
no_end kinds.Skip word = refl
no_end kinds.Crc word = refl

never : (b : Bool) (n m : ℕ) → b ≡ false → IsTrue b → n ≡ m
never b n m e h = absurd cc

pub part_is : (h : Header) (x : List ℕ) (image : ℕ) (c : Cursor) (k : ChunkHeader) (word : List ℕ) (cap : ℕ) (r : Run)
    → Standing h x image c k → c.used ≤ c.block → 0 < cap
    → (has_word k.kind k.blocks ≡ true → word ≡ take 4 (drop (c.at + h.chunk_hdr_sz) x)) → Parts k word c cap r
    → PartOf (sparse_list x) c.block r
part_is h x image c k word cap _ s used some same (passes none) =
    let n = none_left h image c k s.fits none in
    record {
      within = list_long h x image c k 0 s (omega (arith, n.0, n.1));
      next = omega (arith, n.0, n.1);
      all = refl;
      ended = never _ _ _ refl;
    }
part_is h x image c k word cap _ s used some same (stops raw less) =
    let few : c.used + cap ≤ counted k.kind k.blocks = omega (arith, raw_counts k.kind k.blocks raw) in
    record {
      within = list_long h x image c k cap s few;
      next = refl;
      all = subst (λ (l : List Block). AllOf classes.Raw l) (sym (list_front h x image c k cap s few))
          (subst (λ (j : ChunkKind). AllOf (class_of_kind j word)
          (take cap (drop c.used (blocks_of (chunk_of h x c k))))) raw
          (all_of_chunk h.blk_sz k.kind k.blocks (drop h.chunk_hdr_sz (take k.total (drop c.at x))) word c.used cap
          (λ e. same e ∙ sym (word_of_chunk h x c k (fill_is k.kind k.blocks e) s.fits.total)) some few));
      ended = never _ _ _ refl;
    }
part_is h x image c k word cap _ s used some same (ends more few) =
    let m = counted k.kind k.blocks - c.used in
    let le : c.used + m ≤ counted k.kind k.blocks = omega arith in
    record {
      within = list_long h x image c k m s le;
      next = omega arith;
      all = subst (λ (l : List Block). AllOf (class_of_kind k.kind word) l) (sym (list_front h x image c k m s le))
          (all_of_chunk h.blk_sz k.kind k.blocks (drop h.chunk_hdr_sz (take k.total (drop c.at x))) word c.used m
          (λ e. same e ∙ sym (word_of_chunk h x c k (fill_is k.kind k.blocks e) s.fits.total)) (omega arith) le);
      ended = never _ _ _ (no_end k.kind word);
    }

-- ---- the places

counted-snoc : (cs : List Chunk) (d : Chunk) → counted_in (cs ++ d ∷ []) ≡ counted_in cs + count d
counted-snoc [] d = omega arith
counted-snoc (c ∷ cs) d = omega (arith, counted-snoc cs d)

behind_place : (h : Header) (x : List ℕ) (image : ℕ) (c : Cursor) (k : ChunkHeader) → Standing h x image c k
    → SparsePlace h x (behind_chunk k c)
behind_place h x image c k s =
    let d = chunk_of h x c k in
    let total : counted_in (s.before ++ d ∷ []) ≡ counted_in s.before + counted k.kind k.blocks =
    counted-snoc s.before d
    ∙ ap (λ (n : ℕ). counted_in s.before + n)
    (count_is h.blk_sz k.kind k.blocks (drop h.chunk_hdr_sz (take k.total (drop c.at x)))) in
    record {
      before = s.before ++ d ∷ [];
      after = s.after;
      rest = s.rest;
      is_image = s.is_image
          ∙ ap (λ (cs : List Chunk). Image h cs s.rest) (sym (append_assoc s.before (d ∷ []) s.after));
      ahead = ap (λ (n : ℕ). chunks_at h (length x) (c.chunk + 1) n (h.total_chunks - (c.chunk + 1))
          (drop (c.at + k.total) x)) total ∙ s.ahead;
      chunk = omega (arith, s.chunk, length-append s.before (d ∷ []));
      block = omega (arith, s.block, total);
      inside = tt;
    }

inside_more : (b : ℕ) (k : ChunkKind) (n : ℕ) (d : List ℕ) (cs : List Chunk) (m : ℕ) → k ≡ kinds.Raw → m < n
    → Inside m (chunk_from b k n d ∷ cs)
inside_more b k n d cs zero e lt = tt
inside_more b kinds.Raw n d cs (suc u) e lt = omega (arith, length-split' b n d)
inside_more b kinds.Fill n d cs (suc u) e lt = absurd cc
inside_more b kinds.Skip n d cs (suc u) e lt = absurd cc
inside_more b kinds.Crc n d cs (suc u) e lt = absurd cc

pub next_place : (h : Header) (x : List ℕ) (image : ℕ) (c : Cursor) (k : ChunkHeader) (word : List ℕ) (cap : ℕ)
    (r : Run) → Standing h x image c k → Parts k word c cap r → SparsePlace h x r.next
next_place h x image c k word cap _ s (passes none) = behind_place h x image c k s
next_place h x image c k word cap _ s (stops raw less) = record {
  before = s.before;
  after = chunk_of h x c k ∷ s.after;
  rest = s.rest;
  is_image = s.is_image;
  ahead = s.from_here;
  chunk = s.chunk;
  block = omega (arith, s.block);
  inside = inside_more h.blk_sz k.kind k.blocks (drop h.chunk_hdr_sz (take k.total (drop c.at x))) s.after
      (c.used + cap) raw less;
}
next_place h x image c k word cap _ s (ends some few) = behind_place h x image c k s

pub here_place : (h : Header) (x : List ℕ) (image : ℕ) (c : Cursor) (k : ChunkHeader) (word : List ℕ) (cap : ℕ)
    (r : Run) → Standing h x image c k → SparsePlace h x c → Parts k word c cap r → SparsePlace h x r.here
here_place h x image c k word cap _ s p (passes none) = behind_place h x image c k s
here_place h x image c k word cap _ s p (stops raw less) = p
here_place h x image c k word cap _ s p (ends some few) = p

raw_length : (b : ℕ) (k : ChunkKind) (n : ℕ) (d : List ℕ) (m : ℕ) (rest : List ℕ) → k ≡ kinds.Raw
    → raw_blocks (Got (chunk_from b k n d) m rest) ≡ n
raw_length b kinds.Raw n d m rest e = length-split' b n d
raw_length b kinds.Fill n d m rest e = absurd cc
raw_length b kinds.Skip n d m rest e = absurd cc
raw_length b kinds.Crc n d m rest e = absurd cc

pub together_is : (h : Header) (x : List ℕ) (image : ℕ) (c : Cursor) (k : ChunkHeader) → Standing h x image c k
    → k.kind ≡ kinds.Raw → blocks_together h x c ≡ k.blocks - c.used
together_is h x image c k s raw =
    let had : c.block - c.used ≡ counted_in s.before = omega (arith, s.block) in
    ap (λ (n : ℕ). raw_blocks (chunk_at h (length x) c.chunk n (drop c.at x)) - c.used) had
    ∙ ap (λ (g : ChunkRead). raw_blocks g - c.used) s.got
    ∙ ap (λ (n : ℕ). n - c.used)
    (raw_length h.blk_sz k.kind k.blocks (drop h.chunk_hdr_sz (take k.total (drop c.at x)))
    (counted k.kind k.blocks) (drop k.total (drop c.at x)) raw)

pub class_raw : (k : ChunkKind) (word : List ℕ) → class_of_kind k word ≡ classes.Raw → k ≡ kinds.Raw
class_raw kinds.Raw word e = refl
class_raw kinds.Fill word e = absurd cc
class_raw kinds.Skip word e = absurd cc
class_raw kinds.Crc word e = absurd cc

pub stand_together : (h : Header) (x : List ℕ) (image : ℕ) (c : Cursor) (k : ChunkHeader) (word : List ℕ) (cap : ℕ)
    (r : Run) → Standing h x image c k → Parts k word c cap r → r.kind ≡ classes.Raw
    → r.blocks ≤ blocks_together h x r.here
stand_together h x image c k word cap _ s (passes none) e = absurd cc
stand_together h x image c k word cap _ s (stops raw less) e = omega (arith, together_is h x image c k s raw)
stand_together h x image c k word cap _ s (ends some few) e =
    let raw = class_raw k.kind word e in
    omega (arith, together_is h x image c k s raw, raw_counts k.kind k.blocks raw)

-- ---- the bytes of raw blocks

raw_map : (xs : List (List ℕ)) → raw_of (map (λ x. Raw x) xs) ≡ concat xs
raw_map [] = refl
raw_map (x ∷ xs) = ap (λ (l : List ℕ). x ++ l) (raw_map xs)

split_front : (b u q n : ℕ) (d : List ℕ) → u + q ≤ n
    → concat (take q (drop u (split b n d))) ≡ take (q * b) (drop (u * b) d)
split_front b zero zero n d le = ap (λ (k : ℕ). take k (drop (0 * b) d)) (let z : 0 ≡ 0 * b = omega arith in z)
split_front b zero (suc q) zero d le = absurd (omega arith)
split_front b zero (suc q) (suc n) d le =
    let none : 0 * b ≡ 0 = omega arith in
    let ih : concat (take q (split b n (drop b d))) ≡ take (q * b) (drop (0 * b) (drop b d)) =
    split_front b zero q n (drop b d) (omega arith) in
    ap (λ (l : List ℕ). take b d ++ l) (ih ∙ ap (λ (k : ℕ). take (q * b) (drop k (drop b d))) none)
    ∙ sym (take-add b (q * b) d)
    ∙ ap (λ (k : ℕ). take k d) (let z : b + q * b ≡ suc q * b = omega arith in z)
    ∙ ap (λ (k : ℕ). take (suc q * b) (drop k d)) (sym none)
split_front b (suc u) q zero d le = absurd (omega arith)
split_front b (suc u) q (suc n) d le =
    split_front b u q n (drop b d) (omega arith)
    ∙ ap (λ (l : List ℕ). take (q * b) l) (drop-drop (u * b) b d
    ∙ ap (λ (k : ℕ). drop k d) (let z : b + u * b ≡ suc u * b = omega arith in z))

raw_front : (b : ℕ) (k : ChunkKind) (n u q : ℕ) (d : List ℕ) → k ≡ kinds.Raw → u + q ≤ n
    → raw_of (take q (drop u (blocks_of (chunk_from b k n d)))) ≡ take (q * b) (drop (u * b) d)
raw_front b kinds.Raw n u q d e le =
    ap (λ (l : List Block). raw_of (take q l)) (drop-map (λ x. Raw x) u (split b n d))
    ∙ ap raw_of (take-map (λ x. Raw x) q (drop u (split b n d))) ∙ raw_map (take q (drop u (split b n d)))
    ∙ split_front b u q n d le
raw_front b kinds.Fill n u q d e le = absurd cc
raw_front b kinds.Skip n u q d e le = absurd cc
raw_front b kinds.Crc n u q d e le = absurd cc

take_drop_take : (n at k : ℕ) (z : List ℕ) → at + n ≤ k → take n (drop at (take k z)) ≡ take n (drop at z)
take_drop_take n at k z le =
    ap (λ (j : ℕ). take n (drop at (take j z))) (let e : k ≡ at + (k - at) = omega arith in e)
    ∙ ap (λ (l : List ℕ). take n l) (drop-take at (k - at) z)
    ∙ take-take n (k - at) (drop at z) (omega arith)

-- bytes of the raw blocks at a place, as bytes of the source
pub raw_bytes_at : (h : Header) (x : List ℕ) (image : ℕ) (c : Cursor) (k : ChunkHeader) (q at n : ℕ)
    → Standing h x image c k → k.kind ≡ kinds.Raw → c.used + q ≤ k.blocks → at + n ≤ q * h.blk_sz
    → take n (drop at (raw_of (take q (drop c.block (sparse_list x))))) ≡ take n
    (drop (c.at + h.chunk_hdr_sz + c.used * h.blk_sz + at) x)
raw_bytes_at h x image c k q at n s raw le fits =
    let b = h.blk_sz in
    let d = drop h.chunk_hdr_sz (take k.total (drop c.at x)) in
    let all : k.total ≡ h.chunk_hdr_sz + k.blocks * b =
    s.fits.total ∙ ap (λ (j : ChunkKind). h.chunk_hdr_sz + data_len b j k.blocks) raw in
    let most : (c.used + q) * b ≤ k.blocks * b = mul-le-mul_right b le in
    let both : (c.used + q) * b ≡ c.used * b + q * b = omega arith in
    let bytes_are : d ≡ take (k.blocks * b) (drop (c.at + h.chunk_hdr_sz) x) =
    ap (λ (m : ℕ). drop h.chunk_hdr_sz (take m (drop c.at x))) all
    ∙ drop-take h.chunk_hdr_sz (k.blocks * b) (drop c.at x)
    ∙ ap (λ (l : List ℕ). take (k.blocks * b) l) (drop-drop h.chunk_hdr_sz c.at x) in
    ap (λ (l : List Block). take n (drop at (raw_of l)))
    (list_front h x image c k q s (omega (arith, raw_counts k.kind k.blocks raw)))
    ∙ ap (λ (l : List ℕ). take n (drop at l)) (raw_front b k.kind k.blocks c.used q d raw le)
    ∙ take_drop_take n at (q * b) (drop (c.used * b) d) fits
    ∙ ap (λ (l : List ℕ). take n l) (drop-drop at (c.used * b) d)
    ∙ ap (λ (l : List ℕ). take n (drop (c.used * b + at) l)) bytes_are
    ∙ take_drop_take n (c.used * b + at) (k.blocks * b) (drop (c.at + h.chunk_hdr_sz) x)
    (omega (arith, most, both, fits))
    ∙ ap (λ (l : List ℕ). take n l) (drop-drop (c.used * b + at) (c.at + h.chunk_hdr_sz) x)
    ∙ ap (λ (m : ℕ). take n (drop m x)) (let z : c.at + h.chunk_hdr_sz + (c.used * b + at) ≡ c.at + h.chunk_hdr_sz
    + c.used * b + at = omega arith in z)

not_raw : (b : ℕ) (k : ChunkKind) (n : ℕ) (d : List ℕ) (m : ℕ) (rest : List ℕ)
    → 0 < raw_blocks (Got (chunk_from b k n d) m rest) → k ≡ kinds.Raw
not_raw b kinds.Raw n d m rest some = refl
not_raw b kinds.Fill n d m rest some = absurd (omega arith)
not_raw b kinds.Skip n d m rest some = absurd (omega arith)
not_raw b kinds.Crc n d m rest some = absurd (omega arith)

rest_is : (h : Header) (size i have : ℕ) (y : List ℕ) (cs : List Chunk) (rest : List ℕ)
    → chunks_at h size i have 0 y ≡ Done cs rest → y ≡ rest
unfolding chunks_at
rest_is h size i have y cs rest e = elim (cases_Bool (have == h.total_blks)) [
  | inl t ↦ done_rest (let f : Done [] y ≡ Done cs rest = rw (t, chunks_at) at e in f)
  | inr t ↦ absurd (let f : Failed _ [] [] ≡ Done cs rest = rw (t, chunks_at) at e in cc)
]

-- the place after the last chunk is the image's end
end_at : (h : Header) (long image : ℕ) (x : List ℕ) (c : Cursor) → SparseOpened h long image x → SparsePlace h x c
    → h.total_chunks ≤ c.chunk → image ≤ c.at
end_at h long image x c o p last =
    let z : h.total_chunks - c.chunk ≡ 0 = omega arith in
    let e : chunks_at h (length x) c.chunk (counted_in p.before) 0 (drop c.at x) ≡ Done p.after p.rest =
    ap (λ (n : ℕ). chunks_at h (length x) c.chunk (counted_in p.before) n (drop c.at x)) (sym z) ∙ p.ahead in
    let tail = rest_is h (length x) c.chunk (counted_in p.before) (drop c.at x) p.after p.rest e in
    let same : o.rest ≡ p.rest = image_rest (sym o.is_image ∙ p.is_image) in
    omega (arith, o.image_is, ap length tail, ap length same, length-drop c.at x)

-- what a copy gives
pub copied : (h : Header) (long image : ℕ) (x : List ℕ) (c : Cursor) (q at n : ℕ) → SparseOpened h long image x
    → SparsePlace h x c → q ≤ blocks_together h x c → at + n ≤ q * h.blk_sz → at + n ≤ image - data_place h c
    → take n (drop at (raw_of (take q (drop c.block (sparse_list x))))) ≡ take n
    (drop (c.at + h.chunk_hdr_sz + c.used * h.blk_sz + at) x)
copied h long image x c zero at n o p le fits room = let z : n ≡ 0 = omega arith in rw z refl
copied h long image x c (suc q) at n o p le fits room = elim (cases_Bool (nat_lt c.chunk h.total_chunks)) [
  | inl t ↦
      let lt = ltb-true c.chunk h.total_chunks t in
      let r = standing h long image x (take 12 (drop c.at x)) c o p lt refl in
      let k = r.0 in
      let s = r.2 in
      let had : c.block - c.used ≡ counted_in s.before = omega (arith, s.block) in
      let count : blocks_together h x c ≡ raw_blocks (Got (chunk_of h x c k) (counted k.kind k.blocks)
      (drop k.total (drop c.at x))) - c.used =
      ap (λ (m : ℕ). raw_blocks (chunk_at h (length x) c.chunk m (drop c.at x)) - c.used) had
      ∙ ap (λ (g : ChunkRead). raw_blocks g - c.used) s.got in
      let raw = not_raw h.blk_sz k.kind k.blocks (drop h.chunk_hdr_sz (take k.total (drop c.at x)))
      (counted k.kind k.blocks) (drop k.total (drop c.at x)) (omega (arith, count, le)) in
      raw_bytes_at h x image c k (suc q) at n s raw (omega (arith, together_is h x image c k s raw, le)) fits
  | inr t ↦ let z : n ≡ 0 = omega (arith, room, end_at h long image x c o p (ltb-false c.chunk h.total_chunks t)) in
      rw z refl
]
