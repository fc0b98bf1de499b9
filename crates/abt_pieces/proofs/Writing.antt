-- The bytes of a chunk: what comes before its blocks, and the blocks.
use Rattle.std.proofs.Common.{◌≡◌, ℕ, zero, suc, ◌+◌, ◌-◌, ◌*◌, ◌<◌, ◌≤◌, List, [], ◌∷◌, ◌++◌, length, map, take, drop}
use Rattle.std.proofs.Common.{replicate, refl, sym, ap, ◌∙◌, append-nil, arith, length-append, length-drop}
use Rattle.std.specs.List.{AllByRecursion, concat}
use Rattle.std.specs.Int.{w16, to_le_bytes}
use Rattle.std.proofs.lemmas.Grind.{flat_map-append}
use Rattle.std.proofs.lemmas.List.{drop-drop, length-take-le, take-append-le, drop-append-le, length-map}
use Rattle.std.proofs.Math.Seq.{take-add, drop-append_seam}
use Rattle.abt_sparse.specs.Block.{Block, Raw, Fill, Skip, AreBlocks}
use Rattle.abt_sparse.specs.Chunk.{plain, chunk_of_run, raw_bytes, chunk_bytes}
use Rattle.abt_sparse.specs.ChunkHead.{chunk_record}
use Rattle.abt_sparse.specs.declared.kind.ChunkKind.TheVariants as chunks
use Rattle.abt_runs.specs.Part.{AllOf, IsRaw, raw_of}
use Rattle.abt_runs.specs.declared.part.RunKind.{RunKind}
use Rattle.abt_runs.specs.declared.part.RunKind.TheVariants as kinds
use Rattle.abt_pieces.specs.Plan.{between}
use Rattle.abt_pieces.specs.Contents.{head_len}
use Rattle.abt_pieces.specs.Gather.{frame}
use Rattle.abt_pieces.specs.Write.{front_bytes, chunk_len}

-- ---- lists of blocks

pub blocks_take : (b n : ℕ) (l : List Block) → AreBlocks b l → AreBlocks b (take n l)
blocks_take b zero l h = tt
blocks_take b (suc n) [] h = tt
blocks_take b (suc n) (x ∷ l) h = (h.0, blocks_take b n l h.1)

pub blocks_drop : (b n : ℕ) (l : List Block) → AreBlocks b l → AreBlocks b (drop n l)
blocks_drop b zero l h = h
blocks_drop b (suc n) [] h = tt
blocks_drop b (suc n) (x ∷ l) h = blocks_drop b n l h.1

pub blocks_append : (b : ℕ) (l m : List Block) → AreBlocks b l → AreBlocks b m → AreBlocks b (l ++ m)
blocks_append b [] m h k = k
blocks_append b (x ∷ l) m h k = (h.0, blocks_append b l m h.1 k)

pub blocks_skips : (b n : ℕ) → AreBlocks b (replicate n Skip)
blocks_skips b zero = tt
blocks_skips b (suc n) = (tt, blocks_skips b n)

-- ---- raw blocks

pub length_raw : (b : ℕ) (g : List Block) → AllByRecursion IsRaw g → AreBlocks b g → length (raw_of g) ≡ length g * b
length_raw b [] h k = omega arith
length_raw b (Raw x ∷ g) h k = omega (arith, length-append x (raw_of g), k.0, length_raw b g h.1 k.1)
length_raw b (Fill w ∷ g) h k = absurd h.0
length_raw b (Skip ∷ g) h k = absurd h.0

raws_concat : (g : List Block) → concat (map raw_bytes g) ≡ raw_of g
raws_concat [] = refl
raws_concat (x ∷ g) = ap (λ (r : List ℕ). raw_bytes x ++ r) (raws_concat g)

pub raw-append : (g h : List Block) → raw_of (g ++ h) ≡ raw_of g ++ raw_of h
raw-append g h = flat_map-append raw_bytes g h

-- ---- the chunk of a run

-- the bytes of the blocks in the chunk
abbrev pub run_data : RunKind → List Block → List ℕ
run_data kinds.Raw g = raw_of g
run_data (kinds.Fill w) g = []
run_data kinds.Skip g = []
run_data kinds.End g = []

pub raw_chunk : (n n' t t' : ℕ) (d d' : List ℕ) → n ≡ n' → t ≡ t' → d ≡ d'
    → chunk_bytes 0xCAC1 (to_le_bytes w16 0) n t [] d ≡ front_bytes kinds.Raw n' t' ++ d'
raw_chunk n n' t t' d d' p q r = rw (p, q, r) refl

pub fill_chunk : (n n' : ℕ) (v w : List ℕ) → v ≡ w → n ≡ n' → length v ≡ 4
    → chunk_bytes 0xCAC2 (to_le_bytes w16 0) n (12 + length v) [] v ≡ front_bytes (kinds.Fill w) n' 16 ++ []
fill_chunk n n' v w same p four = rw (four, p, same) (sym (append-nil (front_bytes (kinds.Fill w) n' 16)))

pub run_bytes : (b : ℕ) (k : RunKind) (g : List Block) (q : ℕ) → AllOf k g → length g ≡ q → 0 < q → AreBlocks b g
    → plain (chunk_of_run g) ≡ front_bytes k q (chunk_len k q b) ++ run_data k g
run_bytes b k [] q h long some good = absurd (omega arith)
run_bytes b kinds.Raw (Raw x ∷ g) q h long some good =
    let bytes : x ++ concat (map raw_bytes g) ≡ raw_of (Raw x ∷ g) = ap (λ (r : List ℕ). x ++ r) (raws_concat g) in
    let size : length (x ++ concat (map raw_bytes g)) ≡ q * b = ap length bytes ∙ length_raw b (Raw x ∷ g) h good
    ∙ ap (λ (n : ℕ). n * b) long in
    raw_chunk (length (x ∷ map raw_bytes g)) q (12 + length (x ++ concat (map raw_bytes g))) (12 + q * b) (x
    ++ concat (map raw_bytes g)) (raw_of (Raw x ∷ g)) (ap suc (length-map g raw_bytes)
    ∙ long) (ap (λ (n : ℕ). 12 + n) size) bytes
run_bytes b kinds.Raw (Fill w ∷ g) q h long some good = absurd h.0
run_bytes b kinds.Raw (Skip ∷ g) q h long some good = absurd h.0
run_bytes b (kinds.Fill w) (Fill v ∷ g) q h long some good =
    fill_chunk (suc (length g)) q v w (let e : Fill v ≡ Fill w = cc in cc) long good.0
run_bytes b (kinds.Fill w) (Raw v ∷ g) q h long some good = absurd (let e : Raw v ≡ Fill w = cc in cc)
run_bytes b (kinds.Fill w) (Skip ∷ g) q h long some good = absurd (let e : Skip ≡ Fill w = cc in cc)
run_bytes b kinds.Skip (Skip ∷ g) q h long some good =
    rw (← long) (sym (append-nil (front_bytes kinds.Skip (suc (length g)) 12)))
run_bytes b kinds.Skip (Raw v ∷ g) q h long some good = absurd (let e : Raw v ≡ Skip = cc in cc)
run_bytes b kinds.Skip (Fill v ∷ g) q h long some good = absurd (let e : Fill v ≡ Skip = cc in cc)
run_bytes b kinds.End (x ∷ g) q h long some good = absurd cc

pub front_long : (b : ℕ) (k : RunKind) (g : List Block) (n t : ℕ) → AllOf k g → 0 < length g → AreBlocks b g
    → length (front_bytes k n t) ≡ head_len k
front_long b k [] n t h some good = absurd (omega arith)
front_long b kinds.Raw (x ∷ g) n t h some good = refl
front_long b kinds.Skip (x ∷ g) n t h some good = refl
front_long b kinds.End (x ∷ g) n t h some good = refl
front_long b (kinds.Fill w) (Fill v ∷ g) n t h some good = let e : v ≡ w = (let f : Fill v ≡ Fill w = cc in cc) in
    let four : length w ≡ 4 = rw e at good.0 in
    omega (arith, four, length-append (chunk_record (record { kind = chunks.Fill; blocks = n; total = t }) 0) w)
front_long b (kinds.Fill w) (Raw v ∷ g) n t h some good = absurd (let e : Raw v ≡ Fill w = cc in cc)
front_long b (kinds.Fill w) (Skip ∷ g) n t h some good = absurd (let e : Skip ≡ Fill w = cc in cc)

-- ---- the bytes of a raw run, part by part

-- two neighbouring ranges
pub between_two : (l : List Block) (s m e : ℕ) → s ≤ m → m ≤ e → between l s e ≡ between l s m ++ between l m e
between_two l s m e low high =
    ap (λ (n : ℕ). take n (drop s l)) (let z : e - s ≡ (m - s) + (e - m) = omega arith in z)
    ∙ take-add (m - s) (e - m) (drop s l)
    ∙ ap (λ (r : List Block). between l s m ++ take (e - m) r) (drop-drop (m - s) s l
    ∙ ap (λ (n : ℕ). drop n l) (let z : s + (m - s) ≡ m = omega arith in z))

raws_back : (xs ys : List Block) → AllByRecursion IsRaw (xs ++ ys) → AllByRecursion IsRaw ys
raws_back [] ys h = h
raws_back (x ∷ xs) ys h = raws_back xs ys h.1

raws_front : (xs ys : List Block) → AllByRecursion IsRaw (xs ++ ys) → AllByRecursion IsRaw xs
raws_front [] ys h = tt
raws_front (x ∷ xs) ys h = (h.0, raws_front xs ys h.1)

pub raw_back : (l : List Block) (s m e : ℕ) → s ≤ m → m ≤ e → AllOf kinds.Raw (between l s e)
    → AllOf kinds.Raw (between l m e)
raw_back l s m e low high h = raws_back (between l s m) (between l m e) (rw (between_two l s m e low high) at h)

pub raw_front : (l : List Block) (s m e : ℕ) → s ≤ m → m ≤ e → AllOf kinds.Raw (between l s e)
    → AllOf kinds.Raw (between l s m)
raw_front l s m e low high h = raws_front (between l s m) (between l m e) (rw (between_two l s m e low high) at h)

pub raw_long : (b : ℕ) (l : List Block) (s e : ℕ) → e ≤ length l → AllOf kinds.Raw (between l s e) → AreBlocks b l
    → length (raw_of (between l s e)) ≡ (e - s) * b
raw_long b l s e within h good =
    length_raw b (between l s e) h (blocks_take b (e - s) (drop s l) (blocks_drop b s l good))
    ∙ ap (λ (n : ℕ). n * b) (length-take-le (e - s) (drop s l) (omega (arith, length-drop s l)))

-- after the bytes of the first blocks come those of the others
pub raw_behind : (b : ℕ) (l : List Block) (s m e n : ℕ) → s ≤ m → m ≤ e → e ≤ length l
    → AllOf kinds.Raw (between l s e) → AreBlocks b l → n ≡ (m - s) * b
    → drop n (raw_of (between l s e)) ≡ raw_of (between l m e)
raw_behind b l s m e n low high within h good size =
    let long = raw_long b l s m (omega arith) (raw_front l s m e low high h) good in
    ap (λ (r : List Block). drop n (raw_of r)) (between_two l s m e low high)
    ∙ ap (λ (r : List ℕ). drop n r) (raw-append (between l s m) (between l m e))
    ∙ ap (λ (k : ℕ). drop k (raw_of (between l s m) ++ raw_of (between l m e))) (size ∙ sym long)
    ∙ drop-append_seam (raw_of (between l s m)) (raw_of (between l m e))

-- bytes within the first blocks
pub raw_within : (b : ℕ) (l : List Block) (s m e at n : ℕ) → s ≤ m → m ≤ e → e ≤ length l
    → AllOf kinds.Raw (between l s e) → AreBlocks b l → at + n ≤ (m - s) * b
    → take n (drop at (raw_of (between l s m))) ≡ take n (drop at (raw_of (between l s e)))
raw_within b l s m e at n low high within h good room =
    let long = raw_long b l s m (omega arith) (raw_front l s m e low high h) good in
    let a = raw_of (between l s m) in
    let z = raw_of (between l m e) in
    sym (ap (λ (r : List Block). take n (drop at (raw_of r))) (between_two l s m e low high)
    ∙ ap (λ (r : List ℕ). take n (drop at r)) (raw-append (between l s m) (between l m e))
    ∙ ap (λ (r : List ℕ). take n r) (drop-append-le at a z (omega (arith, long)))
    ∙ take-append-le n (drop at a) z (omega (arith, long, length-drop at a)))

pub frame_blocks : (b : ℕ) (l : List Block) (s e : ℕ) → AreBlocks b l → AreBlocks b (frame l s e)
frame_blocks b l s e good = blocks_append b (replicate s Skip ++ between l s e) (replicate (length l - e) Skip)
    (blocks_append b (replicate s Skip) (between l s e) (blocks_skips b s)
    (blocks_take b (e - s) (drop s l) (blocks_drop b s l good))) (blocks_skips b (length l - e))
