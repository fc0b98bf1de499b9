-- A list of blocks that is encoded reads back as that list, and so does a piece.
use Rattle.std.proofs.Common.{◌≡◌, ℕ, zero, suc, ◌+◌, ◌*◌, ◌^◌, ◌≤◌, ◌<◌, List, [], ◌∷◌, ◌++◌, length, take, drop, map}
use Rattle.std.proofs.Common.{replicate, refl, sym, ap, subst, ◌∙◌, append-nil, arith, length-append, length-take}
use Rattle.std.proofs.Common.{length-drop, take-append-drop}
use Rattle.std.proofs.Math.Nat.{mul-le-mul_right}
use Rattle.std.proofs.lemmas.List.{length-map, length-replicate, map-append}
use Rattle.std.specs.List.{flat_map, concat, AllByRecursion}
use Rattle.std.proofs.lemmas.List.Concat.{flat_map-append}
use Rattle.abt_sparse.specs.declared.kind.ChunkKind.TheVariants as kinds
use Rattle.abt_sparse.specs.Block.{Block, Raw, Fill, Skip, IsBlockSize, AreBlocks}
use Rattle.abt_sparse.specs.Runs.{runs, IsRun, joined, framed, weight}
use Rattle.abt_sparse.specs.Chunk.{Header, Chunk, Raws, Fills, Skips, Crc, kind, count, data_of, IsChunk, blocks_of}
use Rattle.abt_sparse.specs.Chunk.{classed, SpellsChunks, plain, plain_header, chunk_of_run, image_of, in_rs, cut_run}
use Rattle.abt_sparse.specs.Chunk.{chunks_of, spelling, piece, header_record}
use Rattle.abt_sparse.specs.Fails.{counted_in, Spells}
use Rattle.abt_sparse.proofs.ChunkLaws.{length-concat}
use Rattle.abt_sparse.proofs.RunLaws.{each-runs, joined-runs}
use Rattle.abt_sparse.proofs.PieceLaws.{CanWrite, classed-piece, counted-classed, run_back, IsChunk-from, image_spells}
use Rattle.abt_sparse.proofs.AreAll.{AreBlocks-append, AreBlocks-skips, AreBlocks-parts}
use Rattle.abt_sparse.proofs.Lengths.{piece_le}

-- ---- the blocks of an encoded image

AreBlocks-raws : (b : ℕ) (xs : List (List ℕ)) → AllByRecursion (λ x. length x ≡ b) xs
    → AreBlocks b (map (λ x. Raw x) xs)
AreBlocks-raws b [] h = tt
AreBlocks-raws b (x ∷ xs) h = (h.0, AreBlocks-raws b xs h.1)

AreBlocks-fills : (b n : ℕ) (w : List ℕ) → length w ≡ 4 → AreBlocks b (replicate n (Fill w))
AreBlocks-fills b zero w h = tt
AreBlocks-fills b (suc n) w h = (h, AreBlocks-fills b n w h)

AreBlocks-of : (b : ℕ) (c : Chunk) → IsChunk b c → AreBlocks b (blocks_of c)
AreBlocks-of b (Raws xs) h = AreBlocks-raws b xs h
AreBlocks-of b (Fills w n) h = AreBlocks-fills b n w h
AreBlocks-of b (Skips n) h = AreBlocks-skips b n
AreBlocks-of b (Crc w) h = tt

AreBlocks-classed : (h : Header) (cs : List Chunk) (y rest : List ℕ) → SpellsChunks h cs y rest
    → AreBlocks h.blk_sz (classed cs)
AreBlocks-classed h [] y rest s = tt
AreBlocks-classed h (c ∷ cs) y rest s =
    AreBlocks-append h.blk_sz (blocks_of c) (classed cs) (AreBlocks-of h.blk_sz c s.2.is_chunk)
    (AreBlocks-classed h cs s.1 rest s.4)

pub spelled_blocks : (x : List ℕ) (h : Header) (cs : List Chunk) (rest : List ℕ) → Spells x h cs rest
    → AreBlocks h.blk_sz (classed cs) × (length (classed cs) ≡ h.total_blks)
spelled_blocks x h cs rest s = (
  AreBlocks-classed h cs s.front.after rest s.front.chunks,
  sym (counted-classed cs)
      ∙ s.full,
)

-- ---- chunks that have blocks and small data

-- a chunk with some blocks and data that its header can count
pub record Solid (c : Chunk) : Type 0 where
  pub some : 0 < count c
  pub blocks : kind c ≡ kinds.Crc → ⊥
  pub small : 12 + length (data_of c) < 2 ^ 32

can_write : (b : ℕ) (cs : List Chunk) → AllByRecursion Solid cs → AreBlocks b (classed cs) → counted_in cs < 2 ^ 32
    → AllByRecursion (CanWrite b) cs
can_write b [] s h lt = tt
can_write b (c ∷ cs) s h lt =
    let parts = AreBlocks-parts b (blocks_of c) (classed cs) h in (
      record { is = IsChunk-from b c s.0.blocks parts.0 s.0.some; counts = omega (arith, lt); fits = s.0.small },
      can_write b cs s.1 parts.1 (omega (arith, lt)),
    )

few_chunks : (cs : List Chunk) → AllByRecursion Solid cs → length cs ≤ counted_in cs
few_chunks [] s = omega arith
few_chunks (c ∷ cs) s = omega (arith, few_chunks cs s.1, s.0.some)

-- chunks of these blocks, encoded plainly
chunks_read_back : (b : ℕ) (l : List Block) (cs : List Chunk) (rest : List ℕ) → IsBlockSize b → classed cs ≡ l
    → AllByRecursion Solid cs → AreBlocks b l → length l < 2 ^ 32
    → Spells (image_of b (length l) cs ++ rest) (plain_header b (length l) (length cs)) cs rest
chunks_read_back b l cs rest good same s h lt =
    let n : counted_in cs ≡ length l = counted-classed cs ∙ ap length same in
    let all = can_write b cs s (rw same h) (omega (arith, n, lt)) in
    subst (λ (j : ℕ). Spells (image_of b j cs ++ rest) (plain_header b j (length cs)) cs rest) n
    (image_spells b cs rest good (omega (arith, n, lt)) (omega (arith, n, lt, few_chunks cs s)) all)

-- ---- a piece

not_crc : (g : List Block) → kind (chunk_of_run g) ≡ kinds.Crc → ⊥
not_crc [] e = cc
not_crc (Raw x ∷ g) e = cc
not_crc (Fill w ∷ g) e = cc
not_crc (Skip ∷ g) e = cc

some_blocks : (g : List Block) → IsRun g → 0 < count (chunk_of_run g)
some_blocks [] h = absurd h
some_blocks (Raw x ∷ g) h = omega arith
some_blocks (Fill w ∷ g) h = omega arith
some_blocks (Skip ∷ g) h = omega arith

runs_solid : (gs : List (List Block)) → AllByRecursion IsRun gs
    → length (flat_map plain (map chunk_of_run gs)) < 2 ^ 32 → AllByRecursion Solid (map chunk_of_run gs)
runs_solid [] h lt = tt
runs_solid (g ∷ gs) h lt =
    let c = chunk_of_run g in
    let long : length (plain c) ≡ 12 + length (data_of c) = omega arith in
    let sum = length-append (plain c) (flat_map plain (map chunk_of_run gs)) in (
      record { some = some_blocks g h.0; blocks = not_crc g; small = omega (arith, lt, long, sum) },
      runs_solid gs h.1 (omega (arith, lt, long, sum)),
    )

pub piece_spells : (b : ℕ) (l : List Block) (rest : List ℕ) → IsBlockSize b → AreBlocks b l → length l < 2 ^ 32
    → length (piece b l) < 2 ^ 32
    → Spells (piece b l ++ rest) (plain_header b (length l) (length (runs l))) (map chunk_of_run (runs l)) rest
piece_spells b l rest good h lt small =
    let cs = map chunk_of_run (runs l) in
    let body : length (flat_map plain cs) ≤ length (piece b l) =
    omega (arith, length-append (header_record (plain_header b (length l) (length cs))) (flat_map plain cs)) in
    let solid = runs_solid (runs l) (each-runs l) (omega (arith, body, small)) in
    subst (λ (k : ℕ). Spells (piece b l ++ rest) (plain_header b (length l) k) cs rest)
    (length-map (runs l) chunk_of_run) (chunks_read_back b l cs rest good (classed-piece l) solid h lt)

pub AreBlocks-framed : (b before after : ℕ) (l : List Block) → AreBlocks b l → AreBlocks b (framed before l after)
AreBlocks-framed b before after l h = AreBlocks-append b (replicate before Skip ++ l) (replicate after Skip)
    (AreBlocks-append b (replicate before Skip) l (AreBlocks-skips b before) h) (AreBlocks-skips b after)

pub length-framed : (before after : ℕ) (l : List Block) → length (framed before l after) ≡ before + length l + after
length-framed before after l =
    length-append (replicate before Skip ++ l) (replicate after Skip)
    ∙ omega (arith, length-append (replicate before Skip) l, length-replicate before Skip, length-replicate after Skip)

pub pieces_read : (b before after : ℕ) (l : List Block) (rest : List ℕ) → IsBlockSize b → AreBlocks b l
    → before + length l + after < 2 ^ 32 → weight b l < 2 ^ 32
    → Spells (piece b (framed before l after) ++ rest) (plain_header b (before + length l + after)
    (length (runs (framed before l after)))) (map chunk_of_run (runs (framed before l after))) rest
    × (classed (map chunk_of_run (runs (framed before l after))) ≡ framed before l after)
pieces_read b before after l rest good h lt w =
    let f = framed before l after in
    let n = length-framed before after l in (
      subst (λ (j : ℕ). Spells (piece b f ++ rest) (plain_header b j (length (runs f)))
          (map chunk_of_run (runs f)) rest) n
          (piece_spells b f rest good (AreBlocks-framed b before after l h) (omega (arith, n, lt))
          (omega (arith, w, piece_le b l before after h))),
      classed-piece f,
    )

-- ---- the whole, with raw runs cut every r blocks

classed-append : (cs ds : List Chunk) → classed (cs ++ ds) ≡ classed cs ++ classed ds
classed-append cs ds = flat_map-append blocks_of cs ds

-- a raw run in parts is the run
parts_back : (r turns : ℕ) (xs : List (List ℕ)) → 1 ≤ r → length xs ≤ turns
    → classed (in_rs r turns xs) ≡ map (λ x. Raw x) xs
parts_back r turns [] some lt = refl
parts_back r zero (x ∷ xs) some lt = absurd (omega (arith, lt))
parts_back r (suc turns) (x ∷ xs) some lt =
    let ih = parts_back r turns (drop r (x ∷ xs)) some (omega (arith, lt, some, length-drop r (x ∷ xs))) in
    ap (λ (t : List Block). map (λ y. Raw y) (take r (x ∷ xs)) ++ t) ih
    ∙ sym (map-append (λ y. Raw y) (take r (x ∷ xs)) (drop r (x ∷ xs)))
    ∙ ap (λ (t : List (List ℕ)). map (λ y. Raw y) t) (take-append-drop r (x ∷ xs))

cut_back : (r : ℕ) (c : Chunk) → 1 ≤ r → classed (cut_run r c) ≡ blocks_of c
cut_back r (Raws xs) some = parts_back r (length xs) xs some (omega arith)
cut_back r (Fills w n) some = append-nil (replicate n (Fill w))
cut_back r (Skips n) some = append-nil (replicate n Skip)
cut_back r (Crc w) some = refl

cuts_back : (r : ℕ) (gs : List (List Block)) → 1 ≤ r → AllByRecursion IsRun gs
    → classed (flat_map (λ g. cut_run r (chunk_of_run g)) gs) ≡ joined gs
cuts_back r [] some h = refl
cuts_back r (g ∷ gs) some h =
    classed-append (cut_run r (chunk_of_run g)) (flat_map (λ k. cut_run r (chunk_of_run k)) gs)
    ∙ rw (cut_back r (chunk_of_run g) some, run_back g h.0, cuts_back r gs some h.1) refl

pub classed-chunks : (r : ℕ) (l : List Block) → 1 ≤ r → classed (chunks_of r l) ≡ l
classed-chunks r l some = cuts_back r (runs l) some (each-runs l) ∙ joined-runs l

take_all : (b r : ℕ) (xs : List (List ℕ)) → AllByRecursion (λ x. length x ≡ b) xs
    → AllByRecursion (λ x. length x ≡ b) (take r xs) × AllByRecursion (λ x. length x ≡ b) (drop r xs)
take_all b zero xs h = (tt, h)
take_all b (suc r) [] h = (tt, tt)
take_all b (suc r) (x ∷ xs) h = let t = take_all b r xs h.1 in ((h.0, t.0), t.1)

parts_solid : (b r turns : ℕ) (xs : List (List ℕ)) → 1 ≤ r → 12 + r * b < 2 ^ 32
    → AllByRecursion (λ x. length x ≡ b) xs → AllByRecursion Solid (in_rs r turns xs)
parts_solid b r turns [] some lt h = tt
parts_solid b r zero (x ∷ xs) some lt h = tt
parts_solid b r (suc turns) (x ∷ xs) some lt h =
    let parts = take_all b r (x ∷ xs) h in
    let few : length (take r (x ∷ xs)) ≤ r = omega (arith, length-take r (x ∷ xs)) in
    let long : length (concat (take r (x ∷ xs))) ≡ length (take r (x ∷ xs)) * b =
    length-concat b (take r (x ∷ xs)) parts.0 in
    let bound : length (take r (x ∷ xs)) * b ≤ r * b = mul-le-mul_right b few in (
      record {
        some = omega (arith, some, length-take r (x ∷ xs));
        blocks = (λ e. let f = e in cc);
        small = omega (arith, long, bound, lt);
      },
      parts_solid b r turns (drop r (x ∷ xs)) some lt parts.1,
    )

cut_solid : (b r : ℕ) (c : Chunk) → 1 ≤ r → 12 + r * b < 2 ^ 32 → IsChunk b c → 0 < count c → (kind c ≡ kinds.Crc → ⊥)
    → AllByRecursion Solid (cut_run r c)
cut_solid b r (Raws xs) some lt h more ne = parts_solid b r (length xs) xs some lt h
cut_solid b r (Fills w n) some lt h more ne = (record { some = more; blocks = ne; small = omega (arith, h) }, tt)
cut_solid b r (Skips n) some lt h more ne = (record { some = more; blocks = ne; small = omega arith }, tt)
cut_solid b r (Crc w) some lt h more ne = absurd (ne refl)

all_append : (cs ds : List Chunk) → AllByRecursion Solid cs → AllByRecursion Solid ds → AllByRecursion Solid (cs ++ ds)
all_append [] ds h k = k
all_append (c ∷ cs) ds h k = (h.0, all_append cs ds h.1 k)

cuts_solid : (b r : ℕ) (gs : List (List Block)) → 1 ≤ r → 12 + r * b < 2 ^ 32 → AllByRecursion IsRun gs
    → AreBlocks b (joined gs) → AllByRecursion Solid (flat_map (λ g. cut_run r (chunk_of_run g)) gs)
cuts_solid b r [] some lt h k = tt
cuts_solid b r (g ∷ gs) some lt h k =
    let parts = AreBlocks-parts b g (joined gs) k in
    let is : IsChunk b (chunk_of_run g) = IsChunk-from b (chunk_of_run g) (not_crc g) (rw (run_back g h.0) parts.0)
    (some_blocks g h.0) in
    all_append (cut_run r (chunk_of_run g)) (flat_map (λ k. cut_run r (chunk_of_run k)) gs)
    (cut_solid b r (chunk_of_run g) some lt is (some_blocks g h.0) (not_crc g))
    (cuts_solid b r gs some lt h.1 parts.1)

pub reads_back : (b r : ℕ) (l : List Block) (rest : List ℕ) → IsBlockSize b → 1 ≤ r → 12 + r * b < 2 ^ 32
    → AreBlocks b l → length l < 2 ^ 32
    → Spells (spelling b r l ++ rest) (plain_header b (length l) (length (chunks_of r l))) (chunks_of r l) rest
    × (classed (chunks_of r l) ≡ l)
reads_back b r l rest good some fits h lt =
    let same = classed-chunks r l some in
    let solid = cuts_solid b r (runs l) some fits (each-runs l) (rw (joined-runs l) h) in
    (chunks_read_back b l (chunks_of r l) rest good same solid h lt, same)
