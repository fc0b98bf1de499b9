-- A piece is an encoded image of its blocks, and a raw image keeps its bytes as blocks.
use Rattle.std.proofs.Common.{◌≡◌, ℕ, zero, suc, ◌+◌, ◌*◌, ◌/◌, ◌%◌, ◌^◌, ◌<◌, true, List, [], ◌∷◌, ◌++◌, length, take}
use Rattle.std.proofs.Common.{drop, map, replicate, Some, refl, sym, ap, subst, ◌∙◌, append_assoc, arith, inl, inr}
use Rattle.std.proofs.Common.{length-append, length-take, length-drop, take-append-drop, bytes_eq}
use Rattle.std.specs.List.{flat_map, AllByRecursion, concat, list_all}
use Rattle.std.proofs.lemmas.Bool.{cases_Bool, and_parts}
use Rattle.std.proofs.lemmas.List.{length-map, length-replicate}
use Rattle.abt_sparse.specs.declared.kind.ChunkKind.TheVariants as kinds
use Rattle.abt_sparse.specs.Block.{Block, Raw, Fill, Skip, AreBlocks, block_bytes, expansion, split, class_of}
use Rattle.abt_sparse.specs.Runs.{alike, runs, IsRun, joined}
use Rattle.abt_sparse.specs.Chunk.{header_record, plain_header, Chunk, Raws, Fills, Skips, Crc, kind, count, data_of}
use Rattle.abt_sparse.specs.Chunk.{IsChunk, blocks_of, classed, SpellsChunk, SpellsChunks, plain, chunk_of_run}
use Rattle.abt_sparse.specs.Chunk.{raw_bytes, image_of}
use Rattle.abt_sparse.specs.Fails.{counted_in, Spells}
use Rattle.abt_sparse.proofs.RunLaws.{each-runs, joined-runs, same_bytes}
use Rattle.abt_sparse.proofs.Lay.{expansion-cons, laid_some}

-- ---- a run as a chunk

raws_back : (x : List ℕ) (g : List Block) → AllByRecursion (λ y. alike (Raw x) y ≡ true) g
    → map (λ y. Raw y) (map raw_bytes g) ≡ g
raws_back x [] h = refl
raws_back x (Raw y ∷ g) h = ap (λ (t : List Block). Raw y ∷ t) (raws_back x g h.1)
raws_back x (Fill y ∷ g) h = absurd (let e = h.0 in cc)
raws_back x (Skip ∷ g) h = absurd (let e = h.0 in cc)

fills_back : (w : List ℕ) (g : List Block) → AllByRecursion (λ y. alike (Fill w) y ≡ true) g
    → replicate (length g) (Fill w) ≡ g
fills_back w [] h = refl
fills_back w (Fill y ∷ g) h = let e = same_bytes w y h.0 in let t = fills_back w g h.1 in cc
fills_back w (Raw y ∷ g) h = absurd (let e = h.0 in cc)
fills_back w (Skip ∷ g) h = absurd (let e = h.0 in cc)

skips_back : (g : List Block) → AllByRecursion (λ y. alike Skip y ≡ true) g → replicate (length g) Skip ≡ g
skips_back [] h = refl
skips_back (Skip ∷ g) h = ap (λ (t : List Block). Skip ∷ t) (skips_back g h.1)
skips_back (Fill y ∷ g) h = absurd (let e = h.0 in cc)
skips_back (Raw y ∷ g) h = absurd (let e = h.0 in cc)

-- the chunk has the blocks of the run
pub run_back : (g : List Block) → IsRun g → blocks_of (chunk_of_run g) ≡ g
run_back [] h = absurd h
run_back (Raw x ∷ g) h = ap (λ (t : List Block). Raw x ∷ t) (raws_back x g h)
run_back (Fill w ∷ g) h = ap (λ (t : List Block). Fill w ∷ t) (fills_back w g h)
run_back (Skip ∷ g) h = ap (λ (t : List Block). Skip ∷ t) (skips_back g h)

classed_back : (gs : List (List Block)) → AllByRecursion IsRun gs → classed (map chunk_of_run gs) ≡ joined gs
classed_back [] h = refl
classed_back (g ∷ gs) h = rw (run_back g h.0, classed_back gs h.1) refl

-- the blocks of a piece's chunks are its blocks
pub classed-piece : (l : List Block) → classed (map chunk_of_run (runs l)) ≡ l
classed-piece l = classed_back (runs l) (each-runs l) ∙ joined-runs l

count-blocks : (c : Chunk) → count c ≡ length (blocks_of c)
count-blocks (Raws xs) = sym (length-map xs (λ x. Raw x))
count-blocks (Fills w n) = sym (length-replicate n (Fill w))
count-blocks (Skips n) = sym (length-replicate n Skip)
count-blocks (Crc w) = refl

pub counted-classed : (cs : List Chunk) → counted_in cs ≡ length (classed cs)
counted-classed [] = refl
counted-classed (c ∷ cs) = omega (arith, count-blocks c, counted-classed cs, length-append (blocks_of c) (classed cs))

-- a chunk of good blocks is good
pub IsChunk-from : (b : ℕ) (c : Chunk) → (kind c ≡ kinds.Crc → ⊥) → AreBlocks b (blocks_of c) → 0 < count c
    → IsChunk b c
IsChunk-from b (Raws []) ne h lt = tt
IsChunk-from b (Raws (x ∷ [])) ne h lt = (h.0, tt)
IsChunk-from b (Raws (x ∷ y ∷ xs)) ne h lt = (h.0, IsChunk-from b (Raws (y ∷ xs)) (λ e. absurd cc) h.1 (omega arith))
IsChunk-from b (Fills w zero) ne h lt = absurd (omega arith)
IsChunk-from b (Fills w (suc n)) ne h lt = h.0
IsChunk-from b (Skips n) ne h lt = tt
IsChunk-from b (Crc w) ne h lt = absurd (ne refl)

-- ---- chunks that are encoded plainly

-- a chunk that can be written
pub record CanWrite (b : ℕ) (c : Chunk) : Type 0 where
  pub is : IsChunk b c
  pub counts : count c < 2 ^ 32
  pub fits : 12 + length (data_of c) < 2 ^ 32

plain_spells : (b n k : ℕ) (c : Chunk) → CanWrite b c → SpellsChunk (plain_header b n k) c (plain c)
plain_spells b n k c w = record {
  reserved = 0;
  blocks = count c;
  extra = [];
  blocks_fit = w.counts;
  extra_long = omega arith;
  total_fits = w.fits;
  counted = λ ne. refl;
  is_chunk = w.is;
  spelled = refl;
}

plains_spell : (b n k : ℕ) (cs : List Chunk) (rest : List ℕ) → AllByRecursion (CanWrite b) cs
    → SpellsChunks (plain_header b n k) cs (flat_map plain cs ++ rest) rest
plains_spell b n k [] rest h = refl
plains_spell b n k (c ∷ cs) rest h = (
  plain c,
  flat_map plain cs ++ rest,
  plain_spells b n k c h.0,
  append_assoc (plain c) (flat_map plain cs) rest,
  plains_spell b n k cs rest h.1,
)

-- what is written plainly is an encoded image
pub image_spells : (b : ℕ) (cs : List Chunk) (rest : List ℕ) → (0 < b) × (b % 4 ≡ 0) × (b < 2 ^ 32)
    → counted_in cs < 2 ^ 32 → length cs < 2 ^ 32 → AllByRecursion (CanWrite b) cs
    → Spells (image_of b (counted_in cs) cs ++ rest) (plain_header b (counted_in cs) (length cs)) cs rest
image_spells b cs rest good blocks chunks h = record {
  front = record {
    after = flat_map plain cs ++ rest;
    header = record {
      extra = [];
      fits = record {
        minor = omega arith;
        file_hdr_sz = (omega arith, omega arith);
        chunk_hdr_sz = (omega arith, omega arith);
        blk_sz = (good.0, good.1, good.2);
        total_blks =
            blocks;
        total_chunks = chunks;
        image_checksum = omega arith;
      };
      extra_long = omega arith;
      spelled = append_assoc (header_record (plain_header b (counted_in cs) (length cs))) (flat_map plain cs) rest;
    };
    chunks = plains_spell b (counted_in cs) (length cs) cs rest h;
    within = omega arith;
    room = omega arith;
  };
  whole = refl;
  full = refl;
}

-- ---- raw images

-- a block whose words are all one
words_back : (w : List ℕ) (n : ℕ) (bytes : List ℕ) → length bytes ≡ n * 4
    → list_all (bytes_eq w) (split 4 n bytes) ≡ true → concat (replicate n w) ≡ bytes
words_back w zero [] h e = refl
words_back w zero (x ∷ bytes) h e = absurd (omega arith)
words_back w (suc n) bytes h e =
    let p : (bytes_eq w (take 4 bytes) ≡ true) × (list_all (bytes_eq w) (split 4 n (drop 4 bytes)) ≡ true) =
    and_parts _ _ e in
    let ih = words_back w n (drop 4 bytes) (omega (arith, length-drop 4 bytes)) p.1 in
    rw (same_bytes w (take 4 bytes) p.0) (let q : concat (replicate n (take 4 bytes)) ≡ drop 4 bytes = subst
    (λ (v : List ℕ). concat (replicate n v) ≡ drop 4 bytes) (same_bytes w (take 4 bytes) p.0) ih in
    rw q (take-append-drop 4 bytes))

-- the class of a block writes the block
pub class_back : (b : ℕ) (bytes : List ℕ) → b % 4 ≡ 0 → length bytes ≡ b → block_bytes b (class_of bytes) ≡ Some bytes
class_back b bytes four long =
    elim (cases_Bool (list_all (bytes_eq (take 4 bytes)) (split 4 (length bytes / 4) bytes))) [
      | inl e ↦ rw e (ap (λ (t : List ℕ). Some t) (ap (λ (n : ℕ). concat (replicate (n / 4) (take 4 bytes))) (sym long)
          ∙ words_back (take 4 bytes) (length bytes / 4) bytes (omega (arith, long)) e))
      | inr e ↦ rw e refl
    ]

pub classes_back : (b n : ℕ) (bytes : List ℕ) → b % 4 ≡ 0 → length bytes ≡ n * b
    → expansion b (map class_of (split b n bytes)) ≡ bytes
classes_back b zero [] four h = refl
classes_back b zero (x ∷ bytes) four h = absurd (omega arith)
classes_back b (suc n) bytes four h =
    expansion-cons b (class_of (take b bytes)) (map class_of (split b n (drop b bytes)))
    ∙ rw (
      class_back b (take b bytes) four (omega (arith, length-take b bytes)),
      laid_some (take b bytes),
      classes_back b n (drop b bytes) four (omega (arith, length-drop b bytes)),
    ) (take-append-drop b bytes)
