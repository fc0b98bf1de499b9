-- A piece has no raw run that is cut.
use Rattle.std.proofs.Common.{inl, inr, ◌≡◌, ℕ, ◌+◌, ◌*◌, ◌<◌, ◌≤◌, nat_lt, List, [], ◌∷◌, ◌++◌, length, take, drop}
use Rattle.std.proofs.Common.{map, refl, ap, ◌∙◌, arith, length-append, mul-le-mul_right}
use Rattle.std.proofs.lemmas.Bool.{cases_Bool, ltb-true, ltb-false}
use Rattle.std.proofs.lemmas.List.{take_all, drop_all}
use Rattle.std.specs.List.{flat_map, AllByRecursion}
use Rattle.abt_sparse.specs.Block.{Block, Raw, Fill, Skip, AreBlocks}
use Rattle.abt_sparse.specs.Runs.{runs, joined, IsRun}
use Rattle.abt_sparse.specs.Chunk.{Chunk, Raws, Fills, Skips, Crc, IsChunk, count, data_of, plain, kind, chunk_of_run}
use Rattle.abt_sparse.specs.Chunk.{in_rs, cut_run, chunks_of, image_of, spelling, piece}
use Rattle.abt_sparse.specs.declared.kind.ChunkKind.TheVariants as codes
use Rattle.abt_sparse.proofs.AreAll.{AreBlocks-parts}
use Rattle.abt_sparse.proofs.ChunkLaws.{length-concat}
use Rattle.abt_sparse.proofs.PieceLaws.{run_back, IsChunk-from}
use Rattle.abt_sparse.proofs.RunLaws.{each-runs, joined-runs}

not_crc : (g : List Block) → kind (chunk_of_run g) ≡ codes.Crc → ⊥
not_crc [] e = absurd cc
not_crc (Raw x ∷ g) e = absurd cc
not_crc (Fill w ∷ g) e = absurd cc
not_crc (Skip ∷ g) e = absurd cc

some_blocks : (g : List Block) → IsRun g → 0 < count (chunk_of_run g)
some_blocks [] h = absurd h
some_blocks (Raw x ∷ g) h = omega arith
some_blocks (Fill w ∷ g) h = omega arith
some_blocks (Skip ∷ g) h = omega arith

one_chunk : (r : ℕ) (xs : List (List ℕ)) → 0 < length xs → length xs ≤ r → cut_run r (Raws xs) ≡ Raws xs ∷ []
one_chunk r [] some le = absurd (omega (arith, some))
one_chunk r (y ∷ ys) some le =
    let e : cut_run r (Raws (y ∷ ys)) ≡ Raws (take r (y ∷ ys)) ∷ in_rs r (length ys) (drop r (y ∷ ys)) = refl in
    e ∙ ap (λ (l : List (List ℕ)). Raws l ∷ in_rs r (length ys) (drop r (y ∷ ys))) (take_all r (y ∷ ys) le)
    ∙ ap (λ (l : List (List ℕ)). Raws (y ∷ ys) ∷ in_rs r (length ys) l) (drop_all r (y ∷ ys) le)

uncut_chunk : (b r : ℕ) (c : Chunk) → IsChunk b c → 0 < count c → length (data_of c) < (r + 1) * b → cut_run r c ≡ c
    ∷ []
uncut_chunk b r (Raws xs) is some few = elim (cases_Bool (nat_lt r (length xs))) [
  | inl e ↦
      let lt = ltb-true r (length xs) e in
      let m : (r + 1) * b ≤ length xs * b = mul-le-mul_right b (let z : r + 1 ≤ length xs = omega (arith, lt) in z) in
      absurd (omega (arith, few, m, length-concat b xs is))
  | inr e ↦ one_chunk r xs some (ltb-false r (length xs) e)
]
uncut_chunk b r (Fills w n) is some few = refl
uncut_chunk b r (Skips n) is some few = refl
uncut_chunk b r (Crc w) is some few = refl

plain_long : (c : Chunk) → length (plain c) ≡ 12 + length (data_of c)
plain_long c = omega arith

uncut_runs : (b r : ℕ) (gs : List (List Block)) → AllByRecursion IsRun gs → AreBlocks b (joined gs)
    → length (flat_map plain (map chunk_of_run gs)) < 12 + (r + 1) * b
    → flat_map (λ g. cut_run r (chunk_of_run g)) gs ≡ map chunk_of_run gs
uncut_runs b r [] h good few = refl
uncut_runs b r (g ∷ gs) h good few =
    let parts = AreBlocks-parts b g (joined gs) good in
    let c = chunk_of_run g in
    let is : IsChunk b c = IsChunk-from b c (not_crc g) (rw (run_back g h.0) parts.0) (some_blocks g h.0) in
    let long : length (flat_map plain (map chunk_of_run (g ∷ gs))) ≡ length (plain c) + length
    (flat_map plain (map chunk_of_run gs)) = length-append (plain c) (flat_map plain (map chunk_of_run gs)) in
    let one = uncut_chunk b r c is (some_blocks g h.0) (omega (arith, few, long, plain_long c)) in
    let rest = uncut_runs b r gs h.1 parts.1 (omega (arith, few, long)) in
    ap (λ (l : List Chunk). l ++ flat_map (λ k. cut_run r (chunk_of_run k)) gs) one
    ∙ ap (λ (l : List Chunk). c ∷ l) rest

-- an image that is short enough is its piece
pub uncut : (b r : ℕ) (f : List Block) → AreBlocks b f
    → length (flat_map plain (map chunk_of_run (runs f))) < 12 + (r + 1) * b → chunks_of r f ≡ map chunk_of_run (runs f)
uncut b r f good few = uncut_runs b r (runs f) (each-runs f) (rw (joined-runs f) good) few

pub uncut_spelling : (b r : ℕ) (f : List Block) → chunks_of r f ≡ map chunk_of_run (runs f) → spelling b r f ≡ piece b f
uncut_spelling b r f e = ap (image_of b (length f)) e
