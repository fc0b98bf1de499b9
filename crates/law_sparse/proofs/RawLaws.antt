-- A raw image as blocks keeps its bytes, and has the pieces of its sparse form.
use Rattle.std.proofs.Common.{◌≡◌, ℕ, zero, suc, ◌+◌, ◌-◌, ◌*◌, ◌/◌, ◌%◌, ◌^◌, ◌≤◌, ◌<◌, List, [], ◌∷◌, ◌++◌, length}
use Rattle.std.proofs.Common.{take, drop, map, replicate, refl, sym, ap, ◌∙◌, append-nil, append_assoc}
use Rattle.std.proofs.Common.{take-append-drop, Option, Some, arith, inl, inr, bytes_eq, length-append, length-take}
use Rattle.std.proofs.Common.{length-drop}
use Rattle.std.specs.List.{list_all}
use Rattle.std.proofs.lemmas.Bool.{cases_Bool}
use Rattle.std.proofs.lemmas.List.{length-map, length-replicate, map-append, take_at}
use Rattle.abt_sparse.specs.Block.{Block, IsBlockSize, IsBlock, AreBlocks, cells, over, laid, expansion, split}
use Rattle.abt_sparse.specs.Block.{class_of, classify, filled_to, block_count}
use Rattle.abt_sparse.specs.Chunk.{spelling, chunks_of, plain_header}
use Rattle.abt_sparse.specs.Reading.{outcome}
use Rattle.abt_sparse.specs.Pieces.{pieces, pieces_of, given, flashed_in_turn}
use Rattle.abt_sparse.proofs.ChunkLaws.{length-split}
use Rattle.abt_sparse.proofs.PieceLaws.{class_back, classes_back}
use Rattle.law_sparse.proofs.Extra.{front_write}
use Rattle.abt_sparse.proofs.Spelling.{reads_back}
use Rattle.abt_sparse.proofs.Flashing.{given_is, pieces_are, pieces_flashed}

class_is : (b : ℕ) (x : List ℕ) → 4 ≤ b → length x ≡ b → IsBlock b (class_of x)
class_is b x four n = elim (cases_Bool (list_all (bytes_eq (take 4 x)) (split 4 (length x / 4) x))) [
  | inl e ↦ rw e (omega (arith, length-take 4 x, n, four))
  | inr e ↦ rw e n
]

classes_are : (b n : ℕ) (x : List ℕ) → 4 ≤ b → length x ≡ n * b → AreBlocks b (map class_of (split b n x))
classes_are b zero x four h = tt
classes_are b (suc n) x four h = (
  class_is b (take b x) four (omega (arith, h, length-take b x)),
  classes_are b n (drop b x) four (omega (arith, h, length-drop b x)),
)

-- the blocks reach to the end of the bytes
enough : (b n : ℕ) → 0 < b → n ≤ b * ((n + (b - 1)) / b)
enough b n some = omega arith

length-filled : (n : ℕ) (x : List ℕ) → length x ≤ n → length (filled_to n x) ≡ n
length-filled n x le = length-append x (replicate (n - length x) 0)
    ∙ omega (arith, length-replicate {A = ℕ} (n - length x) 0, le)

whole : (b : ℕ) (x : List ℕ) → IsBlockSize b → length (filled_to (b * block_count b x) x) ≡ block_count b x * b
whole b x good = length-filled (b * block_count b x) x (enough b (length x) good.0) ∙ omega arith

four_or_more : (b : ℕ) → IsBlockSize b → 4 ≤ b
four_or_more b good = omega (arith, good.0, good.1)

pub raw_blocks : (b : ℕ) (x : List ℕ) → IsBlockSize b → AreBlocks b (classify b x)
raw_blocks b x good = classes_are b (block_count b x) (filled_to (b * block_count b x) x) (four_or_more b good)
    (whole b x good)

pub raw_count : (b : ℕ) (x : List ℕ) → IsBlockSize b → length (classify b x) ≡ block_count b x
raw_count b x good = length-map (split b (block_count b x) (filled_to (b * block_count b x) x)) class_of
    ∙ length-split b (block_count b x) (filled_to (b * block_count b x) x)

pub raw_bytes_kept : (b : ℕ) (x : List ℕ) → IsBlockSize b
    → expansion b (classify b x) ≡ filled_to (b * block_count b x) x
raw_bytes_kept b x good = classes_back b (block_count b x) (filled_to (b * block_count b x) x) good.1 (whole b x good)

-- a raw image as cells is its bytes, none left out
classes_cells : (b n : ℕ) (y : List ℕ) → b % 4 ≡ 0 → length y ≡ n * b
    → cells b (map class_of (split b n y)) ≡ map (λ x. Some x) y
classes_cells b zero [] four h = refl
classes_cells b zero (x ∷ y) four h = absurd (omega arith)
classes_cells b (suc n) y four h =
    rw (
      class_back b (take b y) four (omega (arith, length-take b y)),
      classes_cells b n (drop b y) four
          (omega (arith, length-drop b y)),
    )
    (sym (map-append (λ x. Some x) (take b y) (drop b y)) ∙ ap (map (λ x. Some x)) (take-append-drop b y))

pub raw_cells : (b : ℕ) (x : List ℕ) → IsBlockSize b
    → cells b (classify b x) ≡ map (λ y. Some y) (filled_to (b * block_count b x) x)
raw_cells b x good = classes_cells b (block_count b x) (filled_to (b * block_count b x) x) good.1 (whole b x good)

-- laid over a device that has room for all blocks, the image stands at its front
pub raw_laid : (b : ℕ) (x p : List ℕ) → IsBlockSize b → b * block_count b x ≤ length p
    → take (length x) (over p (cells b (classify b x))) ≡ x
raw_laid b x p good room =
    let n = b * block_count b x in
    let zeros = replicate {A = ℕ} (n - length x) 0 in
    let long : length (filled_to n x) ≡ n = length-filled n x (enough b (length x) good.0) in
    let rest = drop (length (filled_to n x)) p in
    ap (λ (cs : List (Option ℕ)). take (length x) (over p cs)) (raw_cells b x good)
    ∙ ap (take (length x)) (front_write p (filled_to n x) (omega (arith, long, room)))
    ∙ ap (take (length x)) (append_assoc x zeros rest)
    ∙ take_at x (zeros ++ rest) (length x) refl

pub same_from_raw : (limit b r : ℕ) (x : List ℕ) → IsBlockSize b → 1 ≤ r → 12 + r * b < 2 ^ 32
    → block_count b x < 2 ^ 32 → pieces_of limit (outcome (spelling b r (classify b x))) ≡ pieces limit b (classify b x)
same_from_raw limit b r x good some fits lt =
    let l = classify b x in
    let s = spelling b r l in
    let back = reads_back b r l [] good some fits (raw_blocks b x good) (omega (arith, lt, raw_count b x good)) in
    ap (λ (y : List ℕ). pieces_of limit (outcome y)) (sym (append-nil s))
    ∙ pieces_are limit (s ++ []) (plain_header b (length l) (length (chunks_of r l))) (chunks_of r l) [] back.0
    ∙ ap (λ (m : List Block). pieces limit b m) back.1

pub raw_expands : (b r : ℕ) (x : List ℕ) → IsBlockSize b → 1 ≤ r → 12 + r * b < 2 ^ 32 → block_count b x < 2 ^ 32
    → laid (given (outcome (spelling b r (classify b x)))) ≡ filled_to (b * block_count b x) x
raw_expands b r x good some fits lt =
    let l = classify b x in
    let s = spelling b r l in
    let back = reads_back b r l [] good some fits (raw_blocks b x good) (omega (arith, lt, raw_count b x good)) in
    ap (λ (y : List ℕ). laid (given (outcome y))) (sym (append-nil s))
    ∙ ap laid (given_is (s ++ []) (plain_header b (length l) (length (chunks_of r l))) (chunks_of r l) [] back.0)
    ∙ ap (λ (m : List Block). expansion b m) back.1
    ∙ raw_bytes_kept b x good

pub raw_flashes : (limit b r : ℕ) (x p : List ℕ) → IsBlockSize b → 1 ≤ r → 12 + r * b < 2 ^ 32
    → block_count b x < 2 ^ 32 → 64 + b ≤ limit → limit < 2 ^ 32 → b * block_count b x ≤ length p
    → take (length x) (flashed_in_turn p (pieces_of limit (outcome (spelling b r (classify b x))))) ≡ x
raw_flashes limit b r x p good some fits lt least most room =
    ap (λ (ys : List (List ℕ)). take (length x) (flashed_in_turn p ys)) (same_from_raw limit b r x good some fits lt)
    ∙ ap (take (length x)) (pieces_flashed limit b p (classify b x) good (raw_blocks b x good)
    (omega (arith, lt, raw_count b x good)) least most)
    ∙ raw_laid b x p good room
