-- Writing blocks, byte by byte.
use Rattle.std.proofs.Common.{◌≡◌, ℕ, zero, suc, ◌+◌, ◌*◌, ◌/◌, ◌%◌, ◌<◌, List, [], ◌∷◌, ◌++◌, length, get_or, map}
use Rattle.std.proofs.Common.{replicate, Option, Some, None, refl, ap, ◌∙◌, arith}
use Rattle.std.specs.Prelude.{unwrap_or}
use Rattle.std.proofs.Math.Nat.{mod-eq-sub-div-mul, div-mul-le_self}
use Rattle.std.proofs.Math.ListN.{get_or-append}
use Rattle.std.proofs.lemmas.List.{get_or-append-add, length-map, length-replicate}
use Rattle.abt_sparse.specs.Block.{Block, IsBlockSize, AreBlocks, block_bytes, cells_of, cells, over, expansion}
use Rattle.abt_sparse.specs.Laws.{byte_over}
use Rattle.abt_sparse.proofs.Lay.{get_or-over, length-over, length-block, length-cells}

-- the cell j of a block that writes these bytes
abbrev cell_in : Option (List ℕ) → ℕ → Option ℕ
cell_in None j = None
cell_in (Some bytes) j = Some (get_or bytes j 0)

pub none_there : (n j : ℕ) → get_or (replicate n (let o : Option ℕ = None in o)) j None ≡ None
none_there zero j = refl
none_there (suc n) zero = refl
none_there (suc n) (suc j) = none_there n j

cells_in : (b j : ℕ) (o : Option (List ℕ)) → length (cells_of b o) ≡ b → j < b
    → get_or (cells_of b o) j None ≡ cell_in o j
cells_in b j None n lt = none_there b j
cells_in b j (Some bytes) n lt = some_there bytes j (omega (arith, lt, n, length-map bytes (λ x. Some x))) where
  some_there : (xs : List ℕ) (i : ℕ) → i < length xs → get_or (map (λ x. Some x) xs) i None ≡ Some (get_or xs i 0)
  some_there [] i h = absurd (omega arith)
  some_there (x ∷ xs) zero h = refl
  some_there (x ∷ xs) (suc i) h = some_there xs i (omega (arith, h))

cell_at : (b j : ℕ) (l : List Block) (q : ℕ) → b % 4 ≡ 0 → AreBlocks b l → j < b
    → get_or (cells b l) (q * b + j) None ≡ cell_in (get_or (map (block_bytes b) l) q None) j
cell_at b j [] q four h lt = refl
cell_at b j (x ∷ l) zero four h lt =
    let long = length-block b x four h.0 in
    let n : 0 * b + j ≡ j = omega arith in
    rw n (get_or-append (cells_of b (block_bytes b x)) (cells b l) None j (omega (arith, lt, long))
    ∙ cells_in b j (block_bytes b x) long lt)
cell_at b j (x ∷ l) (suc q) four h lt =
    let long = length-block b x four h.0 in
    let n : suc q * b + j ≡ length (cells_of b (block_bytes b x)) + (q * b + j) = omega (arith, long) in
    ap (λ (k : ℕ). get_or (cells_of b (block_bytes b x) ++ cells b l) k None) n
    ∙ get_or-append-add (cells_of b (block_bytes b x)) (cells b l) (q * b + j) None
    ∙ cell_at b j l q four h.1 lt

over_cell : (o : Option (List ℕ)) (j there : ℕ) → unwrap_or (cell_in o j) there ≡ byte_over o j there
over_cell None j there = refl
over_cell (Some bytes) j there = refl

pub laid_byte : (b : ℕ) (p : List ℕ) (l : List Block) (i : ℕ) → IsBlockSize b → AreBlocks b l → i < length p
    → get_or (over p (cells b l)) i 0 ≡ byte_over (get_or (map (block_bytes b) l) (i / b) None) (i % b) (get_or p i 0)
laid_byte b p l i good h lt =
    let some = good.0 in
    let n : i ≡ i / b * b + i % b = omega (arith, mod-eq-sub-div-mul i b, div-mul-le_self i b) in
    let less : i % b < b = omega arith in
    let cell : get_or (cells b l) i None ≡ cell_in (get_or (map (block_bytes b) l) (i / b) None) (i % b) =
    ap (λ (k : ℕ). get_or (cells b l) k None) n ∙ cell_at b (i % b) l (i / b) good.1 h less in
    get_or-over p (cells b l) i lt ∙ ap (λ (o : Option ℕ). unwrap_or o (get_or p i 0)) cell
    ∙ over_cell (get_or (map (block_bytes b) l) (i / b) None) (i % b) (get_or p i 0)

pub expanded_long : (b : ℕ) (l : List Block) → IsBlockSize b → AreBlocks b l → length (expansion b l) ≡ length l * b
expanded_long b l good h = length-over (replicate (length (cells b l)) 0) (cells b l)
    ∙ length-replicate (length (cells b l)) 0 ∙ length-cells b l good.1 h
