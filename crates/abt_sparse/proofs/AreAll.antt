-- Blocks of one size, in lists that are joined and taken apart.
use Rattle.std.proofs.Common.{ℕ, zero, suc, List, [], ◌∷◌, ◌++◌, replicate}
use Rattle.std.specs.List.{AllByRecursion}
use Rattle.abt_sparse.specs.Block.{Block, Skip, AreBlocks}
use Rattle.abt_sparse.specs.Runs.{joined}

pub AreBlocks-append : (b : ℕ) (l m : List Block) → AreBlocks b l → AreBlocks b m → AreBlocks b (l ++ m)
AreBlocks-append b [] m h k = k
AreBlocks-append b (x ∷ l) m h k = (h.0, AreBlocks-append b l m h.1 k)

pub AreBlocks-skips : (b n : ℕ) → AreBlocks b (replicate n Skip)
AreBlocks-skips b zero = tt
AreBlocks-skips b (suc n) = (tt, AreBlocks-skips b n)

-- the front and the back
pub AreBlocks-parts : (b : ℕ) (l m : List Block) → AreBlocks b (l ++ m) → AreBlocks b l × AreBlocks b m
AreBlocks-parts b [] m h = (tt, h)
AreBlocks-parts b (x ∷ l) m h = let r = AreBlocks-parts b l m h.1 in ((h.0, r.0), r.1)

pub AreBlocks-joined : (b : ℕ) (ss : List (List Block)) → AreBlocks b (joined ss) → AllByRecursion (AreBlocks b) ss
AreBlocks-joined b [] h = tt
AreBlocks-joined b (s ∷ ss) h = let r = AreBlocks-parts b s (joined ss) h in (r.0, AreBlocks-joined b ss r.1)
