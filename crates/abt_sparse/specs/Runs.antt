-- The runs of a list of blocks, the weight of a segment, and cuts by weight for a download limit.
use Rattle.std.specs.Prelude.{◌≡◌, ℕ, suc, ◌+◌, ◌*◌, ◌≤◌, Bool, true, false, List, [], ◌∷◌, ◌++◌, length, replicate}
use Rattle.std.specs.Prelude.{bytes_eq, nat_le, if◌then◌else◌, ⊤}
use Rattle.std.specs.List.{flat_map, AllByRecursion, sum_by}
use Rattle.abt_sparse.specs.Block.{Block, Raw, Fill, Skip}

-- the parts one after the other
abbrev pub joined : {X : Type 0} → List (List X) → List X
joined parts = flat_map (λ part. part) parts

-- whether two blocks side by side belong to one run: both raw, both skipped, or filled with one word
abbrev pub alike : Block → Block → Bool
alike (Raw x) (Raw y) = true
alike (Fill v) (Fill w) = bytes_eq v w
alike Skip Skip = true
alike x y = false

-- ---- runs: maximal groups of blocks that are alike

-- a block before groups
abbrev pub grouped : Block → List (List Block) → List (List Block)
grouped x [] = (x ∷ []) ∷ []
grouped x ([] ∷ gs) = (x ∷ []) ∷ gs
grouped x ((y ∷ g) ∷ gs) = if alike x y then (x ∷ y ∷ g) ∷ gs else (x ∷ []) ∷ (y ∷ g) ∷ gs

-- the maximal groups, from the last block to the first
abbrev pub runs : List Block → List (List Block)
runs [] = []
runs (x ∷ l) = grouped x (runs l)

-- Groups that are the list when joined, none empty, each of blocks that are alike, no two neighbours fit to be one.
abbrev pub IsRun : List Block → Type 0
IsRun [] = ⊥
IsRun (x ∷ g) = AllByRecursion (λ y. alike x y ≡ true) g

abbrev pub Apart : List (List Block) → Type 0
Apart [] = ⊤
Apart (g ∷ []) = ⊤
Apart ([] ∷ h ∷ gs) = ⊥
Apart (g ∷ [] ∷ gs) = ⊥
Apart ((x ∷ g) ∷ (y ∷ h) ∷ gs) = (alike x y ≡ false) × Apart ((y ∷ h) ∷ gs)

pub record IsRuns (blocks : List Block) (groups : List (List Block)) : Type 0 where
  pub whole : joined groups ≡ blocks
  pub each : AllByRecursion IsRun groups
  pub apart : Apart groups

-- ---- weight

-- what a run takes in a piece: its header of 12 bytes and its data
abbrev pub run_weight : ℕ → List Block → ℕ
run_weight b [] = 0
run_weight b (Raw x ∷ g) = 12 + (suc (length g)) * b
run_weight b (Fill w ∷ g) = 16
run_weight b (Skip ∷ g) = 12

abbrev pub begins_skip : List Block → Bool
begins_skip (Skip ∷ g) = true
begins_skip g = false

-- the runs without one of Skip at the end, and without one at the beginning
abbrev pub without_last : List (List Block) → List (List Block)
without_last [] = []
without_last (g ∷ []) = if begins_skip g then [] else g ∷ []
without_last (g ∷ h ∷ gs) = g ∷ without_last (h ∷ gs)

abbrev pub without_first : List (List Block) → List (List Block)
without_first [] = []
without_first (g ∷ gs) = if begins_skip g then gs else g ∷ gs

-- the weight of a segment: a header of 28 bytes, 12 for a chunk of Skip before it and after it, the runs between
abbrev pub weight : ℕ → List Block → ℕ
weight b segment = 52 + sum_by (run_weight b) (without_last (without_first (runs segment)))

-- ---- cutting

-- A list in parts, each as long as the test allows. The first part is open and has what came before.
abbrev pub greedy : {X : Type 0} → (List X → Bool) → List X → List X → List (List X)
greedy fits open_part [] = open_part ∷ []
greedy fits open_part (x ∷ l) =
    elim (fits (open_part ++ x ∷ []))
    [ true ↦ greedy fits (open_part ++ x ∷ []) l | false ↦ open_part ∷ greedy fits (x ∷ []) l ]

-- what is left of a list after a part, cut further: nothing where nothing is left
abbrev pub tail_parts : {X : Type 0} → (List X → Bool) → List X → List (List X)
tail_parts fits [] = []
tail_parts fits (x ∷ l) = greedy fits [] (x ∷ l)

-- the segments of an image: each ends where one block more would weigh above the limit
abbrev pub segments : ℕ → ℕ → List Block → List (List Block)
segments limit b l = greedy (λ part. nat_le (weight b part) limit) [] l

-- any way to cut the blocks in parts that weigh no more than the limit
pub record Division (limit b : ℕ) (blocks : List Block) (parts : List (List Block)) : Type 0 where
  pub whole : joined parts ≡ blocks
  pub some : 1 ≤ length parts
  pub each : AllByRecursion (λ part. weight b part ≤ limit) parts

-- the whole image as a piece has it: it skips the blocks before its segment and after it
abbrev pub framed : ℕ → List Block → ℕ → List Block
framed before segment after = replicate before Skip ++ segment ++ replicate after Skip

-- the blocks of each piece, where so many come before the first
abbrev pub frames : ℕ → List (List Block) → List (List Block)
frames before [] = []
frames before (s ∷ ss) = framed before s (length (joined ss)) ∷ frames (before + length s) ss
