-- The weight of a segment from left to right: what each block adds to the weight of the blocks before it. It is the
-- same weight (the law `weighs`), in the form in which code adds it up block by block.
use Rattle.std.specs.Prelude.{ℕ, ◌+◌, List, [], ◌∷◌, if◌then◌else◌}
use Rattle.abt_sparse.specs.Block.{Block, Raw, Fill, Skip}
use Rattle.abt_sparse.specs.Runs.{alike}

-- What comes before a block: nothing but skipped blocks, which cost nothing at the beginning, or anything else with
-- this block at its end.
pub data Behind : Type 0 where
  Fresh : Behind
  After : Block → Behind

-- the state after one more block, and after several
abbrev pub moved : Behind → Block → Behind
moved Fresh Skip = Fresh
moved Fresh (Raw x) = After (Raw x)
moved Fresh (Fill x) = After (Fill x)
moved (After y) x = After x

-- A skipped block costs nothing until another follows it, since it may end the segment.
abbrev pub gain : ℕ → Behind → Block → ℕ
gain b s Skip = 0
gain b Fresh (Raw x) = 12 + b
gain b Fresh (Fill x) = 16
gain b (After Skip) (Raw x) = 12 + (12 + b)
gain b (After Skip) (Fill x) = 12 + 16
gain b (After (Raw y)) (Raw x) = b
gain b (After (Raw y)) (Fill x) = 16
gain b (After (Fill y)) (Raw x) = 12 + b
gain b (After (Fill y)) (Fill x) = if alike (Fill y) (Fill x) then 0 else 16

-- what several blocks add
abbrev pub gains : ℕ → Behind → List Block → ℕ
gains b s [] = 0
gains b s (x ∷ l) = gain b s x + gains b (moved s x) l

abbrev pub behind_all : Behind → List Block → Behind
behind_all s [] = s
behind_all s (x ∷ l) = behind_all (moved s x) l
