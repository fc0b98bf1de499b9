-- Planning a piece from left to right, in numbers.
use Rattle.std.specs.Prelude.{◌≡◌, ℕ, ◌+◌, ◌-◌, ◌*◌, ◌/◌, ◌^◌, ◌≤◌, ◌<◌, nat_lt, nat_le, List, [], ◌∷◌, ◌++◌, length}
use Rattle.std.specs.Prelude.{take, drop, replicate, bytes_eq, zero, suc, if◌then◌else◌}
use Rattle.abt_sparse.specs.Block.{Block, Raw, Fill, Skip}
use Rattle.abt_sparse.specs.Runs.{weight, greedy, tail_parts}
use Rattle.abt_sparse.specs.Gains.{Behind, Fresh, After, behind_all}
use Rattle.abt_runs.specs.declared.part.RunKind.{RunKind}
use Rattle.abt_runs.specs.declared.part.RunKind.TheVariants as kinds
use Rattle.abt_pieces.specs.declared.segment_tail.Tail.{Tail}
use Rattle.abt_pieces.specs.declared.segment_tail.Tail.TheVariants as tails
use Rattle.abt_pieces.specs.Contents.{IsContents, last_of}
use Rattle.abt_runs.specs.Part.{afresh}
use Rattle.abt_pieces.specs.declared.plan.Planner.{Planner}

-- what a header of raw blocks adds, and what a fill adds
abbrev pub head_of : Tail → ℕ
head_of tails.Fresh = 12
head_of tails.Skip = 24
head_of tails.Raw = 0
head_of (tails.Fill w) = 12

abbrev pub fill_gain_of : Tail → List ℕ → ℕ
fill_gain_of tails.Fresh w = 16
fill_gain_of tails.Skip w = 28
fill_gain_of tails.Raw w = 16
fill_gain_of (tails.Fill v) w = if bytes_eq v w then 0 else 16

abbrev pub skip_tail : Tail → Tail
skip_tail tails.Fresh = tails.Fresh
skip_tail t = tails.Skip

abbrev pub cap_of : Tail → ℕ → ℕ → ℕ
cap_of tail room size = if nat_lt (room - head_of tail) size then 1 else (room - head_of tail) / size

abbrev pub gain_of : Tail → RunKind → ℕ → ℕ → ℕ
gain_of t kinds.Raw q b = head_of t + q * b
gain_of t (kinds.Fill w) q b = fill_gain_of t w
gain_of t kinds.Skip q b = 0
gain_of t kinds.End q b = 0

abbrev pub tail_after : Tail → RunKind → Tail
tail_after t kinds.Raw = tails.Raw
tail_after t (kinds.Fill w) = tails.Fill w
tail_after t kinds.Skip = skip_tail t
tail_after t kinds.End = skip_tail t

-- what a segment ends in
abbrev pub tail_of : Behind → Tail
tail_of Fresh = tails.Fresh
tail_of (After (Raw x)) = tails.Raw
tail_of (After (Fill w)) = tails.Fill w
tail_of (After Skip) = tails.Skip

-- the blocks from s up to e
abbrev pub between : List Block → ℕ → ℕ → List Block
between l s e = take (e - s) (drop s l)

-- the class of the block before block n of a piece: those before its segment are skipped
abbrev pub last_kind : Tail → ℕ → RunKind
last_kind tails.Fresh zero = kinds.End
last_kind tails.Fresh (suc n) = kinds.Skip
last_kind tails.Skip n = kinds.Skip
last_kind tails.Raw n = kinds.Raw
last_kind (tails.Fill w) n = kinds.Fill w

-- the blocks of a piece up to e, where its segment begins at s
abbrev pub front : List Block → ℕ → ℕ → List Block
front l s e = replicate s Skip ++ between l s e

-- a piece has room for a last don't care within its weight
abbrev pub Slim : Tail → ℕ → ℕ → ℕ → Type 0
Slim tails.Fresh at bytes weight = (weight ≡ 52) × (bytes ≤ 40) × (at ≡ 0 → bytes ≤ 28)
Slim tails.Skip at bytes weight = bytes ≤ weight
Slim tails.Raw at bytes weight = bytes + 12 ≤ weight
Slim (tails.Fill w) at bytes weight = bytes + 12 ≤ weight

-- The numbers of a planner, whatever the source gave.
pub record Even (p : Planner) : Type 0 where
  pub order : p.first ≤ p.at.block
  pub chunks : p.contents.chunks ≤ p.at.block
  pub written : p.contents.written + p.first ≤ p.at.block
  pub least : 28 ≤ p.contents.bytes
  pub slim : Slim p.tail p.at.block p.contents.bytes p.weight

-- a plan of an image of so many blocks can rest where it is
pub record RestsWithin (count : ℕ) (p : Planner) : Type 0 where
  pub even : Even p
  pub room : p.weight < 2 ^ 32
  pub within : p.at.block ≤ count

-- The planner has come so far in these blocks of b bytes.
pub record Planned (b : ℕ) (l : List Block) (p : Planner) : Type 0 where
  pub order : p.first ≤ p.at.block
  pub within : p.at.block ≤ length l
  pub weight : p.weight ≡ weight b (between l p.first p.at.block)
  pub tail : p.tail ≡ tail_of (behind_all Fresh (between l p.first p.at.block))
  pub last : last_kind p.tail p.at.block ≡ last_of kinds.End (front l p.first p.at.block)
  pub contents : IsContents b (front l p.first p.at.block) p.contents

-- not one block more would be within the limit
pub record PlanEnds (b : ℕ) (l : List Block) (limit : ℕ) (p : Planner) : Type 0 where
  pub over : (x : Block) (more : List Block) → drop p.at.block l ≡ x ∷ more
      → limit < weight b (between l p.first p.at.block ++ x ∷ [])

-- The first piece of what begins at s ends at e.
pub record FirstPiece (b : ℕ) (l : List Block) (limit s e : ℕ) : Type 0 where
  pub order : s ≤ e
  pub within : e ≤ length l
  pub fits : weight b (between l s e) ≤ limit
  pub cut : greedy (λ part. nat_le (weight b part) limit) [] (drop s l)
      ≡ between l s e ∷ tail_parts (λ part. nat_le (weight b part) limit) (drop e l)

-- how many words of the last of n blocks may have been compared without being read before block i
abbrev pub last_words : ℕ → ℕ → ℕ → ℕ
last_words one n i = if nat_lt i n then 0 else one

-- where a planner ends: at a place from which the next piece begins afresh
abbrev pub rested : Planner → Planner
rested p = record { first = p.first; at = afresh p.at; tail = p.tail; weight = p.weight; contents = p.contents }
