-- Runs: joined parts of one class, and when such a run is whole.
use Rattle.std.specs.Prelude.{◌≡◌, ℕ, ◌+◌, ◌-◌, ◌≤◌, Bool, true, false, IsTrue, List, [], ◌∷◌, length, take, drop, min}
use Rattle.std.specs.Prelude.{bytes_eq, ◌==◌, Option, Some, None, if◌then◌else◌}
use Rattle.abt_sparse.specs.Block.{Block}
use Rattle.abt_sparse.specs.Runs.{runs}
use Rattle.abt_runs.specs.Part.{AllOf, is_end}
use Rattle.abt_runs.specs.declared.part.Run.{Run}
use Rattle.abt_runs.specs.declared.part.RunKind.{RunKind}
use Rattle.abt_runs.specs.declared.part.RunKind.TheVariants.{Raw, Fill, Skip}

-- blocks of these classes make one run
abbrev pub alike_kinds : RunKind → RunKind → Bool
alike_kinds Raw Raw = true
alike_kinds (Fill v) (Fill w) = bytes_eq v w
alike_kinds Skip Skip = true
alike_kinds x y = false

-- the blocks of the first run
abbrev pub blocks_of_first : List (List Block) → List Block
blocks_of_first [] = []
blocks_of_first (g ∷ gs) = g

abbrev pub first_run : List Block → List Block
first_run l = blocks_of_first (runs l)

-- a raw run is cut at cap blocks
abbrev pub cut_at : RunKind → ℕ → ℕ → ℕ
cut_at Raw cap n = min cap n
cut_at k cap n = n

-- r is the first run of the blocks from block i on, and none where there is no block
pub record RunOf (cap : ℕ) (l : List Block) (i : ℕ) (r : Run) : Type 0 where
  pub within : i + r.blocks ≤ length l
  pub next : r.next.block ≡ i + r.blocks
  pub all : AllOf r.kind (take r.blocks (drop i l))
  pub whole : r.blocks ≡ cut_at r.kind cap (length (first_run (drop i l)))
  pub ended : IsTrue (is_end r.kind) → i ≡ length l
  pub none : r.blocks ≡ 0 → IsTrue (is_end r.kind)

-- r and a part after it as one: None where the part isn't of r's class, or is the end
abbrev pub and_part : Run → Run → Option Run
and_part r p =
    if is_end p.kind then None
    else if p.blocks == 0 then Some (record {
      kind = r.kind;
      blocks = r.blocks;
      here = if r.blocks == 0 then p.next
          else r.here;
      next = p.next;
    })
    else if r.blocks == 0 then Some p
    else if alike_kinds r.kind p.kind
    then Some (record { kind = r.kind; blocks = r.blocks + p.blocks; here = r.here; next = p.next })
    else None

-- how many more raw blocks a run of this class may have
abbrev pub room_in : RunKind → ℕ → ℕ → ℕ
room_in Raw n cap = cap - n
room_in k n cap = cap
