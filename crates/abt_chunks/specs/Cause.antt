-- Which device failed where a call is refused, how much the call may have read before that was known, and that no
-- other device failed.
use Rattle.std.specs.Prelude.{◌≡◌, ℕ, ◌==◌, Bool, Result, Err, if◌then◌else◌, nat_lt}
use Rattle.abt_sparse.specs.declared.fault.SparseFault.{SparseFault}
use Rattle.abt_sparse.specs.declared.fault.SparseFault.TheVariants as faults
use Rattle.abt_sparse.specs.declared.kind.ChunkKind.{ChunkKind}
use Rattle.abt_sparse.specs.declared.kind.ChunkKind.TheVariants as kinds
use Rattle.abt_sparse.specs.Cause.{full_answered, full_in_fault}
use Rattle.abt_chunks.specs.declared.walk.Phase.{Phase}
use Rattle.abt_chunks.specs.declared.walk.Phase.TheVariants as phases
use Rattle.abt_chunks.specs.declared.walk.Walk.{Walk}
use Rattle.abt_chunks.specs.declared.walk.Part.{Part}
use Rattle.abt_chunks.specs.declared.walk.Part.TheVariants as parts
use Rattle.abt_chunks.specs.Expanding.{IsGoing, ExpandingRises}
use Rattle.abt_chunks.specs.Parts.{Caused}

-- No device has failed but the one whose fault is returned: the input's faults went from r to r', the output's from w
-- to w'.
abbrev pub Clean : {X : Type 0} → Result X SparseFault → ℕ → ℕ → ℕ → ℕ → Type 0
Clean (Err (faults.Read d)) r r' w w' = w' ≡ w
Clean (Err (faults.Write d)) r r' w w' = r' ≡ r
Clean a r r' w w' = (r' ≡ r) × (w' ≡ w)

-- the same of a part, which comes of an input alone
abbrev pub CleanPart : Part → ℕ → ℕ → Type 0
CleanPart (parts.Fault (faults.Read d)) r r' = Unit {0}
CleanPart q r r' = r' ≡ r

-- 1 where a part hands on that a device is full
abbrev pub full_in_part : Part → ℕ
full_in_part (parts.Fault f) = full_in_fault f
full_in_part q = 0

-- Whose fault a part of a walk is, where the input's count of faults went from r to r'. That a device is full is handed
-- on only by a walk that is over.
pub record PartBlamed (q : Part) (s : Walk) (r r' : ℕ) : Type 0 where
  pub cause : Caused q s.phase r r'
  pub clean : CleanPart q r r'
  pub failed : IsGoing s.phase → full_in_part q ≡ 0

-- Whose fault a result is: the device that it names has failed, and no other.
pub record Blamed {X : Type 0} (a : Result X SparseFault) (r r' w w' : ℕ) : Type 0 where
  pub cause : ExpandingRises a r r' w w'
  pub clean : Clean a r r' w w'

-- the same of a result that comes of an input alone, which is never that a device is full
pub record InputBlamed {X : Type 0} (a : Result X SparseFault) (r r' : ℕ) : Type 0 where
  pub cause : ExpandingRises a r r' 0 0
  pub clean : Clean a r r' 0 0
  pub failed : full_answered a ≡ 0

-- 1 where a walk that had neither ended nor failed is refused since a device is full
abbrev pub full_since : {X : Type 0} → Phase → Result X SparseFault → ℕ
full_since phases.Header a = full_answered a
full_since phases.Body a = full_answered a
full_since p a = 0

-- one of the ten faults that bytes may have
abbrev pub IsOwn : SparseFault → Type 0
IsOwn (faults.Read d) = ⊥
IsOwn (faults.Write d) = ⊥
IsOwn f = Unit {0}

-- P, save where the input ended too soon or a device failed
abbrev pub UnlessCut : SparseFault → Type 0 → Type 0
UnlessCut (faults.Truncated at) P = Unit {0}
UnlessCut (faults.Read d) P = Unit {0}
UnlessCut (faults.Write d) P = Unit {0}
UnlessCut f P = P

-- The bytes that a walk lacks within a chunk of this kind: the rest of its raw bytes, its word, or where nothing is
-- left of it the next chunk's header, which takes so many.
abbrev pub data_wanted : ChunkKind → Bool → ℕ → ℕ → ℕ → ℕ
data_wanted kinds.Raw due raw words head = if raw == 0 then head else raw
data_wanted kinds.Fill due raw words head = if due then 4 else (if words == 0 then head else 0)
data_wanted kinds.Skip due raw words head = if words == 0 then head else 0
data_wanted kinds.Crc due raw words head = if due then 4 else head

abbrev pub head_wanted : Walk → ℕ
head_wanted s = if nat_lt s.index s.header.total_chunks then 12 else 0

abbrev pub wanted_in : Phase → Walk → ℕ
wanted_in phases.Header s = 28
wanted_in phases.Body s = if s.extra == 0 then data_wanted s.kind s.due s.raw s.words (head_wanted s) else s.extra
wanted_in p s = 0

-- How many bytes a walk lacks to know more of the image. With fewer of them the image is cut short; no step reads more.
abbrev pub wanted : Walk → ℕ
wanted s = wanted_in s.phase s
