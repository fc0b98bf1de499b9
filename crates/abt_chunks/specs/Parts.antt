-- What lies ahead of a walk, and what a part says of that.
use Rattle.std.specs.Prelude.{◌≡◌, ℕ, ◌+◌, ◌*◌, ◌<◌, ◌≤◌, Bool, true, false, List, [], ◌++◌, length, Ok}
use Rattle.abt_sparse.specs.declared.fault.SparseFault.TheVariants as faults
use Rattle.abt_sparse.specs.Reading.{outcome}
use Rattle.abt_sparse.specs.View.{view}
use Rattle.abt_chunks.specs.declared.walk.Phase.{Phase}
use Rattle.abt_chunks.specs.declared.walk.Phase.TheVariants as phases
use Rattle.abt_chunks.specs.declared.walk.Walk.{Walk}
use Rattle.abt_chunks.specs.declared.walk.Part.{Part}
use Rattle.abt_chunks.specs.declared.walk.Part.TheVariants as parts
use Rattle.abt_chunks.specs.Ahead.{Ahead, stopping, before, somes, fills, gaps, seen, walk}

-- what the bytes still to be read give
abbrev pub ahead_in : Phase → Walk → List ℕ → Ahead
ahead_in phases.Header s y = seen (outcome y)
ahead_in phases.Body s y =
    walk s.kind s.due (view s.header) s.index s.have s.extra s.raw s.words s.word (s.position + length y) y
ahead_in phases.Done s y = record { cells = []; ending = Ok (view s.header, y) }
ahead_in (phases.Failed f) s y = stopping f

abbrev pub ahead : Walk → List ℕ → Ahead
ahead s y = ahead_in s.phase s y

-- What a part says, once its bytes c are read: whatever bytes t follow, what lay ahead of s is what the part gives, and
-- then what lies ahead of s'.
abbrev pub Says : Part → Walk → Walk → List ℕ → List ℕ → Type 0
Says (parts.Raw n) s s' c t = (length c ≡ n) × (ahead s (c ++ t) ≡ before (somes c) (ahead s' t))
Says (parts.Words word n) s s' c t = ahead s (c ++ t) ≡ before (fills n word) (ahead s' t)
Says (parts.Skip n) s s' c t = ahead s (c ++ t) ≡ before (gaps n) (ahead s' t)
Says parts.Nothing s s' c t = ahead s (c ++ t) ≡ ahead s' t
Says parts.End s s' c t = ahead s (c ++ t) ≡ record { cells = []; ending = Ok (view s'.header, t) }
Says (parts.Fault f) s s' c t = ahead s (c ++ t) ≡ stopping f

-- the phase that a part leaves
abbrev pub PartLeaves : Part → Phase → Type 0
PartLeaves parts.End p = p ≡ phases.Done
PartLeaves (parts.Fault f) p = p ≡ phases.Failed f
PartLeaves q p = p ≡ phases.Body

-- the machine goes on after it
abbrev pub goes_on : Part → Bool
goes_on parts.End = false
goes_on (parts.Fault f) = false
goes_on q = true

abbrev pub is_fault : Part → Bool
is_fault (parts.Fault f) = true
is_fault q = false

-- a header or a word was read, or one is refused
abbrev pub IsReadPart : Part → Type 0
IsReadPart parts.Nothing = Unit {0}
IsReadPart (parts.Fault f) = Unit {0}
IsReadPart q = ⊥

-- so many raw bytes, or a refusal
abbrev pub IsRawPart : Part → ℕ → Type 0
IsRawPart (parts.Raw k) n = k ≡ n
IsRawPart (parts.Fault f) n = Unit {0}
IsRawPart q n = ⊥

-- of fills and gaps at most so many words
abbrev pub Within : Part → ℕ → ℕ → Type 0
Within (parts.Words word n) fill skip = (0 < n) × (n ≤ fill) × (length word ≡ 4)
Within (parts.Skip n) fill skip = (0 < n) × (n ≤ skip)
Within q fill skip = Unit {0}

-- what came is what is given, and something came
abbrev pub Moved : Part → ℕ → Type 0
Moved (parts.Raw n) received = (n ≡ received) × (0 < n)
Moved parts.Nothing received = 0 < received
Moved q received = received ≡ received

-- 11 and 12 come where the input failed in this call, or where the walk had failed so
abbrev pub Caused : Part → Phase → ℕ → ℕ → Type 0
Caused (parts.Fault f) (phases.Failed g) r r' = f ≡ g
Caused (parts.Fault (faults.Read d)) p r r' = r < r'
Caused (parts.Fault (faults.Write d)) p r r' = ⊥
Caused q p r r' = Unit {0}

-- the same, of a fault of the devices nothing
abbrev pub SaysUnlessDevice : Part → Walk → Walk → List ℕ → List ℕ → Type 0
SaysUnlessDevice (parts.Fault (faults.Read d)) s s' c t = Unit {0}
SaysUnlessDevice (parts.Fault (faults.Write d)) s s' c t = Unit {0}
SaysUnlessDevice q s s' c t = Says q s s' c t

-- how many bytes of blocks a part gives or passes over
abbrev pub given_by : Part → ℕ
given_by (parts.Raw n) = n
given_by (parts.Words word n) = 4 * n
given_by (parts.Skip n) = 4 * n
given_by q = 0
