-- What a crash may leave on a partition. A moment is an intermediate state: the state that one call left.
use Rattle.std.specs.Prelude.{◌≡◌, ℕ, ◌+◌, Bool, true, false, ◌&&◌, ◌||◌, nat_le, nat_lt, List, [], ◌∷◌, ◌++◌, length}
use Rattle.std.specs.Prelude.{take, drop, slice_get}
use Rattle.std.specs.List.{AllByRecursion}

-- a partition between calls: the number of its file, its bytes, the ranges (place, length) that a crash may change, how
-- many syncs succeeded
pub record Moment : Type 0 where
  pub file : ℕ
  pub content : List ℕ
  pub pending : List (ℕ × ℕ)
  pub synced : ℕ

-- beside a partition's content: the number of its file, what was written since the last good sync, the good syncs, its
-- states, newest first
pub record Past : Type 0 where
  pub file : ℕ
  pub pending : List (ℕ × ℕ)
  pub synced : ℕ
  pub moments : List Moment

-- of this file, before anything was written
abbrev pub past_of_file : ℕ → Past
past_of_file n = record { file = n; pending = []; synced = 0; moments = [] }

-- of a file without a number
abbrev pub no_past : Past
no_past = past_of_file 0

-- the state with this content
abbrev pub moment_of : Past → List ℕ → Moment
moment_of p content = record { file = p.file; content = content; pending = p.pending; synced = p.synced }

-- with one more state, which is now
abbrev pub seen_at : Past → List ℕ → Past
seen_at p content = record p { moments = moment_of p content ∷ p.moments }

-- after a write of n bytes at a place, or a try
abbrev pub wrote : Past → List ℕ → ℕ → ℕ → Past
wrote p content at n = seen_at (record p { pending = (at, n) ∷ p.pending }) content

-- after a sync that succeeded
abbrev pub settled : Past → List ℕ → Past
settled p content = seen_at (record p { pending = []; synced = p.synced + 1 }) content

-- byte i is among the n bytes from `at` on
abbrev pub in_range : ℕ → ℕ → ℕ → Bool
in_range at n i = nat_le at i && nat_lt i (at + n)

-- byte i is in one of these ranges
abbrev pub is_pending : List (ℕ × ℕ) → ℕ → Bool
is_pending [] i = false
is_pending (r ∷ rs) i = in_range r.0 r.1 i || is_pending rs i

-- each of these bytes is pending
abbrev pub AllPending : (ℕ → Bool) → List (ℕ × ℕ) → Type 0
AllPending which ranges = (i : ℕ) → which i ≡ true → is_pending ranges i ≡ true

-- what is pending in the old ranges is so in the new ones
abbrev pub StaysPending : List (ℕ × ℕ) → List (ℕ × ℕ) → Type 0
StaysPending old new = (i : ℕ) → is_pending old i ≡ true → is_pending new i ≡ true

-- of states, newest first: the newest is this one
abbrev pub IsNewest : Moment → List Moment → Type 0
IsNewest m [] = ⊥
IsNewest m (n ∷ ns) = n ≡ m

-- a crash in this state may leave q
pub record MayLeave (m : Moment) (q : List ℕ) : Type 0 where
  pub size : length q ≡ length m.content
  pub kept : (i : ℕ) → is_pending m.pending i ≡ false → slice_get q i ≡ slice_get m.content i

-- of the same file, each byte that isn't touched keeps its value from m to n, and doesn't become pending
pub record Keeps (touched : ℕ → Bool) (m n : Moment) : Type 0 where
  pub same : n.file ≡ m.file
  pub size : length n.content ≡ length m.content
  pub bytes : (i : ℕ) → touched i ≡ false → slice_get n.content i ≡ slice_get m.content i
  pub pending : (i : ℕ) → touched i ≡ false → is_pending m.pending i ≡ false → is_pending n.pending i ≡ false

-- the same, and no sync has succeeded from m to n
pub record KeepsUnsynced (touched : ℕ → Bool) (m n : Moment) : Type 0 where
  pub kept : Keeps touched m n
  pub synced : n.synced ≡ m.synced

-- old with these bytes at a place
abbrev pub put_at : List ℕ → ℕ → List ℕ → List ℕ
put_at old at bytes = take at old ++ bytes ++ drop (at + length bytes) old

-- of states, newest first: each that is in `new` and not yet in `old` has P, and nothing was forgotten
pub record EachSince (old new : List Moment) (P : Moment → Type 0) : Type 0 where
  pub fresh : List Moment
  pub joined : new ≡ fresh ++ old
  pub each : AllByRecursion P fresh

-- through these states, the oldest first, each call leaves what isn't touched as it was
abbrev pub Through : (ℕ → Bool) → Moment → List Moment → Type 0
Through touched m [] = Unit {0}
Through touched m (n ∷ ns) = Keeps touched m n × Through touched n ns
