-- What one call of the system does to one open file, whatever it returns. Statements about bytes bind a file that
-- models its content.
use Rattle.std.specs.Prelude.{◌≡◌, ◌<◌, ◌≤◌, ◌+◌, ◌-◌, ◌++◌, [], ℕ, List, Bool, IsTrue, Result, Option, max}
use Rattle.std.specs.Prelude.{IfOk, OnOk, OnErr, length, take, drop, replicate}
use Rattle.std.specs.Prelude.{Some, None}
use Rattle.std.proofs.Common.{arith, zero, suc}
use Rattle.abt_io.specs.Bytes.{AreBytes}
use Rattle.abt_io.specs.Count.{count_of}
use Rattle.abt_io.specs.Moment.{put_at}

-- these bytes are a prefix of those
abbrev pub Begins : List ℕ → List ℕ → Type 0
Begins front all = take (length front) all ≡ front

-- A read returns a prefix of the content from an offset on. It returns no byte only if none is asked for, or at the
-- end.
pub record ReadsAt {E : Type 0} (models : Bool) (content : List ℕ) (r : Result ℕ E) (at : ℕ) (out : List ℕ)
    : Type 0 where
  pub within : count_of r ≤ length out
  pub present : IsTrue models → count_of r ≤ length content - at
  pub bytes : IsTrue models → take (count_of r) out ≡ take (count_of r) (drop at content)
  pub ended : IsTrue models → IfOk r (λ n. n ≡ 0 → 0 < length out → length content ≤ at)

-- A read at the file's position returns what a read at that offset does, and moves the position to the end of it.
pub record ReadsAtPlace {E : Type 0} (models : Bool) (old new : List ℕ) (place place' : ℕ) (r : Result ℕ E)
    (out : List ℕ) : Type 0 where
  pub reads : ReadsAt models old r place out
  pub same : IsTrue models → new ≡ old
  pub moves : IsTrue models → place' ≡ place + count_of r

-- A file's position is set, or stays as it was.
pub record GoesTo {X E : Type 0} (old new : List ℕ) (place place' : ℕ) (r : Result X E) (at : ℕ) : Type 0 where
  pub same : new ≡ old
  pub there : OnOk r (place' ≡ at)
  pub stays : OnErr r (place' ≡ place)

-- After a write that failed, its range may hold any bytes, and the file may have grown up to the end of the range.
pub record MarredIn (old new : List ℕ) (at n : ℕ) : Type 0 where
  pub before : Begins (take at old) new
  pub behind : drop (at + n) new ≡ drop (at + n) old
  pub least : length old ≤ length new
  pub long : length new ≤ max (length old) (at + n)

-- A write puts a prefix of these bytes at an offset.
pub record WritesAt {E : Type 0} (models : Bool) (old new : List ℕ) (r : Result ℕ E) (at : ℕ) (bytes : List ℕ)
    : Type 0 where
  pub within : count_of r ≤ length bytes
  pub written : IsTrue models → IfOk r (λ n. new ≡ put_at old at (take n bytes))
  pub marred : IsTrue models → OnErr r (MarredIn old new at (length bytes))

-- Something was written from an offset on, or the write was tried: what is before the offset stays, and the file is no
-- longer than this.
pub record ChangesFrom (old new : List ℕ) (at end : ℕ) : Type 0 where
  pub before : Begins (take at old) new
  pub long : length new ≤ max (length old) end

-- All of these bytes are written at a place.
pub record WritesAll {X E : Type 0} (models : Bool) (old new : List ℕ) (r : Result X E) (at : ℕ) (bytes : List ℕ)
    : Type 0 where
  pub written : IsTrue models → OnOk r (new ≡ put_at old at bytes)
  pub changes : IsTrue models → ChangesFrom old new at (at + length bytes)

-- The file gets the requested length: it is truncated, or zeros are appended. If that failed, its prefix is unchanged.
pub record SetsLength {X E : Type 0} (models : Bool) (old new : List ℕ) (r : Result X E) (n : ℕ) : Type 0 where
  pub set : IsTrue models → OnOk r (new ≡ take n old ++ replicate (n - length old) 0)
  pub front : IsTrue models → Begins (take n old) new
  pub long : IsTrue models → length new ≤ max n (length old)

-- This many of these bytes were written at an offset, and a write of the rest was tried.
pub record WritesFrom {X E : Type 0} (models : Bool) (old new : List ℕ) (done : ℕ) (r : Result X E) (at : ℕ)
    (bytes : List ℕ) : Type 0 where
  pub within : done ≤ length bytes
  pub all : OnOk r (done ≡ length bytes)
  pub written : IsTrue models → OnOk r (new ≡ put_at old at bytes)
  pub changes : IsTrue models → ChangesFrom old new at (at + length bytes)
  pub reaches : IsTrue models → at + done ≤ length new
  pub least : IsTrue models → length old ≤ length new

-- the content of a file, and the empty list where there is no file
abbrev pub file_bytes : {F : Type 0} → (F → List ℕ) → Option F → List ℕ
file_bytes held None = []
file_bytes held (Some f) = held f

no_bytes : AreBytes []
no_bytes zero = omega arith
no_bytes (suc i) = omega arith

-- and each element of it is a byte
pub are_bytes_of : {F : Type 0} {models : Bool} (held : F → List ℕ) (each : (f : F) → IsTrue models → AreBytes (held f))
    (file : Option F) → IsTrue models → AreBytes (file_bytes held file)
are_bytes_of held each None t = no_bytes
are_bytes_of held each (Some f) t = each f t
