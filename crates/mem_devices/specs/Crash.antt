-- What a crash leaves of a partition in memory, when its three lists fit together, and what other test devices leave.
use Rattle.std.specs.Prelude.{◌≡◌, ℕ, ◌<◌, ◌≤◌, false, List, length, replicate, slice_index, nat_eq, nat_lt, cond}
use Rattle.abt_io.specs.Moment.{is_pending, put_at}
use Rattle.mem_devices.specs.declared.pick.Pick.{Pick}
use Rattle.mem_devices.specs.declared.pick.Pick.TheVariants.{Old, New, Byte}

-- what is left of a touched byte, from what a read gave and what was stable
abbrev pub picked : Pick → ℕ → ℕ → ℕ
picked Old now stable = stable
picked New now stable = now
picked (Byte v) now stable = v

-- what is left of any byte: one that isn't touched stays as it is
abbrev pub left_of : Pick → ℕ → ℕ → ℕ → ℕ
left_of p now stable touched = cond (nat_eq touched 0) now (picked p now stable)

-- the lists are of one length, untouched bytes are stable as they are, and exactly the pending bytes are touched
pub record IsTracked (now stable touched : List ℕ) (pending : List (ℕ × ℕ)) : Type 0 where
  pub stable_long : length stable ≡ length now
  pub touched_long : length touched ≡ length now
  pub agrees : (i : ℕ) → slice_index touched i ≡ 0 → slice_index stable i ≡ slice_index now i
  pub untouched : (i : ℕ) → slice_index touched i ≡ 0 → is_pending pending i ≡ false
  pub only : (i : ℕ) → i < length now → is_pending pending i ≡ false → slice_index touched i ≡ 0

-- of the n bytes from `at` on, a prefix is this byte now: at least one of them
pub record IsTorn (mark at n : ℕ) (old new : List ℕ) : Type 0 where
  pub count : ℕ
  pub some : 0 < count
  pub within : count ≤ n
  pub filled : new ≡ put_at old at (replicate count mark)

-- which of two lists the next call reads, where this many calls are left of the first
abbrev pub switched : ℕ → List ℕ → List ℕ → List ℕ
switched left first second = cond (nat_lt 0 left) first second
