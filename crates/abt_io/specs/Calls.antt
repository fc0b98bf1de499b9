-- What one call of a device does, whatever it returns. Each record relates the ghost members of a trait before the
-- call and after it. Its first arguments are these members, in the trait's order.
use Rattle.std.specs.Prelude.{◌≡◌, ◌<◌, ◌≤◌, ◌+◌, ◌-◌, ◌^◌, ◌++◌, [], ◌∷◌, ℕ, List, Bool, IsTrue, Result, IfOk, IfErr}
use Rattle.std.specs.Prelude.{OnOk, OnErr, IsErrOf, is_ok, false, if◌then◌else◌, length, take, drop}
use Rattle.abt_io.specs.declared.device.DeviceFault.{DeviceFault}
use Rattle.abt_io.specs.declared.device.DeviceFault.TheVariants.{Failed, Full}
use Rattle.abt_io.specs.Count.{count_of, full_of}
use Rattle.abt_io.specs.Frame.{ReadFrame, WriteFrame, PartitionFrame}
use Rattle.abt_io.specs.Moment.{Past, Keeps, EachSince, IsNewest, MayLeave, StaysPending, AllPending}
use Rattle.abt_io.specs.Moment.{in_range, moment_of, put_at}

-- One call that reads forward passes over a prefix of what remains, at most `room` bytes. It passes over none only
-- where there was no room, or nothing remained.
pub record HasPassed {A : Type 0} (models : Bool) (its_remaining : A → List ℕ)
    (its_reads its_given its_read_faults : A → ℕ) (its_read_frame : A → ReadFrame) (r : Result ℕ DeviceFault)
    (old new : A) (room : ℕ) : Type 0 where
  pub within : count_of r ≤ room
  pub present : IsTrue models → count_of r ≤ length (its_remaining old)
  pub rest : IsTrue models → its_remaining new ≡ drop (count_of r) (its_remaining old)
  pub ended : IsTrue models → IfOk r (λ n. n ≡ 0 → 0 < room → its_remaining old ≡ [])
  pub frame : its_read_frame new ≡ its_read_frame old
  pub calls : its_reads new ≡ its_reads old + 1
  pub counted : its_given new ≡ its_given old + count_of r
  pub faults : its_read_faults old ≤ its_read_faults new
  pub cause : OnErr r (its_read_faults old < its_read_faults new)
  pub clean : OnOk r (its_read_faults new ≡ its_read_faults old)
  pub failed : IfErr r (λ e. e ≡ Failed)

-- One call that writes appends `taken`, a prefix of what it was asked to write, of `most` bytes. It takes
-- none only of none. It returns `Full` only where there is no room, before and after.
pub record HasWritten {A : Type 0} (its_written : A → List ℕ) (its_is_full : A → Bool)
    (its_writes its_write_faults its_full_faults : A → ℕ) (its_write_frame : A → WriteFrame)
    (r : Result ℕ DeviceFault) (old new : A) (most : ℕ) (taken : List ℕ) : Type 0 where
  pub within : count_of r ≤ most
  pub progress : IfOk r (λ n. 0 < most → 0 < n)
  pub written : its_written new ≡ its_written old ++ taken
  pub frame : its_write_frame new ≡ its_write_frame old
  pub calls : its_writes new ≡ its_writes old + 1
  pub faults : its_write_faults old ≤ its_write_faults new
  pub cause : OnErr r (its_write_faults old < its_write_faults new)
  pub clean : OnOk r (its_write_faults new ≡ its_write_faults old)
  pub full_faults : its_full_faults new ≡ its_full_faults old + full_of r
  pub full : IsErrOf r Full → IsTrue (its_is_full old)
  pub still_full : IsErrOf r Full → IsTrue (its_is_full new)

-- One call of `write_over` overwrites what is stored at a place with a prefix of these bytes.
pub record HasWrittenOver {A : Type 0} (its_written : A → List ℕ)
    (its_writes its_write_faults its_full_faults : A → ℕ) (its_write_frame : A → WriteFrame)
    (r : Result ℕ DeviceFault) (old new : A) (at : ℕ) (bytes : List ℕ) : Type 0 where
  pub within : count_of r ≤ length bytes
  pub progress : IfOk r (λ n. 0 < length bytes → 0 < n)
  pub written : its_written new ≡ put_at (its_written old) at (take (count_of r) bytes)
  pub frame : its_write_frame new ≡ its_write_frame old
  pub calls : its_writes new ≡ its_writes old + 1
  pub faults : its_write_faults old ≤ its_write_faults new
  pub cause : OnErr r (its_write_faults old < its_write_faults new)
  pub clean : OnOk r (its_write_faults new ≡ its_write_faults old)
  pub full_faults : its_full_faults new ≡ its_full_faults old
  pub failed : IfErr r (λ e. e ≡ Failed)

-- One read at a place gives a prefix of what is there, of which `out` begins with the bytes. It gives none only for an
-- empty ask, or where there is nothing.
pub record HasReadAt {A : Type 0} (models : Bool) (its_content : A → List ℕ)
    (its_size its_reads its_given its_read_faults : A → ℕ) (its_read_frame : A → PartitionFrame)
    (r : Result ℕ DeviceFault) (old new : A) (at : ℕ) (out : List ℕ) : Type 0 where
  pub within : count_of r ≤ length out
  pub present : IsTrue models → count_of r ≤ length (its_content old) - at
  pub bytes : IsTrue models → take (count_of r) out ≡ take (count_of r) (drop at (its_content old))
  pub content : IsTrue models → its_content new ≡ its_content old
  pub size : IsTrue models → its_size new ≡ its_size old
  pub told : IsTrue models → OnOk r (length (its_content old) < 2 ^ 64)
  pub ended : IsTrue models → IfOk r (λ n. n ≡ 0 → 0 < length out → length (its_content old) ≤ at)
  pub frame : its_read_frame new ≡ its_read_frame old
  pub calls : its_reads new ≡ its_reads old + 1
  pub counted : its_given new ≡ its_given old + count_of r
  pub faults : its_read_faults old ≤ its_read_faults new
  pub cause : OnErr r (its_read_faults old < its_read_faults new)
  pub clean : OnOk r (its_read_faults new ≡ its_read_faults old)
  pub failed : IfErr r (λ e. e ≡ Failed)

-- What one write at a place leaves of a partition's bytes, in each of its states: a prefix of the bytes is there,
-- is pending, and may be lost by a crash; nothing outside the range changed.
pub record HasLaid {A : Type 0} (models : Bool) (its_content : A → List ℕ) (its_past : A → Past)
    (r : Result ℕ DeviceFault) (old new : A) (at : ℕ) (bytes : List ℕ) : Type 0 where
  pub written : IsTrue models → IfOk r (λ n. its_content new ≡ put_at (its_content old) at (take n bytes))
  pub kept : IsTrue models → Keeps (in_range at (length bytes)) (moment_of (its_past old) (its_content old))
      (moment_of (its_past new) (its_content new))
  pub moments : IsTrue models → EachSince (its_past old).moments (its_past new).moments
      (λ m. m ≡ moment_of (its_past new) (its_content new))
  pub newest : IsTrue models → OnOk r (IsNewest (moment_of (its_past new) (its_content new)) (its_past new).moments)
  pub pending : IsTrue models → AllPending (in_range at (count_of r)) (its_past new).pending
  pub stays : IsTrue models → StaysPending (its_past old).pending (its_past new).pending
  pub unsettled : IsTrue models → MayLeave (moment_of (its_past new) (its_content new)) (its_content old)
  pub synced : (its_past new).synced ≡ (its_past old).synced

-- And what it counts, of at most `most` bytes.
pub record HasPut {A : Type 0}
    (its_size its_reads its_given its_read_faults its_puts its_taken its_syncs its_put_faults : A → ℕ)
    (r : Result ℕ DeviceFault) (old new : A) (most : ℕ) : Type 0 where
  pub within : count_of r ≤ most
  pub progress : IfOk r (λ n. 0 < most → 0 < n)
  pub size : its_size new ≡ its_size old
  pub calls : its_puts new ≡ its_puts old + 1
  pub counted : its_taken new ≡ its_taken old + count_of r
  pub sync_calls : its_syncs new ≡ its_syncs old
  pub reads : its_reads new ≡ its_reads old
  pub given : its_given new ≡ its_given old
  pub read_faults : its_read_faults new ≡ its_read_faults old
  pub faults : its_put_faults old ≤ its_put_faults new
  pub cause : OnErr r (its_put_faults old < its_put_faults new)
  pub clean : OnOk r (its_put_faults new ≡ its_put_faults old)
  pub failed : IfErr r (λ e. e ≡ Failed)

-- What one sync leaves of a partition's bytes: after an Ok none is pending. Where it failed, nothing is stable.
pub record HasSettled {A X : Type 0} (models : Bool) (its_content : A → List ℕ) (its_past : A → Past)
    (r : Result X DeviceFault) (old new : A) : Type 0 where
  pub kept : IsTrue models → Keeps (λ _. false) (moment_of (its_past old) (its_content old)) (moment_of (its_past new)
      (its_content new))
  pub settled : IsTrue models → OnOk r ((its_past new).pending ≡ [])
  pub newest : IsTrue models → OnOk r (IsNewest (moment_of (its_past new) (its_content new)) (its_past new).moments)
  pub stays : IsTrue models → OnErr r (StaysPending (its_past old).pending (its_past new).pending)
  pub moments : IsTrue models → EachSince (its_past old).moments (its_past new).moments
      (λ m. m ≡ moment_of (its_past new) (its_content new))
  pub synced : (its_past new).synced ≡ (its_past old).synced + (if is_ok r then 1 else 0)

-- And what it counts.
pub record HasSynced {A X : Type 0}
    (its_size its_reads its_given its_read_faults its_puts its_taken its_syncs its_put_faults : A → ℕ)
    (r : Result X DeviceFault) (old new : A) : Type 0 where
  pub size : its_size new ≡ its_size old
  pub puts : its_puts new ≡ its_puts old
  pub taken : its_taken new ≡ its_taken old
  pub calls : its_syncs new ≡ its_syncs old + 1
  pub reads : its_reads new ≡ its_reads old
  pub given : its_given new ≡ its_given old
  pub read_faults : its_read_faults new ≡ its_read_faults old
  pub faults : its_put_faults old ≤ its_put_faults new
  pub cause : OnErr r (its_put_faults old < its_put_faults new)
  pub clean : OnOk r (its_put_faults new ≡ its_put_faults old)
  pub failed : IfErr r (λ e. e ≡ Failed)

-- One clear of a spool empties it, or leaves it as it was.
pub record HasCleared {A X : Type 0} (its_written : A → List ℕ) (its_gone : A → ℕ) (its_cuts : A → List ℕ)
    (r : Result X DeviceFault) (old new : A) : Type 0 where
  pub written : its_written new ≡ its_written old
  pub cut : OnOk r (its_cuts new ≡ length (its_written old) ∷ its_cuts old)
  pub gone : OnOk r (its_gone new ≡ length (its_written old))
  pub kept : OnErr r ((its_cuts new ≡ its_cuts old) × (its_gone new ≡ its_gone old))

-- And what it counts.
pub record HasCountedClear {A X : Type 0}
    (its_capacity its_given its_reads its_writes its_read_faults its_write_faults its_full_faults : A → ℕ)
    (its_clears its_clear_faults : A → ℕ) (r : Result X DeviceFault) (old new : A) : Type 0 where
  pub size : its_capacity new ≡ its_capacity old
  pub given : its_given new ≡ its_given old
  pub reads : its_reads new ≡ its_reads old
  pub writes : its_writes new ≡ its_writes old
  pub read_faults : its_read_faults new ≡ its_read_faults old
  pub write_faults : its_write_faults new ≡ its_write_faults old
  pub full_faults : its_full_faults new ≡ its_full_faults old
  pub calls : its_clears new ≡ its_clears old + 1
  pub faults : its_clear_faults old ≤ its_clear_faults new
  pub cause : OnErr r (its_clear_faults old < its_clear_faults new)
  pub clean : OnOk r (its_clear_faults new ≡ its_clear_faults old)
  pub failed : IfErr r (λ e. e ≡ Failed)
