-- How a call changes a file's pending bytes and intermediate states. They are those of a partition.
use Rattle.std.specs.Prelude.{◌≡◌, ◌+◌, [], ℕ, List, Result, OnOk, OnErr, is_ok, false, if◌then◌else◌}
use Rattle.abt_io.specs.Count.{count_of}
use Rattle.abt_io.specs.Moment.{Past, Keeps, EachSince, IsNewest, MayLeave, StaysPending, AllPending}
use Rattle.abt_io.specs.Moment.{in_range, moment_of}

-- A write within the length of a file. The bytes that it wrote are pending, and a crash may restore what was there
-- before. Nothing outside the range changes.
pub record LaysWithin {E : Type 0} (old new : List ℕ) (past past' : Past) (r : Result ℕ E) (at n : ℕ) : Type 0 where
  pub kept : Keeps (in_range at n) (moment_of past old) (moment_of past' new)
  pub moments : EachSince past.moments past'.moments (λ m. m ≡ moment_of past' new)
  pub newest : OnOk r (IsNewest (moment_of past' new) past'.moments)
  pub pending : AllPending (in_range at (count_of r)) past'.pending
  pub stays : StaysPending past.pending past'.pending
  pub unsettled : MayLeave (moment_of past' new) old
  pub synced : past'.synced ≡ past.synced

-- A sync changes no byte. After an Ok none is pending. Where it failed, what was pending still is.
pub record SettlesFile {X E : Type 0} (old new : List ℕ) (past past' : Past) (r : Result X E) : Type 0 where
  pub same : new ≡ old
  pub kept : Keeps (λ _. false) (moment_of past old) (moment_of past' new)
  pub settled : OnOk r (past'.pending ≡ [])
  pub newest : OnOk r (IsNewest (moment_of past' new) past'.moments)
  pub stays : OnErr r (StaysPending past.pending past'.pending)
  pub moments : EachSince past.moments past'.moments (λ m. m ≡ moment_of past' new)
  pub synced : past'.synced ≡ past.synced + (if is_ok r then 1 else 0)
