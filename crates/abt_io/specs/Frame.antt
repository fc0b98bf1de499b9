-- What a call leaves unchanged. A device may have several roles: a spool is read and written, a partition is read and
-- written at places. A function that is generic over one role alone would lose the facts of the others. So each call
-- keeps a frame.
use Rattle.std.specs.Prelude.{ℕ, List, [], ◌∷◌, ◌++◌, length}
use Rattle.abt_io.specs.Moment.{Past, no_past}

-- of an input, what no read changes: where it is a spool, all that was written and every count but those of reading
pub record ReadFrame : Type 0 where
  pub written : List ℕ
  pub cuts : List ℕ
  pub capacity : ℕ
  pub writes : ℕ
  pub write_faults : ℕ
  pub full_faults : ℕ
  pub clears : ℕ
  pub clear_faults : ℕ

-- of an input that is nothing else
abbrev pub reads_alone : ReadFrame
reads_alone = record {
  written = [];
  cuts = [];
  capacity = 0;
  writes = 0;
  write_faults = 0;
  full_faults = 0;
  clears = 0;
  clear_faults = 0;
}

-- of an output, what no write changes: the number of its file, or 0; where it is a spool, how much of what was written
-- is gone, and every count but those of writing
pub record WriteFrame : Type 0 where
  pub file : ℕ
  pub gone : ℕ
  pub cuts : List ℕ
  pub capacity : ℕ
  pub reads : ℕ
  pub given : ℕ
  pub read_faults : ℕ
  pub clears : ℕ
  pub clear_faults : ℕ

-- of an output that is nothing else, and has no number
abbrev pub writes_alone : WriteFrame
writes_alone = record {
  file = 0;
  gone = 0;
  cuts = [];
  capacity = 0;
  reads = 0;
  given = 0;
  read_faults = 0;
  clears = 0;
  clear_faults = 0;
}

-- of a source, what no read changes: where it is a partition, its length, what it was through and every count but
-- those of reading
pub record PartitionFrame : Type 0 where
  pub size : ℕ
  pub past : Past
  pub puts : ℕ
  pub taken : ℕ
  pub syncs : ℕ
  pub put_faults : ℕ

-- of a source that is no partition
abbrev pub no_partition : PartitionFrame
no_partition = record { size = 0; past = no_past; puts = 0; taken = 0; syncs = 0; put_faults = 0 }

-- how much had been written at the last clear
abbrev pub last_cut : List ℕ → ℕ
last_cut [] = 0
last_cut (n ∷ ns) = n

-- all that a device was ever given, and how much that was at each clear, the newest first
pub record Logged : Type 0 where
  pub bytes : List ℕ
  pub cuts : List ℕ

-- before it was given anything
abbrev pub nothing_logged : Logged
nothing_logged = record { bytes = []; cuts = [] }

-- with these bytes more
abbrev pub and_bytes : Logged → List ℕ → Logged
and_bytes g x = record { bytes = g.bytes ++ x; cuts = g.cuts }

-- after a clear
abbrev pub and_cut : Logged → Logged
and_cut g = record { bytes = g.bytes; cuts = length g.bytes ∷ g.cuts }
