-- The devices of a delivery, as contracts know them at one time.
use Rattle.std.specs.Prelude.{◌≡◌, ℕ, ◌+◌, ◌-◌, ◌*◌, ◌≤◌, Bool, IsTrue, List, length, drop, max}
use Rattle.abt_io.specs.Moment.{Past}
use Rattle.abt_io.specs.declared.meter.Meter.{Meter}
use Rattle.abt_io.specs.declared.device.Source as sources
use Rattle.abt_io.specs.declared.device.Input as inputs
use Rattle.abt_io.specs.declared.device.Output as outputs
use Rattle.abt_io.specs.declared.device.Spool as spools
use Rattle.abt_io.specs.declared.device.Partition as partitions

-- what is counted of a source, a spool and a partition
pub record Counts : Type 0 where
  -- calls of the source, and the bytes that it gave
  pub reads : ℕ
  pub given : ℕ
  -- calls of the spool, and the bytes that it gave and took
  pub spool_reads : ℕ
  pub spool_writes : ℕ
  pub clears : ℕ
  pub spool_given : ℕ
  pub spool_written : ℕ
  -- calls of the partition, and the bytes that it took
  pub puts : ℕ
  pub syncs : ℕ
  pub taken : ℕ
  -- how often reading the source failed, writing or clearing the spool, reading it, and writing or syncing the
  -- partition
  pub read_faults : ℕ
  pub write_faults : ℕ
  pub spool_faults : ℕ
  pub put_faults : ℕ

abbrev pub counts : {A B C : Type 0} → sources.Ghosts A → inputs.Ghosts B → outputs.Ghosts B → spools.Ghosts B
    → partitions.Ghosts C → A → B → C → Counts
counts s i o l p source spool partition = record {
  reads = s.reads source;
  given = s.given source;
  spool_reads = i.reads spool;
  spool_writes = o.writes spool;
  clears = l.clears spool;
  spool_given = i.given spool;
  spool_written = length (o.written spool);
  puts = p.puts partition;
  syncs = p.syncs partition;
  taken = p.taken partition;
  read_faults = s.read_faults source;
  write_faults = o.write_faults spool + l.clear_faults spool;
  spool_faults = i.read_faults spool;
  put_faults = p.put_faults partition;
}

-- the calls of all devices, and the bytes that all of them gave or took
abbrev pub all_calls : Counts → ℕ
all_calls n = n.reads + n.spool_reads + n.spool_writes + n.clears + n.puts + n.syncs

abbrev pub all_bytes : Counts → ℕ
all_bytes n = n.given + n.spool_given + n.spool_written + n.taken

-- What a delivery moves: bytes, of which a step receives at most a window and a header.
pub record Work (a z : Counts) (m m' : Meter) : Type 0 where
  pub given : a.given ≤ z.given
  pub spool_given : a.spool_given ≤ z.spool_given
  pub grown : a.spool_written ≤ z.spool_written
  pub taken : a.taken ≤ z.taken
  pub steps : z.given + z.spool_given + 65580 * m.steps.number ≤ a.given + a.spool_given + 65580 * m'.steps.number
  pub greatest : m'.greatest.number ≤ max m.greatest.number 65580

-- no count of faults falls
pub record NoFaultFalls (a z : Counts) : Type 0 where
  pub read : a.read_faults ≤ z.read_faults
  pub write : a.write_faults ≤ z.write_faults
  pub spool : a.spool_faults ≤ z.spool_faults
  pub put : a.put_faults ≤ z.put_faults

-- a spool: its room, all that was written to it, how much that was at each clear, and how many bytes it gave
pub record SpoolState : Type 0 where
  pub size : ℕ
  pub written : List ℕ
  pub cuts : List ℕ
  pub given : ℕ

abbrev pub spool_state : {B : Type 0} → inputs.Ghosts B → outputs.Ghosts B → spools.Ghosts B → B → SpoolState
spool_state i o l spool = record {
  size = l.size spool;
  written = o.written spool;
  cuts = l.cuts spool;
  given = i.given spool;
}

-- a partition: its length, what it holds and was through, what was read of it, how many bytes it took, and how often
-- it was synced
pub record PartitionState : Type 0 where
  pub size : ℕ
  pub content : List ℕ
  pub past : Past
  pub reads : ℕ
  pub given : ℕ
  pub taken : ℕ
  pub syncs : ℕ

abbrev pub partition_state : {C : Type 0} → sources.Ghosts C → partitions.Ghosts C → C → PartitionState
partition_state s p partition = record {
  size = s.size partition;
  content = s.content partition;
  past = p.past partition;
  reads = s.reads partition;
  given = s.given partition;
  taken = p.taken partition;
  syncs = p.syncs partition;
}

-- what is counted of an input and of a partition
pub record Flow : Type 0 where
  -- calls of the input, the bytes that it gave, and how often it failed
  pub reads : ℕ
  pub given : ℕ
  pub read_faults : ℕ
  -- calls of the partition, the bytes that it took, and how often it failed
  pub puts : ℕ
  pub syncs : ℕ
  pub taken : ℕ
  pub put_faults : ℕ

abbrev pub flow : {A C : Type 0} → inputs.Ghosts A → partitions.Ghosts C → A → C → Flow
flow i p input partition = record {
  reads = i.reads input;
  given = i.given input;
  read_faults = i.read_faults input;
  puts = p.puts partition;
  syncs = p.syncs partition;
  taken = p.taken partition;
  put_faults = p.put_faults partition;
}

-- what only grows
pub record FlowGrows (old new : Flow) : Type 0 where
  pub given : old.given ≤ new.given
  pub taken : old.taken ≤ new.taken
  pub read_faults : old.read_faults ≤ new.read_faults
  pub put_faults : old.put_faults ≤ new.put_faults

-- Of a partition nothing is read, and its length stays.
pub record LeavesUnread {C : Type 0} (s : sources.Ghosts C) (old new : C) : Type 0 where
  pub size : s.size new ≡ s.size old
  pub reads : s.reads new ≡ s.reads old
  pub given : s.given new ≡ s.given old
  pub faults : s.read_faults new ≡ s.read_faults old

-- What was read of an input that held x and holds y.
pub record Reads (models : Bool) (given given' : ℕ) (x y : List ℕ) : Type 0 where
  pub present : IsTrue models → given' - given ≤ length x
  pub rest : IsTrue models → y ≡ drop (given' - given) x
