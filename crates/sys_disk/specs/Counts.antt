-- What a run counts: what has failed, by its cause, and how many bytes were read.
use Rattle.std.specs.Prelude.{◌≡◌, ℕ, ◌+◌, ◌==◌, Result, Ok, Err, if◌then◌else◌}
use Rattle.sys_refusals.specs.declared.refusal.HostFault.{HostFault}
use Rattle.sys_refusals.specs.declared.refusal.HostFault.TheVariants as faults
use Rattle.sys_refusals.specs.declared.refusal.HostRefusal.{HostRefusal}

-- a call of the disk that returned this fault (of a refusal of memory it is `Memory`), a device that was read, or one
-- that was written
pub data Cause : Type 0 where
  call : HostFault → Cause
  reading : Cause
  writing : Cause

-- how often each of them has failed, and how many bytes the inputs gave that were given back
pub record Counts : Type 0 where
  pub failed : Cause → ℕ
  pub given : ℕ

abbrev pub no_counts : Counts
no_counts = record { failed = λ cause. 0; given = 0 }

abbrev pub added : Counts → Counts → Counts
added a b = record { failed = λ cause. a.failed cause + b.failed cause; given = a.given + b.given }

-- nothing has failed
abbrev pub HasNone : Counts → Type 0
HasNone n = (cause : Cause) → n.failed cause ≡ 0

abbrev pub fault_number : HostFault → ℕ
fault_number faults.CannotOpen = 0
fault_number faults.NoFolder = 1
fault_number faults.SameFile = 2
fault_number faults.Mounted = 3
fault_number faults.Changed = 4
fault_number faults.NotText = 5
fault_number faults.TooLong = 6
fault_number faults.Read = 7
fault_number faults.Write = 8
fault_number faults.Memory = 9

abbrev pub calls : HostFault → Cause → ℕ
calls fault (call other) = if fault_number fault == fault_number other then 1 else 0
calls fault reading = 0
calls fault writing = 0

abbrev pub of_reading : ℕ → Cause → ℕ
of_reading n (call fault) = 0
of_reading n reading = n
of_reading n writing = 0

abbrev pub of_writing : ℕ → Cause → ℕ
of_writing n (call fault) = 0
of_writing n reading = 0
of_writing n writing = n

-- one call that returned this fault
abbrev pub call_of : HostFault → Counts
call_of fault = record { failed = calls fault; given = 0 }

-- a call with this result
abbrev pub failure_of : {A : Type 0} → Result A HostRefusal → Counts
failure_of (Ok done) = no_counts
failure_of (Err refusal) = call_of refusal.fault

-- a request for memory with this result
abbrev pub memory_of : {A F : Type 0} → Result A F → Counts
memory_of (Ok done) = no_counts
memory_of (Err refused) = call_of faults.Memory

-- a device that was read, which gave so many bytes and has failed so often
abbrev pub reads : ℕ → ℕ → Counts
reads given failures = record { failed = of_reading failures; given = given }

-- a device that was written, which has failed so often
abbrev pub writes : ℕ → Counts
writes failures = record { failed = of_writing failures; given = 0 }

-- what pieces went through, which has failed so often when it was read, and when it was written or cleared
abbrev pub faults_through : ℕ → ℕ → ℕ → Counts
faults_through read written cleared = added (reads 0 read) (writes (written + cleared))
