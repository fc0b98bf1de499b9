-- Why writing a source over the beginning of a partition may fail.
use Rattle.std.specs.Prelude.{◌≡◌, ◌+◌, ℕ, Bool, false, IsTrue, Result, OnOk, IfErr}
use Rattle.abt_io.specs.declared.device.Source as sources
use Rattle.abt_io.specs.declared.device.Partition as partitions
use Rattle.abt_runs.specs.declared.part.RunFault.TheVariants as of_runs
use Rattle.abt_flash_faults.specs.declared.fault.FlashFault.TheVariants as flashes
use Rattle.sys_disk.specs.Counts.{Cause, reading, writing}
use Rattle.cmd_common_sparse.specs.declared.fault.SparseCommandFault.{SparseCommandFault}
use Rattle.cmd_common_sparse.specs.declared.fault.SparseCommandFault.TheVariants as faults
use Rattle.abt_io.specs.declared.copying.CopyFault.{CopyFault}
use Rattle.abt_io.specs.declared.copying.CopyFault.TheVariants as copies
use Rattle.cmd_flash.specs.Files.{DeviceFailed, NeitherFailed}

-- a device has failed; a source gives fewer bytes than its length only where it doesn't model them
abbrev pub IsOfDevices : Bool → (Cause → Type 0) → CopyFault → Type 0
IsOfDevices models failed (copies.Read d) = failed reading
IsOfDevices models failed (copies.Write d) = failed writing
IsOfDevices models failed copies.Changed = models ≡ false

-- how many bytes after those that were written may then be anything: a window that was being written
abbrev pub torn_by : CopyFault → ℕ
torn_by (copies.Read d) = 0
torn_by (copies.Write d) = 65536
torn_by copies.Changed = 0

-- the command's fault for it
abbrev pub unlaid : CopyFault → SparseCommandFault
unlaid (copies.Read d) = faults.Run (of_runs.Read d)
unlaid (copies.Write d) = faults.Flash (flashes.Write d)
unlaid copies.Changed = faults.Run of_runs.SourceChanged

-- Writing a source's bytes over a partition keeps its file and its length, and syncs nothing. It fails where one of the
-- two has failed, and after an Ok none has.
pub record OnlyLays {X : Type 0} (r : Result X CopyFault) {A C : Type 0} (s : sources.Ghosts A) (t : sources.Ghosts C)
    (p : partitions.Ghosts C) (source source' : A) (onto onto' : C) : Type 0 where
  pub synced : (p.past onto').synced ≡ (p.past onto).synced
  pub same : IsTrue t.models → (p.past onto').file ≡ (p.past onto).file
  pub size : t.size onto' ≡ t.size onto
  pub refused : IfErr r (IsOfDevices s.models
      (DeviceFailed (s.read_faults source) (s.read_faults source') (p.put_faults onto) (p.put_faults onto')))
  pub clean : OnOk r
      (NeitherFailed (s.read_faults source) (s.read_faults source') (p.put_faults onto) (p.put_faults onto'))

-- Each of so many bytes was read once, and each of so many written once.
pub record MovesOnce {A C : Type 0} (s : sources.Ghosts A) (p : partitions.Ghosts C) (read put : ℕ) (source source' : A)
    (onto onto' : C) : Type 0 where
  pub given : s.given source' ≡ s.given source + read
  pub taken : p.taken onto' ≡ p.taken onto + put
