-- A source that is opened plainly, or read ahead, or is standard input.
use Rattle.std.specs.Prelude.{ℕ, List, Option, Some, None}
use Rattle.sys_devices.specs.declared.ahead_file.AheadFile.{AheadFile}
use Rattle.sys_devices.specs.declared.source.FileSource.{FileSource}
use Rattle.sys_devices.specs.declared.ahead.AheadSource.{AheadSource}
use Rattle.sys_identity.specs.declared.standard_input.StandardSource.{StandardSource}
use Rattle.sys_host_disk.specs.declared.source.HostSource.{HostSource}
use Rattle.sys_host_disk.specs.declared.source.HostSource.TheVariants.{Plain, Ahead, Standard}

-- a count of one of them
abbrev pub number_of_source : {F : Type 0} {g : _} → (FileSource F g → ℕ) → (AheadSource F g → ℕ)
    → (StandardSource F g → ℕ) → HostSource F g → ℕ
number_of_source plain ahead standard (Plain source) = plain source
number_of_source plain ahead standard (Ahead source) = ahead source
number_of_source plain ahead standard (Standard source) = standard source

-- the bytes of one of them
abbrev pub bytes_of_source : {F : Type 0} {g : _} → (FileSource F g → List ℕ) → (AheadSource F g → List ℕ)
    → (StandardSource F g → List ℕ) → HostSource F g → List ℕ
bytes_of_source plain ahead standard (Plain source) = plain source
bytes_of_source plain ahead standard (Ahead source) = ahead source
bytes_of_source plain ahead standard (Standard source) = standard source

-- the file that is read ahead, if it is
abbrev pub shared_by : {F : Type 0} {g : _} → HostSource F g → Option (AheadFile F g)
shared_by (Plain source) = None
shared_by (Ahead source) = Some source.from.value
shared_by (Standard source) = None

-- what holds of each of them
pub of_each_source : {F : Type 0} {g : _} (P : HostSource F g → Type 0) → ((s : FileSource F g) → P (Plain s))
    → ((s : AheadSource F g) → P (Ahead s)) → ((s : StandardSource F g) → P (Standard s)) → (s : HostSource F g) → P s
of_each_source P plain ahead standard (Plain source) = plain source
of_each_source P plain ahead standard (Ahead source) = ahead source
of_each_source P plain ahead standard (Standard source) = standard source
