-- What one call of a device does, stated of a type by that type's own ghost members. It serves a device that promises
-- more than its trait.
use Rattle.std.specs.Prelude.{ℕ, List, Result, length, take}
use Rattle.abt_io.specs.declared.device.DeviceFault.{DeviceFault}
use Rattle.abt_io.specs.declared.device.Input as inputs
use Rattle.abt_io.specs.declared.device.Output as outputs
use Rattle.abt_io.specs.declared.device.Source as sources
use Rattle.abt_io.specs.Calls.{HasPassed, HasWritten, HasWrittenOver, HasReadAt}
use Rattle.abt_io.specs.Count.{count_of}

abbrev pub PassesOnce : {A : Type 0} (i : inputs.Ghosts A) → Result ℕ DeviceFault → A → A → ℕ → Type 0
PassesOnce i = HasPassed i.models i.remaining i.reads i.given i.read_faults i.read_frame

abbrev pub WritesOnce : {A : Type 0} (o : outputs.Ghosts A) → Result ℕ DeviceFault → A → A → List ℕ → Type 0
WritesOnce o r old new bytes = HasWritten o.written o.is_full o.writes o.write_faults o.full_faults o.write_frame
    r old new (length bytes) (take (count_of r) bytes)

abbrev pub WritesOverOnce : {A : Type 0} (o : outputs.Ghosts A) → Result ℕ DeviceFault → A → A → ℕ → List ℕ → Type 0
WritesOverOnce o = HasWrittenOver o.written o.writes o.write_faults o.full_faults o.write_frame

abbrev pub ReadsPlaceOnce : {A : Type 0} (s : sources.Ghosts A) → Result ℕ DeviceFault → A → A → ℕ → List ℕ → Type 0
ReadsPlaceOnce s = HasReadAt s.models s.content s.size s.reads s.given s.read_faults s.read_frame
