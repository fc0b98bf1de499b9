-- How many bytes a call moved (none where it failed), and whether it reported that the device is full.
use Rattle.std.specs.Prelude.{ℕ, Result, Ok, Err}
use Rattle.abt_io.specs.declared.device.DeviceFault.{DeviceFault}
use Rattle.abt_io.specs.declared.device.DeviceFault.TheVariants.{Failed, Full}

abbrev pub count_of : {E : Type 0} → Result ℕ E → ℕ
count_of (Ok n) = n
count_of (Err e) = 0

-- 1 for a fault that says so
abbrev pub full_in : DeviceFault → ℕ
full_in Failed = 0
full_in Full = 1

-- 1 for a call that returned this
abbrev pub full_of : {X : Type 0} → Result X DeviceFault → ℕ
full_of (Ok x) = 0
full_of (Err e) = full_in e
