-- The faults of headers: their numbers, and the order in which they are found.
use Rattle.std.specs.Prelude.{ℕ, nat_lt, if◌then◌else◌, List, length, Result, Ok, Err}
use Rattle.abt_headers.specs.declared.fault.HeaderFault.{HeaderFault}
use Rattle.abt_headers.specs.declared.fault.HeaderFault.TheVariants.{Magic, Version, PageSize, Table, Short, Os}

abbrev pub header_fault_number : HeaderFault → ℕ
header_fault_number Magic = 20
header_fault_number (Version n) = 21
header_fault_number (PageSize n) = 22
header_fault_number Table = 23
header_fault_number (Short need) = 25
header_fault_number Os = 28

-- r, where x has the n bytes that it needs
abbrev pub needing : {A : Type 0} → ℕ → List ℕ → Result A HeaderFault → Result A HeaderFault
needing n x r = if nat_lt (length x) n then Err (Short n) else r

-- f of the value, where there is one
abbrev pub mapped : {A B : Type 0} → Result A HeaderFault → (A → B) → Result B HeaderFault
mapped (Ok a) f = Ok (f a)
mapped (Err e) f = Err e

-- both values, or the first fault
abbrev pub both : {A B : Type 0} → Result A HeaderFault → Result B HeaderFault → Result (A × B) HeaderFault
both (Ok a) (Ok b) = Ok (a, b)
both (Ok a) (Err e) = Err e
both (Err e) r = Err e
