-- The names of the files that unpack_bootimg writes.
use Rattle.std.specs.Prelude.{ℕ, suc, ◌==◌, Bool, true, false, ◌&&◌, if◌then◌else◌, List, [], ◌∷◌, ◌++◌, Option, Some}
use Rattle.std.specs.Prelude.{None, bytes_eq, codes, decimal, nat_lt}
use Rattle.abt_headers.specs.declared.sections.SectionPlace.{SectionPlace}
use Rattle.abt_headers.specs.declared.sections.Section.{Section}
use Rattle.abt_headers.specs.declared.sections.Section.TheVariants.{Kernel, Ramdisk, Second, RecoveryDtbo, Dtb}
use Rattle.abt_headers.specs.declared.sections.Section.TheVariants.{Signature, VendorRamdisk, Table, Bootconfig}

abbrev pub unless_empty : ℕ → List ℕ → Option (List ℕ)
unless_empty size name = if size == 0 then None else Some name

-- of a section of this many bytes, where there is one: in place of a vendor ramdisk with a table, its fragments have
-- files
abbrev pub file_of : Bool → Section → ℕ → Option (List ℕ)
file_of table Kernel size = Some (codes "kernel")
file_of table Ramdisk size = Some (codes "ramdisk")
file_of table Second size = unless_empty size (codes "second")
file_of table RecoveryDtbo size = unless_empty size (codes "recovery_dtbo")
file_of table Dtb size = unless_empty size (codes "dtb")
file_of table Signature size = unless_empty size (codes "boot_signature")
file_of true VendorRamdisk size = None
file_of false VendorRamdisk size = Some (codes "vendor_ramdisk")
file_of table Table size = None
file_of table Bootconfig size = Some (codes "bootconfig")

abbrev pub name_of_section : Bool → SectionPlace → Option (List ℕ)
name_of_section table p = file_of table p.kind p.size

-- what a fragment's file has before its number, so that this has two digits at least
abbrev pub fragment_front : ℕ → List ℕ
fragment_front i = if nat_lt i 10 then codes "vendor_ramdisk0" else codes "vendor_ramdisk"

-- `vendor_ramdisk00`
abbrev pub name_of_fragment : ℕ → List ℕ
name_of_fragment i = fragment_front i ++ decimal i

-- these are the names of the fragments from number k on
abbrev pub are_names : List (List ℕ) → ℕ → Bool
are_names [] k = true
are_names (x ∷ xs) k = bytes_eq x (name_of_fragment k) && are_names xs (suc k)
