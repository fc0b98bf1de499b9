-- The cause of each refusal: what must have happened for each fault.
use Rattle.std.specs.Prelude.{◌≡◌, ℕ, ◌<◌, List, sum_by, Option, Some, None, Result, Ok, Err}
use Rattle.abt_io.specs.Count.{full_in}
use Rattle.abt_io.specs.declared.copying.CopyFault.{CopyFault}
use Rattle.abt_io.specs.declared.copying.CopyFault.TheVariants as copies
use Rattle.abt_sections.specs.declared.fault.SectionFault.{SectionFault}
use Rattle.abt_sections.specs.declared.fault.SectionFault.TheVariants.{Read, Write, SourceChanged, Header, Entry}
use Rattle.abt_sections.specs.declared.fault.SectionFault.TheVariants.{SectionTruncated}

-- the fault of a copy, handed on
abbrev pub copy_fault : CopyFault → SectionFault
copy_fault (copies.Read f) = Read f
copy_fault (copies.Write f) = Write f
copy_fault copies.Changed = SourceChanged

-- of moving bytes: a device's count of faults rose, or the source isn't what it was
abbrev pub MoveCause : SectionFault → ℕ → ℕ → ℕ → ℕ → Type 0 → Type 0
MoveCause (Read f) r r' w w' changed = r < r'
MoveCause (Write f) r r' w w' changed = w < w'
MoveCause SourceChanged r r' w w' changed = changed
MoveCause _ r r' w w' changed = ⊥

-- of reading alone
abbrev pub ReadCause : SectionFault → ℕ → ℕ → Type 0 → Type 0
ReadCause f r r' changed = MoveCause f r r' 0 0 changed

-- of opening: what the bytes are refused for is said apart
abbrev pub OpenCause : SectionFault → ℕ → ℕ → Type 0 → Type 0
OpenCause (Read f) r r' changed = r < r'
OpenCause SourceChanged r r' changed = changed
OpenCause (Header f) r r' changed = Unit {0}
OpenCause (Entry i) r r' changed = Unit {0}
OpenCause (SectionTruncated s) r r' changed = Unit {0}
OpenCause _ r r' changed = ⊥

-- of packing: the refusal that the fields and sizes have, else one of moving bytes
abbrev pub PackCause : Option SectionFault → SectionFault → ℕ → ℕ → ℕ → ℕ → Type 0 → Type 0
PackCause (Some g) f r r' w w' changed = f ≡ g
PackCause None f r r' w w' changed = MoveCause f r r' w w' changed

-- over several sources
abbrev pub total : {S : Type 0} → (S → ℕ) → List S → ℕ
total f parts = sum_by f parts

-- 1 for a fault that hands on that a device is full
abbrev pub full_in_section_fault : SectionFault → ℕ
full_in_section_fault (Read f) = full_in f
full_in_section_fault (Write f) = full_in f
full_in_section_fault _ = 0

-- 1 for a call that returned this
abbrev pub full_handed : {X : Type 0} → Result X SectionFault → ℕ
full_handed (Ok x) = 0
full_handed (Err e) = full_in_section_fault e
