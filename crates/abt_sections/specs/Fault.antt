-- The numbers of faults.
use Rattle.std.specs.Prelude.{ℕ}
use Rattle.abt_headers.specs.Fault as of_header
use Rattle.abt_sections.specs.declared.fault.SectionFault.{SectionFault}
use Rattle.abt_sections.specs.declared.fault.SectionFault.TheVariants.{Read, Write, SourceChanged, Header, Entry, Name}
use Rattle.abt_sections.specs.declared.fault.SectionFault.TheVariants.{CommandLine, SectionTruncated, SectionTooLarge}

abbrev pub section_fault_number : SectionFault → ℕ
section_fault_number (Read f) = 11
section_fault_number (Write f) = 12
section_fault_number SourceChanged = 14
section_fault_number (Header f) = of_header.header_fault_number f
section_fault_number (Entry i) = 24
section_fault_number Name = 26
section_fault_number CommandLine = 27
section_fault_number (SectionTruncated s) = 29
section_fault_number (SectionTooLarge s) = 30
