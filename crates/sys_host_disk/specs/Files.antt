-- The system of the program's disk, and which files were opened.
use Rattle.sys_host.specs.declared.taken.Taken.{Taken}
use Rattle.sys_host.specs.declared.streams.Streams.{Streams}
use Rattle.sys_host_disk.specs.declared.host.Host.{Host}

abbrev pub system_of : {S F N : Type 0} → Host S F N → S
system_of host = host.writing.reading.system

-- the inputs, and the outputs so far
abbrev pub taken_of : {S F N : Type 0} → Host S F N → Taken
taken_of host = host.writing.reading.taken

-- what the standard streams are
abbrev pub streams_of : {S F N : Type 0} → Host S F N → Streams
streams_of host = host.writing.reading.streams
