-- The source of a part of an image.
use Rattle.std.specs.Prelude.{ℕ, List, option_map}
use Rattle.cmd_common_boot.specs.Ranges.{range_bytes, count_in}
use Rattle.cmd_common_boot.specs.declared.part_source.PartSource.{PartSource}

-- the bytes that it contains, of its file
abbrev pub content_of : {S : Type 0} {d : _} → (S → List ℕ) → PartSource S d → List ℕ
content_of content part = range_bytes (option_map content part.file) part.at part.size

-- how often a read of its file has failed
abbrev pub faults_of : {S : Type 0} {d : _} → (S → ℕ) → PartSource S d → ℕ
faults_of faults part = count_in (option_map faults part.file)
