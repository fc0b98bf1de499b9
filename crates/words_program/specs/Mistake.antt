-- Wrong words.
use Rattle.std.specs.Prelude.{◌≢◌}
use Rattle.clap.specs.Values.{kind_of}
use Rattle.clap.specs.declared.error.kind.ErrorKind.TheVariants.{DisplayHelp, DisplayVersion}
use Rattle.words_orders.specs.declared.fault.WordsFault.{WordsFault}
use Rattle.words_orders.specs.declared.fault.WordsFault.TheVariants.{Usage, Misread, BadNumber, NotTaken, Memory}

-- all faults of words, except for help and the version, which they may ask for
abbrev pub IsMistake : WordsFault → Type 0
IsMistake (Usage error) = (kind_of error ≢ DisplayHelp) × (kind_of error ≢ DisplayVersion)
IsMistake (Misread error) = Unit {0}
IsMistake (BadNumber word is_number is_verbose) = Unit {0}
IsMistake Memory = Unit {0}
IsMistake (NotTaken instead) = Unit {0}
