use Rattle.std.proofs.Common.{◌≡◌, Some, false, drop}
use Rattle.words_values.specs.AospNumber.{digits, with_letters}
use Rattle.words_values.proofs.aosp_numbers.number_of.Given as goal

abbrev pub invariant-loop-byte : goal.invariant-loop-byte
invariant-loop-byte l =
    with_letters l.radix l.digits (drop l.byte-index l.bytes) ≡ with_letters l.radix (Some (digits 0 false)) l.bytes
