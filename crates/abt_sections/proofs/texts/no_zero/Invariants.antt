use Rattle.std.proofs.Common.{◌≡◌, drop}
use Rattle.abt_sections.specs.Fields.{no_zero}
use Rattle.abt_sections.proofs.texts.no_zero.Given as goal

abbrev pub invariant-loop-byte : goal.invariant-loop-byte
invariant-loop-byte l = no_zero (drop l.byte-index l.text) ≡ no_zero l.text
