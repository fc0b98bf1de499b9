use Rattle.std.proofs.Common.{◌≡◌, drop}
use Rattle.abt_sections.specs.Check.{all_zero}
use Rattle.cmd_common_texts.proofs.packing_words.is_zero.Given as goal

abbrev pub invariant-loop-byte : goal.invariant-loop-byte
invariant-loop-byte l = all_zero (drop l.byte-index l.bytes) ≡ all_zero l.bytes
