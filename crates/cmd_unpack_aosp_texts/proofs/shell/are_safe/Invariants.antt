use Rattle.std.proofs.Common.{◌≡◌, drop}
use Rattle.cmd_unpack_aosp_texts.specs.Shell.{are_safe}
use Rattle.cmd_unpack_aosp_texts.proofs.shell.are_safe.Given as goal

abbrev pub invariant-loop-byte : goal.invariant-loop-byte
invariant-loop-byte l = are_safe (drop l.byte-index l.bytes) ≡ are_safe l.bytes
