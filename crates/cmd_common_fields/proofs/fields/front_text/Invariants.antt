use Rattle.std.proofs.Common.{◌≡◌, ◌++◌, take, drop}
use Rattle.cmd_common_fields.specs.Fields.{text_of}
use Rattle.cmd_common_fields.proofs.fields.front_text.Given as goal

abbrev pub invariant-loop-i : goal.invariant-loop-i
invariant-loop-i l = text_of l.field ≡ take l.i l.field ++ text_of (drop l.i l.field)
