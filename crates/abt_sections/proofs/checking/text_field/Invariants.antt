use Rattle.std.proofs.Common.{◌≡◌, drop}
use Rattle.abt_sections.specs.Check.{text_field}
use Rattle.abt_sections.proofs.checking.text_field.Given as goal

abbrev pub invariant-loop-i : goal.invariant-loop-i
invariant-loop-i l = text_field (drop l.i l.field) ≡ text_field l.field
