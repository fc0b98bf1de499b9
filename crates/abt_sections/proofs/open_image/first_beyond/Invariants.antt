use Rattle.std.proofs.Common.{◌≡◌, drop}
use Rattle.abt_sections.specs.Open.{beyond}
use Rattle.abt_sections.proofs.open_image.first_beyond.Given as goal

abbrev pub invariant-loop-i : goal.invariant-loop-i
invariant-loop-i l = beyond (drop l.i l.sections) l.length ≡ beyond l.sections l.length
