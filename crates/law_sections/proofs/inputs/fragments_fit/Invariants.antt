use Rattle.std.proofs.Common.{take}
use Rattle.std.specs.List.{All}
use Rattle.abt_sections.specs.Canonical.{FragmentFits}
use Rattle.law_sections.proofs.inputs.fragments_fit.Given as goal

abbrev pub invariant-loop-fragment : goal.invariant-loop-fragment
invariant-loop-fragment l = All FragmentFits (take l.fragment-index l.fragments)
