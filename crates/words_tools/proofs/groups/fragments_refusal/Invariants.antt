use Rattle.std.proofs.Common.{◌≡◌, take}
use Rattle.std.specs.Prelude.{option_map}
use Rattle.words_tools.specs.Fragments.{group_said, no_group}
use Rattle.words_tools.proofs.Rejecting.{group_after}
use Rattle.words_tools.proofs.groups.fragments_refusal.Given as goal

abbrev pub invariant-loop-i : goal.invariant-loop-i
invariant-loop-i l =
    group_said l.group.0 (option_map (λ s. s.now) l.group.1.0) ≡ group_after no_group (take l.i l.said)
