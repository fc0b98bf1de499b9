use Rattle.std.proofs.Common.{◌≡◌, take, false}
use Rattle.std.specs.List.{list_any}
use Rattle.cmd_expand.specs.CutOf.{is_of_other_cut}
use Rattle.cmd_expand.proofs.open_images.is_other_cut.Given as goal

abbrev pub invariant-loop-i : goal.invariant-loop-i
invariant-loop-i g l = record {
  none : list_any (λ one. is_of_other_cut l.own one.piece) (take l.i l.kept.items) ≡ false;
}
