use Rattle.std.proofs.Common.{◌≡◌, false}
use Rattle.abt_pieces.specs.Cutter.{is_begun}
use Rattle.test_sparse.proofs.sparse_pieces.cut.Given as goal

abbrev pub invariant-loop : goal.invariant-loop
invariant-loop l = is_begun l.cutter.stage ≡ false
