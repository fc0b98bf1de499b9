use Rattle.std.proofs.Common.{◌≡◌}
use Rattle.std.specs.Prelude.{IsTrue}
use Rattle.cmd_common_sparse.specs.PieceNames.{naming_of}
use Rattle.cmd_cut.specs.Leaving.{AreFreeInTurn}
use Rattle.cmd_cut.proofs.cut_loop.refuse_image_as_piece.Given as goal

abbrev pub invariant-loop-index : goal.invariant-loop-index
invariant-loop-index g l = record {
  named : l.files.names ≡ l.fn.names;
  counted : l.files.count ≡ l.index;
  told : IsTrue g.D.Disk.models → record {
    held : g.D.Disk.held l.disk ≡ g.D.Disk.held l.fn.disk;
    world : g.D.Disk.world l.disk ≡ g.D.Disk.world l.fn.disk;
    free : AreFreeInTurn (naming_of l.fn.names) l.files.count (g.D.Disk.held l.fn.disk) (g.D.Disk.world l.fn.disk);
  };
}
