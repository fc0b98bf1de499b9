use Rattle.std.proofs.Common.{◌≡◌, ◌≤◌}
use Rattle.std.specs.Prelude.{IsTrue}
use Rattle.abt_pieces.specs.Cutter.{ToldCutter}
use Rattle.abt_sparse.specs.Pieces.{pieces}
use Rattle.cmd_common_sparse.specs.PieceNames.{naming_of}
use Rattle.sys_report.specs.Shows.{refusals}
use Rattle.cmd_cut.specs.Cutting.{CutsSoFar, NoneFailsBeside, ShowsPieces}
use Rattle.cmd_cut.proofs.CutCommands.{StandsNow, left_of}
use Rattle.cmd_cut.proofs.cut_loop.write_pieces.Given as goal

abbrev pub invariant-pieces : goal.invariant-pieces
invariant-pieces g l =
    let content = g.D.At.Source.content in
    let cutter = l.fn.pieces.cutter in
    let image = cutter.runs in
    let x = content l.fn.source in
    let list = g.B.BlockRuns.list image x in
    let size = g.B.BlockRuns.size image in
    record {
      runs : l.pieces.cutter.runs ≡ image;
      limit : l.pieces.cutter.limit ≡ cutter.limit;
      kept : IsTrue g.D.At.Source.models → content l.source ≡ x;
      told : IsTrue g.D.At.Source.models → ToldCutter (g.B.BlockRuns.place image x) (g.B.BlockRuns.together image x)
          size list
          l.pieces.cutter.limit l.pieces.cutter.made l.pieces.cutter.start l.pieces.cutter.stage;
      stands : StandsNow (g.B.BlockRuns.count image) l.pieces.cutter.made l.pieces.cutter.start.block
          l.pieces.cutter.stage;
      counted : l.files.count ≡ l.pieces.cutter.made;
      named : l.files.names ≡ l.names;
      cuts : IsTrue g.D.Disk.models → CutsSoFar (naming_of l.names) (pieces cutter.limit size list) l.pieces.cutter.made
          l.pieces.cutter.made
          (g.D.Disk.held l.fn.disk) (g.D.Disk.held l.disk) (g.D.Disk.world l.fn.disk) (g.D.Disk.world l.disk);
      shown : IsTrue g.D.Disk.models → ShowsPieces g.D.Disk.on_output (naming_of l.names) cutter.limit size list
          l.pieces.cutter.made l.fn.report l.report;
      rises : refusals l.fn.report ≤ refusals l.report;
      fails : IsTrue g.D.Disk.models → NoneFailsBeside (g.D.At.Source.read_faults l.fn.source)
          (g.D.At.Source.read_faults l.source) (g.D.Disk.held l.fn.disk) (g.D.Disk.held l.disk);
    }

abbrev pub decreases-pieces : goal.decreases-pieces
decreases-pieces g l =
    left_of (g.B.BlockRuns.count l.fn.pieces.cutter.runs) l.pieces.cutter.start.block l.pieces.cutter.stage
