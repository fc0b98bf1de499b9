use Rattle.std.proofs.Common.{◌≡◌, ℕ, List, [], ◌≤◌, ◌<◌, ◌+◌, ◌-◌, ◌*◌, ◌++◌, length, drop, max, false}
use Rattle.std.specs.Prelude.{IsTrue}
use Rattle.std.specs.List.{concat}
use Rattle.abt_io.specs.Moment.{moment_of}
use Rattle.abt_sparse.specs.Block.{over, cells as laid_cells}
use Rattle.abt_sparse.specs.Laws.{flashed_all}
use Rattle.abt_pieces.specs.Contents.{written_in}
use Rattle.abt_pieces.specs.Cutter.{ToldCutter}
use Rattle.abt_pieces.specs.declared.stage.CutterStage.TheVariants.{Between, Done}
use Rattle.abt_flash.specs.Delivering.{EndsWhole, LeavesMendable, PiecesFit, blocks_up_to, with_cuts}
use Rattle.abt_flash.specs.Going.{Staying, Unbroken, bytes_in, calls_in, frames_left, pieces_left, words_so_far}
use Rattle.abt_flash.proofs.delivering.deliver_rest.Given as goal

abbrev pub invariant-pieces : goal.invariant-pieces
invariant-pieces g l =
    let content = g.S.Source.content in
    let cells = g.P.Source.content in
    let past = g.P.Partition.past in
    let bytes = g.L.Output.written in
    let clears = g.L.Spool.cuts in
    let gave = g.L.Input.given in
    let image = l.fn.cutter.runs in
    let n = g.R.BlockRuns.count l.fn.cutter.runs in
    let b = g.R.BlockRuns.size l.fn.cutter.runs in
    let one = g.R.BlockRuns.one l.fn.cutter.runs in
    let all = g.R.BlockRuns.list l.fn.cutter.runs (g.S.Source.content l.fn.source) in
    let most = l.fn.cutter.limit in
    let passes = g.W.Way.before l.fn.cutter.runs in
    let each = g.W.Way.each l.fn.cutter.runs in
    let last = g.W.Way.last l.fn.cutter.runs in
    record {
      runs : l.cutter.runs ≡ l.fn.cutter.runs;
      limit : l.cutter.limit ≡ l.fn.cutter.limit;
      told : IsTrue g.S.Source.models
          → ToldCutter (g.R.BlockRuns.place image (content l.fn.source))
          (g.R.BlockRuns.together image (content l.fn.source)) b all l.cutter.limit l.cutter.made l.cutter.start
          l.cutter.stage;
      kept : IsTrue g.S.Source.models → content l.source ≡ content l.fn.source;
      long_source : IsTrue g.S.Source.models → g.S.Source.size l.source ≡ g.S.Source.size l.fn.source;
      frame : g.S.Source.read_frame l.source ≡ g.S.Source.read_frame l.fn.source;
      unbroken : Unbroken n l.cutter.made l.cutter.start.block l.cutter.stage;
      few : l.cutter.made ≤ max 1 n;
      order : l.fn.cutter.made ≤ l.cutter.made;
      same_made : l.before ≡ l.fn.cutter.made;
      some : l.cutter.stage ≡ Done → l.fn.cutter.made < l.cutter.made;
      capacity : g.L.Spool.size l.spool ≡ g.L.Spool.size l.fn.spool;
      size : g.P.Source.size l.partition ≡ g.P.Source.size l.fn.partition;
      same : IsTrue g.S.Source.models → IsTrue g.L.Input.models → IsTrue g.P.Source.models
          → (past l.partition).file ≡ (past l.fn.partition).file;
      unread : (g.P.Source.reads l.partition ≡ g.P.Source.reads l.fn.partition)
          × (g.P.Source.given l.partition ≡ g.P.Source.given l.fn.partition);
      fits : PiecesFit most (clears l.fn.spool) (clears l.spool) (length (bytes l.fn.spool)) (length (bytes l.spool));
      written : IsTrue g.S.Source.models
          → bytes l.spool ++ concat (pieces_left most b all l.cutter.start.block l.cutter.stage) ≡ bytes l.fn.spool
          ++ concat (pieces_left most b all l.fn.cutter.start.block Between);
      cuts : IsTrue g.S.Source.models
          → with_cuts (clears l.spool) (length (bytes l.spool))
          (pieces_left most b all l.cutter.start.block l.cutter.stage) ≡ with_cuts (clears l.fn.spool)
          (length (bytes l.fn.spool)) (pieces_left most b all l.fn.cutter.start.block Between);
      ends : g.W.Way.is_forward ≡ false → EndsWhole b (bytes l.fn.spool) (bytes l.spool) (clears l.fn.spool)
          (clears l.spool);
      laid : IsTrue g.S.Source.models → IsTrue g.L.Input.models → IsTrue g.P.Source.models
          → flashed_all b (cells l.partition) (frames_left most b all l.cutter.start.block l.cutter.stage)
          ≡ flashed_all b (cells l.fn.partition) (frames_left most b all l.fn.cutter.start.block Between);
      so_far : IsTrue g.S.Source.models → IsTrue g.L.Input.models → IsTrue g.P.Source.models
          → (l.fn.cutter.start.block ≤ l.cutter.start.block)
          × (cells l.partition ≡ over (cells l.fn.partition)
          (laid_cells b (blocks_up_to l.fn.cutter.start.block l.cutter.start.block all)));
      stays : IsTrue g.S.Source.models → IsTrue g.L.Input.models → IsTrue g.P.Source.models → (p : List ℕ) (done : ℕ)
          → l.fn.cutter.made ≤ done
          → LeavesMendable most b all p done (moment_of (past l.fn.partition) (cells l.fn.partition))
          → Staying most b all p l.fn.cutter.made (past l.fn.partition).synced l.cutter.start.block
          (past l.fn.partition).moments (past l.partition) (cells l.partition);
      settled : IsTrue g.P.Source.models → l.fn.cutter.made < l.cutter.made → (past l.partition).pending ≡ [];
      synced : (past l.partition).synced + l.fn.cutter.made ≡ (past l.fn.partition).synced + l.cutter.made;
      blocks : IsTrue g.S.Source.models → IsTrue g.L.Input.models
          → g.P.Partition.taken l.partition + b * written_in (drop l.cutter.start.block all)
          ≡ g.P.Partition.taken l.fn.partition + b * written_in (drop l.fn.cutter.start.block all);
      given : g.S.Source.given l.fn.source ≤ g.S.Source.given l.source;
      spool_given : gave l.fn.spool ≤ gave l.spool;
      grown : length (bytes l.fn.spool) ≤ length (bytes l.spool);
      taken : g.P.Partition.taken l.fn.partition ≤ g.P.Partition.taken l.partition;
      long : length (bytes l.spool) + g.R.BlockRuns.taken image l.fn.cutter.start + 80 * l.fn.cutter.made ≤ length
          (bytes l.fn.spool) + g.R.BlockRuns.taken image l.cutter.start + 80 * l.cutter.made;
      back : IsTrue g.S.Source.models → IsTrue g.L.Input.models
          → gave l.spool + length (bytes l.fn.spool) ≡ gave l.fn.spool + length (bytes l.spool);
      spent : IsTrue g.S.Source.models → l.cutter.stage ≡ Between
          → g.S.Source.given l.source + passes l.fn.cutter.start + l.fn.cutter.made * each
          ≤ g.S.Source.given l.fn.source + passes l.cutter.start + l.cutter.made * each;
      spent_end : IsTrue g.S.Source.models → l.cutter.stage ≡ Done
          → g.S.Source.given l.source + passes l.fn.cutter.start + l.fn.cutter.made * each + each
          ≤ g.S.Source.given l.fn.source + passes l.cutter.start + l.cutter.made * each + last;
      calls : calls_in (g.S.Source.reads l.source) (g.L.Input.reads l.spool) (g.L.Output.writes l.spool)
          (g.L.Spool.clears l.spool) (g.P.Partition.puts l.partition) (g.P.Partition.syncs l.partition) + 8 * bytes_in
          (g.S.Source.given l.fn.source) (gave l.fn.spool) (length (bytes l.fn.spool))
          (g.P.Partition.taken l.fn.partition) + 374 * l.fn.cutter.made ≤ calls_in (g.S.Source.reads l.fn.source)
          (g.L.Input.reads l.fn.spool) (g.L.Output.writes l.fn.spool) (g.L.Spool.clears l.fn.spool)
          (g.P.Partition.puts l.fn.partition) (g.P.Partition.syncs l.fn.partition) + 8 * bytes_in
          (g.S.Source.given l.source) (gave l.spool) (length (bytes l.spool)) (g.P.Partition.taken l.partition) + 374
          * l.cutter.made;
      turns : l.m.turns.number + 8 * bytes_in (g.S.Source.given l.fn.source) (gave l.fn.spool)
          (length (bytes l.fn.spool)) (g.P.Partition.taken l.fn.partition) + 374 * l.fn.cutter.made
          ≤ l.fn.m.turns.number + 8 * bytes_in (g.S.Source.given l.source) (gave l.spool) (length (bytes l.spool))
          (g.P.Partition.taken l.partition) + words_so_far one n l.cutter.start.block l.cutter.stage + 374
          * l.cutter.made;
      steps : g.S.Source.given l.source + gave l.spool + 65580 * l.fn.m.steps.number ≤ g.S.Source.given l.fn.source
          + gave l.fn.spool + 65580 * l.m.steps.number;
      greatest : l.m.greatest.number ≤ max l.fn.m.greatest.number 65580;
      read_faults : g.S.Source.read_faults l.source ≡ g.S.Source.read_faults l.fn.source;
      write_faults : g.L.Output.write_faults l.spool + g.L.Spool.clear_faults l.spool
          ≡ g.L.Output.write_faults l.fn.spool + g.L.Spool.clear_faults l.fn.spool;
      spool_faults : g.L.Input.read_faults l.spool ≡ g.L.Input.read_faults l.fn.spool;
      put_faults : g.P.Partition.put_faults l.partition ≡ g.P.Partition.put_faults l.fn.partition;
      unsynced : g.P.Partition.syncs l.partition + (past l.fn.partition).synced ≡ g.P.Partition.syncs l.fn.partition +
          (past l.partition).synced;
    }

abbrev pub decreases-pieces : goal.decreases-pieces
decreases-pieces g l = (g.R.BlockRuns.count l.fn.cutter.runs + 1) - l.cutter.made
