-- How far a command is has no part in what was printed of a cut.
use Rattle.std.proofs.Common.{ℕ, List, Option, Bool}
use Rattle.sys_disk.specs.World.{World, OpenFiles}
use Rattle.sys_report.specs.declared.report.Report.{Report}
use Rattle.sys_report.specs.declared.progress.Progress.{Progress}
use Rattle.cmd_common_sparse.specs.PieceNames.{Naming}
use Rattle.cmd_sparse_dispatch.specs.Commands.{Cuts, State, state}

pub cuts_as : (on_output : List ℕ → Bool) (input : List ℕ) (limit : ℕ) (names : Naming) (raw : Option ℕ) (a : State)
    (w : World) (h : OpenFiles) (r : Report) (p : Progress) → Cuts on_output input limit names raw a (state w h r)
    → Cuts on_output input limit names raw a (state w h (record r { progress = p }))
cuts_as on_output input limit names raw a w h r p is = record {
  from = is.from;
  there = is.there;
  size = is.size;
  blocks = is.blocks;
  image = is.image;
  granted = is.granted;
  count = is.count;
  all = is.all;
  first = is.first;
  shown = record {
    count = is.shown.count;
    all = is.shown.all;
    between = is.shown.between;
    pieces_told = is.shown.pieces_told;
    count_told = record {
      told = is.shown.count_told.told;
      line = is.shown.count_told.line;
      noted = is.shown.count_told.noted;
      alone = is.shown.count_told.alone;
      named = is.shown.count_told.named;
    };
  };
}
