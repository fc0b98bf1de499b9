use Rattle.std.proofs.Common.{List, length, ◌-◌, ◌≡◌, ◌≤◌, ◌+◌, ◌*◌, ◌++◌, Ok, Bool, false, ◌/◌}
use Rattle.abt_sparse.specs.Block.{Block}
use Rattle.abt_placed.specs.Placed.{classes}
use Rattle.abt_placed.specs.Whole.{taken}
use Rattle.abt_placed.specs.Segment.{SoundSegment, LaidSegment}
use Rattle.abt_placed.specs.Unfinished.{KeepsFront}
use Rattle.abt_placed.specs.Calls.{Writes, stand}
use Rattle.abt_placed.proofs.segment.Segment.take_fitting.Given as goal

abbrev pub invariant-loop-done : goal.invariant-loop-done
invariant-loop-done g l = record {
  within : l.done ≤ l.blocks;
  sound : SoundSegment l.size (length (g.O.Output.written l.output)) l.self;
  laid : (f : List Block) → LaidSegment l.size f (g.O.Output.written l.fn.output) l.fn.self
      → LaidSegment l.size (f ++ classes l.size l.classed l.done l.w.bytes) (g.O.Output.written l.output) l.self;
  passed : taken l.self.placer ≡ taken l.fn.self.placer + l.done;
  same : (l.self.placer.most ≡ l.fn.self.placer.most) × (l.self.placer.front ≡ l.fn.self.placer.front)
      × (l.self.first ≡ l.fn.self.first) × (l.self.limit ≡ l.fn.self.limit);
  kept : KeepsFront (l.fn.self.placer.front + 28) (g.O.Output.written l.fn.output) (g.O.Output.written l.output);
  writes : Writes {X = Bool} (Ok false) (14 * l.done) (l.done * (l.size / 2 + 17))
      (stand g.O.Output l.fn.output l.fn.m) (stand g.O.Output l.output l.m);
}

abbrev pub decreases-loop-done : goal.decreases-loop-done
decreases-loop-done g l = l.blocks - l.done
