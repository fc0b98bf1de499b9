use Rattle.std.proofs.Common.{length, ◌-◌, ◌≡◌, ◌≤◌, ◌+◌, ◌*◌, Ok, Bool, false}
use Rattle.abt_placed.specs.Segment.{SoundSegment, ToldSegment}
use Rattle.abt_placed.specs.Unfinished.{KeepsFront}
use Rattle.abt_placed.specs.Whole.{taken, read_of, spare}
use Rattle.abt_placed.specs.Calls.{LaysOn, scene}
use Rattle.abt_placed.proofs.segment.Segment.take_source.Given as goal

abbrev pub invariant-loop-ended : goal.invariant-loop-ended
invariant-loop-ended g l = record {
  sound : SoundSegment l.runs.size (length (g.O.Output.written l.output)) l.self;
  within : taken l.self.placer ≤ l.runs.blocks;
  told : ToldSegment g.S.Source.models l.fn.is_tail_raw (g.S.Source.content l.fn.source) l.runs.size
      (g.O.Output.written l.output) l.self;
  same : (l.self.placer.most ≡ l.fn.self.placer.most) × (l.self.placer.front ≡ l.fn.self.placer.front)
      × (l.self.first ≡ l.fn.self.first) × (l.self.limit ≡ l.fn.self.limit);
  lays : LaysOn {X = Bool} (Ok false) g.S.Source.models (scene g.S.Source g.O.Output l.fn.source l.fn.output l.fn.m)
      (scene g.S.Source g.O.Output l.source l.output l.m);
  kept : KeepsFront (l.fn.self.placer.front + 28) (g.O.Output.written l.fn.output) (g.O.Output.written l.output);
  given : g.S.Source.given l.source + read_of l.runs.length l.runs.size (taken l.fn.self.placer)
      ≡ g.S.Source.given l.fn.source + read_of l.runs.length l.runs.size (taken l.self.placer);
  calls : g.S.Source.reads l.source + g.O.Output.writes l.output
      + length (g.O.Output.written l.fn.output) ≤ g.S.Source.reads l.fn.source + g.O.Output.writes l.fn.output
      + length (g.O.Output.written l.output) + 6 * (g.S.Source.given l.source - g.S.Source.given l.fn.source)
      + spare 14 l.runs.length l.runs.size (taken l.self.placer);
  turns : l.m.turns.number + length (g.O.Output.written l.fn.output) ≤ l.fn.m.turns.number
      + length (g.O.Output.written l.output) + 7 * (g.S.Source.given l.source - g.S.Source.given l.fn.source)
      + spare (l.runs.size + 14) l.runs.length l.runs.size (taken l.self.placer);
}

abbrev pub decreases-loop-ended : goal.decreases-loop-ended
decreases-loop-ended g l = l.runs.blocks - taken l.self.placer
