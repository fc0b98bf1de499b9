use Rattle.std.proofs.Common.{◌≡◌, ◌≤◌, ◌<◌, ◌+◌, ◌-◌, ◌⊎◌, ◌*◌, max}
use Rattle.abt_pieces.specs.declared.segment_tail.Tail.TheVariants as tails
use Rattle.std.specs.Prelude.{IsTrue, Ok}
use Rattle.abt_io.specs.Lent.{OnlyReads}
use Rattle.abt_pieces.specs.Cutter.{SoundPlanner, ToldPlanner}
use Rattle.abt_pieces.specs.Plan.{last_words}
use Rattle.abt_pieces.proofs.plan.plan_piece.Given as goal

abbrev pub invariant-loop-m : goal.invariant-loop-m
invariant-loop-m g l =
    let content = g.S.Source.content in
    record {
      reads : OnlyReads {X = Unit {0}} {E = Unit {0}} (Ok tt) g.S.Source l.fn.source l.source;
      sound : SoundPlanner (g.R.BlockRuns.within l.fn.runs) l.limit l.fn.from.block l.planner;
      told : IsTrue g.S.Source.models → ToldPlanner (g.R.BlockRuns.place l.fn.runs (content l.fn.source))
          (g.R.BlockRuns.size l.fn.runs) (g.R.BlockRuns.list l.fn.runs (content l.fn.source)) l.planner;
      charged : g.S.Source.given l.source + g.R.BlockRuns.charge l.fn.runs l.fn.from ≤ g.S.Source.given l.fn.source
          + g.R.BlockRuns.charge l.fn.runs l.planner.at + 16;
      inside : 0 < l.planner.at.used
          → ((l.planner.tail ≡ tails.Raw) × (l.limit - l.planner.weight < g.R.BlockRuns.size l.fn.runs))
          ⊎ (g.S.Source.given l.source + g.R.BlockRuns.charge l.fn.runs l.fn.from ≤ g.S.Source.given l.fn.source
          + g.R.BlockRuns.charge l.fn.runs l.planner.at);
      taken : l.planner.contents.bytes + g.R.BlockRuns.taken l.fn.runs l.fn.from ≤ 40
          + g.R.BlockRuns.taken l.fn.runs l.planner.at + 16;
      inside_taken : 0 < l.planner.at.used
          → ((l.planner.tail ≡ tails.Raw) × (l.limit - l.planner.weight < g.R.BlockRuns.size l.fn.runs))
          ⊎ (l.planner.contents.bytes + g.R.BlockRuns.taken l.fn.runs l.fn.from ≤ 40
          + g.R.BlockRuns.taken l.fn.runs l.planner.at);
      given : g.S.Source.given l.fn.source ≤ g.S.Source.given l.source;
      received : g.S.Source.given l.source + 65536 * l.fn.m.steps.number ≤ g.S.Source.given l.fn.source + 65536
          * l.m.steps.number;
      most : l.m.greatest.number ≤ max l.fn.m.greatest.number 65536;
      calls : g.S.Source.reads l.source ≤ g.S.Source.reads l.fn.source + 3 *
          (g.S.Source.given l.source - g.S.Source.given l.fn.source);
      turns : l.m.turns.number + last_words (g.R.BlockRuns.one l.fn.runs)
          (g.R.BlockRuns.count l.fn.runs) l.fn.from.block ≤ l.fn.m.turns.number + 5 *
          (g.S.Source.given l.source - g.S.Source.given l.fn.source) + last_words (g.R.BlockRuns.one l.fn.runs)
          (g.R.BlockRuns.count l.fn.runs) l.planner.at.block;
    }

abbrev pub decreases-loop-m : goal.decreases-loop-m
decreases-loop-m g l = g.R.BlockRuns.left l.fn.runs l.planner.at
