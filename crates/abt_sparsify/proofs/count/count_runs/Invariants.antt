use Rattle.std.proofs.Common.{◌≡◌, ◌≤◌, ◌+◌, ◌-◌, ◌*◌, max, min}
use Rattle.std.specs.Prelude.{IsTrue, Ok}
use Rattle.abt_io.specs.Lent.{OnlyReads}
use Rattle.abt_runs.specs.Tail.{raw_list}
use Rattle.abt_runs.specs.Raw.{RawPlace}
use Rattle.abt_pieces.specs.Gather.{SoundGatherer, ToldGatherer, look_left, silent_left}
use Rattle.abt_sparsify.specs.Sparsify.{Counted, SoundCount, read_to}
use Rattle.abt_pieces.specs.Plan.{last_words}
use Rattle.abt_pieces.specs.declared.fault.PieceFault.{PieceFault}
use Rattle.abt_sparsify.proofs.count.count_runs.Given as goal

abbrev pub invariant-loop-gatherer : goal.invariant-loop-gatherer
invariant-loop-gatherer g l =
    let content = g.S.Source.content in
    let given' = g.S.Source.given in
    record {
      size : l.size ≡ l.fn.runs.raw.size;
      count : l.count ≡ l.fn.runs.raw.blocks;
      blocks : l.counted.blocks ≡ l.fn.runs.raw.blocks;
      reads : OnlyReads {X = Unit {0}} {E = PieceFault} (Ok tt) g.S.Source l.fn.source l.source;
      sound : SoundGatherer (λ c. RawPlace l.fn.runs.raw.blocks l.fn.runs.raw.size c) l.fn.runs.raw.blocks 0
          l.fn.runs.raw.blocks l.gatherer;
      told : IsTrue g.S.Source.models → ToldGatherer (λ c. RawPlace l.fn.runs.raw.blocks l.fn.runs.raw.size c)
          (raw_list l.fn.runs.is_tail_raw l.fn.runs.raw.size (content l.fn.source)) 0 l.fn.runs.raw.blocks l.gatherer;
      bounds : SoundCount l.fn.runs.raw.size l.gatherer l.counted;
      numbers : IsTrue g.S.Source.models → Counted l.fn.most (raw_list l.fn.runs.is_tail_raw l.fn.runs.raw.size
          (content l.fn.source)) l.gatherer l.counted;
      given : given' l.fn.source ≤ given' l.source;
      received : given' l.source + 65536 * l.fn.m.steps.number ≤ given' l.fn.source + 65536 * l.m.steps.number;
      greatest : l.m.greatest.number ≤ max l.fn.m.greatest.number 65536;
      calls : g.S.Source.reads l.source + 2 * min (silent_left l.fn.runs.raw.blocks l.fn.runs.raw.blocks l.gatherer) 3
          ≤ g.S.Source.reads l.fn.source + 3 * (given' l.source - given' l.fn.source) + 6;
      turns : l.m.turns.number + 3 * min (silent_left l.fn.runs.raw.blocks l.fn.runs.raw.blocks l.gatherer) 3 ≤
          l.fn.m.turns.number + 5 * (given' l.source - given' l.fn.source) + 9
          + last_words l.fn.runs.raw.size l.fn.runs.raw.blocks (min l.gatherer.at.block l.fn.runs.raw.blocks);
      reads_to : IsTrue g.S.Source.models → given' l.source + 16 ≤ given' l.fn.source
          + read_to l.fn.runs.raw.length l.fn.runs.raw.blocks l.fn.runs.raw.size l.gatherer.at;
    }

abbrev pub decreases-loop-gatherer : goal.decreases-loop-gatherer
decreases-loop-gatherer g l = look_left (λ c. l.fn.runs.raw.blocks - c.block) l.fn.runs.raw.blocks
    l.fn.runs.raw.blocks l.gatherer
