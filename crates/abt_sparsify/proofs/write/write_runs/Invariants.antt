use Rattle.std.proofs.Common.{◌≡◌, ◌≤◌, ◌+◌, ◌-◌, ◌*◌, ◌++◌, length, take, drop, max}
use Rattle.std.specs.Prelude.{IsTrue, Ok}
use Rattle.abt_io.specs.Lent.{OnlyReads, OnlyWrites}
use Rattle.abt_runs.specs.Tail.{raw_list}
use Rattle.abt_runs.specs.Raw.{RawPlace, raw_charge, raw_before, raw_held}
use Rattle.abt_pieces.specs.Gather.{frame}
use Rattle.abt_pieces.specs.Image.{Leads, AreChunks, MayCome}
use Rattle.abt_pieces.specs.Spent.{Spent}
use Rattle.abt_pieces.specs.Write.{bytes_of, rest_of, SoundWriter, ToldWriter, silent_write, write_left, writer_words}
use Rattle.abt_pieces.specs.declared.fault.PieceFault.{PieceFault}
use Rattle.abt_sparsify.specs.Sparsify.{end_place}
use Rattle.abt_sparsify.proofs.write.write_runs.Given as goal

abbrev pub invariant-loop-m : goal.invariant-loop-m
invariant-loop-m g l =
    let content = g.S.Source.content in
    let written = g.O.Output.written in
    let given' = g.S.Source.given in
    let framed = frame in
    let n = l.fn.runs.raw.blocks in
    let b = l.fn.runs.raw.size in
    let len = l.fn.runs.raw.length in
    record {
      reads : OnlyReads {X = Unit {0}} {E = PieceFault} (Ok tt) g.S.Source l.fn.source l.source;
      writes : OnlyWrites {X = Unit {0}} {E = PieceFault} (Ok tt) 0 g.O.Output l.fn.output l.output;
      first : l.writer.first ≡ 0;
      past : l.writer.past ≡ n;
      sound : SoundWriter (λ c. RawPlace n b c) (λ c. (n - c.block) * b) n b l.writer;
      told : IsTrue g.S.Source.models → ToldWriter (λ c. RawPlace n b c) (λ c. n - c.block)
          (raw_list l.fn.runs.is_tail_raw b (content l.fn.source)) l.writer;
      counted : length (written l.output) + l.writer.bytes + 28 ≡ length (written l.fn.output) + l.fn.counted.bytes;
      front : IsTrue g.S.Source.models → written l.output ≡ written l.fn.output
          ++ take (length (written l.output) - length (written l.fn.output))
          (bytes_of l.fn.most (raw_list l.fn.runs.is_tail_raw b (content l.fn.source)));
      rest : IsTrue g.S.Source.models → rest_of (framed (raw_list l.fn.runs.is_tail_raw b (content l.fn.source)) 0 n)
          l.writer ≡ drop (length (written l.output) - length (written l.fn.output))
          (bytes_of l.fn.most (raw_list l.fn.runs.is_tail_raw b (content l.fn.source)));
      given : given' l.fn.source ≤ given' l.source;
      received : given' l.source + 65536 * l.fn.m.steps.number ≤ given' l.fn.source + 65536 * l.m.steps.number;
      greatest : l.m.greatest.number ≤ max l.fn.m.greatest.number 65536;
      calls : g.S.Source.reads l.source + 2 * silent_write n l.writer ≤ g.S.Source.reads l.fn.source
          + 3 * (given' l.source - given' l.fn.source) + 2 * (length (written l.output) - length (written l.fn.output))
          + 6;
      write_calls : g.O.Output.writes l.output + silent_write n l.writer ≤ g.O.Output.writes l.fn.output
          + (given' l.source - given' l.fn.source) + 2 * (length (written l.output) - length (written l.fn.output)) + 3;
      turns : l.m.turns.number + 4 * silent_write n l.writer ≤ l.fn.m.turns.number
          + 6 * (given' l.source - given' l.fn.source) + 5 * (length (written l.output) - length
          (written l.fn.output)) + 12 + writer_words b n l.writer;
      spends : IsTrue g.S.Source.models → Spent (λ c. RawPlace n b c × RawPlace n b c) (λ c. raw_charge len n b c)
          (λ c. raw_before len b c) (λ c k. raw_held len b c k) (end_place n) 16
          (32 + (given' l.source - given' l.fn.source)) l.writer;
      leads : Leads (AreChunks b l.fn.counted.chunks n) (MayCome b n l.writer) (written l.fn.output) (written l.output);
    }

abbrev pub decreases-loop-m : goal.decreases-loop-m
decreases-loop-m g l = write_left (λ c. l.fn.runs.raw.blocks - c.block) l.fn.runs.raw.blocks l.writer
