use Rattle.std.proofs.Common.{rules, ◌+◌, ◌++◌, ℕ, List, arith, ap, sym, ◌∙◌, length-set, map, get_or, take, drop}
use Rattle.std.specs.List.{concat}
use Rattle.std.proofs.Common.{◌≡◌}
use Rattle.std.specs.Prelude.{IsTrue}
use Rattle.std.proofs.lemmas.List.{length-map, take_all}
use Rattle.std.proofs.lemmas.List.Sums.{sum_by_more, sum_by_more_le}
use Rattle.abt_io.proofs.Lent.{writes_then}
use Rattle.abt_sections.proofs.Growing.{begins_all, begins_then, begins_stop, begins_is, then_all}
use Rattle.abt_sections.proofs.Layouts.{concat_next, concat_at}
use Rattle.abt_sections.proofs.Moves.{moves_part}
use Rattle.abt_sections.proofs.Parts.{all_part, kept, next_part, part_same}
use Rattle.abt_sections.proofs.vendor_packing.write_ramdisks.Goals as goal

pub returns-in-Err-clause-bytes : goal.returns-in-Err-clause-bytes
returns-in-Err-clause-bytes g c =
    let s = g.S.Source in
    let v = c.loop-i.invariant in
    let d = c.index-ramdisks-i.result in
    let n = c.length-size.ensures.size
    ∙ part_same s.size c.loop-i.ramdisks c.args.ramdisks.now c.loop-i.i d v.lasting in
    let rest = sum_by_more_le s.size c.args.ramdisks.now c.loop-i.i d (omega arith) in
    record { most = omega (arith, v.all, n, c.in-Err.ensures.part.bytes.most, rest); all = tt }

pub loop-i-preserved : goal.loop-i-preserved
loop-i-preserved g c =
    let s = g.S.Source in
    let v = c.loop-i.invariant in
    let ps = c.loop-i.ramdisks in
    let i = c.loop-i.i in
    let d = c.index-ramdisks-i.result in
    let e = c.in-Ok.ensures in
    let new = c.write_bytes.new.part in
    let all = map s.content c.args.ramdisks.now in
    let b = s.content (get_or ps i d) in
    let n = c.length-size.ensures.size ∙ part_same s.size ps c.args.ramdisks.now i d v.lasting in
    record {
      long = simp length-set v.long;
      reads = all_part s _ ps i d new (omega arith) v.reads e.part.moves.reads;
      lasting = kept s.size ps i d new (e.part.lasting.1 ∙ sym e.part.lasting.0) ∙ v.lasting;
      written = λ models.
          let next = next_part s.content ps c.args.ramdisks.now i d (v.reads.content models) (omega arith) in
          then_all _ _ _ (concat (take i all)) b (v.written models) (e.part.written models)
          ∙ ap (λ (l : List ℕ). g.O.Output.written c.args.output.now ++ l) (concat_next all b i next);
      all = omega (arith, v.all, e.part.bytes.all, n, sum_by_more s.size c.args.ramdisks.now i d (omega arith));
      writes = writes_then v.writes e.part.moves.writes;
    }

pub returns-in-Err-clause-ramdisks : goal.returns-in-Err-clause-ramdisks
returns-in-Err-clause-ramdisks g c =
    let s = g.S.Source in
    let v = c.loop-i.invariant in
    let e = c.in-Err.ensures in
    let ps = c.loop-i.ramdisks in
    let all = map s.content c.args.ramdisks.now in
    let i = c.loop-i.i in
    let d = c.index-ramdisks-i.result in
    let b = s.content (get_or ps i d) in
    record {
      moves = moves_part ps i d _ (omega arith) v.reads v.writes e.part.moves
          (λ changed models. changed models (sym c.length-size.ensures.size));
      lasting = tt;
      written = search rules;
      front = λ models.
          let next = next_part s.content ps c.args.ramdisks.now i d (v.reads.content models) (omega arith) in
          begins_is _ _ _ _ (concat_at all b i next)
          (begins_stop _ _ (concat (take i all) ++ b) (concat (drop (i + 1) all))
          (begins_then _ _ _ (concat (take i all)) b (v.written models) (e.front models) e.part.moves.writes.least));
    }

pub returns-clause-ramdisks : goal.returns-clause-ramdisks
returns-clause-ramdisks g c =
    let s = g.S.Source in
    let v = c.loop-i.invariant in
    let ps = c.args.ramdisks.now in
    let all = map s.content ps in
    let w = g.O.Output.written in
    let written : IsTrue s.models → w c.loop-i.output ≡ w c.args.output.now ++ concat all = λ models.
    rw (take_all c.loop-i.i all (omega (arith, length-map ps s.content))) at (v.written models) in
    record {
      moves = record { reads = v.reads; writes = v.writes; cause = tt };
      lasting = v.lasting;
      written = written;
      front = λ models. begins_all (w c.args.output.now) (w c.loop-i.output) (concat all) (written models);
    }
