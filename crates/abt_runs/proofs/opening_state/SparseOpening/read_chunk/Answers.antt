use Rattle.std.proofs.Common.{rules, arith, ap, sym, ◌∙◌, ◌<◌, ◌-◌, ℕ, length, Err}
use Rattle.abt_sparse.specs.View.{view}
use Rattle.abt_sparse.specs.declared.fault.SparseFault.TheVariants.{Truncated}
use Rattle.abt_runs.proofs.Opened.{short_ends, failed_is, failed_advances, from_chunks, load_caused, own_caused}
use Rattle.abt_runs.proofs.opening_state.SparseOpening.read_chunk.Goals as goal
use Rattle.abt_runs.proofs.opening_state.SparseOpening.read_chunk.Goals.{in-Some, in-None}

pub returns-then-self-2 : goal.returns-then-self-2
returns-then-self-2 g c = record {
  step = record {
    reads = search rules;
    opening =
        failed_advances c.fail-then-self-2.result _ c.fail-then-self-2.ensures.answer c.fail-then-self-2.ensures.failed
        (λ models v old.
        let s = c.args.self.now in
        let x = g.S.Source.content c.args.source.now in
        let o = from_chunks s.stage (view s.header) s.length s.index s.have s.at x v c.requires.here old in
        let more : s.index < s.header.total_chunks = omega (arith, c.if-self.false, s.counted) in
        let few : length x - s.at < 12 = omega (arith, o.0, c.if-self-2.true) in
        let short = short_ends (view s.header) s.index s.have s.at x more few in
        failed_is c.fail-then-self-2.new.self.stage _ _ _ _ _ _ x v c.fail-then-self-2.ensures.failed
        (ap (λ (n : ℕ). Err (Truncated n)) o.0 ∙ sym short ∙ o.1));
    costs = search rules;
    length = search rules;
    cause = search rules;
  };
}

pub returns-then-self : goal.returns-then-self
returns-then-self g c = record {
  step = record {
    reads = search rules;
    opening = search rules;
    costs = search rules;
    length = λ here more. absurd (omega (arith, more, c.if-self.true));
    cause = rw c.requires.here (own_caused c.end.result _ _ _ c.end.ensures.own);
  };
}

pub returns : goal.returns
returns g c = record {
  step = record {
    reads = search rules;
    opening = search rules;
    costs = search rules;
    length = search rules;
    cause = elim c.match-loaded.branch [
      | in-Some w ↦ rw (w.answer-is, w.fail-answer.ensures.answer, c.requires.here)
          (load_caused w.in-Some.fault g.S.Source.models _ _ _
          (rw w.in-Some.is at c.load-loaded.ensures.wanted.loads.cause))
      | in-None w ↦ rw (w.answer-is, c.requires.here)
          (own_caused w.take_chunk-answer.result _ _ _ w.take_chunk-answer.ensures.takes.takes.own)
    ];
  };
}
