use Rattle.std.proofs.Common.{rules, arith, ap, sym, ◌∙◌, ◌≡◌, ℕ, length, Err}
use Rattle.abt_sparse.specs.View.{view}
use Rattle.abt_sparse.specs.declared.fault.SparseFault.TheVariants.{Truncated}
use Rattle.abt_runs.proofs.Opened.{no_header, failed_is, failed_advances, from_header, load_caused, own_caused}
use Rattle.abt_runs.proofs.opening_state.SparseOpening.read_header.Goals as goal
use Rattle.abt_runs.proofs.opening_state.SparseOpening.read_header.Goals.{in-Some, in-None}

pub returns-then-size : goal.returns-then-size
returns-then-size g c = record {
  step = record {
    reads = search rules;
    opening = failed_advances c.fail.result _ c.fail.ensures.answer c.fail.ensures.failed (λ models v old.
        let s = c.args.self.now in
        let x = g.S.Source.content c.args.source.now in
        let o = from_header s.stage (view s.header) s.length s.index s.have s.at x v c.requires.here old in
        let long : c.length-size.result ≡ length x = c.length-size.ensures.told models in
        let none = no_header x (omega (arith, long, c.if-size.true)) in
        failed_is c.fail.new.self.stage _ _ _ _ _ _ x v c.fail.ensures.failed (ap (λ (n : ℕ). Err (Truncated n)) long
        ∙ sym none ∙ o));
    costs = search rules;
    length = search rules;
    cause = search rules;
  };
}

pub returns : goal.returns
returns g c = record {
  step = record {
    reads = search rules;
    opening = search rules;
    costs = search rules;
    length = search rules;
    cause = elim c.match-loaded.branch [
      | in-Some w ↦ rw (w.answer-is, w.fail-answer.ensures.answer, c.requires.here)
          (load_caused w.in-Some.fault g.S.Source.models _ _ _
          (rw w.in-Some.is at c.load-loaded.ensures.wanted.loads.cause))
      | in-None w ↦ rw (w.answer-is, c.requires.here)
          (own_caused w.take_header-answer.result _ _ _ w.take_header-answer.ensures.takes.own)
    ];
  };
}
