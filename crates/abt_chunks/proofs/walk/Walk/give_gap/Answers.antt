use Rattle.std.proofs.Common.{rules, length, ◌+◌, arith}
use Rattle.abt_sparse.specs.View.{view}
use Rattle.abt_chunks.proofs.Onward.{past_skip}
use Rattle.abt_chunks.proofs.walk.Walk.give_gap.Goals as goal

pub returns-clause-gives : goal.returns-clause-gives
returns-clause-gives c = let s = c.args.self.now in let h = c.requires.here in record {
  told = record {
    says = λ t e. rw (h.0, h.1, h.2) (past_skip s.due (view s.header) s.index s.have s.raw s.words s.word
        (s.position + length t) t c.min-n.result (omega arith));
    lists = search rules;
    short = search rules;
  };
  turn = search rules;
  cause = search rules;
}
