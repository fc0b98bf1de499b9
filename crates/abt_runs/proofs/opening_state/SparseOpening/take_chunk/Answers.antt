use Rattle.std.proofs.Common.{rules, arith, ap, sym, ◌∙◌, ◌≤◌, ◌+◌, ℕ, length, Err}
use Rattle.abt_sparse.specs.View.{view}
use Rattle.abt_sparse.specs.declared.fault.SparseFault.TheVariants.{ChunkType}
use Rattle.abt_runs.proofs.Opened.{kind_ends, no_kind, failed_is, from_chunks}
use Rattle.abt_runs.proofs.opening_state.SparseOpening.take_chunk.Goals as goal

pub returns-in-None : goal.returns-in-None
returns-in-None c = record {
  takes = record {
    keeps = λ x is v old.
        let s = c.args.self.now in
        let o = from_chunks s.stage (view s.header) s.length s.index s.have s.at x v c.requires.chunk.here old in
        let there : s.at + 12 ≤ length x = omega (arith, o.0, c.requires.chunk.there) in
        let wrong = kind_ends (view s.header) s.index s.have s.at c.args.bytes.now x c.requires.chunk.more there is
        (no_kind c.args.bytes.now (sym c.head_at.ensures ∙ c.in-None.is)) in
        failed_is c.fail.new.self.stage _ _ _ _ _ _ x v c.fail.ensures.failed
        (ap (λ (n : ℕ). Err (ChunkType s.index n)) c.u16_at.ensures ∙ sym wrong ∙ o.1);
    takes = search rules;
  };
}
