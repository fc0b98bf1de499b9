use Rattle.std.proofs.Common.{rules, arith, ap, sym, ◌∙◌, ◌≡◌, ◌<◌, ◌≤◌, ◌+◌, ◌-◌, ℕ, length, Err}
use Rattle.abt_sparse.specs.View.{view}
use Rattle.abt_sparse.specs.Reading.{counted, data_len}
use Rattle.abt_sparse.specs.declared.fault.SparseFault.TheVariants.{Truncated}
use Rattle.abt_runs.specs.Verdict.{rest_ends}
use Rattle.abt_runs.proofs.Opened.{known_is, length_ends, room_ends, cut_ends, past_ends, failed_is, from_chunks}
use Rattle.abt_runs.proofs.opening_state.SparseOpening.take_known.Goals as goal

pub returns-then-from-data : goal.returns-then-from-data
returns-then-from-data c = record {
  takes = record {
    keeps = λ x is v old.
        let s = c.args.self.now in
        let k = c.args.chunk in
        let o = from_chunks s.stage (view s.header) s.length s.index s.have s.at x v c.requires.chunk.here old in
        let there : s.at + 12 ≤ length x = omega (arith, o.0, c.requires.chunk.there) in
        let wrong = length_ends (view s.header) s.index s.have s.at c.args.bytes.now x k.kind k.blocks k.total
        c.requires.chunk.more there is (known_is c.args.bytes.now k c.requires.known)
        (λ e. c.if-from-data.true (omega (
          arith,
          e,
          c.from.ensures,
          c.from-2.ensures,
          c.data_length-data.ensures.value,
        ))) in
        failed_is c.fail.new.self.stage _ _ _ _ _ _ x v c.fail.ensures.failed (sym wrong ∙ o.1);
    takes = search rules;
  };
}

pub returns-then-from : goal.returns-then-from
returns-then-from c = record {
  takes = record {
    keeps = λ x is v old.
        let s = c.args.self.now in
        let k = c.args.chunk in
        let o = from_chunks s.stage (view s.header) s.length s.index s.have s.at x v c.requires.chunk.here old in
        let there : s.at + 12 ≤ length x = omega (arith, o.0, c.requires.chunk.there) in
        let right : k.total ≡ s.header.chunk_hdr_sz + data_len s.header.blk_sz k.kind k.blocks = omega
        (arith, c.if-from-data.false, c.from.ensures, c.from-2.ensures, c.data_length-data.ensures.value) in
        let many : s.header.total_blks < s.have + counted k.kind k.blocks = omega (
          arith,
          c.if-from.true,
          c.from-3.ensures,
          c.from-4.ensures,
          c.from-5.ensures,
          c.counted_blocks-counts.ensures,
        ) in
        let wrong = room_ends (view s.header) s.index s.have s.at c.args.bytes.now x k.kind k.blocks k.total
        c.requires.chunk.more there is (known_is c.args.bytes.now k c.requires.known) right many in
        failed_is c.fail-then-from.new.self.stage _ _ _ _ _ _ x v c.fail-then-from.ensures.failed (sym wrong ∙ o.1);
    takes = search rules;
  };
}

pub returns-then-self-from : goal.returns-then-self-from
returns-then-self-from c = record {
  takes = record {
    keeps = λ x is v old.
        let s = c.args.self.now in
        let k = c.args.chunk in
        let o = from_chunks s.stage (view s.header) s.length s.index s.have s.at x v c.requires.chunk.here old in
        let there : s.at + 12 ≤ length x = omega (arith, o.0, c.requires.chunk.there) in
        let right : k.total ≡ s.header.chunk_hdr_sz + data_len s.header.blk_sz k.kind k.blocks = omega
        (arith, c.if-from-data.false, c.from.ensures, c.from-2.ensures, c.data_length-data.ensures.value) in
        let few : s.have + counted k.kind k.blocks ≤ s.header.total_blks = omega (
          arith,
          c.if-from.false,
          c.from-3.ensures,
          c.from-4.ensures,
          c.from-5.ensures,
          c.counted_blocks-counts.ensures,
        ) in
        let short : length x - s.at < k.total = omega (arith, c.if-self-from.true, c.from-6.ensures, o.0) in
        let wrong = cut_ends (view s.header) s.index s.have s.at c.args.bytes.now x k.kind k.blocks k.total
        c.requires.chunk.more there is (known_is c.args.bytes.now k c.requires.known) right few short in
        failed_is c.fail-then-self-from.new.self.stage _ _ _ _ _ _ x v c.fail-then-self-from.ensures.failed
        (ap (λ (n : ℕ). Err (Truncated n)) o.0 ∙ sym wrong ∙ o.1);
    takes = search rules;
  };
}

pub returns : goal.returns
returns c = record {
  takes = record {
    keeps = λ x is v old.
        let s = c.args.self.now in
        let k = c.args.chunk in
        let o = from_chunks s.stage (view s.header) s.length s.index s.have s.at x v c.requires.chunk.here old in
        let there : s.at + 12 ≤ length x = omega (arith, o.0, c.requires.chunk.there) in
        let right : k.total ≡ s.header.chunk_hdr_sz + data_len s.header.blk_sz k.kind k.blocks = omega
        (arith, c.if-from-data.false, c.from.ensures, c.from-2.ensures, c.data_length-data.ensures.value) in
        let few : s.have + counted k.kind k.blocks ≤ s.header.total_blks = omega (
          arith,
          c.if-from.false,
          c.from-3.ensures,
          c.from-4.ensures,
          c.from-5.ensures,
          c.counted_blocks-counts.ensures,
        ) in
        let enough : k.total ≤ length x - s.at = omega (arith, c.if-self-from.false, c.from-6.ensures, o.0) in
        let past = past_ends (view s.header) s.index s.have s.at c.args.bytes.now x k.kind k.blocks k.total
        c.requires.chunk.more there is (known_is c.args.bytes.now k c.requires.known) right few enough in (
          o.0,
          ap (λ (n : ℕ). rest_ends (view s.header) (s.index + 1) (s.have + n) (s.at + c.from-7.result) x)
              c.counted_blocks-counts.ensures ∙ ap (λ (n : ℕ). rest_ends (view s.header) (s.index + 1)
              (s.have + counted k.kind k.blocks) (s.at + n) x) c.from-7.ensures ∙ sym past ∙ o.1,
        );
    takes = search rules;
  };
}
