use Rattle.std.proofs.Common.{◌∙◌, arith}
use Rattle.abt_io.proofs.Lent.{reads_none, reads_then, reads_err, reads_ok, writes_none, writes_then, writes_err}
use Rattle.abt_io.proofs.Lent.{writes_ok}
use Rattle.abt_pieces.proofs.Fronts.{wrote_front, wrote_rest, wrote_part, front_join, whole_of, nothing_more, no_more}
use Rattle.abt_pieces.proofs.Fronts.{says_full, not_full, cause_unwritten, cause_since, none_says}
use Rattle.abt_sparsify.proofs.SparseSteps.{raw_blocks, header_first, header_chunks, unwritten}
use Rattle.abt_sparsify.proofs.image.write_image.Goals as goal

-- the counting has failed
pub returns-in-Err : goal.returns-in-Err
returns-in-Err g c =
    let a = c.count_runs.ensures in
    let e = c.in-Err.ensures in
    let none = unwritten c.in-Err.fault _ _ _ e.source.cause in
    record {
      moves = record {
        reads = reads_err _ e.source.reads;
        writes = rw none (writes_none _ g.O.Output _);
        full = λ says. absurd (none_says _ none says);
        cause = cause_unwritten c.in-Err.fault _ _ _ _ _ e.source.cause;
      };
      told = λ models. record { chunks = tt; front = nothing_more _ _; whole = tt; economy = tt };
      sparse = tt;
      within = no_more _ _;
      costs = record {
        given = a.costs.given;
        steps = a.costs.received;
        greatest = a.costs.greatest;
        calls = omega (arith, a.costs.calls);
        turns = omega (arith, a.costs.turns);
      };
    }

-- the header is not written
pub returns-in-Err-write_header : goal.returns-in-Err-write_header
returns-in-Err-write_header g c =
    let i = c.args.runs.now.raw in
    let e = c.in-Ok.ensures in
    let a = c.count_runs.ensures in
    let s = c.close_step.ensures in
    let h = c.write_header.ensures.put in
    let f = c.in-Err-write_header.ensures.put in
    record {
      moves = record {
        reads = reads_then e.source.reads (reads_none _ g.S.Source _);
        writes = writes_err _ f.writes;
        full = λ says. f.full (says_full c.in-Err-write_header.fault says);
        cause = f.cause;
      };
      told = λ models.
          let o = raw_blocks c.args.runs.now.is_tail_raw i.blocks i.size i.length _ i.some i.covers i.last
          (c.requires.ready.opened models) in
          let whole = header_first i.size c.args.most _ c.block_size-size.result c.in-Ok.counted.blocks
          c.in-Ok.counted.chunks c.block_size-size.ensures (e.blocks ∙ o.0) (e.counts models).chunks in
          record { chunks = tt; front = wrote_part _ _ _ _ _ f.put.front whole; whole = tt; economy = tt };
      sparse = tt;
      within = omega (arith, h.within);
      costs = record {
        given = a.costs.given;
        steps = omega (arith, a.costs.received, s.steps, h.no_step.steps);
        greatest = omega (arith, a.costs.greatest, s.greatest, h.no_step.greatest);
        calls = omega (arith, a.costs.calls, h.costs.calls, h.writes.least, a.costs.given);
        turns = omega (arith, a.costs.turns, s.turns, h.costs.turns, h.writes.least, a.costs.given);
      };
    }

-- the image is written
pub returns-in-Ok-write_runs : goal.returns-in-Ok-write_runs
returns-in-Ok-write_runs g c =
    let i = c.args.runs.now.raw in
    let e = c.in-Ok.ensures in
    let a = c.count_runs.ensures in
    let s = c.close_step.ensures in
    let h = c.in_default.ensures.put in
    let b = c.write_header.ensures.put in
    let y = c.write_runs.ensures in
    let z = c.in-Ok-write_runs.ensures in
    record {
      moves = record {
        reads = reads_then e.source.reads (reads_ok _ z.moves.reads);
        writes = writes_then h.writes (writes_ok _ z.moves.writes);
        full = λ says. absurd (not_full says);
        cause = tt;
      };
      told = λ models.
          let o = raw_blocks c.args.runs.now.is_tail_raw i.blocks i.size i.length _ i.some i.covers i.last
          (c.requires.ready.opened models) in
          let header = header_first i.size c.args.most _ c.block_size-size.result c.in-Ok.counted.blocks
          c.in-Ok.counted.chunks c.block_size-size.ensures (e.blocks ∙ o.0) (e.counts models).chunks in
          record {
            chunks = (e.blocks ∙ o.0, (e.counts models).chunks);
            front = front_join _ _ _ _ _ b.writes.least y.moves.writes.least (wrote_front _ _ _ _ _ h.put.ok header)
                (wrote_rest _ _ _ _ _ h.put.ok header) (rw (e.source.reads.content models) at (y.front models));
            whole = whole_of _ _ _ _ _ _ h.put.ok (rw (e.source.reads.content models) at (z.whole models)) header;
            economy = omega (arith, e.economy models, z.economy models, c.requires.ready.opened models);
          };
      sparse =
          let written = rw (c.block_size-size.ensures, e.blocks) at h.put.ok in
          record {
            blocks = rw e.blocks (i.covers, i.last);
            long = omega (arith, z.long, h.put.whole);
            image = rw e.blocks (header_chunks i.size i.blocks c.in-Ok.counted.chunks _ _ _
                (omega (arith, i.some), i.words, omega (arith, i.window)) i.fits (omega arith) written z.image);
          };
      within = omega (arith, y.within, h.put.whole, e.bounded.1);
      costs = record {
        given = omega (arith, a.costs.given, y.costs.given);
        steps = omega (arith, a.costs.received, s.steps, b.no_step.steps, y.costs.received);
        greatest = omega (arith, a.costs.greatest, s.greatest, b.no_step.greatest, y.costs.greatest);
        calls = omega (
          arith,
          a.costs.calls,
          b.costs.calls,
          y.costs.calls,
          y.costs.write_calls,
          a.costs.given,
          y.costs.given,
          b.writes.least,
          y.moves.writes.least,
        );
        turns = omega (
          arith,
          a.costs.turns,
          s.turns,
          b.costs.turns,
          y.costs.turns,
          a.costs.given,
          y.costs.given,
          b.writes.least,
          y.moves.writes.least,
        );
      };
    }

-- the chunks are not
pub returns-in-Err-write_runs : goal.returns-in-Err-write_runs
returns-in-Err-write_runs g c =
    let i = c.args.runs.now.raw in
    let e = c.in-Ok.ensures in
    let a = c.count_runs.ensures in
    let s = c.close_step.ensures in
    let h = c.in_default.ensures.put in
    let b = c.write_header.ensures.put in
    let y = c.write_runs.ensures in
    let z = c.in-Err-write_runs.ensures in
    record {
      moves = record {
        reads = reads_then e.source.reads (reads_err _ z.moves.reads);
        writes = writes_then h.writes (writes_err _ z.moves.writes);
        full = z.moves.full;
        cause = cause_since c.in-Err-write_runs.fault _ _ _ _ _ _ _ a.source.reads.faults b.writes.faults z.moves.cause;
      };
      told = λ models.
          let o = raw_blocks c.args.runs.now.is_tail_raw i.blocks i.size i.length _ i.some i.covers i.last
          (c.requires.ready.opened models) in
          let header = header_first i.size c.args.most _ c.block_size-size.result c.in-Ok.counted.blocks
          c.in-Ok.counted.chunks c.block_size-size.ensures (e.blocks ∙ o.0) (e.counts models).chunks in
          record {
            chunks = tt;
            front = front_join _ _ _ _ _ b.writes.least y.moves.writes.least (wrote_front _ _ _ _ _ h.put.ok header)
                (wrote_rest _ _ _ _ _ h.put.ok header) (rw (e.source.reads.content models) at (y.front models));
            whole = tt;
            economy = tt;
          };
      sparse = tt;
      within = omega (arith, y.within, h.put.whole, e.bounded.1);
      costs = record {
        given = omega (arith, a.costs.given, y.costs.given);
        steps = omega (arith, a.costs.received, s.steps, b.no_step.steps, y.costs.received);
        greatest = omega (arith, a.costs.greatest, s.greatest, b.no_step.greatest, y.costs.greatest);
        calls = omega (
          arith,
          a.costs.calls,
          b.costs.calls,
          y.costs.calls,
          y.costs.write_calls,
          a.costs.given,
          y.costs.given,
          b.writes.least,
          y.moves.writes.least,
        );
        turns = omega (
          arith,
          a.costs.turns,
          s.turns,
          b.costs.turns,
          y.costs.turns,
          a.costs.given,
          y.costs.given,
          b.writes.least,
          y.moves.writes.least,
        );
      };
    }
