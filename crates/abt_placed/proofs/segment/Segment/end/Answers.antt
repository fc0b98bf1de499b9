use Rattle.std.proofs.Common.{◌≡◌, ◌+◌, ◌-◌, ◌++◌, ◌∙◌, ℕ, arith, sym, subst, take, drop, replicate, OnErr}
use Rattle.abt_io.specs.Moment.{put_at}
use Rattle.abt_sparse.specs.Chunk.{header_record, plain_header}
use Rattle.abt_sparse.specs.Runs.{framed}
use Rattle.abt_placed.specs.Placer.{closed, closing}
use Rattle.abt_placed.specs.Piece.{LaidPiece}
use Rattle.abt_placed.specs.Unfinished.{IsUnfinished}
use Rattle.abt_placed.specs.Placed.{skips}
use Rattle.abt_placed.specs.Whole.{taken}
use Rattle.abt_placed.proofs.Refusing.{zeros_kept, zeros_refused, keeps_less}
use Rattle.abt_placed.proofs.Within.{skipping_fits}
use Rattle.abt_placed.proofs.Costs.{no_wider}
use Rattle.abt_placed.proofs.Pieces.{on_both, end_laid}
use Rattle.abt_placed.proofs.Onward.{onward, at_most}
use Rattle.abt_placed.proofs.segment.Segment.end.Goals as goal

pub finish-requires-clause-zeros : goal.finish-requires-clause-zeros
finish-requires-clause-zeros g c =
    let w = g.O.Output.written c.args.output.now in
    let w' = g.O.Output.written c.skip.new.output in
    let f = c.args.self.now.placer.front in
    subst (λ (n : ℕ). take 28 (drop n w') ≡ replicate 28 0) (sym c.skip.ensures.goes.same.1)
    (zeros_kept f w w' c.skip.ensures.goes.kept c.requires.zeros)

-- what is skipped after the segment is not written
pub returns-in-Err : goal.returns-in-Err
returns-in-Err g c =
    let s = c.args.self.now in
    let f = s.placer.front in
    let w = g.O.Output.written c.args.output.now in
    let w' = g.O.Output.written c.skip.new.output in
    let k = c.skip.ensures.goes in
    let e = c.in-Err.ensures in
    let h = c.requires.sound in
    let room = skipping_fits s.placer in
    record {
      laid = λ blocks laid. tt;
      before = (keeps_less f (f + 28) w w' (omega arith) k.kept).front;
      unfinished = zeros_refused f w' (zeros_kept f w w' k.kept c.requires.zeros);
      writes = at_most e.goes.writes (omega arith) (omega arith);
      within = no_wider (taken s.placer + (c.args.blocks - taken s.placer)) c.args.blocks c.args.size (f + 28) _
          (omega arith) k.within;
      long = λ uncut. let fits = h.fits uncut in omega (arith, e.adds, room, fits);
    }

-- the headers that are left are written, or not
pub returns : goal.returns
returns g c =
    let s = c.args.self.now in
    let f = s.placer.front in
    let w = g.O.Output.written c.args.output.now in
    let w' = g.O.Output.written c.skip.new.output in
    let new = g.O.Output.written c.finish.new.output in
    let k = c.skip.ensures.goes in
    let e = c.in-Ok.ensures in
    let n = c.finish.ensures in
    let h = c.requires.sound in
    let room = skipping_fits s.placer in
    let front = (keeps_less f (f + 28) w w' (omega arith) k.kept).front in
    record {
      laid = λ blocks laid.
          let r = c.args.blocks - taken s.placer in
          let t = c.finish.new.self in
          let p = c.skip.new.self in
          let b = c.args.size in
          on_both c.finish.result (t ≡ closed p)
          (new ≡ put_at (closing p b w') p.front
          (header_record (plain_header b (closed p).blocks (closed p).chunks)))
          (LaidPiece b c.args.blocks s.placer.most t.chunks (framed s.first blocks r) (take f w) new)
          (λ is made. end_laid b c.args.blocks r blocks w w' new s p t (omega arith) e.goes.sound
          (e.laid (skips s.first ++ blocks) laid.placed) e.goes.passed k.same.0 k.same.1 front is made)
          n.ok n.laid;
      before = subst (λ (m : ℕ). take m new ≡ take m w') k.same.1 n.before ∙ front;
      unfinished = subst (λ (m : ℕ). OnErr c.finish.result (IsUnfinished (drop m new))) k.same.1 n.unfinished;
      writes = onward e.goes.writes n.writes;
      within = let w = no_wider (taken c.skip.new.self) c.args.blocks c.args.size (c.skip.new.self.front + 28) _
          (omega (arith, e.goes.passed)) n.within in omega (arith, k.same.1, w);
      long = λ uncut. let fits = h.fits uncut in omega (arith, n.adds, e.closes, room, fits);
    }
