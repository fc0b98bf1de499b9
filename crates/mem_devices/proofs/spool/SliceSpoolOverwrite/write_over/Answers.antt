use Rattle.std.proofs.Common.{ℕ, drop, sym, ◌∙◌, ap}
use Rattle.abt_io.specs.Frame.{Logged, last_cut}
use Rattle.abt_io.specs.Moment.{put_at}
use Rattle.abt_io.proofs.Overs.{since_put}
use Rattle.mem_devices.proofs.spool.SliceSpoolOverwrite.write_over.Goals as goal

pub invariant_of-self-2-clause-since : goal.invariant_of-self-2-clause-since
invariant_of-self-2-clause-since c =
    let s = c.args.self.now in let all = s.log.state.bytes in
    since_put s.cells.bytes.now c.put.new.self.bytes.now all c.args.bytes.now s.used s.cleared c.args.at
    (s.since ∙ ap (λ (k : ℕ). drop k all) (sym s.cut)) c.put.ensures.value c.if-at-cleared.false c.requires.stands
    ∙ ap (λ (k : ℕ). drop k (put_at all c.args.at c.args.bytes.now)) s.cut
    ∙ ap (λ (g : Logged). drop (last_cut g.cuts) g.bytes) (sym c.put-2.ensures)
