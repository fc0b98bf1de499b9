use Rattle.std.proofs.Common.{◌≡◌, ℕ, drop, length, sym, ◌∙◌, ap, arith}
use Rattle.abt_io.specs.Frame.{Logged, last_cut}
use Rattle.abt_io.specs.Moment.{put_at}
use Rattle.abt_io.proofs.Overs.{length_put}
use Rattle.mem_disk.proofs.Spools.{since_over, long_over}
use Rattle.mem_disk.proofs.spool.MemorySpoolOverwrite.write_over.Goals as goal

pub invariant_of-self-2 : goal.invariant_of-self-2
invariant_of-self-2 c =
    let s = c.args.self.now in let all = s.log.state.bytes in let x = c.args.bytes.now in
    let new = c.put_part.new.into.items in
    let e : s.bytes.items ≡ drop s.cleared all = s.since ∙ ap (λ (k : ℕ). drop k all) (sym s.cut) in
    let n : length new ≡ length s.bytes.items
    = long_over s.bytes.items new all x s.cleared c.args.at e c.put_part.ensures.value c.if-at-cleared.false
    c.requires.stands in
    let m : length c.put.new.self.state.bytes ≡ length all
    = ap (λ (g : Logged). length g.bytes) c.put.ensures ∙ length_put all c.args.at x c.requires.stands in
    record {
      since = since_over s.bytes.items new all x s.cleared c.args.at e c.put_part.ensures.value c.if-at-cleared.false
          c.requires.stands
          ∙ ap (λ (k : ℕ). drop k (put_at all c.args.at x)) s.cut
          ∙ ap (λ (g : Logged). drop (last_cut g.cuts) g.bytes) (sym c.put.ensures);
      cut = s.cut ∙ ap (λ (g : Logged). last_cut g.cuts) (sym c.put.ensures);
      all = omega (arith, n, m, s.all);
      room = omega (arith, n, s.room);
      fits = omega (arith, n, s.fits);
      told = c.put_part.ensures.told;
    }
