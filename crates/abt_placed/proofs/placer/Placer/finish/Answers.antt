use Rattle.abt_io.specs.Moment.{put_at}
use Rattle.abt_sparse.specs.Chunk.{header_record, plain_header}
use Rattle.abt_placed.specs.Placer.{closing}
use Rattle.abt_placed.specs.declared.placer.Placer.{Placer}
use Rattle.std.proofs.Common.{List, ℕ, ap, ◌+◌, ◌∙◌, arith, length, refl}
use Rattle.abt_placed.proofs.Numbers.{closed_numbers}
use Rattle.abt_placed.proofs.Parts.{closed_within}
use Rattle.abt_placed.proofs.Refusing.{zeros_kept, zeros_refused, keeps_less}
use Rattle.abt_placed.proofs.Onward.{onward, at_most}
use Rattle.abt_placed.proofs.placer.Placer.finish.Goals as goal

pub lay_header-requires-clause-zeros : goal.lay_header-requires-clause-zeros
lay_header-requires-clause-zeros g c =
    zeros_kept c.args.self.now.front (g.O.Output.written c.args.output.now)
    (g.O.Output.written c.close.new.output) c.close.ensures.kept c.requires.zeros

-- the last chunk is not made whole
pub returns-in-Err : goal.returns-in-Err
returns-in-Err g c =
    let s = c.args.self.now in
    let h = c.requires.sound in
    let w = g.O.Output.written c.args.output.now in
    let w' = g.O.Output.written c.close.new.output in
    let k = c.close.ensures in
    let stays = keeps_less s.front (s.front + 28) w w' (omega arith) k.kept in
    let within = closed_within c.args.size s.blocks s.count s.front _ (length w) (length w') k.within h.few in
    let e = c.in-Err.ensures in
    record {
      ok = tt;
      same = (refl, refl);
      before = stays.front;
      laid = tt;
      unfinished = zeros_refused s.front w' (zeros_kept s.front w w' k.kept c.requires.zeros);
      writes = at_most e.writes (omega arith) (omega arith);
      within = within;
      adds = e.adds;
    }

-- the header is not written
pub returns-in-Err-lay_header : goal.returns-in-Err-lay_header
returns-in-Err-lay_header g c =
    let s = c.args.self.now in
    let h = c.requires.sound in
    let w = g.O.Output.written c.args.output.now in
    let w' = g.O.Output.written c.close.new.output in
    let k = c.close.ensures in
    let stays = keeps_less s.front (s.front + 28) w w' (omega arith) k.kept in
    let within = closed_within c.args.size s.blocks s.count s.front _ (length w) (length w') k.within h.few in
    let n = closed_numbers s.kind s h.chunks h.none h.some in
    let l = c.lay_header.ensures.over in
    let all = c.in-Ok.ensures in
    let e = c.in-Err-lay_header.ensures in
    record {
      ok = tt;
      same = (
        ap (λ (p : Placer). p.most) c.and_closed.ensures
            ∙ n.most,
        ap (λ (p : Placer). p.front) c.and_closed.ensures ∙ n.front,
      );
      before = l.before ∙ stays.front;
      laid = tt;
      unfinished = e.unfinished;
      writes = onward all.writes e.over.writes;
      within = omega (arith, within, l.long);
      adds = rw e.over.failed (omega (arith, l.long, all.adds));
    }

-- the image is whole
pub returns-in-Ok-lay_header : goal.returns-in-Ok-lay_header
returns-in-Ok-lay_header g c =
    let s = c.args.self.now in
    let h = c.requires.sound in
    let w = g.O.Output.written c.args.output.now in
    let w' = g.O.Output.written c.close.new.output in
    let k = c.close.ensures in
    let stays = keeps_less s.front (s.front + 28) w w' (omega arith) k.kept in
    let within = closed_within c.args.size s.blocks s.count s.front _ (length w) (length w') k.within h.few in
    let n = closed_numbers s.kind s h.chunks h.none h.some in
    let b = c.args.size in
    let t = c.and_closed.result in
    let l = c.lay_header.ensures.over in
    let all = c.in-Ok.ensures in
    let e = c.in-Ok-lay_header.ensures in
    record {
      ok = c.and_closed.ensures;
      same = (
        ap (λ (p : Placer). p.most) c.and_closed.ensures
            ∙ n.most,
        ap (λ (p : Placer). p.front) c.and_closed.ensures ∙ n.front,
      );
      before = l.before ∙ stays.front;
      laid = e.ok ∙ ap (λ (l : List ℕ). put_at l s.front (header_record (plain_header b t.blocks t.chunks))) all.written
          ∙ ap (λ (p : Placer). put_at (closing s b w) s.front (header_record (plain_header b p.blocks p.chunks)))
          c.and_closed.ensures;
      unfinished = tt;
      writes = onward all.writes e.over.writes;
      within = omega (arith, within, l.long);
      adds = omega (arith, l.long, all.adds);
    }
