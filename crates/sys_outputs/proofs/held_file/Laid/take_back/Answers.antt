use Rattle.std.proofs.Common.{◌+◌, length, take, refl, ap, ◌∙◌, arith}
use Rattle.std.proofs.Math.ListN.{length-take}
use Rattle.abt_io.proofs.Overs.{length_put}
use Rattle.sys_file.proofs.Fronts.{begins_take, front_stays}
use Rattle.sys_outputs.proofs.Late.{takes_none}
use Rattle.sys_outputs.proofs.held_file.Laid.take_back.Goals as goal

pub returns-then-done-self : goal.returns-then-done-self
returns-then-done-self g c =
    takes_none g.F.SystemFile.models c.args.sent (g.F.SystemFile.stands c.args.file.now) c.args.held.now.items

pub returns-then-from-done : goal.returns-then-from-done
returns-then-from-done g c =
    let h = c.args.self.now in
    let sent = c.args.sent in
    let stands = g.F.SystemFile.stands c.args.file.now in
    let new = g.F.SystemFile.stands c.write_front.new.file in
    let w = c.write_front.ensures in
    record {
      file = λ models. omega (
        arith,
        (w.changes models).long,
        w.least models,
        c.requires.stands_there models,
        length-take c.min-some.result h.before,
      );
      front = λ models.
          front_stays (take sent stands) stands new (sent + h.from) (begins_take sent stands)
          (omega (arith, length-take sent stands)) (w.changes models).before;
      held_length = ap length c.put_held.ensures ∙ length_put c.args.held.now.items h.from h.before (omega arith);
    }

pub returns-else-from-done : goal.returns-else-from-done
returns-else-from-done g c =
    let h = c.args.self.now in
    record {
      file = λ models. refl;
      front = λ models. begins_take c.args.sent (g.F.SystemFile.stands c.args.file.now);
      held_length = ap length c.put_held.ensures ∙ length_put c.args.held.now.items h.from h.before (omega arith);
    }
