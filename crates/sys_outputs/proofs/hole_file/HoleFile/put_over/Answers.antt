use Rattle.std.proofs.Common.{◌≡◌, ◌≤◌, ◌+◌, List, ℕ, length, take, refl, sym, ap, ◌∙◌, arith, true≢false}
use Rattle.std.proofs.lemmas.List.{length-take-le}
use Rattle.abt_io.proofs.Overs.{length_put}
use Rattle.abt_io.specs.Frame.{Logged}
use Rattle.abt_io.specs.Moment.{put_at}
use Rattle.sys_file.proofs.Fronts.{front_over}
use Rattle.sys_outputs.proofs.hole_file.HoleFile.put_over.Goals as goal

pub invariant_of-self : goal.invariant_of-self
invariant_of-self g c =
    let h = c.args.self.now in
    let given = h.given.state.bytes in
    let stands = g.F.SystemFile.stands h.file in
    let new = g.F.SystemFile.stands c.write_at.new.file in
    let w = c.in-Ok.ensures.writes in
    let x = take c.in-Ok.n c.args.bytes.now in
    let long : length x ≡ c.in-Ok.n = length-take-le c.in-Ok.n c.args.bytes.now w.within in
    let fits : c.args.at + length x ≤ length given = omega (arith, long, w.within, h.place) in
    let logged : c.put.new.self.state.bytes ≡ put_at given c.args.at x = ap (λ (l : Logged). l.bytes) c.put.ensures in
    record {
      place = ap length logged ∙ length_put given c.args.at x fits ∙ h.place;
      reaches = λ models.
          let same = length_put stands c.args.at x (omega (arith, fits, h.place, h.reaches models)) in
          omega (arith, ap length (w.written models), same, h.reaches models);
      stands = λ models sound.
          ap (λ (l : List ℕ). take (length l) new) logged
          ∙ front_over given stands new x c.args.at (h.stands models sound) (w.written models) fits ∙ sym logged;
      ends = λ models.
          let same = length_put stands c.args.at x (omega (arith, fits, h.place, h.reaches models)) in
          omega (arith, ap length (w.written models), same, h.ends models);
    }

pub invariant_of-self-in-Err : goal.invariant_of-self-in-Err
invariant_of-self-in-Err g c =
    let h = c.args.self.now in
    let w = c.in-Err.ensures.writes in
    record {
      place = h.place;
      reaches = λ models. omega (arith, (w.marred models).least, h.reaches models);
      stands = λ models sound. absurd (true≢false sound);
      ends = λ models. omega (arith, (w.marred models).long, h.ends models);
    }

pub returns-then-at-self : goal.returns-then-at-self
returns-then-at-self g c = record { within = omega arith; progress = tt; taken = tt; kept = refl }

pub returns-in-Ok : goal.returns-in-Ok
returns-in-Ok g c = record {
  within = c.in-Ok.ensures.writes.within;
  progress = c.in-Ok.ensures.progress;
  taken = c.put.ensures;
  kept = tt;
}

pub returns-in-Err : goal.returns-in-Err
returns-in-Err g c = record { within = omega arith; progress = tt; taken = tt; kept = refl }
