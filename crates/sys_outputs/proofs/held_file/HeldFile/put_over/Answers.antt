use Rattle.std.proofs.Common.{◌≡◌, ◌≤◌, ◌+◌, length, take, refl, sym, ap, ◌∙◌, arith, true≢false}
use Rattle.std.proofs.lemmas.List.{length-take-le, take_all}
use Rattle.abt_io.proofs.Overs.{length_put}
use Rattle.abt_io.specs.Frame.{Logged}
use Rattle.abt_io.specs.Over.{and_put}
use Rattle.sys_outputs.proofs.Late.{whole_over}
use Rattle.sys_outputs.proofs.held_file.HeldFile.put_over.Goals as goal

pub invariant_of-self : goal.invariant_of-self
invariant_of-self g c =
    let h = c.settle.new.self in
    let stands = g.F.SystemFile.stands h.file in
    let new = g.F.SystemFile.stands c.write_at.new.file in
    let rest = c.if-lays.ensures in
    let e = c.in_default.ensures in
    let w = c.in-Ok.ensures.writes in
    let x = take c.in-Ok.n c.args.bytes.now in
    let long : length x ≡ c.in-Ok.n = length-take-le c.in-Ok.n c.args.bytes.now w.within in
    let end : c.args.at + length x ≤ h.sent = omega (
      arith,
      long,
      w.within,
      e.reach,
      rest.same_sent,
      rest.as_many refl,
      c.len.ensures,
    ) in
    record {
      sends = λ models.
          let same = length_put stands c.args.at x (omega (arith, end, h.sends models)) in
          omega (arith, ap length (w.written models), same, h.sends models);
      stand = λ models sound.
          let same = length_put stands c.args.at x (omega (arith, end, h.sends models)) in
          omega (arith, ap length (w.written models), same, h.stand models sound);
      fits = h.fits;
      faithful = λ models sound.
          let same = length_put stands c.args.at x (omega (arith, end, h.sends models)) in
          let le : length new ≤ h.sent
          = omega (arith, ap length (w.written models), same, h.stand models sound, ap length e.none) in
          whole_over stands new h.held.items x h.given.state c.put.new.self.state h.sent c.args.at e.none
          (e.all models sound) (w.written models) c.put.ensures le;
    }

pub invariant_of-self-in-Err-write_at : goal.invariant_of-self-in-Err-write_at
invariant_of-self-in-Err-write_at g c =
    let h = c.settle.new.self in
    let w = c.in-Err-write_at.ensures.writes in
    record {
      sends = λ models. omega (arith, (w.marred models).least, h.sends models);
      stand = λ models sound. absurd (true≢false sound);
      fits = h.fits;
      faithful = λ models sound. absurd (true≢false sound);
    }

pub returns-then-at-end : goal.returns-then-at-end
returns-then-at-end g c = record { within = omega arith; progress = tt; taken = tt; kept = refl }

pub returns-then-lays : goal.returns-then-lays
returns-then-lays g c =
    let x = c.args.bytes.now in
    record {
      within = omega arith;
      progress = λ some. some;
      taken = c.if-lays.ensures.more_given refl
          ∙ ap (and_put c.args.self.now.given.state c.args.at) (sym (take_all (length x) x (omega arith)));
      kept = tt;
    }

pub returns-in-Err : goal.returns-in-Err
returns-in-Err g c = record {
  within = omega arith;
  progress = tt;
  taken = tt;
  kept = c.in-Err.ensures.given ∙ c.if-lays.ensures.kept refl;
}

pub returns-in-Ok : goal.returns-in-Ok
returns-in-Ok g c =
    let x = take c.in-Ok.n c.args.bytes.now in
    record {
      within = c.in-Ok.ensures.writes.within;
      progress = c.in-Ok.ensures.progress;
      taken = c.put.ensures
          ∙ ap (λ (l : Logged). and_put l c.args.at x) (c.in_default.ensures.given ∙ c.if-lays.ensures.kept refl);
      kept = tt;
    }

pub returns-in-Err-write_at : goal.returns-in-Err-write_at
returns-in-Err-write_at g c = record {
  within = omega arith;
  progress = tt;
  taken = tt;
  kept = c.in_default.ensures.given ∙ c.if-lays.ensures.kept refl;
}
