use Rattle.std.proofs.Common.{◌≡◌, length, take, refl, sym, ap, ◌∙◌, arith, true≢false}
use Rattle.std.proofs.lemmas.List.{length-take-le, take_all}
use Rattle.abt_io.specs.Frame.{Logged, and_bytes}
use Rattle.sys_file.proofs.Fronts.{long_put}
use Rattle.sys_outputs.proofs.Late.{whole_behind}
use Rattle.sys_outputs.proofs.held_file.HeldFile.put.Goals as goal

pub invariant_of-self : goal.invariant_of-self
invariant_of-self g c =
    let h = c.settle.new.self in
    let n = c.in-Ok.n in
    let stands = g.F.SystemFile.stands h.file in
    let new = g.F.SystemFile.stands c.write_at.new.file in
    let rest = c.if-holds.ensures in
    let e = c.in_ok-settle.ensures in
    let w = c.in-Ok.ensures.writes in
    let x = take n c.args.bytes.now in
    let long : length x ≡ n = length-take-le n c.args.bytes.now w.within in
    let none : length h.held.items ≡ 0 = ap length e.none in
    record {
      sends = λ models. omega (arith, ap length (w.written models), long_put stands x h.sent (h.sends models), long);
      stand = λ models sound.
          omega (
            arith,
            ap length (w.written models),
            long_put stands x h.sent (h.sends models),
            long,
            none,
            h.stand models sound,
          );
      fits = omega (arith, none, e.reach, rest.same_sent, rest.as_many refl, w.within);
      faithful = λ models sound.
          let all : length stands ≡ h.sent = omega (arith, none, h.sends models, h.stand models sound) in
          whole_behind stands new h.held.items x h.given.state c.append.new.self.state h.sent n e.none
          (e.all models sound) (w.written models) c.append.ensures all long;
    }

pub invariant_of-self-in-Err : goal.invariant_of-self-in-Err
invariant_of-self-in-Err g c =
    let h = c.settle.new.self in
    let w = c.in-Err.ensures.writes in
    record {
      sends = λ models. omega (arith, (w.marred models).least, h.sends models);
      stand = λ models sound. absurd (true≢false sound);
      fits = h.fits;
      faithful = λ models sound. absurd (true≢false sound);
    }

pub returns-then-bytes-self : goal.returns-then-bytes-self
returns-then-bytes-self g c = record { bound = tt; progress = tt; taken = tt; kept = refl }

pub returns-then-holds : goal.returns-then-holds
returns-then-holds g c =
    let x = c.args.bytes.now in
    record {
      bound = omega arith;
      progress = λ some. some;
      taken = c.if-holds.ensures.more_given refl
          ∙ ap (and_bytes c.args.self.now.given.state) (sym (take_all (length x) x (omega arith)));
      kept = tt;
    }

pub returns-in-Ok : goal.returns-in-Ok
returns-in-Ok g c =
    let x = take c.in-Ok.n c.args.bytes.now in
    record {
      bound = c.in-Ok.ensures.writes.within;
      progress = c.in-Ok.ensures.progress;
      taken = c.append.ensures
          ∙ ap (λ (l : Logged). and_bytes l x) (c.in_ok-settle.ensures.given ∙ c.if-holds.ensures.kept refl);
      kept = tt;
    }

pub returns-in-Err : goal.returns-in-Err
returns-in-Err g c = record {
  bound = tt;
  progress = tt;
  taken = tt;
  kept = c.in_ok-settle.ensures.given ∙ c.if-holds.ensures.kept refl;
}
