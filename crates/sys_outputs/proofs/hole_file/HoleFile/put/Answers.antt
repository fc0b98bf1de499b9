use Rattle.std.proofs.Common.{◌≡◌, ◌++◌, List, ℕ, length, take, refl, sym, ap, ◌∙◌, arith, length-append}
use Rattle.std.proofs.lemmas.List.{length-take-le, take_all}
use Rattle.abt_io.specs.Frame.{Logged, and_bytes}
use Rattle.sys_file.proofs.Fronts.{front_stays, long_put}
use Rattle.sys_outputs.proofs.Holes.{begins_put}
use Rattle.sys_outputs.proofs.hole_file.HoleFile.put.Goals as goal
use Rattle.sys_outputs.proofs.hole_file.HoleFile.put.Goals.{else-is_zero-via-then-is_zero+else-grows}
use Rattle.sys_outputs.proofs.hole_file.HoleFile.put.Goals.{else-is_zero-via-else-is_zero}

pub invariant_of-self : goal.invariant_of-self
invariant_of-self g c =
    let h = c.else-is_zero.self in
    let given = h.given.state.bytes in
    let stands = g.F.SystemFile.stands h.file in
    let new = g.F.SystemFile.stands c.write_at.new.file in
    let w = c.in-Ok.ensures.writes in
    let x = take c.in-Ok.n c.args.bytes.now in
    let long : length x ≡ c.in-Ok.n = length-take-le c.in-Ok.n c.args.bytes.now w.within in
    let logged : c.append.new.self.state.bytes ≡ given ++ x = ap (λ (l : Logged). l.bytes) c.append.ensures in
    record {
      place = omega (arith, ap length logged, length-append given x, long, h.place);
      reaches = λ models.
          omega (arith, ap length (w.written models), long_put stands x h.used (h.reaches models), long);
      stands = λ models sound.
          ap (λ (l : List ℕ). take (length l) new) logged
          ∙ begins_put given stands new x h.used (h.stands models sound) h.place (w.written models) ∙ sym logged;
      ends = λ models.
          omega (
            arith,
            ap length (w.written models),
            long_put stands x h.used (h.reaches models),
            long,
            h.ends models,
          );
    }

pub invariant_of-self-in-Err : goal.invariant_of-self-in-Err
invariant_of-self-in-Err g c =
    let h = c.else-is_zero.self in
    let given = h.given.state.bytes in
    let stands = g.F.SystemFile.stands h.file in
    let new = g.F.SystemFile.stands c.write_at.new.file in
    let w = c.in-Err.ensures.writes in
    record {
      place = h.place;
      reaches = λ models. omega (arith, (w.marred models).least, h.reaches models);
      stands = λ models sound.
          front_stays given stands new h.used (h.stands models sound) (omega (arith, h.place)) (w.marred models).before;
      ends = λ models. omega (arith, (w.marred models).long, h.ends models, c.max-self.ensures);
    }

pub returns-then-bytes-self : goal.returns-then-bytes-self
returns-then-bytes-self g c = record {
  puts = record { bound = tt; progress = tt; taken = tt; kept = refl };
  marred = refl;
}

pub returns-then-grows : goal.returns-then-grows
returns-then-grows g c =
    let x = c.args.bytes.now in
    let all : take (length x) x ≡ x = take_all (length x) x (omega arith) in
    record {
      puts = record {
        bound = omega arith;
        progress = λ some. some;
        taken = c.if-grows.ensures.grown refl
            ∙ ap (and_bytes c.args.self.now.given.state) (sym (all ∙ c.if-is_zero.ensures refl));
        kept = tt;
      };
      marred = c.if-grows.ensures.marred;
    }

pub returns-in-Ok : goal.returns-in-Ok
returns-in-Ok g c =
    let h = c.args.self.now.given.state in
    let x = take c.in-Ok.n c.args.bytes.now in
    let same : c.else-is_zero.self.given.state ≡ h = elim c.else-is_zero.branch [
      | else-is_zero-via-then-is_zero+else-grows w ↦ rw w.self-is (w.grows.ensures.kept w.if-grows.false)
      | else-is_zero-via-else-is_zero w ↦ rw w.self-is refl
    ] in
    record {
      puts = record {
        bound = c.in-Ok.ensures.writes.within;
        progress = c.in-Ok.ensures.progress;
        taken = c.append.ensures ∙ ap (λ (l : Logged). and_bytes l x) same;
        kept = tt;
      };
      marred = elim c.else-is_zero.branch [
        | else-is_zero-via-then-is_zero+else-grows w ↦ rw w.self-is w.grows.ensures.marred
        | else-is_zero-via-else-is_zero w ↦ rw w.self-is refl
      ];
    }

pub returns-in-Err : goal.returns-in-Err
returns-in-Err g c =
    let h = c.args.self.now.given.state in
    let same : c.else-is_zero.self.given.state ≡ h = elim c.else-is_zero.branch [
      | else-is_zero-via-then-is_zero+else-grows w ↦ rw w.self-is (w.grows.ensures.kept w.if-grows.false)
      | else-is_zero-via-else-is_zero w ↦ rw w.self-is refl
    ] in
    record {
      puts = record { bound = tt; progress = tt; taken = tt; kept = same };
      marred = elim c.else-is_zero.branch [
        | else-is_zero-via-then-is_zero+else-grows w ↦ rw w.self-is w.grows.ensures.marred
        | else-is_zero-via-else-is_zero w ↦ rw w.self-is refl
      ];
    }
