use Rattle.std.proofs.Common.{◌≡◌, ◌≤◌, ◌+◌, ◌-◌, ◌++◌, List, ℕ, length, take, replicate, sym, ap, ◌∙◌, arith}
use Rattle.std.proofs.Common.{length-append, true≢false}
use Rattle.std.proofs.Math.ListN.{length-take}
use Rattle.std.proofs.lemmas.Bool.{false≢true}
use Rattle.std.proofs.lemmas.List.{length-replicate, take_all}
use Rattle.abt_io.specs.Frame.{Logged, and_bytes}
use Rattle.sys_file.proofs.Fronts.{front_stays, front_within}
use Rattle.sys_outputs.proofs.Holes.{grown, unless_err}
use Rattle.sys_outputs.proofs.hole_file.HoleFile.grows.Goals as goal

pub invariant_of-self : goal.invariant_of-self
invariant_of-self g c =
    let h = c.cut_off.new.self in
    let given = h.given.state.bytes in
    let end = h.used + c.args.n in
    let stands = g.F.SystemFile.stands h.file in
    let new = g.F.SystemFile.stands c.set_len.new.self in
    let sets = c.set_len.ensures.sets in
    record {
      place = h.place;
      reaches = λ models.
          let le = front_within (take end stands) new (sets.front models) in
          omega (arith, le, length-take end stands, h.reaches models);
      stands = λ models sound.
          front_stays given stands new end (h.stands models sound) (omega (arith, h.place)) (sets.front models);
      ends = λ models. omega (arith, sets.long models, h.ends models, c.max-self.ensures);
    }

pub invariant_of-self-2 : goal.invariant_of-self-2
invariant_of-self-2 g c =
    let h = c.cut_off.new.self in
    let n = c.args.n in
    let given = h.given.state.bytes in
    let stands = g.F.SystemFile.stands h.file in
    let new = g.F.SystemFile.stands c.set_len.new.self in
    let cut : h.stale ≤ h.used = unless_err c.cut_off.result (sym c.if-is_err.ensures.value) c.cut_off.ensures.cut in
    let logged : c.append_zeros.new.self.state.bytes ≡ given ++ replicate n 0
    = ap (λ (l : Logged). l.bytes) c.append_zeros.ensures in
    record {
      place =
          let both = length-append given (replicate n 0) in
          omega (arith, ap length logged, both, length-replicate {A = ℕ} n 0, h.place);
      reaches = λ models.
          let set = unless_err c.set_len.result (sym c.if-is_err-2.ensures.value) (c.set_len.ensures.sets.set models) in
          let both = length-append (take (h.used + n) stands) (replicate (h.used + n - length stands) 0) in
          omega (
            arith,
            ap length set,
            both,
            length-take (h.used + n) stands,
            length-replicate {A = ℕ} (h.used + n - length stands) 0,
          );
      stands = λ models sound.
          let set = unless_err c.set_len.result (sym c.if-is_err-2.ensures.value) (c.set_len.ensures.sets.set models) in
          let long : length stands ≡ h.used = omega (arith, h.reaches models, h.ends models, cut) in
          let all : new ≡ given ++ replicate n 0
          = grown given stands new h.used n (h.stands models sound) h.place long set in
          let same : c.append_zeros.new.self.state.bytes ≡ new = logged ∙ sym all in
          ap (λ (l : List ℕ). take (length l) new) same ∙ take_all (length new) new (omega arith) ∙ sym same;
      ends = λ models. omega (arith, c.set_len.ensures.sets.long models, h.ends models, cut);
    }

pub returns-then-is_err : goal.returns-then-is_err
returns-then-is_err g c = record {
  grown = λ yes. absurd (false≢true yes);
  kept = λ no. c.cut_off.ensures.keeps.given;
  used = λ no. c.cut_off.ensures.keeps.same_used;
  marred = c.cut_off.ensures.keeps.same_failed;
}

pub returns-then-is_err-2 : goal.returns-then-is_err-2
returns-then-is_err-2 g c = record {
  grown = λ yes. absurd (false≢true yes);
  kept = λ no. c.cut_off.ensures.keeps.given;
  used = λ no. c.cut_off.ensures.keeps.same_used;
  marred = c.cut_off.ensures.keeps.same_failed;
}

pub returns : goal.returns
returns g c = record {
  grown = λ yes.
      c.append_zeros.ensures ∙ ap (λ (l : Logged). and_bytes l (replicate c.args.n 0)) c.cut_off.ensures.keeps.given;
  kept = λ no. absurd (true≢false no);
  used = λ no. absurd (true≢false no);
  marred = c.cut_off.ensures.keeps.same_failed;
}
