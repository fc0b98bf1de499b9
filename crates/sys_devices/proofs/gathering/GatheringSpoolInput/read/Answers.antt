use Rattle.std.proofs.Common.{◌≡◌, ◌≤◌, ◌+◌, ◌++◌, List, ℕ, length, take, drop, refl, sym, ap, ◌∙◌, arith}
use Rattle.std.proofs.Common.{length-append, length-drop}
use Rattle.std.proofs.lemmas.List.{drop_all, drop-drop, take-append-le}
use Rattle.sys_devices.specs.Writes.{since_cut}
use Rattle.sys_devices.proofs.gathering.GatheringSpoolInput.read.Goals as goal

pub invariant_of-self : goal.invariant_of-self
invariant_of-self g c =
    let s = c.args.self.now in
    let e = c.in-Ok.ensures in
    record {
      cut = s.cut;
      since = omega (arith, s.since, e.used);
      room = omega (arith, s.room, e.used);
      fits = omega (arith, s.fits, e.used);
      whole = e.whole ∙ s.whole;
      told = s.told;
      holds = e.holds;
    }

pub invariant_of-self-in-Err : goal.invariant_of-self-in-Err
invariant_of-self-in-Err g c =
    let s = c.args.self.now in
    let e = c.in-Err.ensures in
    record {
      cut = s.cut;
      since = omega (arith, s.since, e.used);
      room = omega (arith, s.room, e.used);
      fits = omega (arith, s.fits, e.used);
      whole = e.whole ∙ s.whole;
      told = s.told;
      holds = e.holds;
    }

pub returns-in-Ok : goal.returns-in-Ok
returns-in-Ok g c =
    let s = c.args.self.now in
    let b = s.behind in
    let n = c.in-Ok.n in
    let out = c.read_behind.new.out in
    let behind = drop c.min-ask.result c.args.out.now in
    let since = since_cut s.log.state in
    let reads = c.in-Ok.ensures.reads in
    let both = length-append out behind in
    let left = length-drop c.min-ask.result c.args.out.now in
    let content : length (b.sent.state.bytes ++ b.held.items) ≡ length since = ap length s.whole in
    let all : length since ≡ b.used = sym content ∙ length-append b.sent.state.bytes b.held.items ∙ b.place in
    record {
      passed = record {
        within = omega (arith, reads.within, both);
        present = λ models. omega (arith, reads.present models, content, length-drop s.seen since);
        rest = λ models.
            let next : c.saturating_add-self.result ≡ s.seen + n = omega (arith, reads.present models, content, all) in
            ap (λ (k : ℕ). drop k since) next ∙ sym (drop-drop n s.seen since);
        ended = λ models none some.
            let end : length since ≤ s.seen = grind (arith, reads.ended models none, content, all, both, left, some) in
            drop_all s.seen since end;
        frame = refl;
        calls = c.add.ensures;
        counted = c.add-in-Ok.ensures;
        faults = omega arith;
        cause = tt;
        clean = refl;
        failed = tt;
      };
      bytes = λ models.
          take-append-le n out behind reads.within ∙ reads.bytes models
          ∙ ap (λ (l : List ℕ). take n (drop s.seen l)) s.whole;
    }

pub returns-in-Err : goal.returns-in-Err
returns-in-Err g c = record {
  passed = record {
    within = omega arith;
    present = λ models. omega arith;
    rest = λ models. refl;
    ended = λ models. tt;
    frame = refl;
    calls = c.add.ensures;
    counted = omega arith;
    faults = omega arith;
    cause = omega arith;
    clean = tt;
    failed = refl;
  };
  bytes = λ models. refl;
}
