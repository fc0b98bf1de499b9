use Rattle.std.proofs.Common.{◌≤◌, ◌++◌, List, ℕ, length, take, refl, sym, ap, ◌∙◌, subst, arith, rules, append-nil}
use Rattle.std.proofs.Common.{length-append, length-take}
use Rattle.std.proofs.lemmas.List.{take-take, length-take-le}
use Rattle.abt_io.specs.Bytes.{AreBytes}
use Rattle.abt_io.specs.Frame.{Logged}
use Rattle.sys_file.proofs.Bytes.{bytes_of_append}
use Rattle.sys_devices.proofs.Places.{holds_on}
use Rattle.sys_devices.proofs.Taken.{took}
use Rattle.sys_devices.proofs.gathering.GatheringSpoolOutput.write.Goals as goal

pub invariant_of-self-in-Ok-clause-since : goal.invariant_of-self-in-Ok-clause-since
invariant_of-self-in-Ok-clause-since g c =
    let n = c.in-Ok.n in
    let bytes = c.args.bytes.now in
    let within : n ≤ length bytes = omega (arith, c.in-Ok.ensures.takes.within, length-take c.min-most.result bytes) in
    let long = length-take-le n bytes within in
    let s = c.args.self.now in
    let more = length-append s.log.state.bytes (take n bytes) in
    rw c.append.ensures (omega (arith, long, s.since, more, c.in-Ok.ensures.used))

pub invariant_of-self-in-Ok-clause-whole : goal.invariant_of-self-in-Ok-clause-whole
invariant_of-self-in-Ok-clause-whole g c =
    let n = c.in-Ok.n in
    let s = c.args.self.now in
    let b = s.behind in
    let d = c.take.new.self in
    let some : n ≤ c.min-most.result = omega (
      arith,
      c.in-Ok.ensures.takes.within,
      length-take c.min-most.result c.args.bytes.now,
    ) in
    let front = take-take n c.min-most.result c.args.bytes.now some in
    took b.sent.state.bytes b.held.items d.sent.state.bytes d.held.items (take n c.args.bytes.now) s.log.state
    c.append.new.self.state b.used s.whole
    (c.in-Ok.ensures.taken
    ∙ ap (λ (l : List ℕ). (b.sent.state.bytes ++ b.held.items) ++ l) front) c.append.ensures s.since

pub invariant_of-self-in-Ok-clause-told : goal.invariant_of-self-in-Ok-clause-told
invariant_of-self-in-Ok-clause-told g c =
    subst (λ (l : Logged). AreBytes l.bytes) (sym c.append.ensures)
    (bytes_of_append _ _ c.args.self.now.told c.are_bytes.ensures)

pub invariant_of-self-in-Ok-clause-holds : goal.invariant_of-self-in-Ok-clause-holds
invariant_of-self-in-Ok-clause-holds g c = λ models. holds_on _ _ _ c.in-Ok.ensures.grows (c.args.self.now.holds models)

pub invariant_of-self-in-Err-clause-whole : goal.invariant_of-self-in-Err-clause-whole
invariant_of-self-in-Err-clause-whole g c = c.in-Err.ensures.taken ∙ append-nil _ ∙ c.args.self.now.whole

pub invariant_of-self-in-Err-clause-holds : goal.invariant_of-self-in-Err-clause-holds
invariant_of-self-in-Err-clause-holds g c = λ models. holds_on _ _ _ c.in-Err.ensures.grows
    (c.args.self.now.holds models)

pub returns-then-is_empty : goal.returns-then-is_empty
returns-then-is_empty g c = record {
  wrote = record {
    within = omega arith;
    progress = search rules;
    written = sym (append-nil c.args.self.now.log.state.bytes);
    frame = refl;
    calls = c.add.ensures;
    faults = omega arith;
    cause = tt;
    clean = refl;
    full_faults = omega arith;
    full = search rules;
    still_full = search rules;
  };
}

pub returns-then-used-self : goal.returns-then-used-self
returns-then-used-self g c = record {
  wrote = record {
    within = omega arith;
    progress = tt;
    written = sym (append-nil c.args.self.now.log.state.bytes);
    frame = refl;
    calls = c.add.ensures;
    faults = omega arith;
    cause = omega arith;
    clean = tt;
    full_faults = c.add-then-used-self-2.ensures;
    full = search rules;
    still_full = search rules;
  };
}

pub returns-then-most-self : goal.returns-then-most-self
returns-then-most-self g c = record {
  wrote = record {
    within = omega arith;
    progress = tt;
    written = sym (append-nil c.args.self.now.log.state.bytes);
    frame = refl;
    calls = c.add.ensures;
    faults = omega arith;
    cause = omega arith;
    clean = tt;
    full_faults = omega arith;
    full = search rules;
    still_full = search rules;
  };
}

pub returns-in-Ok : goal.returns-in-Ok
returns-in-Ok g c =
    let most = length-take c.min-most.result c.args.bytes.now in
    let takes = c.in-Ok.ensures.takes in
    record {
      wrote = record {
        within = omega (arith, takes.within, most);
        progress = λ some. takes.progress (omega (arith, most, some));
        written = ap (λ (l : Logged). l.bytes) c.append.ensures;
        frame = search rules;
        calls = c.add.ensures;
        faults = omega arith;
        cause = tt;
        clean = refl;
        full_faults = omega arith;
        full = search rules;
        still_full = search rules;
      };
    }

pub returns-in-Err : goal.returns-in-Err
returns-in-Err g c = record {
  wrote = record {
    within = omega arith;
    progress = tt;
    written = sym (append-nil c.args.self.now.log.state.bytes);
    frame = refl;
    calls = c.add.ensures;
    faults = omega arith;
    cause = omega arith;
    clean = tt;
    full_faults = omega arith;
    full = search rules;
    still_full = search rules;
  };
}
