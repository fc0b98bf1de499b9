use Rattle.std.proofs.Common.{◌≡◌, ◌≤◌, ◌+◌, length, take, refl, sym, ap, subst, arith, rules}
use Rattle.std.proofs.lemmas.List.{length-take-le}
use Rattle.abt_io.proofs.Overs.{length_put, put_none}
use Rattle.abt_io.specs.Bytes.{AreBytes}
use Rattle.abt_io.specs.Frame.{Logged}
use Rattle.sys_file.proofs.Bytes.{bytes_of_put}
use Rattle.sys_devices.proofs.Taken.{laid_since}
use Rattle.sys_devices.proofs.gathering.GatheringSpoolOverwrite.write_over.Goals as goal

pub invariant_of-self-in-Ok-clause-since : goal.invariant_of-self-in-Ok-clause-since
invariant_of-self-in-Ok-clause-since g c =
    let s = c.args.self.now in
    let x = take c.in-Ok.n c.args.bytes.now in
    let long : length x ≡ c.in-Ok.n = length-take-le c.in-Ok.n c.args.bytes.now c.in-Ok.ensures.takes.within in
    let fits : c.args.at + length x ≤ length s.log.state.bytes = omega (
      arith,
      long,
      c.in-Ok.ensures.takes.within,
      c.requires.stands,
    ) in
    rw c.put.ensures (omega (arith, s.since, length_put s.log.state.bytes c.args.at x fits, c.in-Ok.ensures.used))

pub invariant_of-self-in-Ok-clause-whole : goal.invariant_of-self-in-Ok-clause-whole
invariant_of-self-in-Ok-clause-whole g c =
    let s = c.args.self.now in
    let b = s.behind in
    let d = c.put_over.new.self in
    let x = take c.in-Ok.n c.args.bytes.now in
    let long : length x ≡ c.in-Ok.n = length-take-le c.in-Ok.n c.args.bytes.now c.in-Ok.ensures.takes.within in
    let fits : c.args.at + length x ≤ length s.log.state.bytes = omega (
      arith,
      long,
      c.in-Ok.ensures.takes.within,
      c.requires.stands,
    ) in
    laid_since b.sent.state.bytes b.held.items d.sent.state.bytes d.held.items x s.log.state c.put.new.self.state
    s.cleared c.args.at
    s.whole c.in-Ok.ensures.laid c.put.ensures s.cut c.if-at-cleared.false fits

pub invariant_of-self-in-Ok-clause-told : goal.invariant_of-self-in-Ok-clause-told
invariant_of-self-in-Ok-clause-told g c =
    subst (λ (l : Logged). AreBytes l.bytes) (sym c.put.ensures)
    (bytes_of_put _ _ c.args.at c.args.self.now.told c.are_bytes.ensures)

pub invariant_of-self-in-Ok-clause-holds : goal.invariant_of-self-in-Ok-clause-holds
invariant_of-self-in-Ok-clause-holds g c = λ models. c.forget.ensures _

pub returns-then-at-cleared : goal.returns-then-at-cleared
returns-then-at-cleared g c = record {
  wrote = record {
    within = omega arith;
    progress = tt;
    written = sym (put_none c.args.self.now.log.state.bytes c.args.at);
    frame = refl;
    calls = c.add.ensures;
    faults = omega arith;
    cause = omega arith;
    clean = tt;
    full_faults = refl;
    failed = refl;
  };
}

pub returns-in-Ok : goal.returns-in-Ok
returns-in-Ok g c = record {
  wrote = record {
    within = c.in-Ok.ensures.takes.within;
    progress = c.in-Ok.ensures.takes.progress;
    written = ap (λ (l : Logged). l.bytes) c.put.ensures;
    frame = search rules;
    calls = c.add.ensures;
    faults = omega arith;
    cause = tt;
    clean = refl;
    full_faults = refl;
    failed = tt;
  };
}

pub returns-in-Err : goal.returns-in-Err
returns-in-Err g c = record {
  wrote = record {
    within = omega arith;
    progress = tt;
    written = sym (put_none c.args.self.now.log.state.bytes c.args.at);
    frame = refl;
    calls = c.add.ensures;
    faults = omega arith;
    cause = omega arith;
    clean = tt;
    full_faults = refl;
    failed = refl;
  };
}
