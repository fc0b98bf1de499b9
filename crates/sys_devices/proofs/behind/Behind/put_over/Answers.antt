use Rattle.std.proofs.Common.{◌≡◌, ◌≤◌, ◌+◌, ◌++◌, [], List, ℕ, length, take, ap, sym, refl, ◌∙◌}
use Rattle.std.proofs.Common.{append-nil, arith, true≢false}
use Rattle.std.proofs.lemmas.List.{length-take-le, take_all}
use Rattle.std.proofs.lemmas.Bool.{false≢true}
use Rattle.abt_io.proofs.Overs.{length_put, put_none}
use Rattle.abt_io.specs.Frame.{Logged}
use Rattle.abt_io.specs.Moment.{put_at}
use Rattle.sys_file.proofs.Fronts.{front_over, front_within, long_put}
use Rattle.sys_devices.proofs.behind.Behind.put_over.Goals as goal

-- all that was taken is in the file, and is written over there
laid_all : (s h t s0 h0 x : List ℕ) (at : ℕ) → h ≡ [] → t ≡ put_at s at x → s ++ h ≡ s0 ++ h0
    → t ++ h ≡ put_at (s0 ++ h0) at x
laid_all s h t s0 h0 x at none laid whole =
    ap (λ (l : List ℕ). t ++ l) none ∙ append-nil t ∙ laid
    ∙ ap (λ (l : List ℕ). put_at l at x) (sym (append-nil s) ∙ ap (λ (l : List ℕ). s ++ l) (sym none) ∙ whole)

-- the buffer was left as it was, and then written
passed : (sent h sent0 h0 now : List ℕ) → now ≡ sent ++ h → sent ≡ sent0 → h ≡ h0 → now ≡ sent0 ++ h0
passed sent h sent0 h0 now e same_sent same_held =
    e ∙ ap (λ (l : List ℕ). l ++ h) same_sent ∙ ap (λ (l : List ℕ). sent0 ++ l) same_held

pub invariant_of-self : goal.invariant_of-self
invariant_of-self g c =
    let m = c.make_way.new.self in
    let sent = m.sent.state.bytes in
    let w = c.in-Ok-write_at.ensures.writes in
    let n = c.in-Ok-write_at.n in
    let x = take n c.args.bytes.now in
    let long : length x ≡ n = length-take-le n c.args.bytes.now w.within in
    let none : m.held.items ≡ [] = c.in-Ok.ensures.flushes.none in
    let used : m.used ≡ c.args.self.now.used = c.in-Ok.ensures.flushes.same_used ∙ c.if-lays.ensures.rest.same_used in
    let place : length sent + length m.held.items ≡ m.used = m.place in
    let fits : c.args.at + length x ≤ length sent = omega (
      arith,
      long,
      w.within,
      used,
      place,
      ap length none,
      c.requires,
    ) in
    let logged : c.put.new.self.state.bytes ≡ put_at sent c.args.at x = ap (λ (l : Logged). l.bytes) c.put.ensures in
    let same : length c.put.new.self.state.bytes ≡ length sent = ap length logged ∙ length_put sent c.args.at x fits in
    let found = c.in-Ok.ensures.flushes.found in
    record {
      place = omega (arith, same, place);
      stands = λ models sound. ap (λ (l : List ℕ). take (length l) (g.F.SystemFile.stands c.write_at.new.file)) logged
          ∙ front_over sent _ _ x c.args.at (m.stands models sound) (w.written models) fits ∙ sym logged;
      ends = λ models.
          let in_file = front_within sent _ (m.stands models found) in
          let e = long_put (g.F.SystemFile.stands m.file) x c.args.at (omega (arith, fits, in_file)) in
          omega (arith, ap length (w.written models), e, same, fits, in_file, m.ends models);
      emptied = λ models empty. absurd (false≢true (sym found ∙ m.gone empty));
      gone = λ empty. absurd (false≢true (sym found ∙ m.gone empty));
    }

pub invariant_of-self-in-Err-write_at : goal.invariant_of-self-in-Err-write_at
invariant_of-self-in-Err-write_at g c =
    let m = c.make_way.new.self in
    let w = c.in-Err-write_at.ensures.writes in
    let none : m.held.items ≡ [] = c.in-Ok.ensures.flushes.none in
    let used : m.used ≡ c.args.self.now.used = c.in-Ok.ensures.flushes.same_used ∙ c.if-lays.ensures.rest.same_used in
    let place : length m.sent.state.bytes + length m.held.items ≡ m.used = m.place in
    record {
      place = place;
      stands = λ models sound. absurd (true≢false sound);
      ends = λ models.
          omega (arith, (w.marred models).long, m.ends models, used, place, ap length none, c.requires);
      emptied = λ models empty. absurd (false≢true (sym c.in-Ok.ensures.flushes.found ∙ m.gone empty));
      gone = λ empty. refl;
    }

pub returns-then-self : goal.returns-then-self
returns-then-self g c = record {
  takes = record { within = omega arith; progress = tt; failed = refl; still = λ lost. refl; found = tt };
  laid = sym (put_none (c.args.self.now.sent.state.bytes ++ c.args.self.now.held.items) c.args.at);
  cut = λ first. tt;
  used = refl;
}

pub returns-then-lays : goal.returns-then-lays
returns-then-lays g c =
    let s = c.args.self.now in
    let x = c.args.bytes.now in
    let l = c.if-lays.ensures in
    record {
      takes = record {
        within = omega arith;
        progress = λ some. omega arith;
        failed = tt;
        still = λ lost. absurd (false≢true (sym c.if-self.false ∙ lost));
        found = l.rest.same_lost ∙ c.if-self.false;
      };
      laid = l.laid refl
          ∙ ap (put_at (s.sent.state.bytes ++ s.held.items) c.args.at) (sym (take_all (length x) x (omega arith)));
      cut = λ first. absurd (omega (arith, first, l.behind refl));
      used = l.rest.same_used;
    }

pub returns-in-Err : goal.returns-in-Err
returns-in-Err g c =
    let s = c.args.self.now in
    let l = c.lays.new.self in
    let m = c.make_way.new.self in
    let rest = c.if-lays.ensures.rest in
    let w = c.in-Err.ensures.flushes in
    record {
      takes = record { within = omega arith; progress = tt; failed = w.failed; still = λ lost. refl; found = tt };
      laid = passed l.sent.state.bytes l.held.items s.sent.state.bytes s.held.items
          (m.sent.state.bytes ++ m.held.items) w.whole
          (ap (λ (g : Logged). g.bytes) rest.same_sent) (rest.kept refl)
          ∙ sym (put_none (s.sent.state.bytes ++ s.held.items) c.args.at);
      cut = λ first. tt;
      used = w.same_used ∙ rest.same_used;
    }

pub returns-in-Ok-write_at : goal.returns-in-Ok-write_at
returns-in-Ok-write_at g c =
    let s = c.args.self.now in
    let l = c.lays.new.self in
    let m = c.make_way.new.self in
    let rest = c.if-lays.ensures.rest in
    let f = c.in-Ok.ensures.flushes in
    let w = c.in-Ok-write_at.ensures in
    record {
      takes = record {
        within = w.writes.within;
        progress = w.progress;
        failed = tt;
        still = λ lost. absurd (false≢true (sym c.if-self.false ∙ lost));
        found = f.found;
      };
      laid = laid_all m.sent.state.bytes m.held.items c.put.new.self.state.bytes s.sent.state.bytes s.held.items
          (take c.in-Ok-write_at.n c.args.bytes.now) c.args.at f.none (ap (λ (g : Logged). g.bytes) c.put.ensures)
          (passed l.sent.state.bytes l.held.items s.sent.state.bytes s.held.items
          (m.sent.state.bytes ++ m.held.items) f.whole
          (ap (λ (g : Logged). g.bytes) rest.same_sent) (rest.kept refl));
      cut = c.in-Ok.ensures.cut;
      used = f.same_used ∙ rest.same_used;
    }

pub returns-in-Err-write_at : goal.returns-in-Err-write_at
returns-in-Err-write_at g c =
    let s = c.args.self.now in
    let l = c.lays.new.self in
    let m = c.make_way.new.self in
    let rest = c.if-lays.ensures.rest in
    let f = c.in-Ok.ensures.flushes in
    record {
      takes = record { within = omega arith; progress = tt; failed = refl; still = λ lost. refl; found = tt };
      laid = passed l.sent.state.bytes l.held.items s.sent.state.bytes s.held.items
          (m.sent.state.bytes ++ m.held.items) f.whole
          (ap (λ (g : Logged). g.bytes) rest.same_sent) (rest.kept refl)
          ∙ sym (put_none (s.sent.state.bytes ++ s.held.items) c.args.at);
      cut = λ first. tt;
      used = f.same_used ∙ rest.same_used;
    }
