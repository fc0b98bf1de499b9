use Rattle.std.proofs.Common.{◌≡◌, ◌++◌, [], List, ℕ, length, take, refl, sym, ap, ◌∙◌, append-nil, arith, rules}
use Rattle.std.proofs.lemmas.Bool.{false≢true}
use Rattle.std.proofs.lemmas.List.{take_at}
use Rattle.abt_io.specs.Count.{count_of}
use Rattle.sys_file.proofs.Fronts.{begins_self, begins_then}
use Rattle.sys_devices.proofs.behind.Behind.take.Goals as goal
use Rattle.sys_devices.proofs.behind.Behind.take.Goals.{else-n-lt-LARGE-via-then-n-lt-LARGE+then-n-room+else-is_ok}
use Rattle.sys_devices.proofs.behind.Behind.take.Goals.{else-n-lt-LARGE-via-then-n-lt-LARGE+else-n-room}
use Rattle.sys_devices.proofs.behind.Behind.take.Goals.{else-n-lt-LARGE-via-else-n-lt-LARGE}

-- all was sent, and more behind it
sent_more : (s h t k x all : List ℕ) → h ≡ [] → t ≡ s ++ x → k ≡ h → s ++ h ≡ all → t ++ k ≡ all ++ x
sent_more s h t k x all none more same whole =
    ap (λ (l : List ℕ). t ++ l) (same ∙ none) ∙ append-nil t ∙ more
    ∙ ap (λ (l : List ℕ). l ++ x) (sym (append-nil s) ∙ ap (λ (l : List ℕ). s ++ l) (sym none) ∙ whole)

pub returns-then-self : goal.returns-then-self
returns-then-self g c =
    let s = c.args.self.now in
    record {
      takes = record { within = omega arith; progress = tt; failed = refl; still = λ lost. refl; found = tt };
      taken = sym (append-nil (s.sent.state.bytes ++ s.held.items));
      grows = begins_self s.sent.state.bytes;
      used = omega arith;
    }

pub returns-in-Err : goal.returns-in-Err
returns-in-Err g c =
    let s = c.args.self.now in
    let b = c.else-n-lt-LARGE.self in
    let f = c.in-Err.ensures.flushes in
    let same : (b.sent ≡ s.sent) × (b.held.items ≡ s.held.items) × (b.used ≡ s.used) = elim c.else-n-lt-LARGE.branch [
      | else-n-lt-LARGE-via-then-n-lt-LARGE+then-n-room+else-is_ok w ↦ rw w.self-is (refl, search rules, refl)
      | else-n-lt-LARGE-via-then-n-lt-LARGE+else-n-room w ↦ rw w.self-is (refl, refl, refl)
      | else-n-lt-LARGE-via-else-n-lt-LARGE w ↦ rw w.self-is (refl, refl, refl)
    ] in
    let sent : b.sent.state.bytes ≡ s.sent.state.bytes = ap (λ l. l.state.bytes) same.0 in
    record {
      takes = record { within = omega arith; progress = tt; failed = f.failed; still = λ lost. refl; found = tt };
      taken = f.whole ∙ ap (λ (l : List ℕ). l ++ b.held.items) sent
          ∙ ap (λ (l : List ℕ). s.sent.state.bytes ++ l) same.1
          ∙ sym (append-nil (s.sent.state.bytes ++ s.held.items));
      grows = ap (λ (l : List ℕ). take (length l) c.flush.new.self.sent.state.bytes) (sym sent) ∙ f.grows ∙ sent;
      used = omega (arith, f.same_used, same.2);
    }

pub returns : goal.returns
returns g c =
    let s = c.args.self.now in
    let b = c.else-n-lt-LARGE.self in
    let d = c.flush.new.self in
    let f = c.in-Ok.ensures.flushes in
    let e = c.send.ensures in
    let x = take (count_of c.send.result) c.args.bytes.now in
    let same : (b.sent ≡ s.sent) × (b.held.items ≡ s.held.items) × (b.used ≡ s.used) = elim c.else-n-lt-LARGE.branch [
      | else-n-lt-LARGE-via-then-n-lt-LARGE+then-n-room+else-is_ok w ↦ rw w.self-is (refl, search rules, refl)
      | else-n-lt-LARGE-via-then-n-lt-LARGE+else-n-room w ↦ rw w.self-is (refl, refl, refl)
      | else-n-lt-LARGE-via-else-n-lt-LARGE w ↦ rw w.self-is (refl, refl, refl)
    ] in
    let sent : b.sent.state.bytes ≡ s.sent.state.bytes = ap (λ l. l.state.bytes) same.0 in
    let all : d.sent.state.bytes ++ d.held.items ≡ s.sent.state.bytes ++ s.held.items
    = f.whole ∙ ap (λ (l : List ℕ). l ++ b.held.items) sent
    ∙ ap (λ (l : List ℕ). s.sent.state.bytes ++ l) same.1 in
    record {
      takes = record {
        within = e.takes.within;
        progress = e.takes.progress;
        failed = e.takes.failed;
        still = λ lost. absurd (false≢true (sym c.if-self.false ∙ lost));
        found = e.takes.found;
      };
      taken = sent_more d.sent.state.bytes d.held.items c.send.new.self.sent.state.bytes c.send.new.self.held.items x
          (s.sent.state.bytes ++ s.held.items) f.none e.more_sent e.same_held all;
      grows = begins_then s.sent.state.bytes d.sent.state.bytes c.send.new.self.sent.state.bytes
          (ap (λ (l : List ℕ). take (length l) d.sent.state.bytes) (sym sent) ∙ f.grows ∙ sent)
          (ap (take (length d.sent.state.bytes)) e.more_sent
          ∙ take_at d.sent.state.bytes x (length d.sent.state.bytes) refl);
      used = omega (arith, e.more_used, f.same_used, same.2);
    }
