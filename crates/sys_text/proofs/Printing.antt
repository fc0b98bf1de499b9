-- Texts printed one behind another.
use Rattle.std.proofs.Common.{◌≡◌, ◌<◌, ◌-◌, ℕ, inl, inr, Result, Ok, Err, OnOk, List, [], ◌++◌, IsNone, IsSome}
use Rattle.std.proofs.Common.{is_some, length, take, drop, refl, sym, ap, ◌∙◌, arith, append_assoc, append-nil}
use Rattle.std.proofs.Common.{take-append-drop, true≢false, subst}
use Rattle.std.proofs.Math.Seq.{take-append_seam}
use Rattle.std.proofs.lemmas.Bool.{cases_Bool}
use Rattle.std.proofs.lemmas.List.{append_cancel_left, length-append}
use Rattle.sys_text.specs.Grown.{Begins}
use Rattle.sys_text.specs.declared.text_output.Text.{Text}
use Rattle.sys_text.specs.Shown.{text_in}
use Rattle.sys_text.specs.Printed.{Prints, PrintsFront, shown}

module _ {O : Type 0} (written : O → List ℕ) (faults : O → ℕ) where
  -- where the last write did not fail, no earlier one did
  pub whole_before : (s t : Text O) (a : List ℕ) → Prints written faults s t a → IsNone t.fault → IsNone s.fault
  whole_before s t a p none = elim (cases_Bool (is_some s.fault)) [
    | inl some ↦ absurd (true≢false (sym (p.stopped some).0 ∙ none))
    | inr none ↦ none
  ]

  -- one text behind another
  pub both_printed : (s t u : Text O) (a b : List ℕ) → Prints written faults s t a → Prints written faults t u b
      → Prints written faults s u (a ++ b)
  both_printed s t u a b p q = record {
    same_reference = q.same_reference ∙ p.same_reference;
    text = λ none.
        let before = whole_before t u b q none in
        q.text none ∙ ap (λ (l : List ℕ). l ++ b) (p.text before) ∙ append_assoc (shown written s) a b;
    begun = elim (cases_Bool (is_some t.fault)) [
      | inl some ↦ (
        p.begun.0 ++ b,
        sym (append_assoc (shown written s) a b) ∙ ap (λ (l : List ℕ). l ++ b) p.begun.1
            ∙ append_assoc (written t.output.now) p.begun.0 b
            ∙ ap (λ (l : List ℕ). l ++ (p.begun.0 ++ b)) (sym (q.stopped some).1),
      )
      | inr none ↦ (
        q.begun.0,
        sym (append_assoc (shown written s) a b) ∙ ap (λ (l : List ℕ). l ++ b) (sym (p.text none)) ∙ q.begun.1,
      )
    ];
    grown = (
      p.grown.0 ++ q.grown.0,
      q.grown.1 ∙ ap (λ (l : List ℕ). l ++ q.grown.0) p.grown.1
          ∙ append_assoc (written s.output.now) p.grown.0 q.grown.0,
    );
    stopped = λ some.
        let first = p.stopped some in
        let second = q.stopped first.0 in
        (second.0, second.1 ∙ first.1);
    cause = λ none some. elim (cases_Bool (is_some t.fault)) [
      | inl failed ↦ omega (arith, p.cause none failed, q.rises)
      | inr whole ↦ omega (arith, p.rises, q.cause whole some)
    ];
    clean = λ none. q.clean none ∙ p.clean (whole_before t u b q none);
    rises = omega (arith, p.rises, q.rises);
  }

  -- what waits is dropped, since an earlier write failed
  pub given_up : (s t : Text O) → IsSome s.fault → t.fault ≡ s.fault → t.output ≡ s.output
      → Prints written faults s t []
  given_up s t some fault output = record {
    same_reference = ap (λ o. o.ghost_name) output;
    text = λ none. absurd (true≢false (sym some ∙ ap is_some (sym fault) ∙ none));
    begun = (
      text_in s.held.bytes s.held.used,
      append-nil (shown written s)
          ∙ ap (λ o. written o.now ++ text_in s.held.bytes s.held.used) (sym output),
    );
    grown = ([], ap (λ o. written o.now) output ∙ sym (append-nil (written s.output.now)));
    stopped = λ failed. (ap is_some fault ∙ failed, ap (λ o. written o.now) output);
    cause = λ none. absurd (true≢false (sym some ∙ none));
    clean = λ none. ap (λ o. faults o.now) output;
    rises = let e : faults t.output.now ≡ faults s.output.now = ap (λ o. faults o.now) output in omega (arith, e);
  }

  -- a write fails
  pub sent_part : (s t : Text O) (n : ℕ) → IsNone s.fault → IsSome t.fault → t.output.ghost_name ≡ s.output.ghost_name
      → written t.output.now ≡ written s.output.now ++ take n (text_in s.held.bytes s.held.used)
      → faults s.output.now < faults t.output.now → Prints written faults s t []
  sent_part s t n none some name front risen =
      let all = text_in s.held.bytes s.held.used in
      record {
        same_reference = name;
        text = λ whole. absurd (true≢false (sym some ∙ whole));
        begun = (
          drop n all,
          append-nil (shown written s) ∙ ap (λ (l : List ℕ). written s.output.now ++ l) (sym (take-append-drop n all))
              ∙ sym (append_assoc (written s.output.now) (take n all) (drop n all))
              ∙ ap (λ (l : List ℕ). l ++ drop n all) (sym front),
        );
        grown = (take n all, front);
        stopped = λ failed. absurd (true≢false (sym failed ∙ none));
        cause = λ _ _. risen;
        clean = λ whole. absurd (true≢false (sym some ∙ whole));
        rises = omega (arith, risen);
      }

  -- bytes are held
  pub held_more : (s t : Text O) (a : List ℕ) → t.fault ≡ s.fault → t.output ≡ s.output
      → text_in t.held.bytes t.held.used ≡ text_in s.held.bytes s.held.used ++ a → Prints written faults s t a
  held_more s t a fault output held =
      let front = written s.output.now in
      let wait = text_in s.held.bytes s.held.used in
      record {
        same_reference = ap (λ o. o.ghost_name) output;
        text = λ none. ap (λ o. written o.now ++ text_in t.held.bytes t.held.used) output
            ∙ ap (λ (l : List ℕ). front ++ l) held ∙ sym (append_assoc front wait a);
        begun = (wait ++ a, append_assoc front wait a ∙ ap (λ o. written o.now ++ (wait ++ a)) (sym output));
        grown = ([], ap (λ o. written o.now) output ∙ sym (append-nil front));
        stopped = λ failed. (ap is_some fault ∙ failed, ap (λ o. written o.now) output);
        cause = λ none some. absurd (true≢false (sym some ∙ ap is_some fault ∙ none));
        clean = λ none. ap (λ o. faults o.now) output;
        rises = let e : faults t.output.now ≡ faults s.output.now = ap (λ o. faults o.now) output in omega (arith, e);
      }

  pub printed_as : (s t : Text O) (a b : List ℕ) → a ≡ b → Prints written faults s t a → Prints written faults s t b
  printed_as s t a b e p = subst (λ (l : List ℕ). Prints written faults s t l) e p

  -- nothing is printed
  pub printed_none : (s : Text O) → Prints written faults s s []
  printed_none s = record {
    same_reference = refl;
    text = λ none. sym (append-nil (shown written s));
    begun = (text_in s.held.bytes s.held.used, append-nil (shown written s));
    grown = ([], sym (append-nil (written s.output.now)));
    stopped = λ some. (some, refl);
    cause = λ none some. absurd (true≢false (sym some ∙ none));
    clean = λ none. refl;
    rises = omega arith;
  }

  -- once a write has failed, what would follow changes nothing
  pub printed_more : (s t : Text O) (a b : List ℕ) → IsSome t.fault → Prints written faults s t a
      → Prints written faults s t (a ++ b)
  printed_more s t a b some p = record {
    same_reference = p.same_reference;
    text = λ none. absurd (true≢false (sym some ∙ none));
    begun = (
      p.begun.0 ++ b,
      sym (append_assoc (shown written s) a b) ∙ ap (λ (l : List ℕ). l ++ b) p.begun.1
          ∙ append_assoc (written t.output.now) p.begun.0 b,
    );
    grown = p.grown;
    stopped = p.stopped;
    cause = p.cause;
    clean = p.clean;
    rises = p.rises;
  }

  -- what an output holds once a text has gone to it as far as that went
  pub text_begins : (s t : Text O) (old new a bs : List ℕ) (rest : List ℕ) → Prints written faults s t a
      → bs ≡ a ++ rest
      → text_in s.held.bytes s.held.used ≡ [] → written s.output.now ≡ old → written t.output.now ≡ new
      → Begins old new bs
  text_begins s t old new a bs rest p whole held from to =
      let more = p.grown.0 in
      let left = p.begun.0 in
      let grown : new ≡ old ++ more = sym to ∙ p.grown.1 ∙ ap (λ (l : List ℕ). l ++ more) from in
      let start : shown written s ≡ old = ap (λ (l : List ℕ). written s.output.now ++ l) held
      ∙ append-nil (written s.output.now) ∙ from in
      let both : old ++ a ≡ old ++ (more ++ left) =
      ap (λ (l : List ℕ). l ++ a) (sym start) ∙ p.begun.1 ∙ ap (λ (l : List ℕ). l ++ left) (to ∙ grown)
      ∙ append_assoc old more left in
      let parts : bs ≡ more ++ (left ++ rest) =
      whole ∙ ap (λ (l : List ℕ). l ++ rest) (append_cancel_left old a (more ++ left) both)
      ∙ append_assoc more left rest in
      let long : length new - length old ≡ length more = omega (arith, ap length grown, length-append old more) in
      grown ∙ ap (λ (l : List ℕ). old ++ l) (sym (ap (take (length new - length old)) parts
      ∙ ap (λ (n : ℕ). take n (more ++ (left ++ rest))) long
      ∙ take-append_seam more (left ++ rest)))

  -- a beginning, and then the end of what waits
  pub front_begins : (s t u : Text O) (old new bs : List ℕ) → PrintsFront written faults s t bs
      → Prints written faults t u []
      → text_in s.held.bytes s.held.used ≡ [] → written s.output.now ≡ old → written u.output.now ≡ new
      → Begins old new bs
  front_begins s t u old new bs p q held from to =
      text_begins s u old new (p.done ++ []) bs p.rest (both_printed s t u p.done [] p.prints q)
      (p.whole ∙ ap (λ (l : List ℕ). l ++ p.rest) (sym (append-nil p.done))) held from to

  -- all of it went there, where no write failed
  pub text_whole : {A E : Type 0} (r : Result A E) (s t : Text O) (old new bs : List ℕ) → Prints written faults s t bs
      → OnOk r (IsNone t.fault)
      → text_in t.held.bytes t.held.used ≡ [] → text_in s.held.bytes s.held.used ≡ [] → written s.output.now ≡ old
      → written t.output.now ≡ new
      → OnOk r (new ≡ old ++ bs)
  text_whole (Ok x) s t old new bs p none sent held from to =
      let start : shown written s ≡ old = ap (λ (l : List ℕ). written s.output.now ++ l) held
      ∙ append-nil (written s.output.now) ∙ from in
      let end : shown written t ≡ new = ap (λ (l : List ℕ). written t.output.now ++ l) sent
      ∙ append-nil (written t.output.now) ∙ to in
      sym end ∙ p.text none ∙ ap (λ (l : List ℕ). l ++ bs) start
  text_whole (Err e) s t old new bs p none sent held from to = tt

  -- a beginning of the second text, behind the first
  pub front_behind : (s t u : Text O) (a b : List ℕ) → Prints written faults s t a → PrintsFront written faults t u b
      → PrintsFront written faults s u (a ++ b)
  front_behind s t u a b p q = record {
    done = a ++ q.done;
    rest = q.rest;
    whole = ap (λ (l : List ℕ). a ++ l) q.whole ∙ sym (append_assoc a q.done q.rest);
    prints = both_printed s t u a q.done p q.prints;
  }

  -- a beginning of the first text
  pub front_before : (s t : Text O) (a b : List ℕ) → PrintsFront written faults s t a
      → PrintsFront written faults s t (a ++ b)
  front_before s t a b p = record {
    done = p.done;
    rest = p.rest ++ b;
    whole = ap (λ (l : List ℕ). l ++ b) p.whole ∙ append_assoc p.done p.rest b;
    prints = p.prints;
  }

  pub front_exactly : (s t : Text O) (a : List ℕ) → Prints written faults s t a → PrintsFront written faults s t a
  front_exactly s t a p = record {
    done = a;
    rest = [];
    whole = sym (append-nil a);
    prints = p;
  }

  pub front_whole : (s t : Text O) (a b : List ℕ) → Prints written faults s t a
      → PrintsFront written faults s t (a ++ b)
  front_whole s t a b p = record {
    done = a;
    rest = b;
    whole = refl;
    prints = p;
  }

infixr 5 ◌▸◌
pub ◌▸◌ : {O : Type 0} {written : O → List ℕ} {faults : O → ℕ} {s t u : Text O} {a b : List ℕ}
    → Prints written faults s t a → Prints written faults t u b → Prints written faults s u (a ++ b)
p ▸ q = both_printed _ _ _ _ _ _ _ p q

pub as_text : {O : Type 0} {written : O → List ℕ} {faults : O → ℕ} {s t : Text O} {a b : List ℕ} → a ≡ b
    → Prints written faults s t a → Prints written faults s t b
as_text e p = printed_as _ _ _ _ _ _ e p
