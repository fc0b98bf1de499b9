use Rattle.std.proofs.Common.{◌≡◌, ℕ, ◌<◌, ◌^◌, ◌++◌, ◌∷◌, [], List, Option, Some, None, ap, sym, refl, ◌∙◌, subst}
use Rattle.std.proofs.lemmas.Bool.{false≢true}
use Rattle.sys_disk.specs.LeftOver.{IsNextLeft}
use Rattle.sys_report.specs.Shows.{Notes}
use Rattle.cmd_common_sparse.specs.Lines.{left_over_line, left_over_text}
use Rattle.sys_disk.specs.Counts.{no_counts}
use Rattle.cmd_cut.proofs.Counted.{counting_none}
use Rattle.cmd_cut.proofs.LeftOvers.{first_told, none_told}
use Rattle.cmd_cut.proofs.cut_loop.tell_all.Goals as goal

found_left : (at : ℕ → Option ℕ) (q : Option ℕ) (k behind : ℕ) → q ≡ Some k → IsNextLeft at behind q
    → ((n : ℕ) → behind < n → n < 2 ^ 32 → at n ≡ None) → ⊥
found_left at q k behind is left none =
    let found = subst (λ l. IsNextLeft at behind l) is left in found.1.1.0 (none k found.0 found.1.0)

-- it was noted, so one is left
pub returns-in-Ok-Some-clause-shown : goal.returns-in-Ok-Some-clause-shown
returns-in-Ok-Some-clause-shown g c = λ t. record {
  told = c.line.new.self;
  line = c.in-Ok.ensures.shown;
  noted = c.note_left_over.ensures.noted;
  alone = λ none. absurd (found_left _ _ c.in-Ok-Some.number _ c.in-Ok-Some.field-0-is (c.in-Ok-Some.ensures.left t)
      (λ n more small. ap (λ p. (g.D.Disk.world c.args.disk.now).at p) (c.front-front.ensures.path n)
      ∙ none n (subst (λ k. k < n) c.number.ensures more) small));
  named = λ one n first.
      let world = g.D.Disk.world c.args.disk.now in
      let k = c.in-Ok-Some.number in
      let same : k ≡ n = first_told _ _ _ k _ _ n c.in-Ok-Some.field-0-is c.number.ensures
      (λ m. ap (λ p. world.at p) (c.front-front.ensures.path m)) (c.in-Ok-Some.ensures.left t) first in
      subst (λ m. Notes c.line.new.self c.note_left_over.new.report
      (left_over_line c.args.files.names.prefix.now m)) same
      (subst (λ l. Notes c.line.new.self c.note_left_over.new.report (left_over_text l ++ (10 ∷ [])))
      (c.front-front.ensures.shown k) c.note_left_over.ensures.named);
}

-- none is left
pub returns-in-Ok-None-clause-shown : goal.returns-in-Ok-None-clause-shown
returns-in-Ok-None-clause-shown g c = λ t. record {
  told = c.line.new.self;
  line = c.in-Ok.ensures.shown;
  noted = (refl, refl);
  alone = λ none. ((refl, refl), refl);
  named = λ one n first. absurd (none_told _ _ _ _ _ n c.in-Ok-None.field-0-is c.number.ensures
      (λ m. ap (λ p. (g.D.Disk.world c.args.disk.now).at p) (c.front-front.ensures.path m))
      (c.in-Ok-None.ensures.left t) first);
}

-- pieces count from 0
pub returns-then-files-clause-shown : goal.returns-then-files-clause-shown
returns-then-files-clause-shown g c = λ t. record {
  told = c.line.new.self;
  line = c.in-Ok.ensures.shown;
  noted = (refl, refl);
  alone = λ none. ((refl, refl), refl);
  named = λ one n first. absurd (false≢true (sym one ∙ c.if-files.true));
}

-- nothing was counted

pub returns-in-Err-clause-keeps : goal.returns-in-Err-clause-keeps
returns-in-Err-clause-keeps g c = λ t. record {
  fails = record { failures = no_counts; same = sym (counting_none (g.D.Disk.held c.args.disk.now)) };
  world = refl;
}

pub returns-then-files-clause-keeps : goal.returns-then-files-clause-keeps
returns-then-files-clause-keeps g c = λ t. record {
  fails = record { failures = no_counts; same = sym (counting_none (g.D.Disk.held c.args.disk.now)) };
  world = refl;
}
