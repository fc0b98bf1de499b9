use Rattle.std.proofs.Common.{◌≡◌, ℕ, List, [], ◌++◌, sym, ap, ◌∙◌, append_assoc, append-nil, rules}
use Rattle.std.proofs.Output.{has_written_append, has_written_of_eq}
use Rattle.std.proofs.lemmas.Str.{IsUtf8-past_char}
use Rattle.sys_text.specs.Shown.{as_shown, shown_letter}
use Rattle.sys_text.proofs.Letters.{shown_empty, shown_step}
use Rattle.sys_text.proofs.shown_path.ShownPathDisplay.fmt.Goals as goal

pub loop-letter-preserved : goal.loop-letter-preserved
loop-letter-preserved g c =
    let held = c.loop-letter.invariant in
    let parts = c.in-Some.ensures.steps.0 in
    let letter = c.in-Some.letter in (
      IsUtf8-past_char _ _ letter held.0 parts,
      λ plain. let now = held.1 plain in (
        now.0 ++ shown_letter letter,
        has_written_append _ _ _ _ _ _ now.1 (search rules),
        append_assoc now.0 (shown_letter letter) _
            ∙ ap (λ l. now.0 ++ l) (sym (shown_step _ _ letter held.0 parts)) ∙ now.2,
      ),
    )

pub returns-clause-writes : goal.returns-clause-writes
returns-clause-writes g c = λ plain ok.
    let now = c.loop-letter.invariant.1 plain in
    let all = sym (append-nil now.0) ∙ ap (λ l. now.0 ++ l) (sym (shown_empty _ c.in-None.ensures.steps.0.0)) ∙ now.2 in
    has_written_of_eq _ _ _ _ _ all now.1
