use Rattle.std.proofs.Common.{◌≡◌, ◌≢◌, ◌++◌, List, ℕ, length, rules, ap, ◌∙◌, sym}
use Rattle.cmd_common_texts.specs.Words.{text_of}
use Rattle.cmd_common_texts.proofs.TextsOver.{over_whole, over_part}
use Rattle.cmd_common_texts.proofs.word_lines.rest_of_text.Goals as goal

pub returns-then-front_text-front : goal.returns-then-front_text-front
returns-then-front_text-front c =
    let a = c.args.front.now in
    let whole : length (text_of a) ≡ length a = search rules in
    over_whole a c.args.back.now whole
    ∙ ap (λ (l : List ℕ). text_of a ++ l) (sym c.front_text-then-front_text-front.ensures)

pub returns-else-front_text-front : goal.returns-else-front_text-front
returns-else-front_text-front c =
    let a = c.args.front.now in
    let part : length (text_of a) ≢ length a = search rules in
    over_part a c.args.back.now part
