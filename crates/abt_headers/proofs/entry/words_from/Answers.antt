use Rattle.std.proofs.Common.{◌≡◌, ℕ, ◌*◌, List, ap, arith, length, length-drop, drop, ◌∙◌}
use Rattle.std.proofs.lemmas.List.{take_all}
use Rattle.abt_headers.specs.Entry.{words_at}
use Rattle.abt_headers.specs.Field.{number_at}
use Rattle.abt_headers.proofs.EntryLaws.{words_read}
use Rattle.abt_headers.proofs.entry.words_from.Goals as goal

pub returns : goal.returns
returns c =
    let x = c.args.bytes.now in
    let ws = c.read_u32_into.new.dst in
    let sixteen : length ws ≡ 16 = omega arith in
    words_read ws 44 x (λ k lt. c.read_u32_into.ensures k lt
    ∙ ap (λ (l : List ℕ). number_at (4 * k) 4 l) (take_all 64 (drop 44 x) (omega (arith, length-drop 44 x))))
    ∙ ap (λ (n : ℕ). words_at 44 n x) sixteen
