use Rattle.std.proofs.Common.{◌≡◌, ℕ, List, ◌++◌, length, drop, replicate, rules, ap, ◌∙◌}
use Rattle.std.proofs.lemmas.List.{drop-replicate}
use Rattle.cmd_common_fields.proofs.fragment_word.name_field.Goals as goal

pub returns-clause-value : goal.returns-clause-value
returns-clause-value c =
    let bytes = c.args.bytes.now in
    let same : c.copy_from_slice.new.self ≡ bytes = search rules in
    ap (λ (x : List ℕ). x ++ drop (length bytes) (replicate 32 0)) same
    ∙ ap (λ (z : List ℕ). bytes ++ z) (drop-replicate (length bytes) 32 0)
