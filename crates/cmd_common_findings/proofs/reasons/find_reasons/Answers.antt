use Rattle.std.proofs.Common.{◌≡◌, rules, option_map, ◌∙◌, sym}
use Rattle.std.proofs.lemmas.Bool.{true≢false}
use Rattle.cmd_common_findings.specs.declared.reasons.Reason.TheVariants.{Byte}
use Rattle.cmd_common_findings.proofs.Agreeing.{agrees}
use Rattle.cmd_common_findings.proofs.reasons.find_reasons.Goals as goal

pub returns-else-agree_with-clause-cause : goal.returns-else-agree_with-clause-cause
returns-else-agree_with-clause-cause g c = λ models right.
    let padded : c.map-padding.result ≡ option_map (λ n. Byte n) c.in-Ok.place = search rules in
    let agreed = agrees _ _ c.args.verdict _ c.in-Ok.place right c.canonical_reason.ensures padded
    (c.in-Ok.ensures.finds.value models) c.id_reason-id.ensures c.offset_reason-offset.ensures in
    true≢false (sym (c.agree_with.ensures.1 agreed) ∙ c.if-agree_with.false)
