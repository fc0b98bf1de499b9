use Rattle.std.proofs.Common.{subst}
use Rattle.std.specs.List.{All}
use Rattle.cmd_common_fields.specs.declared.image_kind.ImageKind.{ImageKind}
use Rattle.cmd_common_boot.specs.Carried.{IsCarried}
use Rattle.cmd_common_boot.proofs.pack_command.judge_words.Goals as goal

pub returns-in-Ok-with_given-clause-carried : goal.returns-in-Ok-with_given-clause-carried
returns-in-Ok-with_given-clause-carried c =
    subst (λ (kind : ImageKind). All (IsCarried kind) c.args.command.now.texts.options.items) c.in-Ok.ensures.value
    c.in-Ok-check.ensures.carried
