use Rattle.std.proofs.Common.{◌∙◌, ◌++◌, ap, inr, subst, sym}
use Rattle.std.specs.Prelude.{option_map}
use Rattle.words_tools.specs.Fragments.{fragments_said, no_group, of_platform}
use Rattle.words_tools.specs.Rejected.{RejectsName}
use Rattle.words_tools.proofs.Rejecting.{before_named, platform_named}
use Rattle.words_tools.proofs.groups.group_refusal.Goals as goal

pub returns-then-is_empty : goal.returns-then-is_empty
returns-then-is_empty c =
    inr (subst (RejectsName (of_platform c.args.ramdisk ++ fragments_said no_group c.args.before.now))
    (sym (ap (option_map (λ s. s.now)) c.in-Some-name.is))
    (platform_named c.args.ramdisk (fragments_said no_group c.args.before.now) c.in-Some-name.name.now
    c.is_some-2.result c.is_some-2.ensures c.if-is_some-2.true (sym c.is_empty.ensures ∙ c.if-is_empty.true)))

pub returns-then-is_named_in : goal.returns-then-is_named_in
returns-then-is_named_in c =
    inr (subst (RejectsName (of_platform c.args.ramdisk ++ fragments_said no_group c.args.before.now))
    (sym (ap (option_map (λ s. s.now)) c.in-Some-name.is))
    (before_named (of_platform c.args.ramdisk) (fragments_said no_group c.args.before.now) c.in-Some-name.name.now
    (c.is_named_in.ensures c.if-is_named_in.true)))
