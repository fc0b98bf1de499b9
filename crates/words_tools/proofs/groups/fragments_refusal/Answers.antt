use Rattle.std.specs.Prelude.{option_map}
use Rattle.words_tools.specs.Fragments.{group_said, of_platform}
use Rattle.words_tools.proofs.Rejecting.{after_more, refused_at}
use Rattle.words_tools.proofs.groups.fragments_refusal.Goals as goal

pub loop-i-preserved : goal.loop-i-preserved
loop-i-preserved c =
    let group = group_said c.loop-i.group.0 (option_map (λ s. s.now) c.loop-i.group.1.0) in
    after_more group _ c.args.said.now c.loop-i.i _ c.loop-i-test.true c.loop-i.invariant c.behind-group.ensures

pub returns-then-is_some : goal.returns-then-is_some
returns-then-is_some c =
    let group = group_said c.loop-i.group.0 (option_map (λ s. s.now) c.loop-i.group.1.0) in
    refused_at c.end_refusal-refusal.result group c.args.said.now c.loop-i.i _
    (of_platform c.args.ramdisk) c.loop-i-test.true c.loop-i.invariant c.end_refusal-refusal.ensures.file
    c.end_refusal-refusal.ensures.group
