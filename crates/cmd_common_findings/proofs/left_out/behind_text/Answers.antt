use Rattle.std.proofs.Common.{arith}
use Rattle.cmd_common_findings.proofs.TextEnds.{counted_behind, counted_in_front}
use Rattle.cmd_common_findings.proofs.left_out.behind_text.Goals as goal

pub returns-then-end-front-clause-value : goal.returns-then-end-front-clause-value
returns-then-end-front-clause-value c =
    counted_in_front c.args.front.now c.args.back.now c.front_text-end.result.now _ _ c.front_text-end.ensures
    (omega (arith, c.if-end-front.true)) c.count_set.ensures.value c.count_set-then-end-front.ensures.value

pub returns-clause-value : goal.returns-clause-value
returns-clause-value c =
    counted_behind c.args.front.now c.args.back.now c.front_text-end.result.now c.front_text.result.now _
    c.front_text-end.ensures c.front_text.ensures
    (omega (arith, c.if-end-front.false)) c.count_set-2.ensures.value
