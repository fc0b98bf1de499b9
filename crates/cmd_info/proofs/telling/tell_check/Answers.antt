use Rattle.std.proofs.Common.{◌∙◌, ap, sym}
use Rattle.cmd_info.proofs.Told.{reasons_told}
use Rattle.sys_refusals.proofs.Blames.{words≢input}
use Rattle.cmd_common_boot.specs.Fault.{boot_side_of}
use Rattle.cmd_common_boot.proofs.Sides.{reads_host}
use Rattle.cmd_info.proofs.telling.tell_check.Goals as goal

pub returns-in-Err-clause-refused : goal.returns-in-Err-clause-refused
returns-in-Err-clause-refused g c =
    reasons_told c.in-Err.fault c.args.told.now.verdict _ _ _ _ _ c.refused.ensures.fault c.in-Err.ensures.cause

-- the file that a refusal is told of

pub returns-in-Err-clause-told_of : goal.returns-in-Err-clause-told_of
returns-in-Err-clause-told_of g c = c.refused.ensures.told_of

pub returns-in-Err-tell_reasons-clause-told_of : goal.returns-in-Err-tell_reasons-clause-told_of
returns-in-Err-tell_reasons-clause-told_of g c =
    reads_host _ c.in-Err-tell_reasons.refusal.fault _ _ c.into.ensures

pub returns-else-is_good-clause-told_of : goal.returns-else-is_good-clause-told_of
returns-else-is_good-clause-told_of g c = record {
  read = λ on. absurd (words≢input (sym (ap boot_side_of c.refuse.ensures.fault) ∙ on));
  words = λ on. c.refuse.ensures.place;
}
