use Rattle.std.proofs.Common.{refl, rules, subst, sym}
use Rattle.abt_sections.specs.Check.{IsVerdict}
use Rattle.abt_sections.specs.Header.{view_of}
use Rattle.cmd_info.proofs.Told.{as_told, cannot_behind, checked, flawed, info_told, informed, sound, text_alone}
use Rattle.cmd_info.proofs.Told.{text_checked}
use Rattle.cmd_info.proofs.telling.tell_image.Goals as goal

pub returns-in-Err-clause-refused : goal.returns-in-Err-clause-refused
returns-in-Err-clause-refused g c = λ t.
    info_told _ _ _ _ c.args.report.now (record c.args.report.now { out = c.report_info.new.out }) _ c.in-Err.fault
    c.refused.ensures.fault
    (informed c.in-Err.fault _ _ _ _ c.args.report.now
    (record c.args.report.now { out = c.report_info.new.out }) (c.in-Err.ensures.refused t)
    c.in-Err.ensures.leaves.failed)

pub returns-then-not-with_check-clause-done : goal.returns-then-not-with_check-clause-done
returns-then-not-with_check-clause-done g c = λ t.
    text_alone _ c.args.with_check _ c.args.report.now (record c.args.report.now { out = c.report_info.new.out })
    (search (rules, c.if-not-with_check.true)) refl
    (as_told _ _ _ _ _ c.notation_of.ensures (c.in-Ok.ensures.printed t))

pub returns-in-Ok-tell_check-clause-done : goal.returns-in-Ok-tell_check-clause-done
returns-in-Ok-tell_check-clause-done g c = λ t.
    let reported = c.in-Ok.ensures.reported t in
    let same = c.in-Ok.ensures.leaves.content t in
    text_checked _ c.args.with_check _ c.args.report.now (record c.args.report.now { out = c.report_info.new.out })
    c.tell_check.new.report (first_of (search (rules, c.if-not-with_check.false), cc)) refl
    (as_told _ _ _ _ _ c.notation_of.ensures (c.in-Ok.ensures.printed t))
    ((rw same at (c.in-Ok-tell_check.ensures.found t)) reported.0 reported.1)
    (sound _ _ _ (g.met.S.Source.are_bytes c.args.source.now t) reported.0.has reported.1
    c.in-Ok-tell_check.ensures.good)

pub returns-in-Err-tell_check-clause-refused : goal.returns-in-Err-tell_check-clause-refused
returns-in-Err-tell_check-clause-refused g c = λ t.
    let reported = c.in-Ok.ensures.reported t in
    let same = c.in-Ok.ensures.leaves.content t in
    checked _ _ c.args.with_check c.in-Ok.told.verdict _ _ _ c.args.report.now
    (record c.args.report.now { out = c.report_info.new.out }) c.tell_check.new.report _ _
    c.in-Err-tell_check.refusal.fault (first_of (search (rules, c.if-not-with_check.false), cc)) refl
    c.in-Ok.ensures.leaves.reads
    (as_told _ _ _ _ _ c.notation_of.ensures (c.in-Ok.ensures.printed t))
    (λ bad. flawed _ _ _ (g.met.S.Source.are_bytes c.args.source.now t) reported.0.has reported.1 bad)
    ((rw same at (c.in-Err-tell_check.ensures.found t)) reported.0 reported.1)
    (λ never. never t (subst (λ z. IsVerdict z (view_of c.in-Ok.told.image.header) c.in-Ok.told.verdict) (sym same)
    reported.1))
    (cannot_behind c.args.report.now (record c.args.report.now { out = c.report_info.new.out })
    c.tell_check.new.report c.in-Ok.ensures.leaves.clean refl refl)
    c.in-Err-tell_check.ensures.refused

-- the file that a refusal is told of

pub returns-in-Err-clause-told_of : goal.returns-in-Err-clause-told_of
returns-in-Err-clause-told_of g c = c.refused.ensures.told_of
