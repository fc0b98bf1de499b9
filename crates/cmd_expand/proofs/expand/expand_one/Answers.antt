use Rattle.std.proofs.Common.{rules, ap, refl, true, Ok, subst, ◌∙◌}
use Rattle.sys_disk.proofs.Worlds.{only_written}
use Rattle.sys_report.proofs.Beside.{beside}
use Rattle.cmd_common_sparse.specs.declared.fault.SparseCommandFault.TheVariants as faults
use Rattle.cmd_expand.specs.Expanding.{ExpandingSays}
use Rattle.sys_disk.specs.Counts.{added, reads, writes}
use Rattle.cmd_expand.proofs.Files.{clean_behind, ends_behind, expands, failed_behind, failed_first, failed_second}
use Rattle.cmd_expand.proofs.Files.{handed_on, leaves_expanded, of_failed, of_unprinted, refuses, rest_behind}
use Rattle.cmd_expand.proofs.Files.{spared_created, synced_once}
use Rattle.cmd_expand.proofs.expand.expand_one.Goals as goal

pub returns-in_err-from-clause-refused : goal.returns-in_err-from-clause-refused
returns-in_err-from-clause-refused g c = λ t.
    handed_on c.from_residual.result _ _
    (λ r made. of_failed _ _ _ _ _ _ _ r.fault (_, made, failed_first _ _ _ (c.in_err-from.ensures.kept t)))
    c.from_residual.ensures.1

pub returns-in_err-onto-clause-leaves : goal.returns-in_err-onto-clause-leaves
returns-in_err-onto-clause-leaves g c = λ t.
    leaves_expanded _ _ _ _ _ _ _ _ _ _ (c.in_ok-from.ensures.opened t) (c.in_ok-from.ensures.world t)
    (c.in_err-onto.ensures.only t) (c.in_err-onto.ensures.guarded t)
    (search rules) (search rules)

pub returns-in_err-onto-clause-refused : goal.returns-in_err-onto-clause-refused
returns-in_err-onto-clause-refused g c = λ t.
    handed_on c.from_residual-in_err-onto.result _ _
    (λ r made. of_failed _ _ _ _ _ _ _ r.fault (
      _,
      made,
      failed_second _ _ _ _ _ _ _ (c.in_ok-from.ensures.opened t) (c.in_err-onto.ensures.kept t),
    ))
    c.from_residual-in_err-onto.ensures.1

pub returns-in-Err-clause-leaves : goal.returns-in-Err-clause-leaves
returns-in-Err-clause-leaves g c = λ t.
    leaves_expanded _ _ _ _ _ _ _ _ _ _ (c.in_ok-from.ensures.opened t) (c.in_ok-from.ensures.world t)
    (only_written _ _ _ _ _ _ (c.in_ok-onto.ensures.created t)
    (rest_behind _ _ _ _ _ _ (c.let_go.ensures.held t) (c.let_go.ensures.world t) (c.ended.ensures.rest t)))
    (spared_created _ _ _ _ _ _ _ (c.in_ok-onto.ensures.created t))
    (search rules) tt

pub returns-in-Err-printed-clause-leaves : goal.returns-in-Err-printed-clause-leaves
returns-in-Err-printed-clause-leaves g c = λ t.
    leaves_expanded _ _ _ _ _ _ _ _ _ _ (c.in_ok-from.ensures.opened t) (c.in_ok-from.ensures.world t)
    (only_written _ _ _ _ _ _ (c.in_ok-onto.ensures.created t)
    (rest_behind _ _ _ _ _ _ (c.let_go.ensures.held t) (c.let_go.ensures.world t) (c.ended.ensures.rest t)))
    (spared_created _ _ _ _ _ _ _ (c.in_ok-onto.ensures.created t))
    (search rules) tt

pub returns-in-Ok-printed-clause-leaves : goal.returns-in-Ok-printed-clause-leaves
returns-in-Ok-printed-clause-leaves g c = λ t.
    leaves_expanded _ _ _ _ _ _ _ _ _ _ (c.in_ok-from.ensures.opened t) (c.in_ok-from.ensures.world t)
    (only_written _ _ _ _ _ _ (c.in_ok-onto.ensures.created t)
    (rest_behind _ _ _ _ _ _ (c.let_go.ensures.held t) (c.let_go.ensures.world t) (c.ended.ensures.rest t)))
    (spared_created _ _ _ _ _ _ _ (c.in_ok-onto.ensures.created t))
    (search rules) (clean_behind c.expanded-answer.result c.in-Ok.end.0 (g.D.Disk.held c.args.disk.now)
    (g.D.Disk.held c.ended.new.disk) _
    (g.D.From.Input.read_faults c.expanded-answer.new.from.device) _
    (g.D.Onto.Output.write_faults c.expanded-answer.new.onto) (c.in-Ok.ensures.closed t).more c.in-Ok.ensures.done
    c.expanded-answer.ensures.blames (c.in_ok-from.ensures.clean t) (c.in_ok-onto.ensures.clean t)
    ((c.in-Ok.ensures.closed t).clean refl)
    (failed_behind _ _ _ _ _ _ _ _ _ _ _ (reads (g.D.From.Input.given c.expanded-answer.new.from.device)
    (g.D.From.Input.read_faults c.expanded-answer.new.from.device))
    (added (c.in-Ok.ensures.closed t).more (writes (g.D.Onto.Output.write_faults c.expanded-answer.new.onto))) true
    (c.in_ok-from.ensures.opened t) (c.in_ok-onto.ensures.created t) (c.let_go.ensures.held t)
    (c.in-Ok.ensures.closed t).closed))

pub returns-in-Err-clause-refused : goal.returns-in-Err-clause-refused
returns-in-Err-clause-refused g c = λ t.
    refuses _ _ _ _ _ _ _ _ _ _ _ _ _ _ _ _ c.expanded-answer.result c.in-Err.refusal.fault _
    (g.D.From.Input.given c.expanded-answer.new.from.device) _
    (g.D.From.Input.read_faults c.expanded-answer.new.from.device) _
    (g.D.Onto.Output.write_faults c.expanded-answer.new.onto) (c.in_ok-from.ensures.opened t)
    (c.in_ok-from.ensures.unread t) (c.in_ok-from.ensures.clean t) (c.in_ok-onto.ensures.created t)
    (c.let_go.ensures.held t) (c.let_go.ensures.world t) (c.in-Err.ensures.closed t) (c.in-Err.ensures.rest t)
    (c.expanded-answer.ensures.says (g.met.D.Disk.told t)) c.expanded-answer.ensures.blames c.in_ok-onto.ensures.empty
    (c.expanded-answer.ensures.begun (g.met.D.Disk.told t))
    (λ ok. let told = c.in-Err.ensures.host ok in (told.0, told.1, told.2 t)) c.in-Err.ensures.told

pub returns-in-Err-printed-clause-refused : goal.returns-in-Err-printed-clause-refused
returns-in-Err-printed-clause-refused g c = λ t.
    let says : ExpandingSays (Ok c.in-Ok.end.0) (g.D.From.Input.remaining c.in_ok-from.from)
    (g.D.Onto.Output.written c.in_ok-onto.onto) (g.D.Onto.Output.written c.expanded-answer.new.onto)
    = subst (λ a. ExpandingSays a (g.D.From.Input.remaining c.in_ok-from.from)
    (g.D.Onto.Output.written c.in_ok-onto.onto)
    (g.D.Onto.Output.written c.expanded-answer.new.onto)) c.in-Ok.ensures.done
    (c.expanded-answer.ensures.says (g.met.D.Disk.told t)) in
    of_unprinted _ _ _ _ _ _ _ c.into.result.fault
    (c.into.ensures ∙ ap faults.Host c.in-Err-printed.ensures.fault)
    (expands _ _ _ _ _ _ _ _ _ _ _ _ _ c.in-Ok.end.0 _ (c.in_ok-from.ensures.opened t)
    (c.in_ok-from.ensures.world t) (c.in_ok-onto.ensures.created t)
    (ends_behind _ _ _ _ _ _ _ (c.let_go.ensures.held t) (c.let_go.ensures.world t) (c.in-Ok.ensures.ended t))
    c.in_ok-onto.ensures.empty says.1 c.in-Err-printed.ensures.refused)

pub returns-in-Ok-printed-clause-synced : goal.returns-in-Ok-printed-clause-synced
returns-in-Ok-printed-clause-synced g c = λ t.
    synced_once _ _ _ _ _ _ _ _ _ _ _ _ _ (c.in_ok-from.ensures.opened t) (c.in_ok-onto.ensures.created t)
    (c.let_go.ensures.held t) (c.in-Ok.ensures.closed t).closed

pub returns-in-Ok-printed-clause-done : goal.returns-in-Ok-printed-clause-done
returns-in-Ok-printed-clause-done g c = λ t.
    let says : ExpandingSays (Ok c.in-Ok.end.0) (g.D.From.Input.remaining c.in_ok-from.from)
    (g.D.Onto.Output.written c.in_ok-onto.onto) (g.D.Onto.Output.written c.expanded-answer.new.onto)
    = subst (λ a. ExpandingSays a (g.D.From.Input.remaining c.in_ok-from.from)
    (g.D.Onto.Output.written c.in_ok-onto.onto)
    (g.D.Onto.Output.written c.expanded-answer.new.onto)) c.in-Ok.ensures.done
    (c.expanded-answer.ensures.says (g.met.D.Disk.told t)) in
    expands _ _ _ _ _ _ _ _ _ _ _ _ _ c.in-Ok.end.0 _ (c.in_ok-from.ensures.opened t)
    (c.in_ok-from.ensures.world t) (c.in_ok-onto.ensures.created t)
    (ends_behind _ _ _ _ _ _ _ (c.let_go.ensures.held t) (c.let_go.ensures.world t) (c.in-Ok.ensures.ended t))
    c.in_ok-onto.ensures.empty says.1
    (beside c.args.report.now c.printed.new.report _ _ _ (c.in-Ok.ensures.stream t) c.in-Ok-printed.ensures.shown)
