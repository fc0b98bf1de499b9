use Rattle.cmd_common_sparse.specs.Fault.{wrong_words}
use Rattle.cmd_sparse_dispatch.specs.Commands.{state}
use Rattle.abootimg.proofs.Refusals.{not_one, sparse_refused, sparse_statuses, zero_of}
use Rattle.abootimg.proofs.Statuses.{spares_as, told_done}
use Rattle.abootimg.proofs.sparse_task.do_sparse.Goals as goal

pub returns-clause-done : goal.returns-clause-done
returns-clause-done g c = λ t zero_is. zero_of c.sparse_command-outcome.result c.told_at_most.result _
    (λ e. 1) (λ e. not_one c.told_at_most.result)
    (sparse_statuses c.sparse_command-outcome.result c.told_at_most.result (λ e. wrong_words e.fault)
    c.told_at_most.ensures.refused) zero_is
    (told_done g.D.Disk.on_output c.sparse_command-outcome.result c.args.task
    (state (g.D.Disk.world c.args.disk.now) (g.D.Disk.held c.args.disk.now) c.args.report.now)
    (g.D.Disk.world c.sparse_command-outcome.new.disk) (g.D.Disk.held c.sparse_command-outcome.new.disk)
    c.sparse_command-outcome.new.report c.told_at_most.new.report (c.sparse_command-outcome.ensures.done t)
    c.told_at_most.ensures.quiet)

pub returns-clause-clean : goal.returns-clause-clean
returns-clause-clean g c = λ t zero_is. zero_of c.sparse_command-outcome.result c.told_at_most.result _
    (λ e. 1) (λ e. not_one c.told_at_most.result)
    (sparse_statuses c.sparse_command-outcome.result c.told_at_most.result (λ e. wrong_words e.fault)
    c.told_at_most.ensures.refused) zero_is (c.sparse_command-outcome.ensures.leaves t).clean

pub returns-clause-refused : goal.returns-clause-refused
returns-clause-refused g c = λ t not. sparse_refused (λ e. e.fault) c.sparse_command-outcome.result
    c.told_at_most.result c.args.task _ _ _ _ _ _ _ c.told_at_most.ensures.done
    (sparse_statuses c.sparse_command-outcome.result c.told_at_most.result (λ e. wrong_words e.fault)
    c.told_at_most.ensures.refused) (c.sparse_command-outcome.ensures.refused t) c.told_at_most.ensures.noted not

pub returns-clause-spares : goal.returns-clause-spares
returns-clause-spares g c = λ t. spares_as c.args.task
    (state (g.D.Disk.world c.args.disk.now) (g.D.Disk.held c.args.disk.now) c.args.report.now)
    (g.D.Disk.world c.sparse_command-outcome.new.disk) (g.D.Disk.held c.sparse_command-outcome.new.disk)
    c.sparse_command-outcome.new.report c.told_at_most.new.report (c.sparse_command-outcome.ensures.leaves t).spares
