use Rattle.abootimg.specs.OrderEnds.{status_of_boot}
use Rattle.abootimg.proofs.Refusals.{boot_not_zero, boot_refused, boot_same, boot_statuses, zero_of}
use Rattle.abootimg.proofs.Statuses.{both_told}
use Rattle.abootimg.proofs.boot_task.do_boot.Goals as goal

pub returns-clause-done : goal.returns-clause-done
returns-clause-done g c = λ t zero_is. zero_of c.boot_command-outcome.result c.told_at_most.result _
    (λ e. status_of_boot e.fault) (λ e. boot_not_zero e.fault c.told_at_most.result)
    (boot_statuses (λ e. e.fault) c.boot_command-outcome.result c.told_at_most.result c.highest_of-most.result
    c.highest_of-most.ensures c.told_at_most.ensures.refused) zero_is
    (both_told c.boot_command-outcome.result _ _ _
    (λ does behind. record { told = c.boot_command-outcome.new.report; does = does; behind = behind })
    (c.boot_command-outcome.ensures.done t) c.told_at_most.ensures.quiet)

pub returns-clause-clean : goal.returns-clause-clean
returns-clause-clean g c = λ t zero_is. zero_of c.boot_command-outcome.result c.told_at_most.result _
    (λ e. status_of_boot e.fault) (λ e. boot_not_zero e.fault c.told_at_most.result)
    (boot_statuses (λ e. e.fault) c.boot_command-outcome.result c.told_at_most.result c.highest_of-most.result
    c.highest_of-most.ensures c.told_at_most.ensures.refused) zero_is (c.boot_command-outcome.ensures.clean t)

pub returns-clause-refused : goal.returns-clause-refused
returns-clause-refused g c = λ t not. boot_refused (λ e. e.fault) c.boot_command-outcome.result c.told_at_most.result
    _ _ _ _ _ _ _ _ c.told_at_most.ensures.done
    (boot_statuses (λ e. e.fault) c.boot_command-outcome.result c.told_at_most.result c.highest_of-most.result
    c.highest_of-most.ensures c.told_at_most.ensures.refused) (c.boot_command-outcome.ensures.refused t)
    c.told_at_most.ensures.noted not

pub returns-clause-wrong : goal.returns-clause-wrong
returns-clause-wrong g c = λ t two. boot_same (λ e. e.fault) c.boot_command-outcome.result c.told_at_most.result
    _ _ _ _ _ _ _ (c.boot_command-outcome.ensures.spares t) c.told_at_most.ensures.done
    (boot_statuses (λ e. e.fault) c.boot_command-outcome.result c.told_at_most.result c.highest_of-most.result
    c.highest_of-most.ensures c.told_at_most.ensures.refused) (c.boot_command-outcome.ensures.refused t) two
