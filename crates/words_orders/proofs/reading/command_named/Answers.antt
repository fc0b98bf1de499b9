use Rattle.std.proofs.Common.{◌≡◌, ◌∙◌, sym, ap}
use Rattle.std.specs.Prelude.{bytes_eq, true, false}
use Rattle.std.specs.List.{find}
use Rattle.words_orders.specs.Table.{name_of}
use Rattle.words_orders.proofs.Among.{all_alike}
use Rattle.words_sayings.proofs.Mapped.{found_later, found_now, found_nowhere}
use Rattle.words_orders.proofs.reading.command_named.Goals as goal

pub loop-command-init : goal.loop-command-init
loop-command-init c =
    ap (find (λ work. bytes_eq (name_of work) c.args.name.now)) c.commands-command-items.ensures.works

pub returns-then-eq-clause-work : goal.returns-then-eq-clause-work
returns-then-eq-clause-work c =
    let alike = all_alike (λ command. command.name.now) (λ command. name_of command.work)
    c.commands-command-items.result.now c.commands-command-items.ensures.names c.loop-command.command-index _
    c.loop-command-test.true in
    sym (found_now (λ command. command.work) (λ work. bytes_eq (name_of work) c.args.name.now)
    c.commands-command-items.result.now c.loop-command.command-index _ c.loop-command-test.true
    (ap (λ n. bytes_eq n c.args.name.now) (sym alike) ∙ sym c.eq.ensures ∙ c.if-eq.true)) ∙ c.loop-command.invariant

pub loop-command-preserved : goal.loop-command-preserved
loop-command-preserved c =
    let alike = all_alike (λ command. command.name.now) (λ command. name_of command.work)
    c.commands-command-items.result.now c.commands-command-items.ensures.names c.loop-command.command-index _
    c.loop-command-test.true in
    sym (found_later (λ command. command.work) (λ work. bytes_eq (name_of work) c.args.name.now)
    c.commands-command-items.result.now c.loop-command.command-index _ c.loop-command-test.true
    (ap (λ n. bytes_eq n c.args.name.now) (sym alike) ∙ sym c.eq.ensures ∙ c.if-eq.false)) ∙ c.loop-command.invariant

pub returns-clause-work : goal.returns-clause-work
returns-clause-work c =
    sym (found_nowhere (λ command. command.work) (λ work. bytes_eq (name_of work) c.args.name.now)
    c.commands-command-items.result.now c.loop-command.command-index c.loop-command-test.false)
    ∙ c.loop-command.invariant
