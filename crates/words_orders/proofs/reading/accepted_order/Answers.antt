use Rattle.words_orders.proofs.reading.accepted_order.Goals as goal

pub returns-in_ok-misread-in-Ok-None-clause-none : goal.returns-in_ok-misread-in-Ok-None-clause-none
returns-in_ok-misread-in-Ok-None-clause-none g c = rw c.in-Ok-None.field-0-is at c.in-Ok-None.ensures.none
