use Rattle.words_orders.proofs.reading.fault_for.Goals as goal

pub returns-in-Ok-None : goal.returns-in-Ok-None
returns-in-Ok-None g c = λ _. (rw c.in-Ok-None.field-0-is at c.in-Ok-None.ensures.none) tt

pub returns-in-Err : goal.returns-in-Err
returns-in-Err g c = λ is. c.in-Err.ensures.none (c.told_by.ensures is)
