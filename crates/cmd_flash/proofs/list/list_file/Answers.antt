use Rattle.cmd_flash.proofs.Refusals.{list_refusal}
use Rattle.cmd_flash.proofs.Written.{of_file, rose_one}
use Rattle.cmd_flash.proofs.list.list_file.Goals as goal

pub returns-in-Err-clause-refused : goal.returns-in-Err-clause-refused
returns-in-Err-clause-refused g c = λ t.
    let r = c.in_ok-from.ensures.opened t in
    list_refusal _ c.in-Err.fault _ _ _ _ _ _ _ c.refuse.ensures.fault
    (rose_one _ _ _ _ _ _ _ r.taken (c.let_go.ensures.held t) (c.in_ok-from.ensures.clean t))
    (λ P so. of_file _ _ _ _ _ P r so)
    (rw c.in-Err.is at c.listed-answer.ensures.refused (g.met.D.Disk.told t))
