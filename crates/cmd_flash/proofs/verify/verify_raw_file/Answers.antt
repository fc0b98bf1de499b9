use Rattle.cmd_flash.proofs.Refusals.{verify_raw_refusal}
use Rattle.cmd_flash.proofs.Written.{of_both, rose_two}
use Rattle.cmd_flash.proofs.verify.verify_raw_file.Goals as goal

pub returns-in-Err-clause-refused : goal.returns-in-Err-clause-refused
returns-in-Err-clause-refused g c = λ t.
    let r = c.in_ok-source.ensures.opened t in
    let o = c.in_ok-against.ensures.opened t in
    verify_raw_refusal _ _ c.in-Err.fault _ c.args.size _ _ _ _ _ _ _ c.refuse.ensures.fault
    (rose_two _ _ _ _ _ _ _ _ _ _ _ _ _ _ _ r.taken o.taken (c.unchanged_behind-end.ensures.held t)
    (c.let_go_source.ensures.held t)
    (c.let_go_source-2.ensures.held t) (c.in_ok-source.ensures.clean t) (c.in_ok-against.ensures.clean t))
    (λ P so. of_both _ _ _ _ _ _ _ _ _ P r (c.in_ok-source.ensures.world t) o so)
    (rw c.in-Err.is at c.compared_raw-answer.ensures.finds (g.met.D.Disk.source_told t) (g.met.D.Disk.source_told t))
