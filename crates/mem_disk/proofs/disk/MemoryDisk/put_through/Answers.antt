use Rattle.std.proofs.Common.{◌<◌, length, ap, sym, ◌∙◌, subst}
use Rattle.mem_disk.proofs.Files.{ends_put, rest_put}
use Rattle.mem_disk.proofs.disk.MemoryDisk.put_through.Goals as goal

pub returns-clause-ended : goal.returns-clause-ended
returns-clause-ended c = λ _. ends_put _ _ _ _ _ (sym c.take.ensures.value ∙ c.in-Some.is)
    (subst (λ n. c.in-Some.file < n) (ap length c.as_slice.ensures.value) c.if-file-as_slice.false)

pub returns-clause-rest : goal.returns-clause-rest
returns-clause-rest c = rest_put _ _ _ _ _ (sym c.take.ensures.value ∙ c.in-Some.is)
