use Rattle.std.proofs.Common.{sym, ◌∙◌}
use Rattle.mem_disk.proofs.Files.{ends_put, rest_put}
use Rattle.mem_disk.proofs.Images.{left_put}
use Rattle.mem_disk.proofs.disk.MemoryDisk.put.Goals as goal

pub returns-in-Some-clause-ended : goal.returns-in-Some-clause-ended
returns-in-Some-clause-ended c =
    let taken = sym c.take.ensures.value ∙ c.in-Some.is in
    ends_put _ _ _ _ _ taken (c.args.self.now.there c.in-Some.file taken)

pub returns-in-Some-clause-rest : goal.returns-in-Some-clause-rest
returns-in-Some-clause-rest c = rest_put _ _ _ _ _ (sym c.take.ensures.value ∙ c.in-Some.is)

pub returns-in-Some-clause-left : goal.returns-in-Some-clause-left
returns-in-Some-clause-left c =
    let taken = sym c.take.ensures.value ∙ c.in-Some.is in
    left_put _ _ _ _ _ taken (c.args.self.now.there c.in-Some.file taken)
