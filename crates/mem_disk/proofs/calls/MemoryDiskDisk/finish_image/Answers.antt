use Rattle.std.proofs.Common.{rules, sym, subst}
use Rattle.sys_disk.specs.Images.{Leaves}
use Rattle.mem_disk.proofs.calls.MemoryDiskDisk.finish_image.Goals as goal

pub returns-then-is_over-2-clause-left : goal.returns-then-is_over-2-clause-left
returns-then-is_over-2-clause-left c = λ _. subst (λ w. Leaves c.args.self.now.output c.args.image.bytes.items w)
    (sym c.refused.ensures.counts.world) (search rules)
