use Rattle.std.proofs.Common.{refl}
use Rattle.mem_disk.proofs.Files.{leads_created, only_path, spares_created}
use Rattle.mem_disk.proofs.disk.MemoryDisk.create.Goals as goal

pub returns-in_default-push-clause-only : goal.returns-in_default-push-clause-only
returns-in_default-push-clause-only c = only_path _ _ _ _ _ _ _ c.in-Ok.ensures.items c.in_default-push.ensures.items
    c.requires refl (c.is_taken.ensures.read c.if-is_taken.false)

pub returns-clause-there : goal.returns-clause-there
returns-clause-there c = leads_created _ _ _ _ c.in-Ok.ensures.items c.requires refl

pub returns-clause-spares : goal.returns-clause-spares
returns-clause-spares c = spares_created _ _ _ _ _ _ _ c.in-Ok.ensures.items c.in-Ok-push.ensures.items
    c.new.ensures.items
