use Rattle.std.proofs.Common.{refl, string_bytes, subst}
use Rattle.sys_disk.specs.World.{MayWrite}
use Rattle.sys_disk.proofs.Worlds.{spared_if_may}
use Rattle.mem_disk.specs.Memory.{held_of, world_of}
use Rattle.mem_disk.proofs.Files.{refuses_created, refuses_untouched}
use Rattle.mem_disk.proofs.disk.MemoryDisk.start.Goals as goal

pub returns-in-Some-clause-refused : goal.returns-in-Some-clause-refused
returns-in-Some-clause-refused c = refuses_untouched _ _ _ c.in-Err.ensures.refused

pub returns-clause-refused : goal.returns-clause-refused
returns-clause-refused c = refuses_created _ _ _ _ _ c.create.ensures.held c.create.ensures.same
    c.in-Ok-create.ensures.there c.in-Ok-create.ensures.spares c.in-Ok-create.ensures.free
    c.in-Err-fill.ensures.refused
    (subst (λ p. MayWrite p (held_of c.args.self.now)) c.as_str.ensures.value
    (c.may_write.ensures c.if-not-may_write.false))

pub returns-then-not-may_write-clause-refused : goal.returns-then-not-may_write-clause-refused
returns-then-not-may_write-clause-refused c = refuses_untouched _ _ _ (record { held = refl; world = refl })

pub returns-in-Err-create-clause-refused : goal.returns-in-Err-create-clause-refused
returns-in-Err-create-clause-refused c = record {
  guarded = spared_if_may (string_bytes c.args.path) (held_of c.args.self.now) (world_of c.args.self.now)
      (world_of c.create.new.self)
      (subst (λ p. MayWrite p (held_of c.args.self.now)) c.as_str.ensures.value
      (c.may_write.ensures c.if-not-may_write.false));
  kept = c.create.ensures.held;
  only = c.in-Err-create.ensures.only;
  same = c.create.ensures.same;
}
