use Rattle.std.proofs.Common.{rules, ◌∙◌}
use Rattle.std.specs.Prelude.{string_bytes}
use Rattle.mem_system.proofs.Paths.{next_of}
use Rattle.mem_system.proofs.names.MemoryNames.next_name.Goals as goal

pub returns-clause-next : goal.returns-clause-next
returns-clause-next c =
    next_of string_bytes c.args.self.now.names.items c.args.self.now.at c.index.result.now (string_bytes c.in-Ok.name)
    (search rules) (search rules) (c.in-Ok.ensures.ok ∙ c.as_str.ensures.value)
