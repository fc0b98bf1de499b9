use Rattle.std.proofs.Common.{◌∙◌, ap}
use Rattle.mem_system.specs.Names.{names_of}
use Rattle.mem_system.proofs.Paths.{lists_all}
use Rattle.mem_system.proofs.system.MemorySystemSystem.names.Goals as goal

pub returns-in-Some-clause-lists : goal.returns-in-Some-clause-lists
returns-in-Some-clause-lists c = λ _. lists_all c.args.self.now.table.paths.items c.args._folder.now _
    (c.in-Some.ensures ∙ ap names_of c.as_slice.ensures.value)
