use Rattle.std.proofs.Common.{arith}
use Rattle.std.proofs.lemmas.Str.Pattern.{NoCharPasses-char}
use Rattle.sys_numbered_names.proofs.Numbering.{split_at}
use Rattle.mem_system.proofs.Paths.{name_alone, name_after}
use Rattle.mem_system.proofs.names.name_of.Goals as goal

pub returns-in-Some : goal.returns-in-Some
returns-in-Some c =
    let h = c.in-Some.ensures.cases in
    let s = split_at c.args.path.now c.in-Some.field-0-0.now c.in-Some.name.now h.0 h.1 h.2 h.3 h.4 h.6 h.7 in
    name_after c.args.path.now _ c.in-Some.name.now s.1 s.0

pub returns-in-None : goal.returns-in-None
returns-in-None c = name_alone c.args.path.now (λ i l.
    NoCharPasses-char 47 c.args.path.now i c.in-None.ensures.cases (omega arith) l)
