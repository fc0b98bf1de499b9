use Rattle.std.proofs.Common.{arith, None}
use Rattle.std.proofs.lemmas.Str.Pattern.{strip_prefix_char}
use Rattle.sys_numbered_names.proofs.Numbered.{behind_front, no_point}
use Rattle.sys_numbered_names.proofs.names.number_behind.Goals as goal

pub returns-in-None-clause-none : goal.returns-in-None-clause-none
returns-in-None-clause-none c = λ is n some small.
    let cut = c.in-Some.ensures.cases in
    no_point c.args.front.now c.args.path.now c.in-Some.rest.now n
    (behind_front c.args.front.now c.args.path.now c.in-Some.rest.now cut.0 cut.1.1 cut.2)
    (strip_prefix_char 46 c.in-Some.rest.now None c.in-None.ensures.cases (omega arith))
