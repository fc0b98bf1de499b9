use Rattle.std.proofs.Common.{arith, refl}
use Rattle.cmd_expand.proofs.CutNames.{no_name, not_behind, zero_behind}
use Rattle.cmd_expand.proofs.cut_of.piece_name.Goals as goal

pub returns-in_default-clause-none : goal.returns-in_default-clause-none
returns-in_default-clause-none c = λ is front number. no_name c.args.path.now front number c.in_default.ensures.cases

pub returns-else-number-gt0-clause-none : goal.returns-else-number-gt0-clause-none
returns-else-number-gt0-clause-none c = λ is front number.
    let cut = c.in-Some.ensures.cases in
    zero_behind c.args.path.now c.in-Some.front.now front cut.0 cut.1 number _ cut.2 cut.3
    c.in-Some-number_behind.ensures.some (λ more. let none = c.if-number-gt0.false in omega (arith, none, more))

pub returns-in-None-clause-none : goal.returns-in-None-clause-none
returns-in-None-clause-none c = λ is front number.
    let cut = c.in-Some.ensures.cases in
    not_behind c.args.path.now c.in-Some.front.now front cut.0 cut.1 number cut.2 cut.3
    (c.in-None.ensures.none refl)
