use Rattle.std.proofs.Common.{map, refl}
use Rattle.words_tools.proofs.Calling.{not_behind}
use Rattle.words_tools.proofs.tools.called.Goals as goal

pub returns-in_err-own-clause-none : goal.returns-in_err-own-clause-none
returns-in_err-own-clause-none g c = λ none.
    not_behind (map g.S.AsStr.text c.args.words.now) (c.in_default.ensures.none refl) (c.in_err-own.ensures.none refl)
