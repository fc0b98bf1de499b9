use Rattle.std.proofs.Common.{◌≡◌, ◌∙◌, ◌∷◌, ◌+◌, Some, map, sym, ap, refl}
use Rattle.std.specs.Prelude.{slice_get}
use Rattle.std.proofs.lemmas.List.{take_rest}
use Rattle.words_orders.specs.Asked.{command_in}
use Rattle.words_orders.specs.Table.{name_of}
use Rattle.words_orders.proofs.NoOrder.{named_is, none_named, none_some}
use Rattle.words_orders.proofs.Placing.{cut_before, cut_behind, cut_named}
use Rattle.words_orders.proofs.reading.split.Goals as goal

pub returns-in_err-word-clause-none : goal.returns-in_err-word-clause-none
returns-in_err-word-clause-none g c = λ _ work e.
    let text = g.S.AsStr.text in
    let own = c.in_ok-_program.own.now in
    let cut : command_in (map text c.args.words.now) ≡ slice_get (map text own) c.command_place-at.result =
    cut_named text c.args.words.now own c.in_ok-_program._program.now c.command_place-at.result
    (ap (map text) c.in_ok-_program.ensures.cases.0) c.command_place-at.ensures in
    none_some (name_of work) (c.in_err-word.ensures.word ∙ sym cut ∙ e)

pub returns-in_default-clause-none : goal.returns-in_default-clause-none
returns-in_default-clause-none g c = λ _ work e.
    let text = g.S.AsStr.text in
    let own = c.in_ok-_program.own.now in
    let cut : command_in (map text c.args.words.now) ≡ slice_get (map text own) c.command_place-at.result =
    cut_named text c.args.words.now own c.in_ok-_program._program.now c.command_place-at.result
    (ap (map text) c.in_ok-_program.ensures.cases.0) c.command_place-at.ensures in
    none_named c.in_ok-word.word.now work c.in_default.ensures.work (c.in_ok-word.ensures.word ∙ sym cut ∙ e)

pub returns-clause-some : goal.returns-clause-some
returns-clause-some g c =
    let text = g.S.AsStr.text in
    let all = c.args.words.now in
    let own = c.in_ok-_program.own.now in
    let program = c.in_ok-_program._program.now in
    let at = c.command_place-at.result in
    let word = c.in_ok-word.word.now in
    let is : map text all ≡ text program ∷ map text own = ap (map text) c.in_ok-_program.ensures.cases.0 in
    record {
      named = cut_named text all own program at is c.command_place-at.ensures ∙ sym c.in_ok-word.ensures.word
          ∙ ap (λ w. Some w) (sym c.in-Some.ensures.name);
      name_is = c.in-Some.ensures.name ∙ named_is word c.in-Some.command.now.work c.in-Some.ensures.work;
      front_is = cut_before text all own program at _ is c.command_place-at.ensures refl;
      behind_is = cut_behind text all own program at _ is c.command_place-at.ensures (take_rest own (at + 1));
    }
