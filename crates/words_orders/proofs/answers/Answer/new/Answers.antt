use Rattle.std.proofs.Common.{rules, ◌<◌, ◌^◌, refl}
use Rattle.std.specs.Prelude.{IfSome}
use Rattle.words_orders.proofs.Told.{none_is_some, some_number}
use Rattle.words_orders.proofs.answers.Answer.new.Goals as goal

pub returns-in_ok-from_str-in-None-2-clause-refused :
    goal.returns-in_ok-from_str-in-None-2-clause-refused
returns-in_ok-from_str-in-None-2-clause-refused c =
    let fits : IfSome c.number_word.result (λ n. n < 2 ^ 64) = search rules in (
      record {
        same = c.in_ok-from_str-in-None-2.ensures.ok;
        unread = λ n r. none_is_some n (c.in-None-2.ensures.accepts n r);
        number = some_number c.number_word.result c.is_some.result c.args.word.now c.is_some.ensures
            c.number_word.ensures.value fits c.number_word.ensures.accepts;
      },
      refl,
    )
