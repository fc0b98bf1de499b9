use Rattle.std.proofs.Common.{◌≡◌, ◌<◌, length, subst, sym, ◌∙◌}
use Rattle.std.proofs.lemmas.Bool.{false≢true}
use Rattle.cmd_common_fields.specs.declared.board_word.BoardWord.{BoardWord}
use Rattle.cmd_common_boot.proofs.board_ids.set_by_word.Goals as goal

pub returns-in-Some-clause-set : goal.returns-in-Some-clause-set
returns-in-Some-clause-set c = λ is. record {
  board = c.in-Some.board;
  shape = c.in-Some.ensures.value.0;
  fits = c.in-Some.ensures.value.1;
  there = c.set_board_id.ensures.named.0 is;
  is = c.set_board_id.ensures.set;
}

pub returns-in-Some-clause-refused : goal.returns-in-Some-clause-refused
returns-in-Some-clause-refused c = λ fails b shape fits there.
    let other = c.in-Some.ensures.accepts b shape fits in
    let same : c.in-Some.board ≡ b = cc in
    false≢true (sym fails
    ∙ c.set_board_id.ensures.named.1 (subst (λ (x : BoardWord). x.fragment < length c.args.specs.now)
    (sym same) there))
