use Rattle.std.proofs.Common.{◌∙◌, ap, map}
use Rattle.words_sayings.specs.Steps.{before_of, table_of}
use Rattle.words_sayings.specs.Words.{says, says_last, saying_of}
use Rattle.words_sayings.proofs.InTurn.{before_all, before_none, last_none, last_some, turn, turn_last, turn_none}
use Rattle.words_sayings.proofs.saying.said_by.Goals as goal

pub loop-word-init : goal.loop-word-init
loop-word-init g c =
    ap (λ l. before_all (map saying_of l) (says c.args.is_short (table_of c.args.rows.now)
    (map g.S.AsStr.text c.args.words.now))) c.new-said.ensures.items
    ∙ before_none (says c.args.is_short (table_of c.args.rows.now) (map g.S.AsStr.text c.args.words.now))

pub loop-word-preserved : goal.loop-word-preserved
loop-word-preserved g c =
    turn g.S.AsStr.text c.args.is_short (table_of c.args.rows.now) c.args.words.now c.loop-word.word-index
    (before_of c.loop-word.state) c.word-item.result c.as_str.result.now c.in-Some.next
    (map saying_of c.loop-word.said.items)
    (map saying_of c.push_next.new.said.items) c.loop-word-test.true
    (c.as_str.ensures ∙ ap g.S.AsStr.text c.word-item.is)
    (rw c.in-Some.is at c.in_ok-next.ensures) ∙ c.loop-word.invariant

pub returns-in-None : goal.returns-in-None
returns-in-None g c =
    turn_none g.S.AsStr.text c.args.is_short (table_of c.args.rows.now) c.args.words.now c.loop-word.word-index
    (before_of c.loop-word.state) c.word-item.result c.as_str.result.now (map saying_of c.loop-word.said.items)
    (map saying_of c.push_next.new.said.items) c.loop-word-test.true
    (c.as_str.ensures ∙ ap g.S.AsStr.text c.word-item.is)
    (rw c.in-None.is at c.in_ok-next.ensures) ∙ c.loop-word.invariant

pub returns-then-is_awaiting : goal.returns-then-is_awaiting
returns-then-is_awaiting g c =
    last_none (map saying_of c.loop-word.said.items) c.is_awaiting.result (says_last (before_of c.loop-word.state))
    c.is_awaiting.ensures c.if-is_awaiting.true
    ∙ turn_last g.S.AsStr.text c.args.is_short (table_of c.args.rows.now) c.args.words.now c.loop-word.word-index
    (before_of c.loop-word.state) (map saying_of c.loop-word.said.items) c.loop-word-test.false
    ∙ c.loop-word.invariant

pub returns : goal.returns
returns g c =
    last_some (map saying_of c.loop-word.said.items) c.is_awaiting.result (says_last (before_of c.loop-word.state))
    c.is_awaiting.ensures c.if-is_awaiting.false
    ∙ turn_last g.S.AsStr.text c.args.is_short (table_of c.args.rows.now) c.args.words.now c.loop-word.word-index
    (before_of c.loop-word.state) (map saying_of c.loop-word.said.items) c.loop-word-test.false
    ∙ c.loop-word.invariant
