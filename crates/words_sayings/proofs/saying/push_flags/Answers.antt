use Rattle.std.proofs.Common.{◌∙◌, map}
use Rattle.words_sayings.specs.Steps.{table_of}
use Rattle.words_sayings.specs.Rows.{shape_of}
use Rattle.words_sayings.specs.Words.{flags_said, saying_of}
use Rattle.words_sayings.proofs.InTurn.{flag_last, flag_turn, flag_turn_none, flags_all, flags_none}
use Rattle.words_sayings.proofs.ReadSteps.{added_one}
use Rattle.words_sayings.proofs.saying.push_flags.Goals as goal

pub loop-letter-preserved : goal.loop-letter-preserved
loop-letter-preserved c =
    flag_turn (table_of c.args.rows.now) c.args.letters.now c.loop-letter.letter-index _ c.loop-letter-test.true
    (shape_of c.in-Some.row.now) (map saying_of c.loop-letter.said.items) (map saying_of c.push.new.self.items)
    c.in-Some.ensures (added_one saying_of c.loop-letter.said.items c.push.new.self.items _ c.in_ok-push.ensures.items)
    ∙ c.loop-letter.invariant

pub returns-in_default : goal.returns-in_default
returns-in_default c =
    flags_none (flags_said (table_of c.args.rows.now) c.args.letters.now) (map saying_of c.args.said.now.items)
    (map saying_of c.loop-letter.said.items)
    (flag_turn_none (table_of c.args.rows.now) c.args.letters.now c.loop-letter.letter-index _ c.loop-letter-test.true
    (map saying_of c.loop-letter.said.items) c.in_default.ensures ∙ c.loop-letter.invariant)

pub returns : goal.returns
returns c =
    flags_all (flags_said (table_of c.args.rows.now) c.args.letters.now) (map saying_of c.args.said.now.items)
    (map saying_of c.loop-letter.said.items)
    (flag_last (table_of c.args.rows.now) c.args.letters.now c.loop-letter.letter-index
    (map saying_of c.loop-letter.said.items) c.loop-letter-test.false ∙ c.loop-letter.invariant)
