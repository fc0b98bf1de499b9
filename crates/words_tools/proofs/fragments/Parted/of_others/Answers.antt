use Rattle.std.proofs.Common.{◌∙◌, ◌++◌, ◌∷◌, [], sym, ap}
use Rattle.words_tools.proofs.Parting.{words_all, words_more}
use Rattle.words_tools.proofs.fragments.Parted.of_others.Goals as goal

pub loop-word-preserved : goal.loop-word-preserved
loop-word-preserved g c =
    let i = c.loop-word.invariant in
    record {
      said = c.in_ok-leave.ensures.said ∙ i.said;
      others = c.in_ok-leave.ensures.others ∙ ap (λ l. l ++ (c.as_str.result.now ∷ [])) i.others
          ∙ sym (words_more g.S.AsStr.text c.args.words.now c.loop-word.word-index c.word-item.result
          c.as_str.result.now c.loop-word-test.true c.word-item.is c.as_str.ensures);
    }

pub returns-clause-said : goal.returns-clause-said
returns-clause-said g c = c.loop-word.invariant.said

pub returns-clause-others : goal.returns-clause-others
returns-clause-others g c = c.loop-word.invariant.others
    ∙ words_all g.S.AsStr.text c.args.words.now c.loop-word.word-index c.loop-word-test.false
