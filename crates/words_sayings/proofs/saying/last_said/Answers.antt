use Rattle.std.proofs.Common.{◌∙◌, sym, ap, map}
use Rattle.std.specs.Prelude.{option_map}
use Rattle.words_sayings.specs.Words.{last_word, said_words, saying_of}
use Rattle.words_sayings.proofs.ReadSteps.{last_end, last_more, last_same, later_none, later_or}
use Rattle.words_sayings.proofs.saying.last_said.Goals as goal

pub loop-one-init : goal.loop-one-init
loop-one-init c = later_none (last_word (said_words c.args.name.now (map saying_of c.args.said.now)))

pub loop-one-preserved-then-not-is_of : goal.loop-one-preserved-then-not-is_of
loop-one-preserved-then-not-is_of c =
    ap (λ l. later_or (last_word l) (option_map (λ s. s.now) c.loop-one.last))
    (last_same c.args.name.now c.args.said.now c.loop-one.one-index _ c.loop-one-test.true
    (sym c.is_of.ensures ∙ c.if-not-is_of.true)) ∙ c.loop-one.invariant

pub loop-one-preserved : goal.loop-one-preserved
loop-one-preserved c =
    last_more c.args.name.now c.args.said.now c.loop-one.one-index _ (option_map (λ s. s.now) c.loop-one.last)
    c.loop-one-test.true (sym c.is_of.ensures ∙ c.if-not-is_of.false) ∙ c.loop-one.invariant

pub returns : goal.returns
returns c =
    sym (ap (λ l. later_or (last_word l) (option_map (λ s. s.now) c.loop-one.last))
    (last_end c.args.name.now c.args.said.now c.loop-one.one-index c.loop-one-test.false)) ∙ c.loop-one.invariant
