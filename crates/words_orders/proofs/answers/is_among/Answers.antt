use Rattle.std.proofs.Common.{◌∙◌, sym}
use Rattle.std.specs.Prelude.{bytes_eq}
use Rattle.words_sayings.proofs.Mapped.{any_later, any_now, any_nowhere}
use Rattle.words_orders.proofs.answers.is_among.Goals as goal

pub returns-then-eq : goal.returns-then-eq
returns-then-eq c =
    sym (any_now (λ s. s.now) (bytes_eq c.args.word.now) c.args.names.now c.loop-name.name-index _
    c.loop-name-test.true (sym c.eq.ensures ∙ c.if-eq.true)) ∙ c.loop-name.invariant

pub loop-name-preserved : goal.loop-name-preserved
loop-name-preserved c =
    sym (any_later (λ s. s.now) (bytes_eq c.args.word.now) c.args.names.now c.loop-name.name-index _
    c.loop-name-test.true (sym c.eq.ensures ∙ c.if-eq.false)) ∙ c.loop-name.invariant

pub returns : goal.returns
returns c =
    sym (any_nowhere (λ s. s.now) (bytes_eq c.args.word.now) c.args.names.now c.loop-name.name-index
    c.loop-name-test.false) ∙ c.loop-name.invariant
