use Rattle.std.proofs.Common.{arith, sym, ◌∙◌}
use Rattle.abt_sections.proofs.Beyond.{found, passed, none_left}
use Rattle.abt_sections.proofs.open_image.first_beyond.Goals as goal

pub returns-then-ends_past : goal.returns-then-ends_past
returns-then-ends_past c =
    sym (sym c.loop-i.invariant ∙ found c.args.sections.now c.args.length c.loop-i.i c.place-place.result
    (omega arith) c.place-place.ensures (sym c.ends_past.ensures ∙ c.if-ends_past.true))

pub loop-i-preserved : goal.loop-i-preserved
loop-i-preserved c = passed c.args.sections.now c.args.length c.loop-i.i c.place-place.result
    (omega arith) c.place-place.ensures (sym c.ends_past.ensures ∙ c.if-ends_past.false) ∙ c.loop-i.invariant

pub returns : goal.returns
returns c = sym (sym c.loop-i.invariant ∙ none_left c.args.sections.now c.args.length c.loop-i.i (omega arith))
