use Rattle.std.proofs.Common.{take, sym}
use Rattle.std.proofs.lemmas.List.{take_more, take_all}
use Rattle.std.proofs.lemmas.List.Elements.{All-push, All-same}
use Rattle.abt_sections.specs.Canonical.{FragmentFits}
use Rattle.law_sections.proofs.inputs.fragments_fit.Goals as goal

pub loop-fragment-preserved : goal.loop-fragment-preserved
loop-fragment-preserved c =
    let fs = c.args.fragments.now in
    let i = c.loop-fragment.fragment-index in
    All-same FragmentFits _ _ (take_more fs i _ c.loop-fragment-test.true)
    (All-push FragmentFits (take i fs) _ c.loop-fragment.invariant c.fragment_fits.ensures)

pub returns : goal.returns
returns c =
    let fs = c.args.fragments.now in
    let i = c.loop-fragment.fragment-index in
    All-same FragmentFits fs (take i fs) (sym (take_all i fs c.loop-fragment-test.false)) c.loop-fragment.invariant
