use Rattle.std.proofs.Common.{rules, arith, ◌≡◌, sym, ◌∙◌}
use Rattle.std.proofs.lemmas.Bool.{false_from_ne_true}
use Rattle.abt_sections.specs.Header.{places_of, view_of}
use Rattle.cmd_common_findings.specs.Places.{stands_at}
use Rattle.cmd_common_findings.proofs.FirstPlaces.{find_behind, find_here, find_nowhere, same_name, same_section}
use Rattle.cmd_common_findings.proofs.section_places.place_of.Goals as goal

pub returns-then-eq-clause-value : goal.returns-then-eq-clause-value
returns-then-eq-clause-value c =
    let h = view_of c.args.image.now.header in
    let is : c.section-place.result.kind ≡ c.args.kind = search rules in
    sym (c.loop-i.invariant ∙ find_here (stands_at c.args.kind) (places_of h) c.loop-i.i c.section-place.result
    (omega (arith, c.loop-i-test.true, c.sections-i-end.ensures.value)) c.section-place.ensures.value
    (same_name _ _ is))

pub loop-i-preserved : goal.loop-i-preserved
loop-i-preserved c =
    let h = view_of c.args.image.now.header in
    c.loop-i.invariant ∙ find_behind (stands_at c.args.kind) (places_of h) c.loop-i.i c.section-place.result
    (omega (arith, c.loop-i-test.true, c.sections-i-end.ensures.value)) c.section-place.ensures.value
    (false_from_ne_true _ (λ same.
    let is : c.section-place.result.kind ≡ c.args.kind = same_section _ _ same in
    search rules))

pub returns-clause-value : goal.returns-clause-value
returns-clause-value c =
    let h = view_of c.args.image.now.header in
    sym (c.loop-i.invariant ∙ find_nowhere (stands_at c.args.kind) (places_of h) c.loop-i.i
    (omega (arith, c.loop-i-test.false, c.sections-i-end.ensures.value)))
