use Rattle.abt_sections.specs.Header.{view_of}
use Rattle.abt_sections.proofs.Canonical.{verdict_packed}
use Rattle.abt_sections.proofs.checking.check.Goals as goal

pub returns-clause-packed : goal.returns-clause-packed
returns-clause-packed g c = λ models opened.
    let x = g.S.Source.content c.args.source.now in
    verdict_packed x (view_of c.args.image.now.header) c.compare.result
    (g.met.S.Source.are_bytes c.args.source.now models) opened.has (c.compare.ensures.found.value models)
