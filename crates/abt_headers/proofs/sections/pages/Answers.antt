use Rattle.std.proofs.Common.{◌≡◌, ◌∙◌}
use Rattle.abt_headers.specs.Page as of_page
use Rattle.abt_headers.proofs.Places.{ceil_pages, enough_pages, least_pages}
use Rattle.abt_headers.proofs.sections.pages.Goals as goal

pub returns-clause-value : goal.returns-clause-value
returns-clause-value c = c.div_ceil.ensures ∙ ceil_pages c.args.size c.args.page c.requires

pub returns-clause-enough : goal.returns-clause-enough
returns-clause-enough c =
    let q : c.div_ceil.result ≡ of_page.pages c.args.size c.args.page = c.div_ceil.ensures
    ∙ ceil_pages c.args.size c.args.page c.requires in
    rw q (enough_pages c.args.size c.args.page c.requires)

pub returns-clause-least : goal.returns-clause-least
returns-clause-least c =
    let q : c.div_ceil.result ≡ of_page.pages c.args.size c.args.page = c.div_ceil.ensures
    ∙ ceil_pages c.args.size c.args.page c.requires in
    rw q (least_pages c.args.size c.args.page c.requires)
