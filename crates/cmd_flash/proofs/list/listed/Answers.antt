use Rattle.cmd_flash.proofs.Listings.{listed_whole, read_clean, unlisted}
use Rattle.cmd_flash.proofs.list.listed.Goals as goal

pub returns-clause-listed : goal.returns-clause-listed
returns-clause-listed g c = λ t.
    listed_whole c.report_list.result _ _ _ (g.met.I.Input.are_bytes c.args.from.now t)
    (c.report_list.ensures.printed t)

pub returns-clause-refused : goal.returns-clause-refused
returns-clause-refused g c = λ t.
    unlisted c.report_list.result _ _ _ _ _ _ (g.met.I.Input.are_bytes c.args.from.now t)
    (c.report_list.ensures.refused t) c.report_list.ensures.reads c.report_list.ensures.failed

pub returns-clause-clean : goal.returns-clause-clean
returns-clause-clean g c = read_clean c.report_list.result _ _ c.report_list.ensures.reads
