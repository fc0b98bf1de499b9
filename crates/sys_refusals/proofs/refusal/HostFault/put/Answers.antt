use Rattle.std.proofs.Common.{sym, ◌∙◌}
use Rattle.sys_text.proofs.Printing.{◌▸◌}
use Rattle.sys_refusals.proofs.Saying.{said_named}
use Rattle.sys_refusals.proofs.refusal.HostFault.put.Goals as goal

pub returns-then-names_its_file : goal.returns-then-names_its_file
returns-then-names_its_file g c = (
  _,
  c.word.ensures ▸ c.short.ensures.1,
  said_named c.short.result c.args.self c.in-Some.place c.args.place _ _ c.in-Some.is c.wrong.ensures
      (sym c.names_its_file.ensures ∙ c.if-names_its_file.true) c.short.ensures.2,
)
