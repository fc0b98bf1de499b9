use Rattle.sys_text.proofs.Holding.{text_held}
use Rattle.sys_text.proofs.text_output.Text.short.Goals as goal

pub returns : goal.returns
returns g c = (
  c.all.result.now,
  c.put.ensures,
  text_held c.write-is_whole.result c.new-held.result _ c.write-is_whole.new.self _ c.new-held.ensures
      c.all.ensures.value c.write-is_whole.ensures.writes,
)
