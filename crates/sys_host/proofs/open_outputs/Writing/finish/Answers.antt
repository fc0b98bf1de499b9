use Rattle.sys_host.proofs.Endings.{most_of_all, on_err}
use Rattle.sys_host.proofs.open_outputs.Writing.finish.Goals as goal

pub returns-in-Ok-clause-most : goal.returns-in-Ok-clause-most
returns-in-Ok-clause-most g c = λ t. on_err c.close_finished.result (record {
  file = c.in-Ok.finished.ended.file;
  so = most_of_all _ _ (c.in-Ok.ensures.ends.exact t);
  closed = c.close_finished.ensures t;
})
