use Rattle.std.proofs.Common.{refl}
use Rattle.std.proofs.lemmas.Bool.{false≢true}
use Rattle.sys_disk.specs.Counts.{call_of, failure_of, no_counts}
use Rattle.sys_disk.proofs.Failings.{failure_unread}
use Rattle.sys_disk.proofs.closing.closed.Goals as goal

pub returns-in-Ok-end-clause-closed : goal.returns-in-Ok-end-clause-closed
returns-in-Ok-end-clause-closed g c = λ t. record {
  more = no_counts;
  closed = c.in-Ok-end.ensures.closed t;
  clean = λ _ _. refl;
  unread = refl;
}

pub returns-in-Err-end-clause-closed : goal.returns-in-Err-end-clause-closed
returns-in-Err-end-clause-closed g c = λ t. record {
  more = call_of c.in-Err-end.refusal.fault;
  closed = c.in-Err-end.ensures.closed t;
  clean = λ done. absurd (false≢true done);
  unread = refl;
}

pub returns-in-Err-clause-closed : goal.returns-in-Err-clause-closed
returns-in-Err-clause-closed g c = λ t. record {
  more = failure_of c.close-end.result;
  closed = c.close-end.ensures.closed t;
  clean = λ done. absurd (false≢true done);
  unread = failure_unread c.close-end.result;
}
