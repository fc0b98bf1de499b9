use Rattle.std.proofs.Common.{sym, ◌∙◌, arith}
use Rattle.std.proofs.lemmas.Bool.{false≢true}
use Rattle.sys_host.proofs.Forward.{none_long}
use Rattle.sys_host.proofs.taken.Taken.empty.Goals as goal
use Rattle.sys_host.proofs.taken.Taken.empty.Goals.{else-is_file-via-then-is_file+else-found-gt0}
use Rattle.sys_host.proofs.taken.Taken.empty.Goals.{else-is_file-via-else-is_file}

pub returns-else-is_file-clause-empty : goal.returns-else-is_file-clause-empty
returns-else-is_file-clause-empty g c = λ t. elim c.else-is_file.branch [
  | else-is_file-via-then-is_file+else-found-gt0 w ↦
      let long = c.requires.long t (c.is_file.ensures.0 w.if-is_file.true) in
      none_long _ (omega (arith, w.if-found-gt0.false, long))
  | else-is_file-via-else-is_file w ↦
      c.requires.blank t (λ k. absurd (false≢true (sym w.if-is_file.false ∙ c.is_file.ensures.1 k)))
]
