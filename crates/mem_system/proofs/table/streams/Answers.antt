use Rattle.std.proofs.Common.{◌≡◌, Some, subst}
use Rattle.mem_files.specs.Stored.{leads}
use Rattle.mem_system.proofs.Paths.{none_at_first, none_at_second}
use Rattle.mem_system.proofs.table.streams.Goals as goal

pub returns : goal.returns
returns c = record {
  input = subst (λ n. leads c.push-2.new.paths.items n ≡ Some 0) c.in_ok-input.ensures.ok
      (c.in_ok-push-2.ensures.others _ _
      (c.in_ok-push.ensures.there (none_at_first _ _ c.new-paths.ensures.items)));
  output = subst (λ n. leads c.push-2.new.paths.items n ≡ Some 1) c.in_ok-output.ensures.ok
      (c.in_ok-push-2.ensures.there
      (none_at_second c.new-paths.result.items c.push.new.paths.items
      (record { name = c.in_ok-input.input; file = 0 }) _ c.new-paths.ensures.items c.in_ok-push.ensures.more
      c.in_ok-input.ensures.ok c.in_ok-output.ensures.ok));
}
