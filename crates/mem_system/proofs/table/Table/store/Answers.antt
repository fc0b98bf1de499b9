use Rattle.std.proofs.Common.{refl, arith, subst, sym, ◌<◌}
use Rattle.mem_files.proofs.Paths.{holds_new, holds_other}
use Rattle.mem_system.proofs.table.Table.store.Goals as goal

pub returns : goal.returns
returns c = record {
  paths = refl;
  this = holds_new c.args.self.now.files.items c.args.file _
      (subst (λ n. c.args.file < n) (sym c.args.self.now.room) c.requires.below);
  others = λ f other. holds_other c.args.self.now.files.items c.args.file _ f other;
}
