use Rattle.std.proofs.Common.{rules, refl}
use Rattle.abt_runs.specs.declared.part.RunKind.TheVariants as kinds
use Rattle.abt_placed.proofs.Laying.{begun_behind}
use Rattle.abt_placed.proofs.segment.Segment.begin.Goals as goal

pub returns-in_default-clause-laid : goal.returns-in_default-clause-laid
returns-in_default-clause-laid c size old now place e = record {
  placed = begun_behind size c.args.front c.args.first c.args.most kinds.Skip old now place e (λ none. search rules)
      (λ some. refl);
  heavy = refl;
  tail = refl;
  held = tt;
}
