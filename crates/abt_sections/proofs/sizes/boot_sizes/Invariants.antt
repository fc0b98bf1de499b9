use Rattle.std.proofs.Common.{◌≡◌, length, map, take, drop}
use Rattle.abt_sections.specs.Fields.{filled}
use Rattle.abt_sections.specs.Refusal.{boot_names, size_refusal}
use Rattle.abt_sections.proofs.sizes.boot_sizes.Given as goal

abbrev pub invariant-loop-i : goal.invariant-loop-i
invariant-loop-i g l = record {
  long : length l.sizes ≡ 5;
  so_far : size_refusal (drop l.i (boot_names l.version)) (drop l.i (map g.S.Source.size l.parts)) ≡ size_refusal
      (boot_names l.version) (map g.S.Source.size l.parts);
  filled : l.sizes ≡ filled 5 (take l.i (map g.S.Source.size l.parts));
}
