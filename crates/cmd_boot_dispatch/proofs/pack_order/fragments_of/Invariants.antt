use Rattle.std.proofs.Common.{◌≡◌, ◌++◌, drop, map}
use Rattle.std.specs.List.{All}
use Rattle.cmd_boot_dispatch.specs.Ordered.{IsOfItsWord}
use Rattle.cmd_boot_dispatch.proofs.pack_order.fragments_of.Given as goal

abbrev pub invariant-loop-word : goal.invariant-loop-word
invariant-loop-word l = record {
  words : map (λ f. f.word.now) l.fragments.items ++ map (λ s. s.now) (drop l.word-index l.words)
      ≡ map (λ s. s.now) l.words;
  each : All (IsOfItsWord l.is_escaped) l.fragments.items;
}
