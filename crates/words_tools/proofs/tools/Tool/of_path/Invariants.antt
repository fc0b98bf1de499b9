use Rattle.std.proofs.Common.{ℕ, ◌<◌}
use Rattle.std.specs.Prelude.{slice_index_or}
use Rattle.words_tools.specs.declared.tools.Tool.{Tool}
use Rattle.words_tools.specs.Tools.{IsLastPart, tool_name}
use Rattle.words_tools.proofs.tools.Tool.of_path.Given as goal

abbrev pub invariant-loop-tool : goal.invariant-loop-tool
invariant-loop-tool l =
    (k : ℕ) (d : Tool) → k < l.tool-index → IsLastPart (tool_name (slice_index_or l.tool-items k d)) l.path → ⊥
