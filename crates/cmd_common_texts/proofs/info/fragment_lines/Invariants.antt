use Rattle.std.proofs.Common.{◌≡◌, IsTrue, List, ℕ}
use Rattle.abt_sections.specs.Header.{view_of}
use Rattle.cmd_common_texts.specs.Info.{fragment_lines}
use Rattle.sys_text.specs.Printed.{Prints}
use Rattle.cmd_common_texts.proofs.info.fragment_lines.Given as goal

abbrev pub invariant-loop-i : goal.invariant-loop-i
invariant-loop-i g l =
    let content = g.S.Source.content in
    record {
      faults : g.S.Source.read_faults l.source ≡ g.S.Source.read_faults l.initial.source;
      prints : (done : List ℕ) × Prints g.O.Output.written g.O.Output.write_faults l.initial.text l.text done;
      lines : IsTrue g.S.Source.models
          → (content l.source ≡ content l.initial.source)
          × Prints g.O.Output.written g.O.Output.write_faults l.initial.text l.text
          (fragment_lines l.fn.notation (content l.initial.source) (view_of l.fn.image.header) l.i);
    }
