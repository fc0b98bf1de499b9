use Rattle.std.proofs.Common.{◌≡◌, IsTrue, List, ℕ}
use Rattle.abt_sections.specs.Header.{view_of}
use Rattle.sys_text.specs.Printed.{Prints}
use Rattle.cmd_unpack_aosp_texts.specs.Texts.{fragment_texts}
use Rattle.cmd_unpack_aosp_texts.proofs.text.put_fragments.Given as goal

abbrev pub invariant-loop-i : goal.invariant-loop-i
invariant-loop-i g l =
    let content = g.S.Source.content in
    record {
      faults : g.S.Source.read_faults l.source ≡ g.S.Source.read_faults l.initial.source;
      prints : (done : List ℕ) × Prints g.O.Output.written g.O.Output.write_faults l.initial.text l.text done;
      lines : IsTrue g.S.Source.models → (content l.source ≡ content l.initial.source)
          × Prints g.O.Output.written g.O.Output.write_faults l.initial.text l.text
          (fragment_texts l.fn.which l.fn.folder (content l.initial.source) (view_of l.fn.image.header) l.i);
    }
