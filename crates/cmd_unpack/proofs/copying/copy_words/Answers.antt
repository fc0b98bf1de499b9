use Rattle.std.proofs.Common.{ℕ, List, Err, rules}
use Rattle.abt_sections.specs.declared.fault.SectionFault.{SectionFault}
use Rattle.abt_sections.specs.declared.fault.SectionFault.TheVariants as sections
use Rattle.cmd_common_texts.specs.Info.{PrintCause, SectionReadTold, SectionWriteTold}
use Rattle.cmd_common_boot.specs.ImageFaults.{DeviceFails, IsFaultOf}
use Rattle.cmd_unpack.proofs.copying.copy_words.Goals as goal

-- a fault of printing the words is one of the image, or of a device that failed
printed : (X : Type 0) (f : SectionFault) (r r' w w' : ℕ) (x : List ℕ) → PrintCause f r r'
    → SectionReadTold {X = X} (Err f) r r' → SectionWriteTold f w w' → IsFaultOf x (DeviceFails r r' w w') f
printed X (sections.Read f) r r' w w' x cause reads writes = cause
printed X (sections.Write f) r r' w w' x cause reads writes = writes
printed X sections.SourceChanged r r' w w' x cause reads writes = absurd cause
printed X (sections.Header f) r r' w w' x cause reads writes = absurd cause
printed X (sections.Entry i) r r' w w' x cause reads writes = absurd cause
printed X sections.Name r r' w w' x cause reads writes = absurd cause
printed X sections.CommandLine r r' w w' x cause reads writes = absurd cause
printed X (sections.SectionTruncated s) r r' w w' x cause reads writes = absurd cause
printed X (sections.SectionTooLarge s) r r' w w' x cause reads writes = absurd cause

pub returns-in-Err-clause-copies : goal.returns-in-Err-clause-copies
returns-in-Err-clause-copies g c =
    let e = c.in-Err.ensures in
    record {
      this = search rules;
      written = search rules;
      content = λ models. tt;
      clean = tt;
      refused = λ models opened.
          printed ℕ c.in-Err.fault _ _ _ _ (g.S.Source.content c.args.source.now) (e.refused models opened)
          e.leaves.reads e.leaves.failed;
    }
