use Rattle.std.proofs.Common.{ap, rules}
use Rattle.cmd_common_boot.proofs.Causes.{moved}
use Rattle.cmd_unpack.proofs.copying.copy_section.Goals as goal

pub returns-in-Ok-clause-copies : goal.returns-in-Ok-clause-copies
returns-in-Ok-clause-copies g c = λ p found.
    let e = c.in-Ok.ensures.moves in
    record {
      this = ap (λ f. f.file) e.writes.frame;
      written = search rules;
      content = e.reads.content;
      clean = (e.reads.clean, e.writes.clean);
      refused = λ models opened. tt;
    }

pub returns-in-Err-clause-copies : goal.returns-in-Err-clause-copies
returns-in-Err-clause-copies g c = λ p found.
    let e = c.in-Err.ensures.moves in
    record {
      this = ap (λ f. f.file) e.writes.frame;
      written = search rules;
      content = λ models. tt;
      clean = tt;
      refused = λ models opened. moved c.in-Err.fault _ _ _ _ (g.S.Source.content c.args.source.now) _ e.cause
          (λ changed. changed models opened);
    }
