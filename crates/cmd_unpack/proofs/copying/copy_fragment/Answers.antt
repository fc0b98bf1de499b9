use Rattle.std.proofs.Common.{◌∙◌, ap, refl, rules, sym, subst}
use Rattle.abt_sections.specs.Open.{IsOpened}
use Rattle.cmd_common_boot.proofs.Causes.{moved_behind, read_first}
use Rattle.cmd_unpack.proofs.copying.copy_fragment.Goals as goal

pub returns-in-Err-clause-copies : goal.returns-in-Err-clause-copies
returns-in-Err-clause-copies g c =
    let e = c.in-Err.ensures.reads in
    record {
      this = refl;
      written = search rules;
      content = λ models. tt;
      clean = tt;
      refused = λ models opened. read_first c.in-Err.fault _ _ _ (g.S.Source.content c.args.source.now) _ e.cause
          (λ changed. changed models opened);
    }

pub returns-in-Ok-answer-clause-copies : goal.returns-in-Ok-answer-clause-copies
returns-in-Ok-answer-clause-copies g c =
    let k = c.in-Ok.ensures.reads.only in
    let e = c.in-Ok-answer.ensures.moves in
    record {
      this = ap (λ f. f.file) e.writes.frame;
      written = search rules;
      content = λ models. e.reads.content models ∙ k.content models;
      clean = (e.reads.clean ∙ k.clean, e.writes.clean);
      refused = λ models opened. tt;
    }

pub returns-in-Err-answer-clause-copies : goal.returns-in-Err-answer-clause-copies
returns-in-Err-answer-clause-copies g c =
    let k = c.in-Ok.ensures.reads.only in
    let e = c.in-Err-answer.ensures.moves in
    record {
      this = ap (λ f. f.file) e.writes.frame;
      written = search rules;
      content = λ models. tt;
      clean = tt;
      refused = λ models opened.
          let now = subst (λ x. IsOpened x c.args.image.now) (sym (k.content models)) opened in
          moved_behind c.in-Err-answer.fault _ _ _ _ _ (g.S.Source.content c.args.source.now) _ k.clean e.cause
          (λ changed. changed models now);
    }
