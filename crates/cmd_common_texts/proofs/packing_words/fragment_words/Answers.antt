use Rattle.std.proofs.Common.{◌≡◌, [], ◌++◌, suc, ◌+◌, sym, subst, refl, ap, ◌∙◌, arith, rules}
use Rattle.abt_sections.specs.Header.{entry_of, view_of}
use Rattle.abt_sections.specs.Open.{IsOpened}
use Rattle.sys_text.proofs.Printing.{◌▸◌, as_text, printed_none}
use Rattle.cmd_common_texts.specs.Words.{entry_words, fragment_words, words_text}
use Rattle.cmd_common_texts.proofs.Informing.{reading_told}
use Rattle.cmd_common_texts.proofs.Refusing.{read_refuses}
use Rattle.cmd_common_texts.proofs.WordLists.{PrintsWords, more_words}
use Rattle.cmd_common_texts.proofs.packing_words.fragment_words.Goals as goal

pub loop-i-init : goal.loop-i-init
loop-i-init g c = record {
  faults = refl;
  prints = ([], printed_none _ _ _);
  lines = λ models. (refl, printed_none _ _ _);
}

pub loop-i-preserved : goal.loop-i-preserved
loop-i-preserved g c =
    let x = g.S.Source.content c.args.source.now in
    let h = view_of c.args.image.now.header in
    let folder = c.args.folder.now in
    let i = c.loop-i.i in
    let found = c.in-Ok-fragment.ensures in
    record {
      faults = found.reads.only.clean ∙ c.loop-i.invariant.faults;
      prints = (
        c.loop-i.invariant.prints.0 ++ words_text (entry_words folder i c.in-Ok-fragment.entry),
        c.loop-i.invariant.prints.1 ▸ c.entry_words.ensures,
      );
      lines = λ models.
          let before = c.loop-i.invariant.lines models in
          let entry : c.in-Ok-fragment.entry ≡ entry_of x h i = found.entry models
          ∙ ap (λ y. entry_of y h i) before.0 in
          let next : suc i ≡ i + 1 = omega arith in
          let all : PrintsWords g.O.Output.written g.O.Output.write_faults c.args.text.now c.entry_words.new.text
          (fragment_words folder x h (suc i))
          = more_words (fragment_words folder x h i) (entry_words folder i (entry_of x h i)) before.1
          (as_text (ap (λ e. words_text (entry_words folder i e)) entry) c.entry_words.ensures) in (
            found.reads.only.content models ∙ before.0,
            subst
                (λ k. PrintsWords g.O.Output.written g.O.Output.write_faults c.args.text.now c.entry_words.new.text
                (fragment_words folder x h k)) next all,
          );
    }

pub returns-in-Err-fragment-clause-leaves : goal.returns-in-Err-fragment-clause-leaves
returns-in-Err-fragment-clause-leaves g c = record {
  content = search rules;
  prints = search rules;
  told = search rules;
  reads = reading_told c.in-Err-fragment.fault _ _ _ _ c.loop-i.invariant.faults
      c.in-Err-fragment.ensures.reads.cause c.in-Err-fragment.ensures.reads.only.faults;
  refused = λ models opened.
      let before = (c.loop-i.invariant.lines models).0 in
      let now = subst (λ x. IsOpened x c.args.image.now) (sym before) opened in
      read_refuses c.in-Err-fragment.fault _ _ _ _ (omega (arith, c.loop-i.invariant.faults))
      c.in-Err-fragment.ensures.reads.cause (λ changed. changed models now);
}
