use Rattle.std.proofs.Common.{◌≡◌, ◌∙◌, ◌+◌, true, false, refl, sym, subst, rules}
use Rattle.std.proofs.lemmas.Bool.{true≢false}
use Rattle.abt_sections.specs.Header.{fragment_count, view_of}
use Rattle.abt_sections.specs.Open.{IsOpened}
use Rattle.cmd_unpack.specs.Unpacking.{FragmentsDone, WordsDone, up_to_fragment, up_to_section, up_to_words}
use Rattle.cmd_unpack.specs.Unpacking.{in_fragments, in_sections, in_words, of_fragment, of_section, of_words}
use Rattle.sys_disk.proofs.Amongs.{goes_then, keeps_then}
use Rattle.cmd_common_boot.proofs.Causes.{refused_more}
use Rattle.cmd_unpack.proofs.Counts.{and_words, no_words, none_then, some_then}
use Rattle.cmd_unpack.proofs.Loops.{fragments_later, goes_fragment, goes_section, goes_words, sections_later}
use Rattle.cmd_unpack.proofs.Shown.{all_shown, all_but_words, cannot_behind, rises_then}
use Rattle.cmd_unpack.proofs.UnpackSteps.{parts_more, parts_then, stop_more, stop_then}
use Rattle.cmd_unpack.proofs.parts.write_parts.Goals as goal

-- a section failed
pub returns-in-Err : goal.returns-in-Err
returns-in-Err g c = record {
  writes = λ t. stop_more (λ p named. of_section named) (c.in-Err.ensures.writes t);
  sections = λ t. tt;
  fragments = λ t. tt;
  words = λ t wanted. tt;
  stands = λ t.
      let s = c.in-Err.ensures.stands t in
      in_sections s.0 s.1 s.2 (goes_section _ _ _ _ _ _ _ _ _ s.3);
  shown = λ t. tt;
  refused = λ t opened.
      refused_more _ _ _ _ _ _ c.in-Err.refusal.fault refl (c.in-Err.ensures.refused t opened)
      (λ cause failed. failed)
      (λ stands. (up_to_section stands.0 stands.1 stands.2, stands.3));
  told_of = c.in-Err.ensures.told_of;
}

-- a fragment was
pub returns-in-Err-write_fragments : goal.returns-in-Err-write_fragments
returns-in-Err-write_fragments g c = record {
  writes = λ t.
      stop_then (parts_more refl (λ p named. of_section named) (c.in-Ok.ensures.writes t))
      (stop_more (λ p named. of_fragment named) (c.in-Err-write_fragments.ensures.writes t));
  sections = λ t. tt;
  fragments = λ t. tt;
  words = λ t wanted. tt;
  stands = λ t.
      let s = c.in-Err-write_fragments.ensures.stands t in
      in_fragments s.0 s.1
      (sections_later _ _ _ _ _ _ _ _ (c.in-Err-write_fragments.ensures.writes t).keeps (c.in-Ok.ensures.done t))
      (subst (λ x. FragmentsDone c.args.folder.now (view_of c.args.image.now.header) x s.0
      (g.D.Disk.held c.write_fragments.new.disk) (g.D.Disk.world c.write_fragments.new.disk))
      (c.in-Ok.ensures.writes t).content
      s.2)
      (goes_then _ _ _ _ _ _ _ (goes_section _ _ _ _ _ _ _ _ _ (c.in-Ok.ensures.writes t).only)
      (goes_fragment _ _ _ _ _ _ _ _ _ s.3));
  shown = λ t. tt;
  refused = λ t opened.
      let same = (c.in-Ok.ensures.writes t).content in
      refused_more _ _ _ _ _ _ c.in-Err-write_fragments.refusal.fault same
      (c.in-Err-write_fragments.ensures.refused t (subst (λ x. IsOpened x c.args.image.now) (sym same) opened))
      (λ cause failed. some_then _ _ _ _ _ _ (c.in-Ok.ensures.writes t).clean cause failed)
      (λ stands. (
        up_to_fragment stands.0 stands.1 (sections_later _ _ _ _ _ _ _ _
            (c.in-Err-write_fragments.ensures.writes t).keeps (c.in-Ok.ensures.done t))
            (subst (λ x. FragmentsDone c.args.folder.now (view_of c.args.image.now.header) x (stands.0 + 1)
            (g.D.Disk.held c.write_fragments.new.disk) (g.D.Disk.world c.write_fragments.new.disk)) same stands.2),
        cannot_behind c.args.report.now c.write_sections.new.report c.write_fragments.new.report
            c.in-Ok.ensures.rises stands.3,
      ));
  told_of = c.in-Err-write_fragments.ensures.told_of;
}

-- no words were wanted
pub returns-then-not-with_words : goal.returns-then-not-with_words
returns-then-not-with_words g c = record {
  writes = λ t.
      parts_more (no_words c.args.with_words _ (search (rules, c.if-not-with_words.true))) (λ p named. named)
      (parts_then (parts_more refl (λ p named. of_section named) (c.in-Ok.ensures.writes t))
      (parts_more refl (λ p named. of_fragment named) (c.in-Ok-write_fragments.ensures.writes t)));
  sections = λ t.
      sections_later _ _ _ _ _ _ _ _ (c.in-Ok-write_fragments.ensures.writes t).keeps (c.in-Ok.ensures.done t);
  fragments = λ t.
      subst (λ x. FragmentsDone c.args.folder.now (view_of c.args.image.now.header) x
      (fragment_count (view_of c.args.image.now.header)) (g.D.Disk.held c.write_fragments.new.disk)
      (g.D.Disk.world c.write_fragments.new.disk))
      (c.in-Ok.ensures.writes t).content (c.in-Ok-write_fragments.ensures.done t);
  words = λ t wanted.
      let off : c.args.with_words ≡ false = search (rules, c.if-not-with_words.true) in
      absurd (true≢false (sym wanted ∙ off));
  stands = λ t. tt;
  shown = λ t.
      all_but_words _ _ _ _ c.args.with_words _ c.args.report.now c.write_sections.new.report
      c.write_fragments.new.report (c.in-Ok.ensures.writes t).content
      (search (rules, c.if-not-with_words.true))
      (c.in-Ok.ensures.shown t) (c.in-Ok-write_fragments.ensures.shown t);
  refused = λ t opened. tt;
  told_of = tt;
}

-- the words were written too
pub returns-in-Ok-write_pack_words : goal.returns-in-Ok-write_pack_words
returns-in-Ok-write_pack_words g c = record {
  writes = λ t.
      let wanted : c.args.with_words ≡ true = first_of (search (rules, c.if-not-with_words.false), cc) in
      parts_more (and_words c.args.with_words _ wanted) (λ p named. named)
      (parts_then (parts_then (parts_more refl (λ p named. of_section named) (c.in-Ok.ensures.writes t))
      (parts_more refl (λ p named. of_fragment named) (c.in-Ok-write_fragments.ensures.writes t)))
      (parts_more refl (λ p named. of_words wanted named) (c.in-Ok-write_pack_words.ensures.writes t)));
  sections = λ t.
      sections_later _ _ _ _ _ _ _ _
      (keeps_then _ _ _ _ _ _ (c.in-Ok-write_fragments.ensures.writes t).keeps
      (c.in-Ok-write_pack_words.ensures.writes t).keeps)
      (c.in-Ok.ensures.done t);
  fragments = λ t.
      fragments_later _ _ _ _ _ _ _ _ (c.in-Ok-write_pack_words.ensures.writes t).keeps
      (subst (λ x. FragmentsDone c.args.folder.now (view_of c.args.image.now.header) x
      (fragment_count (view_of c.args.image.now.header)) (g.D.Disk.held c.write_fragments.new.disk)
      (g.D.Disk.world c.write_fragments.new.disk))
      (c.in-Ok.ensures.writes t).content (c.in-Ok-write_fragments.ensures.done t));
  words = λ t wanted.
      subst (λ x. WordsDone c.args.folder.now (view_of c.args.image.now.header) x
      (g.D.Disk.held c.write_pack_words.new.disk) (g.D.Disk.world c.write_pack_words.new.disk))
      ((c.in-Ok-write_fragments.ensures.writes t).content ∙ (c.in-Ok.ensures.writes t).content)
      (c.in-Ok-write_pack_words.ensures.done t);
  stands = λ t. tt;
  shown = λ t.
      all_shown _ c.args.folder.now _ _ _ _ c.args.with_words c.args.report.now c.write_sections.new.report
      c.write_fragments.new.report c.write_pack_words.new.report (c.in-Ok.ensures.writes t).content
      ((c.in-Ok-write_fragments.ensures.writes t).content ∙ (c.in-Ok.ensures.writes t).content)
      (first_of (search (rules, c.if-not-with_words.false), cc)) (c.in-Ok.ensures.shown t)
      (c.in-Ok-write_fragments.ensures.shown t) (c.in-Ok-write_pack_words.ensures.shown t);
  refused = λ t opened. tt;
  told_of = tt;
}

-- they failed
pub returns-in-Err-write_pack_words : goal.returns-in-Err-write_pack_words
returns-in-Err-write_pack_words g c = record {
  writes = λ t.
      let wanted : c.args.with_words ≡ true = first_of (search (rules, c.if-not-with_words.false), cc) in
      stop_then (parts_then (parts_more refl (λ p named. of_section named) (c.in-Ok.ensures.writes t))
      (parts_more refl (λ p named. of_fragment named) (c.in-Ok-write_fragments.ensures.writes t)))
      (stop_more (λ p named. of_words wanted named) (c.in-Err-write_pack_words.ensures.writes t));
  sections = λ t. tt;
  fragments = λ t. tt;
  words = λ t wanted. tt;
  stands = λ t.
      in_words c.in-Err-write_pack_words.ensures.told_of_part
      (sections_later _ _ _ _ _ _ _ _
      (keeps_then _ _ _ _ _ _ (c.in-Ok-write_fragments.ensures.writes t).keeps
      (c.in-Err-write_pack_words.ensures.writes t).keeps)
      (c.in-Ok.ensures.done t))
      (fragments_later _ _ _ _ _ _ _ _ (c.in-Err-write_pack_words.ensures.writes t).keeps
      (subst (λ x. FragmentsDone c.args.folder.now (view_of c.args.image.now.header) x
      (fragment_count (view_of c.args.image.now.header)) (g.D.Disk.held c.write_fragments.new.disk)
      (g.D.Disk.world c.write_fragments.new.disk)) (c.in-Ok.ensures.writes t).content
      (c.in-Ok-write_fragments.ensures.done t)))
      (goes_then _ _ _ _ _ _ _
      (goes_then _ _ _ _ _ _ _ (goes_section _ _ _ _ _ _ _ _ _ (c.in-Ok.ensures.writes t).only)
      (goes_fragment _ _ _ _ _ _ _ _ _ (c.in-Ok-write_fragments.ensures.writes t).only))
      (goes_words _ _ _ true _ _ _ _ _ refl (c.in-Err-write_pack_words.ensures.writes t).only));
  shown = λ t. tt;
  refused = λ t opened.
      let first = (c.in-Ok.ensures.writes t).content in
      let same = (c.in-Ok-write_fragments.ensures.writes t).content ∙ first in
      refused_more _ _ _ _ _ _ c.in-Err-write_pack_words.refusal.fault same
      (c.in-Err-write_pack_words.ensures.refused t (subst (λ x. IsOpened x c.args.image.now) (sym same) opened))
      (λ cause failed. some_then _ _ _ _ _ _
      (none_then _ _ _ _ _ _ (c.in-Ok.ensures.writes t).clean (c.in-Ok-write_fragments.ensures.writes t).clean) cause
      failed)
      (λ stands. (
        up_to_words (first_of (search (rules, c.if-not-with_words.false), cc))
            (sections_later _ _ _ _ _ _ _ _
            (keeps_then _ _ _ _ _ _ (c.in-Ok-write_fragments.ensures.writes t).keeps
            (c.in-Err-write_pack_words.ensures.writes t).keeps)
            (c.in-Ok.ensures.done t))
            (fragments_later _ _ _ _ _ _ _ _ (c.in-Err-write_pack_words.ensures.writes t).keeps
            (subst (λ x. FragmentsDone c.args.folder.now (view_of c.args.image.now.header) x
            (fragment_count (view_of c.args.image.now.header)) (g.D.Disk.held c.write_fragments.new.disk)
            (g.D.Disk.world c.write_fragments.new.disk)) first (c.in-Ok-write_fragments.ensures.done t)))
            (subst (λ x. WordsDone c.args.folder.now (view_of c.args.image.now.header) x
            (g.D.Disk.held c.write_pack_words.new.disk) (g.D.Disk.world c.write_pack_words.new.disk)) same stands.0),
        cannot_behind c.args.report.now c.write_fragments.new.report c.write_pack_words.new.report
            (rises_then c.args.report.now c.write_sections.new.report c.write_fragments.new.report c.in-Ok.ensures.rises
            (c.in-Ok-write_fragments.ensures.rises t)) stands.1,
      ));
  told_of = c.in-Err-write_pack_words.ensures.told_of;
}
