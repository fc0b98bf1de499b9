use Rattle.std.proofs.Common.{◌∙◌, ap, subst, sym}
use Rattle.abt_io.proofs.Lent.{reads_err, reads_ok, reads_then}
use Rattle.abt_sections.specs.Header.{entry_of, view_of}
use Rattle.abt_sections.specs.Open.{IsOpened}
use Rattle.cmd_pack_inputs.proofs.Entries.{read_unread}
use Rattle.cmd_pack_inputs.proofs.Owns.{entries_next}
use Rattle.cmd_pack_inputs.proofs.kept.entries_of.Goals as goal

pub loop-i-preserved : goal.loop-i-preserved
loop-i-preserved g c =
    let s = g.S.Source in
    let h = view_of c.args.image.now.header in
    let i = c.loop-i.invariant in
    let made = c.in-Ok.ensures in
    record {
      only = reads_ok tt (reads_then i.only made.reads.only);
      entries = λ models. c.in-Ok-push.ensures.items ∙ entries_next (s.content c.args.source.now) h c.loop-i.i _ _
          (i.entries models) (made.entry models ∙ ap (λ x. entry_of x h c.loop-i.i) (i.only.content models));
    }

pub returns-in-Err-clause-reads : goal.returns-in-Err-clause-reads
returns-in-Err-clause-reads g c =
    let i = c.loop-i.invariant in
    record {
      only = reads_err _ (reads_then i.only c.in-Err.ensures.reads.only);
      refused = λ models opened. read_unread c.in-Err.fault _ _ _ _ i.only.clean c.in-Err.ensures.reads.cause
          (λ changed. changed models (subst (λ x. IsOpened x c.args.image.now) (sym (i.only.content models)) opened));
    }
