use Rattle.std.proofs.Common.{◌∙◌, sym}
use Rattle.abt_io.proofs.Lent.{reads_ok, reads_then}
use Rattle.cmd_expand.proofs.GivenSpans.{span_all, span_more}
use Rattle.cmd_expand.proofs.cut_of.span_of.Goals as goal

pub returns-then-is_end-clause-span : goal.returns-then-is_end-clause-span
returns-then-is_end-clause-span g c = λ t.
    let i = c.parts.invariant in
    let told = rw (i.reads.content t) at (c.in-Ok.ensures.part.told t) in
    span_all c.parts.found _ _ (told.part.ended (sym c.is_end.ensures.end ∙ c.if-is_end.true)) (i.span t)

pub parts-preserved : goal.parts-preserved
parts-preserved g c =
    let i = c.parts.invariant in
    let part = c.in-Ok.ensures.part in
    record {
      reads = reads_ok _ (reads_then i.reads part.source.reads);
      within = part.found.within;
      place = λ t. (rw (i.reads.content t) at (part.told t)).place;
      span = λ t.
          let told = rw (i.reads.content t) at (part.told t) in
          span_more _ c.parts.found c.in-Ok.part.kind _ _ _ _ c.with_part-found.ensures told.part.next told.part.within
          told.part.all (i.span t);
    }
