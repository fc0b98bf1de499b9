use Rattle.std.proofs.Common.{◌≡◌, sym, ◌∙◌, ap, subst}
use Rattle.std.specs.Prelude.{IfErr}
use Rattle.abt_sparse.specs.Pieces.{flashed}
use Rattle.cmd_expand.specs.Overlaying.{IsImageOf}
use Rattle.cmd_expand.specs.Steps.{IsNotFlashed}
use Rattle.cmd_expand.proofs.Lays.{blamed_behind, breaks_at, done_even, done_holds, done_so, even_behind, let_go_fails}
use Rattle.cmd_expand.proofs.overlay_loop.lay_one.Goals as goal

pub returns-in-Ok-clause-laid : goal.returns-in-Ok-clause-laid
returns-in-Ok-clause-laid g c = λ t.
    done_holds c.flash_one-answer.result c.in-Ok.field-0 _ _ _ _ c.in-Ok.ensures.done
    (c.flash_one-answer.ensures.holds (g.met.D.Disk.source_told t) (g.met.D.Disk.part_told t))
    ∙ ap (flashed (g.D.InPlace.Source.content c.args.onto.now))
    (ap g.D.At.Source.content c.new.ensures.source ∙ c.forget.ensures.content (g.met.D.Disk.source_told t))

pub returns-in-Ok-clause-synced : goal.returns-in-Ok-clause-synced
returns-in-Ok-clause-synced g c =
    done_so c.flash_one-answer.result c.in-Ok.field-0 _ c.in-Ok.ensures.done c.flash_one-answer.ensures.synced

pub returns-in-Ok-clause-settled : goal.returns-in-Ok-clause-settled
returns-in-Ok-clause-settled g c = λ t.
    done_so c.flash_one-answer.result c.in-Ok.field-0 _ c.in-Ok.ensures.done
    (c.flash_one-answer.ensures.settled (g.met.D.Disk.part_told t))

pub returns-in-Ok-clause-alone : goal.returns-in-Ok-clause-alone
returns-in-Ok-clause-alone g c = record {
  same = λ t. c.flash_one-answer.ensures.same (g.met.D.Disk.source_told t) (g.met.D.Disk.part_told t);
  size = c.flash_one-answer.ensures.size;
  world = λ t. c.let_go_source.ensures.world t;
  held = λ t. let_go_fails _ _ _ (c.let_go_source.ensures.held t);
}

pub returns-in-Ok-clause-clean : goal.returns-in-Ok-clause-clean
returns-in-Ok-clause-clean g c = λ t.
    let even = done_even c.flash_one-answer.result c.in-Ok.field-0 _ _ _ _ c.in-Ok.ensures.done
    c.flash_one-answer.ensures.cause in (
      even_behind (g.D.Disk.held c.args.disk.now) (g.D.Disk.held c.let_go_source.new.self) _
          (g.D.At.Source.read_faults c.args.one.source) _ (c.let_go_source.ensures.held t)
          (even.0 ∙ ap g.D.At.Source.read_faults c.new.ensures.source ∙ c.forget.ensures.faults),
      even.1,
    )

pub returns-in-Err-clause-broken : goal.returns-in-Err-clause-broken
returns-in-Err-clause-broken g c = λ t.
    let told = g.met.D.Disk.source_told t in
    let content : g.D.At.Source.content c.new.result.source ≡ g.D.At.Source.content c.args.one.source
    = ap g.D.At.Source.content c.new.ensures.source ∙ c.forget.ensures.content told in
    breaks_at c.flash_one-answer.result c.in-Err.fault c.refuse.result.fault _ _ _ _ _
    (sym (c.in-Err.ensures.whole (c.shorter.ensures told))) c.refuse.ensures.fault content
    (c.flash_one-answer.ensures.holds told (g.met.D.Disk.part_told t))

pub returns-in-Err-clause-alone : goal.returns-in-Err-clause-alone
returns-in-Err-clause-alone g c = record {
  same = λ t. c.flash_one-answer.ensures.same (g.met.D.Disk.source_told t) (g.met.D.Disk.part_told t);
  size = c.flash_one-answer.ensures.size;
  world = λ t. c.let_go_source.ensures.world t;
  held = λ t. let_go_fails _ _ _ (c.let_go_source.ensures.held t);
}

pub returns-in-Err-clause-refused : goal.returns-in-Err-clause-refused
returns-in-Err-clause-refused g c = λ t blocks block sized image.
    let told = g.met.D.Disk.source_told t in
    let same : g.D.At.Source.read_faults c.new.result.source ≡ g.D.At.Source.read_faults c.args.one.source
    = ap g.D.At.Source.read_faults c.new.ensures.source ∙ c.forget.ensures.faults in
    let content : g.D.At.Source.content c.new.result.source ≡ g.D.At.Source.content c.args.one.source
    = ap g.D.At.Source.content c.new.ensures.source ∙ c.forget.ensures.content told in
    blamed_behind c.flash_one-answer.result c.in-Err.fault c.refuse.result.fault (g.D.Disk.held c.args.disk.now)
    (g.D.Disk.held c.let_go_source.new.self) _ (g.D.At.Source.read_faults c.args.one.source) _
    (g.D.InPlace.Partition.put_faults c.args.onto.now) (g.D.InPlace.Partition.put_faults c.flash_one-answer.new.onto)
    (sym (c.in-Err.ensures.whole (c.shorter.ensures told))) c.refuse.ensures.fault (c.let_go_source.ensures.held t)
    (subst (λ k. IfErr c.flash_one-answer.result (λ f. IsNotFlashed f k
    (g.D.At.Source.read_faults c.flash_one-answer.new.from.device.source)
    (g.D.InPlace.Partition.put_faults c.args.onto.now)
    (g.D.InPlace.Partition.put_faults c.flash_one-answer.new.onto))) same
    (c.flash_one-answer.ensures.refused told blocks block sized (subst (IsImageOf blocks block) (sym content) image)))
