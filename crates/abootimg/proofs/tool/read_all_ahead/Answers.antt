use Rattle.std.proofs.Common.{refl, ◌∙◌}
use Rattle.std.proofs.lemmas.List.{take_all}
use Rattle.abootimg.proofs.Looks.{looks_all, looks_at_none, looks_on, reads_begun, reads_failed}
use Rattle.abootimg.proofs.tool.read_all_ahead.Goals as goal

pub loop-given-init : goal.loop-given-init
loop-given-init g c = record {
  looks = λ t. looks_at_none _ _ _;
  world = λ t. refl;
}

pub loop-given-preserved : goal.loop-given-preserved
loop-given-preserved g c =
    let i = c.loop-given.invariant in
    record {
      looks = λ t. looks_on _ _ _ _ _ _ c.args.all.now c.loop-given.given-index _ _ c.loop-given-test.true
          refl (i.world t) (i.looks t) (c.in-Ok.ensures.reads t) (c.in-Ok.ensures.ahead t);
      world = λ t. c.read_ahead.ensures.world t ∙ i.world t;
    }

pub read_ahead-requires : goal.read_ahead-requires
read_ahead-requires g c = record {
  first = λ t. reads_begun _ _ (c.loop-given.invariant.looks t).reads (c.requires.first t);
}

pub returns-in-Err-clause-refused : goal.returns-in-Err-clause-refused
returns-in-Err-clause-refused g c = λ t.
    reads_failed _ (g.D.Disk.held c.args.disk.now) (g.D.Disk.held c.loop-given.disk)
    (g.D.Disk.held c.read_ahead.new.disk) (c.loop-given.invariant.looks t).reads (c.in-Err.ensures.refused t)

pub returns-clause-looks : goal.returns-clause-looks
returns-clause-looks g c = λ t. looks_all _ c.args.all.now c.loop-given.given-index _ _ _
    (c.loop-given.invariant.looks t) (take_all _ _ c.loop-given-test.false)
