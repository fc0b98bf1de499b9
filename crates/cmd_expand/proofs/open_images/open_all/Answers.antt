use Rattle.std.proofs.Common.{[], ◌≡◌, ◌∙◌, map, refl, sym, subst, ap, arith}
use Rattle.std.specs.List.{AllByRecursion}
use Rattle.cmd_common_sparse.specs.ImagePath.{image_path}
use Rattle.cmd_expand.specs.CutOf.{TellsPieces}
use Rattle.cmd_expand.proofs.Opens.{all_in_turn, all_opened, opened_none, step_opened, step_pieces, step_refused}
use Rattle.cmd_expand.proofs.Opens.{step_turn}
use Rattle.cmd_expand.proofs.Turns.{turn_none}
use Rattle.cmd_expand.proofs.open_images.open_all.Goals as goal

pub loop-input-init : goal.loop-input-init
loop-input-init g c = record {
  count = refl;
  opened = λ t. opened_none _ _ _ _ (ap (map (λ kept. g.D.At.Source.content kept.source)) c.new.ensures.items) refl;
  shape = λ t. ap (map (λ kept. g.D.At.Source.content kept.source)) c.new.ensures.items;
  clean = λ t. subst (λ q. AllByRecursion (λ kept. g.D.At.Source.read_faults kept.source ≡ 0) q)
      (sym c.new.ensures.items) tt;
  pieces = λ t. subst (λ q. TellsPieces (g.D.Disk.world c.args.disk.now) (map (λ kept. kept.piece) q) [])
      (sym c.new.ensures.items) tt;
  turn = λ t. turn_none _;
  world = λ t. refl;
}

pub loop-input-preserved : goal.loop-input-preserved
loop-input-preserved g c =
    let i = c.loop-input.invariant in
    let counted = c.open_next.ensures.count in
    record {
      count = omega (arith, i.count, counted);
      opened = λ t. step_opened (λ word. image_path word.now) c.args.inputs.now c.loop-input.input-index _ _ _ _
          _ _ _ _ _
          c.loop-input-test.true (i.world t) c.image_place.ensures (i.opened t) (c.in-Ok.ensures.opened t);
      shape = λ t. c.in-Ok.ensures.shape t (i.shape t);
      clean = λ t. c.in-Ok.ensures.clean t (i.clean t);
      pieces = λ t. step_pieces (λ word. image_path word.now) c.args.inputs.now c.loop-input.input-index _ _ _ _ _ _
          c.loop-input-test.true (i.world t) c.image_place.ensures (i.pieces t) (c.in-Ok.ensures.piece t);
      turn = λ t. step_turn (λ word. image_path word.now) c.args.inputs.now c.loop-input.input-index _ _ _ _ _ _
          c.loop-input-test.true (i.world t) c.image_place.ensures (i.pieces t) (c.in-Ok.ensures.piece t) (i.turn t);
      world = λ t. (c.open_next.ensures.alone t).world ∙ i.world t;
    }

pub returns-in-Err-clause-refused : goal.returns-in-Err-clause-refused
returns-in-Err-clause-refused g c = λ t.
    let i = c.loop-input.invariant in
    step_refused (λ word. image_path word.now) c.args.inputs.now c.loop-input.input-index _ c.in-Err.refusal.fault
    c.loop-input.all.shape _ _ _ _ _ _ _ _ _ _ c.loop-input-test.true (i.world t) c.image_place.ensures (i.opened t)
    (i.shape t) (i.pieces t) i.count c.open_next.ensures.count (c.in-Err.ensures.refused t)

pub returns-clause-turn : goal.returns-clause-turn
returns-clause-turn g c = λ t.
    all_in_turn (λ word. image_path word.now) c.args.inputs.now c.loop-input.input-index _ c.loop-input-test.false
    (c.loop-input.invariant.turn t)

pub returns-clause-opened : goal.returns-clause-opened
returns-clause-opened g c = λ t.
    all_opened (λ word. image_path word.now) c.args.inputs.now c.loop-input.input-index _ _ _ _ c.loop-input-test.false
    (c.loop-input.invariant.opened t)
