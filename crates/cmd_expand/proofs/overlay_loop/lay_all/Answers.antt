use Rattle.std.proofs.Common.{◌≡◌, length, map, sym, ◌∙◌, ap, subst, refl, arith}
use Rattle.std.specs.List.{AllByRecursion}
use Rattle.abt_sparse.specs.Pieces.{flashed_in_turn}
use Rattle.cmd_expand.specs.Overlaying.{IsImageOf}
use Rattle.cmd_expand.proofs.Lays.{breaks_among, even_read, even_then, even_written, fails_none, fails_then, laid_as}
use Rattle.cmd_expand.proofs.Lays.{laid_more, laid_next, laid_none, nothing_left}
use Rattle.cmd_expand.proofs.overlay_loop.lay_all.Goals as goal

pub images-init : goal.images-init
images-init g c = record {
  size = refl;
  same = λ t. refl;
  synced = refl;
  laid = λ t. refl;
  before = λ t. laid_none _ _;
  settled = λ t e. e;
  world = λ t. refl;
  held = λ t. fails_none _ _ refl;
  clean = λ t all. (all, λ cause. refl, refl);
  images = λ t n b all. all;
}

pub images-preserved : goal.images-preserved
images-preserved g c =
    let i = c.images.invariant in
    let items = c.in-Some.ensures.items in
    let long = ap length items in
    record {
      size = c.lay_one.ensures.alone.size ∙ i.size;
      same = λ t. c.lay_one.ensures.alone.same t ∙ i.same t;
      synced = omega (arith, c.in-Ok.ensures.synced, long, i.synced);
      laid = λ t. laid_next _ _ _ _ _ _ (ap (map (λ one. g.D.At.Source.content one.source)) items) (i.laid t)
          (c.in-Ok.ensures.laid t);
      before = λ t. laid_more _ _ _ _ _ _ _ (ap (map (λ one. g.D.At.Source.content one.source)) items) (i.before t)
          (c.in-Ok.ensures.laid t);
      settled = λ t e. c.in-Ok.ensures.settled t;
      world = λ t. c.lay_one.ensures.alone.world t ∙ i.world t;
      held = λ t. fails_then _ _ _ (i.held t) (c.lay_one.ensures.alone.held t);
      clean = λ t all.
          let all_now = i.clean t all in
          let s = subst (λ q. AllByRecursion (λ one. g.D.At.Source.read_faults one.source ≡ 0) q) items all_now.0 in
          let own = c.in-Ok.ensures.clean t in (
            s.1,
            even_then (g.D.Disk.held c.args.disk.now) (g.D.Disk.held c.images.disk)
                (g.D.Disk.held c.lay_one.new.disk) _ all_now.1 own.0 s.0,
            own.1 ∙ all_now.2,
          );
      images = λ t n b all.
          (subst (λ q. AllByRecursion (IsImageOf n b) (map (λ one. g.D.At.Source.content one.source) q)) items
          (i.images t n b all)).1;
    }

pub images-smaller : goal.images-smaller
images-smaller g c = let long = ap length c.in-Some.ensures.items in omega (arith, long)

pub returns-in-Err-clause-refused : goal.returns-in-Err-clause-refused
returns-in-Err-clause-refused g c = λ t n b sized images clean.
    let i = c.images.invariant in
    let items = c.in-Some.ensures.items in
    let all_now = i.clean t clean in
    let s = subst (λ q. AllByRecursion (λ one. g.D.At.Source.read_faults one.source ≡ 0) q) items all_now.0 in
    let image = (subst (λ q. AllByRecursion (IsImageOf n b) (map (λ one. g.D.At.Source.content one.source) q)) items
    (i.images t n b images)).0 in
    let h = g.D.Disk.held c.args.disk.now in
    let h1 = g.D.Disk.held c.images.disk in
    laid_as c.in-Err.refusal.fault _ _ _ _ _ _ (even_read h h1 _ all_now.1 s.0)
    (even_written h h1 _ _ all_now.1 all_now.2)
    (c.in-Err.ensures.refused t n b (i.size ∙ sized) image)

pub returns-in-Err-clause-broken : goal.returns-in-Err-clause-broken
returns-in-Err-clause-broken g c = λ t.
    breaks_among c.in-Err.refusal.fault _ _ _ _ _ _ _
    (ap (map (λ one. g.D.At.Source.content one.source)) c.in-Some.ensures.items)
    (c.images.invariant.before t) (c.in-Err.ensures.broken t)

pub returns-in-Err-clause-alone : goal.returns-in-Err-clause-alone
returns-in-Err-clause-alone g c = record {
  same = λ t. c.lay_one.ensures.alone.same t ∙ c.images.invariant.same t;
  size = c.lay_one.ensures.alone.size ∙ c.images.invariant.size;
  world = λ t. c.lay_one.ensures.alone.world t ∙ c.images.invariant.world t;
  held = λ t. fails_then _ _ _ (c.images.invariant.held t) (c.lay_one.ensures.alone.held t);
}

pub returns-in-None-clause-laid : goal.returns-in-None-clause-laid
returns-in-None-clause-laid g c = λ t.
    let none = nothing_left c.images.kept.items _ c.in-None.ensures.items c.pop_front.ensures.rest in
    ap (λ q. flashed_in_turn (g.D.InPlace.Source.content c.images.onto)
    (map (λ one. g.D.At.Source.content one.source) q))
    (sym none) ∙ c.images.invariant.laid t

pub returns-in-None-clause-synced : goal.returns-in-None-clause-synced
returns-in-None-clause-synced g c =
    let none = nothing_left c.images.kept.items _ c.in-None.ensures.items c.pop_front.ensures.rest in
    let long = ap length none in
    omega (arith, long, c.images.invariant.synced)
