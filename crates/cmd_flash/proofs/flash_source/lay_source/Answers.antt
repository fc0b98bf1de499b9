use Rattle.std.proofs.Common.{arith, ◌∙◌, ◌≡◌, ◌≤◌, length, refl}
use Rattle.cmd_flash.proofs.Laid.{laid_more}
use Rattle.cmd_flash.proofs.flash_source.lay_source.Goals as goal

pub loop-at-preserved : goal.loop-at-preserved
loop-at-preserved g c =
    let i = c.loop-at.invariant in
    let e = c.in-Ok.ensures in
    record {
      within = omega (arith, e.some, c.min-ask.ensures);
      size = e.lays.size ∙ i.size;
      synced = e.lays.synced ∙ i.synced;
      same = λ p. e.lays.same p ∙ i.same p;
      read = e.lays.clean.0 ∙ i.read;
      put = e.lays.clean.1 ∙ i.put;
      given = omega (arith, i.given, e.moves.given);
      taken = omega (arith, i.taken, e.moves.taken);
      content = λ t. e.content t ∙ i.content t;
      laid = λ s p.
          let long = g.met.S.Source.sized c.args.source.now s in
          let room : length (g.S.Source.content c.args.source.now) ≤ length (g.P.Source.content c.args.onto.now)
          = omega (arith, c.requires.all, c.requires.room, long, g.met.P.Source.sized c.args.onto.now p) in
          laid_more _ _ _ (g.S.Source.content c.args.source.now) c.loop-at.at c.in-Ok.got _ (i.laid s p)
          (rw (i.content s) at (e.laid s p)) (omega (arith, i.within, c.requires.all, long)) room refl;
    }

pub returns-in-Err-clause-lays : goal.returns-in-Err-clause-lays
returns-in-Err-clause-lays g c =
    let i = c.loop-at.invariant in
    let e = c.in-Err.ensures.lays in
    record {
      synced = e.synced ∙ i.synced;
      same = λ p. e.same p ∙ i.same p;
      size = e.size ∙ i.size;
      refused = rw (i.read, i.put) at e.refused;
      clean = tt;
    }

pub returns-clause-lays : goal.returns-clause-lays
returns-clause-lays g c =
    let i = c.loop-at.invariant in
    record { synced = i.synced; same = i.same; size = i.size; refused = tt; clean = (i.read, i.put) }

pub returns-clause-moves : goal.returns-clause-moves
returns-clause-moves g c =
    let i = c.loop-at.invariant in
    let all : c.loop-at.at ≡ c.args.held = omega (arith, i.within, c.loop-at-test.false) in
    record { given = omega (arith, i.given, all); taken = omega (arith, i.taken, all) }
