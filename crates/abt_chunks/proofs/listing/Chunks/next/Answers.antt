use Rattle.std.proofs.Common.{◌<◌, arith, refl, ap}
use Rattle.abt_chunks.proofs.Causes.{bounded_next}
use Rattle.abt_chunks.proofs.Showing.{shown_next, more_index}
use Rattle.abt_chunks.proofs.listing.Chunks.next.Goals as goal

pub returns-in-Ok-clause-lists : goal.returns-in-Ok-clause-lists
returns-in-Ok-clause-lists g c models =
    let s = c.args.self.now.walk in
    let s1 = c.step.new.walk in
    let s2 = c.pass.new.walk in
    let first = rw c.in-Ok-More.field-0-is at (c.in-Ok-More.ensures.lists models) in
    let numbers = rw c.in-Ok-More.field-0-is at c.in-Ok-More.ensures.numbers in
    let stands = rw c.in-Ok-More.field-0-is at c.in-Ok-More.ensures.stands in
    let index = more_index s.phase s s1 _ c.args.self.now.between refl (λ o. (c.step.ensures.again o).0) stands numbers
    in
    let some : 0 < s2.index = omega (arith, c.in-Ok.ensures.index, index.0) in
    let settles = c.in-Ok.ensures.settles in
    rw c.info.ensures
    (shown_next s s1 s2 _ _ _ first (c.in-Ok.ensures.passes models) settles.1 settles.0 some)

pub returns-in-Err-clause-bounded : goal.returns-in-Err-clause-bounded
returns-in-Err-clause-bounded g c =
    let s = c.args.self.now.walk in
    bounded_next c.in-Err.fault s.phase s (g.I.Input.given c.args.input.now) (g.I.Input.given c.step.new.input) refl
    c.args.self.now.between c.in-Err.ensures.refuses
    (λ o. ap g.I.Input.given (c.step.ensures.again o).1) c.in-Err.ensures.input.wanted
