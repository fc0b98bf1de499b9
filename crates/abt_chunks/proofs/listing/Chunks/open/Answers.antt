use Rattle.std.proofs.Common.{◌≡◌, arith}
use Rattle.abt_chunks.proofs.Showing.{shown_open}
use Rattle.abt_chunks.proofs.listing.Chunks.open.Goals as goal

pub returns-in-Ok-clause-opens : goal.returns-in-Ok-clause-opens
returns-in-Ok-clause-opens g c models =
    let first = rw c.in-Ok-More.field-0-is at (c.in-Ok-More.ensures.lists models) in
    let numbers = rw (c.in-Ok-More.field-0-is, c.new-walk.ensures) at c.in-Ok-More.ensures.numbers in
    let none : c.pass.new.walk.index ≡ 0 = omega (arith, c.in-Ok.ensures.index, numbers) in (
      shown_open c.new-walk.result c.step.new.walk c.pass.new.walk _ _ _ c.new-walk.ensures first
          (c.in-Ok.ensures.passes models) c.in-Ok.ensures.settles.1 c.in-Ok.ensures.settles.0 none,
      c.in-Ok.ensures.settles.0,
      c.in-Ok.ensures.settles.1,
    )
