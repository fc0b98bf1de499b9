use Rattle.sys_outputs.proofs.Holes.{no_bits_left, no_bits_right, zeros_more}
use Rattle.sys_outputs.proofs.hole_file.bits_of.Goals as goal

pub loop-byte-preserved : goal.loop-byte-preserved
loop-byte-preserved c = λ none.
    let before = c.loop-byte.invariant (no_bits_left c.loop-byte.all _ none) in
    zeros_more _ c.loop-byte.byte-index c.loop-byte-test.true before (no_bits_right c.loop-byte.all _ none)
