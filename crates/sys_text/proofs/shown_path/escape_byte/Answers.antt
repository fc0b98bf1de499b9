use Rattle.std.proofs.Common.{arith}
use Rattle.sys_text.proofs.Letters.{escaped_text}
use Rattle.sys_text.proofs.shown_path.escape_byte.Goals as goal

pub returns : goal.returns
returns g c =
    rw (escaped_text _ _ c.args.byte (omega (arith, c.ranges.byte.fits)) c.laid_out.ensures c.in_radix.ensures) at
    c.write.ensures.writes
