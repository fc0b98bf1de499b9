use Rattle.std.proofs.Common.{refl, rules}
use Rattle.std.proofs.Output.{has_written_append, has_written_of_eq}
use Rattle.sys_text.proofs.Letters.{escaped_more}
use Rattle.sys_text.proofs.shown_path.escape.Goals as goal

pub loop-byte-preserved : goal.loop-byte-preserved
loop-byte-preserved g c = λ plain.
    has_written_of_eq _ _ _ _ _
    (escaped_more c.as_bytes-byte-items.result.now c.loop-byte.byte-index 0 (search rules))
    (has_written_append _ _ _ _ _ _ (c.loop-byte.invariant plain)
    (c.in_ok-escape_byte.ensures (c.loop-byte.invariant plain).plain refl))
