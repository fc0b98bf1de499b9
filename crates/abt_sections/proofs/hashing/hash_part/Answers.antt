use Rattle.std.proofs.Common.{arith}
use Rattle.abt_sections.proofs.Digests.{hash_more}
use Rattle.abt_sections.proofs.hashing.hash_part.Goals as goal

pub returns-clause-hashed : goal.returns-clause-hashed
returns-clause-hashed g c = λ models parts held.
    hash_more c.hash_size.new.hasher parts (g.S.Source.content c.args.part.now) c.args.size
    (omega (arith, c.length.ensures.told models, c.if-length-size.false))
    (c.hash_size.ensures _ (c.in-Ok.ensures.hashed models _ held))
