use Rattle.cmd_pack_outputs.proofs.Images.{refusal_told}
use Rattle.cmd_pack_outputs.proofs.packing.refusal_of.Goals as goal

pub returns-in-Ok-clause-by_bytes : goal.returns-in-Ok-clause-by_bytes
returns-in-Ok-clause-by_bytes g c = λ t.
    refusal_told c.args.contents.now.kind c.args.contents.now.fields g.P.Source.size g.P.Source.content _ _ _ _
    c.in-Ok.refusal c.in-Ok.ensures c.as_slice-parts.ensures.value c.as_slice-sources.ensures.value
    (λ p. g.met.P.Source.sized p t)
