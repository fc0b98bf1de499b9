use Rattle.std.proofs.Common.{subst, sym}
use Rattle.cmd_common_findings.specs.Places.{stands_at}
use Rattle.cmd_pack_inputs.specs.Own.{IsOpenOwn}
use Rattle.cmd_pack_inputs.proofs.Owns.{lies}
use Rattle.cmd_pack_inputs.proofs.own.own_part.Goals as goal

pub range_of-requires : goal.range_of-requires
range_of-requires g c = record {
  lies = λ told some. lies (stands_at c.args.section) _ _ c.in-Some-place_of.place
      (sym c.in-Some-place_of.ensures.value)
      (subst (IsOpenOwn g.D.At.Source.content) c.in-Some.is (c.requires told)).has.there some;
}
