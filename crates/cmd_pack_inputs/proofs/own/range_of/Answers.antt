use Rattle.std.proofs.Common.{ap, arith, length, rules}
use Rattle.cmd_pack_inputs.proofs.own.range_of.Goals as goal

pub range-requires : goal.range-requires
range-requires g c = λ told.
    let same = ap length (c.in-Ok.ensures.content told) in
    let within = c.requires.lies told (search (rules, arith)) in
    omega (arith, same, within)
