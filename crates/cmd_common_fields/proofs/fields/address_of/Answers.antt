use Rattle.std.proofs.Common.{ap, arith}
use Rattle.cmd_common_fields.specs.Loading.{most_address}
use Rattle.cmd_common_fields.proofs.fields.address_of.Goals as goal

pub returns-in-Dtb-clause-low : goal.returns-in-Dtb-clause-low
returns-in-Dtb-clause-low c = λ short. let w = ap most_address c.in-Dtb.is in omega (arith, w, short)
