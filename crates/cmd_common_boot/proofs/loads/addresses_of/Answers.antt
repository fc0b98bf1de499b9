use Rattle.cmd_common_fields.specs.declared.fields.Address.TheVariants.{Dtb}
use Rattle.cmd_common_boot.proofs.loads.addresses_of.Goals as goal

pub returns-in-Err-clause-wrong : goal.returns-in-Err-clause-wrong
returns-in-Err-clause-wrong c = record {
  which = Dtb;
  no_room = c.in-Err.ensures.says.no_room;
  told = c.in-Err.ensures.says.told;
}
