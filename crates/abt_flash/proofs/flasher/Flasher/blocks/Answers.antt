use Rattle.abt_flash.proofs.flasher.Flasher.blocks.Goals as goal

pub returns : goal.returns
returns c = c.blocks_in.ensures
