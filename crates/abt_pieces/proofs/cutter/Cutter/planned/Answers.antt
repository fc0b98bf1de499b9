use Rattle.abt_pieces.proofs.cutter.Cutter.planned.Goals as goal

pub returns-clause-exact : goal.returns-clause-exact
returns-clause-exact g c = rw (c.blocks-count.ensures, c.block_size-size.ensures) at c.outlined-outline.ensures.exact
