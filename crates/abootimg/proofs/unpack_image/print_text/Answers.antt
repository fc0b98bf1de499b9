use Rattle.abootimg.proofs.Unpacks.{text_from}
use Rattle.abootimg.proofs.unpack_image.print_text.Goals as goal

pub returns : goal.returns
returns g c = λ t. text_from c.args.image _ _ _ _ (g.S.Disk.Disk.held c.disk-disk.result)
    (g.S.Disk.Disk.held c.print_on-status.new.disk) _ _ _ (c.disk-disk.ensures.world t) (c.disk-disk.ensures.in_use t)
    (c.disk-disk.ensures.counts t) (c.print_on-status.ensures t) (c.give_back.ensures t)
