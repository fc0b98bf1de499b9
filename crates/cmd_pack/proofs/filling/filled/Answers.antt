use Rattle.cmd_common_boot.specs.Sources.{content_of}
use Rattle.cmd_pack.proofs.Fillings.{loaded_as}
use Rattle.cmd_pack.proofs.filling.filled.Goals as goal

pub returns-clause-loaded : goal.returns-clause-loaded
returns-clause-loaded g c = λ t.
    loaded_as (content_of g.S.Source.content) c.args.kind _ _ _ _ _ _ _ _ c.counts_ramdisk-of_ramdisk.ensures
    c.counts_second-of_second.ensures c.as_slice.ensures.value (c.loaded.ensures.loaded t)
