use Rattle.cmd_sparse_dispatch.proofs.Inputs.{guarded_at, kept_at, spared_at, whole_at}
use Rattle.cmd_sparse_dispatch.proofs.commands.sparsify.Goals as goal

pub returns-clause-leaves : goal.returns-clause-leaves
returns-clause-leaves g c = λ t.
    let a = g.D.Disk.world c.args.disk.now in
    let z = g.D.Disk.world c.sparse_file.new.disk in
    let left = c.sparse_file.ensures.left t in
    record {
      spares = (
        spared_at _ _ _ a z c.place-2.ensures.written left.others,
        kept_at _ _ a z c.place.ensures.at left.input,
        guarded_at _ _ (g.D.Disk.held c.args.disk.now) a z c.place-2.ensures.written left.guarded,
      );
      clean = left.clean;
    }

pub returns-clause-whole : goal.returns-clause-whole
returns-clause-whole g c = λ t.
    whole_at g.D.Disk.is_over _ _ _ _ c.args.as_img2simg c.args.block (g.D.Disk.world c.args.disk.now)
    (g.D.Disk.world c.sparse_file.new.disk) c.place.ensures.at c.place-2.ensures.written
    (c.sparse_file.ensures.left t).whole
