use Rattle.std.proofs.Common.{subst}
use Rattle.cmd_unpack.specs.Lines.{ShowsEach}
use Rattle.sys_disk.specs.Among.{OnlyAmong}
use Rattle.sys_disk.specs.World.{KeepsFile, MayWrite}
use Rattle.cmd_unpack.specs.Unpacking.{IsPartOf, SyncsParts, Unpacks, path_of_part}
use Rattle.cmd_pack.specs.Repacking.{HoldsNoPartAgain, KeepsRead}
use Rattle.cmd_boot_dispatch.proofs.Clauses.{both}
use Rattle.cmd_boot_dispatch.proofs.command.boot_command.Goals as goal

pub returns-in-Pack-clause-spares : goal.returns-in-Pack-clause-spares
returns-in-Pack-clause-spares g c = λ t.
    let left = c.pack_file.ensures.left t in
    rw c.in-Pack.is (left.others, c.pack_file.ensures.inputs t, left.guarded)

pub returns-in-Pack-clause-whole : goal.returns-in-Pack-clause-whole
returns-in-Pack-clause-whole g c = λ t. rw c.in-Pack.is ((c.pack_file.ensures.left t).whole)

pub returns-in-Pack-clause-clean : goal.returns-in-Pack-clause-clean
returns-in-Pack-clause-clean g c = λ t. (c.pack_file.ensures.left t).clean

pub returns-in-Repack-clause-clean : goal.returns-in-Repack-clause-clean
returns-in-Repack-clause-clean g c = λ t. (c.repack_file.ensures.left t).clean

pub returns-in-Repack-clause-spares : goal.returns-in-Repack-clause-spares
returns-in-Repack-clause-spares g c = λ t.
    rw c.in-Repack.is (
      (c.repack_file.ensures.left t).others,
      subst (λ p. KeepsRead p c.in-Repack.command (g.D.Disk.world c.args.disk.now)
          (g.D.Disk.world c.repack_file.new.disk)) c.input_at.ensures (c.repack_file.ensures.inputs t),
      (c.repack_file.ensures.left t).guarded,
    )

pub returns-in-Repack-clause-whole : goal.returns-in-Repack-clause-whole
returns-in-Repack-clause-whole g c = λ t.
    rw c.in-Repack.is (λ over. subst (λ p. HoldsNoPartAgain p c.in-Repack.command (g.D.Disk.world c.args.disk.now)
    (g.D.Disk.world c.repack_file.new.disk)) c.input_at.ensures ((c.repack_file.ensures.left t).whole over))

pub returns-in-Unpack-clause-spares : goal.returns-in-Unpack-clause-spares
returns-in-Unpack-clause-spares g c = λ t.
    let a = g.D.Disk.world c.args.disk.now in
    let z = g.D.Disk.world c.unpack_file.new.disk in
    let h = g.D.Disk.held c.args.disk.now in
    let h' = g.D.Disk.held c.unpack_file.new.disk in
    rw c.in-Unpack.is (
      subst (λ p. OnlyAmong (λ path. IsPartOf p c.in-Unpack.folder.now c.in-Unpack.with_words a path × MayWrite path h)
          h.read h'.begun a z) c.input_at-in-Unpack.ensures (c.unpack_file.ensures.guarded t),
      subst (λ p. KeepsFile p a z) c.input_at-in-Unpack.ensures (c.unpack_file.ensures.keeps.input t),
    )

pub returns-in-Unpack-clause-done : goal.returns-in-Unpack-clause-done
returns-in-Unpack-clause-done g c = λ t.
    let a = g.D.Disk.world c.args.disk.now in
    let z = g.D.Disk.world c.unpack_file.new.disk in
    rw c.in-Unpack.is (both c.unpack_file.result _ _ _ (λ does synced. (
      subst (λ p. Unpacks p c.in-Unpack.folder.now c.in-Unpack.with_words a z
          (λ told. ShowsEach (λ part. g.D.Disk.on_output (path_of_part c.in-Unpack.folder.now part)) told
          c.args.report.now c.unpack_file.new.report)) c.input_at-in-Unpack.ensures does,
      subst (λ p. SyncsParts p c.in-Unpack.with_words a (g.D.Disk.held c.args.disk.now)
          (g.D.Disk.held c.unpack_file.new.disk)) c.input_at-in-Unpack.ensures synced,
    )) (c.unpack_file.ensures.done t) (c.unpack_file.ensures.synced t))
