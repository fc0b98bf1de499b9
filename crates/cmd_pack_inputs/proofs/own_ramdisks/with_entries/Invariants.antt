use Rattle.std.proofs.Common.{◌≡◌, map, take}
use Rattle.std.specs.Prelude.{IsTrue}
use Rattle.abt_sections.specs.Cause.{total}
use Rattle.cmd_pack_inputs.specs.Own.{bytes_behind, said_of}
use Rattle.cmd_common_boot.specs.Sources.{content_of, faults_of}
use Rattle.cmd_pack_inputs.proofs.own_ramdisks.with_entries.Given as goal

abbrev pub invariant-loop-entry : goal.invariant-loop-entry
invariant-loop-entry g l =
    let at = g.D.At.Source in
    let done = take l.entry-index l.entries in
    record {
      specs : l.ramdisks.specs.items ≡ map said_of done;
      bytes : IsTrue g.D.Disk.models → map (content_of at.content) l.ramdisks.sources.items
          ≡ map (bytes_behind (at.content l.own.source) l.front) done;
      unread : IsTrue g.D.Disk.models → total (faults_of at.read_faults) l.ramdisks.sources.items ≡ 0;
      held : IsTrue g.D.Disk.models → g.D.Disk.held l.disk ≡ g.D.Disk.held l.initial.disk;
      world : IsTrue g.D.Disk.models → g.D.Disk.world l.disk ≡ g.D.Disk.world l.initial.disk;
    }
