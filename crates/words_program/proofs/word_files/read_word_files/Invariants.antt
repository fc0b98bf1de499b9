use Rattle.std.proofs.Common.{◌≡◌, map, take}
use Rattle.std.specs.Prelude.{IsTrue, string_bytes}
use Rattle.words_program.specs.WordFiles.{ReadsWordFiles}
use Rattle.words_program.proofs.word_files.read_word_files.Given as goal

abbrev pub invariant-loop-word : goal.invariant-loop-word
invariant-loop-word g l = record {
  texts : IsTrue g.D.Disk.models → ReadsWordFiles (map string_bytes (take l.word-index l.words))
      (map string_bytes l.texts.items) (g.D.Disk.world l.initial.disk) (g.D.Disk.held l.initial.disk)
      (g.D.Disk.held l.disk);
  world : IsTrue g.D.Disk.models → g.D.Disk.world l.disk ≡ g.D.Disk.world l.initial.disk;
}
