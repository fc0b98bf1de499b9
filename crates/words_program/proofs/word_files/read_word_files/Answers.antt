use Rattle.std.proofs.Common.{map, refl, ap, ◌∙◌}
use Rattle.std.specs.Prelude.{string_bytes}
use Rattle.std.proofs.lemmas.List.{take_all}
use Rattle.words_program.proofs.WordFiles.{fails_behind, reads_all, reads_nothing, reads_turn, still_reading}
use Rattle.words_program.proofs.word_files.read_word_files.Goals as goal

pub loop-word-init : goal.loop-word-init
loop-word-init g c = record {
  texts = λ t. reads_nothing _ _ _ (ap (map string_bytes) c.new-texts.ensures.items);
  world = λ t. refl;
}

pub loop-word-preserved : goal.loop-word-preserved
loop-word-preserved g c =
    let i = c.loop-word.invariant in
    record {
      texts = λ t. reads_turn string_bytes c.args.words.now c.loop-word.word-index _ _ _ _ _ _ _ _ _
          c.loop-word-test.true (c.as_str.ensures.value ∙ ap string_bytes c.word-item.is)
          (i.world t) (i.texts t) (c.in-Ok.ensures.texts t);
      world = λ t. c.read_next.ensures.world t ∙ i.world t;
    }

pub read_next-requires : goal.read_next-requires
read_next-requires g c = record {
  first = λ t. still_reading _ _ _ _ _ (c.loop-word.invariant.texts t) (c.requires.first t);
}

pub returns-in-Err-clause-refused : goal.returns-in-Err-clause-refused
returns-in-Err-clause-refused g c = λ t.
    fails_behind _ _ _ (g.D.Disk.held c.args.disk.now) (g.D.Disk.held c.loop-word.disk)
    (g.D.Disk.held c.read_next.new.disk) _ _ (c.loop-word.invariant.texts t) (c.in-Err.ensures.refused t)

pub returns-clause-texts : goal.returns-clause-texts
returns-clause-texts g c = λ t.
    reads_all string_bytes c.args.words.now c.loop-word.word-index _ _ _ _ (c.loop-word.invariant.texts t)
    (take_all _ _ c.loop-word-test.false)
