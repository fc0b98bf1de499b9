use Rattle.std.proofs.Common.{[], ◌∙◌, refl}
use Rattle.cmd_pack_inputs.specs.Parts.{IsFragmentInput}
use Rattle.cmd_common_boot.specs.Sources.{content_of, faults_of}
use Rattle.cmd_pack_inputs.proofs.Gathered.{file_stops, files_all, files_so_far, fragments_all, fragments_none}
use Rattle.cmd_pack_inputs.proofs.Gathered.{fragments_so_far, no_fragments, none_at_all}
use Rattle.cmd_pack_inputs.proofs.Openings.{only_more, only_then, opens_none}
use Rattle.cmd_pack_inputs.proofs.ramdisks.open_fragments.Goals as goal

pub loop-fragment-init : goal.loop-fragment-init
loop-fragment-init g c = λ t. (
  fragments_none (content_of g.D.At.Source.content) (g.D.Disk.world c.args.disk.now) c.new-ramdisks.result.specs.items
      c.new-ramdisks.result.sources.items c.new-ramdisks.ensures.specs c.new-ramdisks.ensures.sources,
  none_at_all (faults_of g.D.At.Source.read_faults) c.new-ramdisks.result.sources.items c.new-ramdisks.ensures.sources,
  opens_none (IsFragmentInput []) _ _ _ refl no_fragments,
  refl,
)

pub loop-fragment-preserved : goal.loop-fragment-preserved
loop-fragment-preserved g c = λ t.
    let i = c.loop-fragment.invariant t in (
      fragments_so_far _ _ c.args.texts.now.fragments.items c.deref-fragment-items.result.now
          c.loop-fragment.fragment-index c.fragment-item.result _ _ _ _ c.deref-fragment-items.ensures.value
          c.loop-fragment-test.true c.fragment-item.is i.3 i.0 (c.in-Ok.ensures.added t),
      c.in-Ok.ensures.opens.unread t ∙ i.1,
      files_so_far _ _ c.args.texts.now.fragments.items c.deref-fragment-items.result.now
          c.loop-fragment.fragment-index c.fragment-item.result _ _ _ c.deref-fragment-items.ensures.value
          c.loop-fragment-test.true c.fragment-item.is i.3 i.2 (c.in-Ok.ensures.opens.opened t),
      (c.with_file.ensures.opens.keeps t).world ∙ i.3,
    )

pub returns-in-Err : goal.returns-in-Err
returns-in-Err g c = record {
  fragments = λ t. tt;
  opens = record {
    unread = λ t. tt;
    opened = λ t. tt;
    refused = λ t.
        file_stops _ c.args.texts.now.fragments.items c.deref-fragment-items.result.now c.loop-fragment.fragment-index
        c.fragment-item.result _ _ _ c.in-Err.refusal.fault c.deref-fragment-items.ensures.value
        c.loop-fragment-test.true
        c.fragment-item.is (c.loop-fragment.invariant t).2 (c.in-Err.ensures.opens.refused t);
    keeps = λ t. let i = c.loop-fragment.invariant t in only_then (only_more i.2 i.3) (c.in-Err.ensures.opens.keeps t);
  };
}

pub returns : goal.returns
returns g c = record {
  fragments = λ t.
      fragments_all _ c.args.texts.now.fragments.items c.deref-fragment-items.result.now c.loop-fragment.fragment-index
      _ _ c.deref-fragment-items.ensures.value c.loop-fragment-test.false (c.loop-fragment.invariant t).0;
  opens = record {
    unread = λ t. (c.loop-fragment.invariant t).1;
    opened = λ t.
        files_all _ c.args.texts.now.fragments.items c.deref-fragment-items.result.now c.loop-fragment.fragment-index _
        _
        c.deref-fragment-items.ensures.value c.loop-fragment-test.false (c.loop-fragment.invariant t).2;
    refused = λ t. tt;
    keeps = λ t. let i = c.loop-fragment.invariant t in only_more i.2 i.3;
  };
}
