use Rattle.std.proofs.Common.{◌∙◌, ap, length, refl}
use Rattle.std.specs.Prelude.{[]}
use Rattle.cmd_pack_inputs.specs.Own.{IsOwnPart}
use Rattle.cmd_pack_inputs.specs.Parts.{IsPartInput}
use Rattle.cmd_common_boot.specs.Sources.{content_of, faults_of}
use Rattle.cmd_pack_inputs.proofs.Gathered.{no_paths, none_at_all, none_read, one_longer, parts_all, parts_none}
use Rattle.cmd_pack_inputs.proofs.Gathered.{parts_so_far, paths_all, paths_so_far, row_stops}
use Rattle.cmd_pack_inputs.proofs.Openings.{only_counting, only_more, only_then, opens_none, stops_lacking}
use Rattle.cmd_pack_inputs.proofs.parts.open_parts.Goals as goal

pub loop-row-init : goal.loop-row-init
loop-row-init g c = (
  ap length c.new-parts.ensures.items,
  λ t. (
    parts_none (content_of g.D.At.Source.content) (g.D.Disk.world c.args.disk.now) c.args.texts.now.options.items
        (IsOwnPart g.D.At.Source.content c.args.own) c.new-parts.result.items c.new-parts.ensures.items,
    none_at_all (faults_of g.D.At.Source.read_faults) c.new-parts.result.items c.new-parts.ensures.items,
    opens_none (IsPartInput c.args.texts.now.options.items []) _ _ _ refl (no_paths c.args.texts.now.options.items),
    refl,
  ),
)

pub loop-row-preserved : goal.loop-row-preserved
loop-row-preserved g c = (
  one_longer c.loop-row.parts.items c.push.new.list.items c.in-Ok.part _ c.in-Ok-push.ensures.items
      c.loop-row.invariant.0,
  λ t.
      let i = c.loop-row.invariant.1 t in (
        parts_so_far (content_of g.D.At.Source.content) (g.D.Disk.world c.args.disk.now)
            (g.D.Disk.world c.loop-row.disk)
            c.args.texts.now.options.items (IsOwnPart g.D.At.Source.content c.args.own) c.rows_of-rows.result.now
            c.loop-row.row-index _ c.loop-row.parts.items c.push.new.list.items c.in-Ok.part c.loop-row-test.true
            c.rows_of-rows.ensures.options c.in-Ok-push.ensures.items i.3 i.0 (c.in-Ok.ensures.part t),
        none_read (faults_of g.D.At.Source.read_faults) c.loop-row.parts.items c.push.new.list.items c.in-Ok.part
            c.in-Ok-push.ensures.items i.1 (c.in-Ok.ensures.opens.unread t),
        paths_so_far (g.D.Disk.world c.args.disk.now) (g.D.Disk.world c.loop-row.disk) c.args.texts.now.options.items
            c.rows_of-rows.result.now c.loop-row.row-index _ _ _ _ c.loop-row-test.true c.rows_of-rows.ensures.options
            i.3
            i.2 (c.in-Ok.ensures.opens.opened t),
        (c.open_part.ensures.opens.keeps t).world ∙ i.3,
      ),
)

pub returns-in-Err : goal.returns-in-Err
returns-in-Err g c = record {
  counted = tt;
  parts = λ t. tt;
  opens = record {
    unread = λ t. tt;
    opened = λ t. tt;
    refused = λ t.
        row_stops (g.D.Disk.world c.args.disk.now) c.args.texts.now.options.items c.rows_of-rows.result.now
        c.loop-row.row-index _ _ _ _ _ c.in-Err.refusal.fault c.loop-row-test.true c.rows_of-rows.ensures.options
        c.rows_of-rows.ensures.sections (c.loop-row.invariant.1 t).2 (c.in-Err.ensures.opens.refused t);
    keeps = λ t. let i = c.loop-row.invariant.1 t in only_then (only_more i.2 i.3) (c.in-Err.ensures.opens.keeps t);
  };
}

pub returns-in-Err-push : goal.returns-in-Err-push
returns-in-Err-push g c = record {
  counted = tt;
  parts = λ t. tt;
  opens = record {
    unread = λ t. tt;
    opened = λ t. tt;
    refused = λ t.
        row_stops (g.D.Disk.world c.args.disk.now) c.args.texts.now.options.items c.rows_of-rows.result.now
        c.loop-row.row-index _ _ _ _ _ c.memory.result.fault c.loop-row-test.true c.rows_of-rows.ensures.options
        c.rows_of-rows.ensures.sections (c.loop-row.invariant.1 t).2
        (stops_lacking _ _ _ _ _ c.memory.result.fault (c.in-Ok.ensures.opens.opened t) c.memory.ensures
        (c.no_memory.ensures.held t));
    keeps = λ t.
        let i = c.loop-row.invariant.1 t in
        only_then (only_then (only_more i.2 i.3) (c.in-Ok.ensures.opens.keeps t)) (only_counting c.no_memory.ensures t);
  };
}

pub returns-clause-parts : goal.returns-clause-parts
returns-clause-parts g c = λ t.
    parts_all _ _ (IsOwnPart g.D.At.Source.content c.args.own) c.rows_of-rows.result.now c.loop-row.row-index _ _
    c.loop-row-test.false c.rows_of-rows.ensures.sections (c.loop-row.invariant.1 t).0

pub returns-clause-opens : goal.returns-clause-opens
returns-clause-opens g c = record {
  unread = λ t. (c.loop-row.invariant.1 t).1;
  opened = λ t.
      paths_all _ _ c.rows_of-rows.result.now c.loop-row.row-index _ _ _ c.loop-row-test.false
      c.rows_of-rows.ensures.sections (c.loop-row.invariant.1 t).2;
  refused = λ t. tt;
  keeps = λ t. let i = c.loop-row.invariant.1 t in only_more i.2 i.3;
}
