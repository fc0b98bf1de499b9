use Rattle.std.proofs.Common.{◌∙◌, [], arith, rules}
use Rattle.abt_headers.specs.declared.entry.RamdiskEntry.{RamdiskEntry}
use Rattle.cmd_pack_inputs.specs.Own.{bytes_behind, said_of}
use Rattle.cmd_pack_inputs.proofs.Owns.{map_more}
use Rattle.cmd_pack_inputs.proofs.own_ramdisks.with_entries.Goals as goal

no_entry : RamdiskEntry
no_entry = record { ramdisk_size = 0; ramdisk_offset = 0; ramdisk_type = 0; name = []; board_id = [] }

pub loop-entry-preserved : goal.loop-entry-preserved
unfolding no_entry
loop-entry-preserved g c =
    let at = g.D.At.Source in
    let i = c.loop-entry.invariant in
    let made = c.in-Ok.ensures in
    record {
      specs = map_more said_of _ _ c.args.entries.now c.loop-entry.entry-index no_entry (search (rules, arith)) i.specs
          made.specs;
      bytes = λ t. map_more (bytes_behind (at.content c.args.own.now.source) c.args.front) _ _ c.args.entries.now
          c.loop-entry.entry-index no_entry (search (rules, arith)) (i.bytes t) (made.bytes t);
      unread = λ t. made.opens.unread t ∙ i.unread t;
      held = λ t. made.opens.held t ∙ i.held t;
      world = λ t. (made.opens.keeps t).world ∙ i.world t;
    }
