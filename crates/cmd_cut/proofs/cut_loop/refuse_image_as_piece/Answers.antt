use Rattle.std.proofs.Common.{◌≡◌, ◌+◌, sym, ap, ◌∙◌, subst, arith}
use Rattle.sys_disk.specs.Counts.{call_of, no_counts}
use Rattle.sys_disk.specs.World.{OpenFiles, counting}
use Rattle.sys_refusals.specs.Paths.{path_of}
use Rattle.cmd_common_sparse.specs.PieceNames.{naming_of}
use Rattle.cmd_cut.specs.Cutting.{path_in_turn}
use Rattle.cmd_cut.specs.Leaving.{AreFreeInTurn}
use Rattle.cmd_cut.proofs.CutCommands.{path_behind_of}
use Rattle.cmd_cut.proofs.Counted.{counting_none}
use Rattle.cmd_cut.proofs.Leavings.{free_more}
use Rattle.cmd_cut.proofs.cut_loop.refuse_image_as_piece.Goals as goal

pub loop-index-preserved : goal.loop-index-preserved
loop-index-preserved g c =
    let i = c.loop-index.invariant in
    let one = c.next-place.ensures.counted (omega (arith, i.counted)) in
    let path : path_of c.next-place.result ≡ path_in_turn (naming_of c.args.names) (c.loop-index.files.count + 1)
    = path_behind_of c.next-place.result c.args.names _ _ _ (c.loop-index.files.count + 1)
    c.next-place.ensures.folder c.next-place.ensures.number c.next-place.ensures.name c.next-place.ensures.begins
    i.named one in
    record {
      named = c.next-place.ensures.begins ∙ i.named;
      counted = omega (arith, one, i.counted);
      told = λ t.
          let k = i.told t in
          let looked = c.in-Ok-is_there.ensures.fails in
          let kept = looked.held t ∙ counting_none _ ∙ k.held in
          let still = looked.world t ∙ k.world in
          record {
            held = c.in-Ok-refuse_taken.ensures.held t ∙ counting_none _ ∙ kept;
            world = c.in-Ok-refuse_taken.ensures.world t ∙ still;
            free = subst (λ n. AreFreeInTurn (naming_of c.args.names) n (g.D.Disk.held c.args.disk.now)
                (g.D.Disk.world c.args.disk.now)) (sym one) (free_more (naming_of c.args.names)
                c.loop-index.files.count (path_of c.next-place.result) (g.D.Disk.held c.args.disk.now)
                (g.D.Disk.world c.args.disk.now) path k.free
                (rw (kept, still) at (c.in-Ok-refuse_taken.ensures.free t)));
          };
    }

pub returns-in-Err-refuse_taken-clause-keeps : goal.returns-in-Err-refuse_taken-clause-keeps
returns-in-Err-refuse_taken-clause-keeps g c = λ t.
    let k = c.loop-index.invariant.told t in
    let looked = c.in-Ok-is_there.ensures.fails in
    let taken = c.in-Err-refuse_taken.ensures in
    record {
      fails = record {
        failures = call_of c.in-Err-refuse_taken.refusal.fault;
        same = taken.held t ∙ ap (λ (h : OpenFiles). counting (call_of c.in-Err-refuse_taken.refusal.fault) h)
            (looked.held t ∙ counting_none _ ∙ k.held);
      };
      world = taken.world t ∙ looked.world t ∙ k.world;
    }

-- all names were looked at

pub returns-clause-keeps : goal.returns-clause-keeps
returns-clause-keeps g c = λ t.
    let k = c.loop-index.invariant.told t in
    record {
      fails = record { failures = no_counts; same = k.held ∙ sym (counting_none (g.D.Disk.held c.args.disk.now)) };
      world = k.world;
    }
