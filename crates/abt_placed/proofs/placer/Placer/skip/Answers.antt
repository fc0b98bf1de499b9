use Rattle.std.proofs.Common.{◌<◌, [], arith}
use Rattle.abt_placed.proofs.Numbers.{sound_skipped}
use Rattle.abt_placed.proofs.Laying.{skipped_placed}
use Rattle.abt_runs.specs.declared.part.RunKind.TheVariants as kinds
use Rattle.abt_placed.proofs.Parts.{part_passed, begun_within}
use Rattle.abt_placed.proofs.placer.Placer.skip.Goals as goal

pub returns-clause-goes : goal.returns-clause-goes
returns-clause-goes g c =
    let b = c.args.size in
    let s = c.args.self.now in
    let k = c.begin_chunk.ensures in
    let h = c.requires.can.sound in
    let some : 0 < c.args.blocks = omega (arith, c.if-blocks-eq0.false) in
    let passed = part_passed b _ c.args.blocks s c.and_blocks.result kinds.Skip h c.and_blocks.ensures in
    record {
      kept = k.kept;
      sound = sound_skipped b c.args.blocks (g.O.Output.written c.args.output.now)
          (g.O.Output.written c.begin_chunk.new.output) s c.and_blocks.result some k.within h c.and_blocks.ensures
          c.in-Ok.ensures.written;
      passed = passed.0;
      same = passed.1;
      writes = c.in-Ok.ensures.writes;
      within = begun_within b c.args.blocks _ _ _ [] s kinds.Skip h (λ raw. absurd cc) some k.within (omega arith);
    }

pub returns-clause-laid : goal.returns-clause-laid
returns-clause-laid g c blocks placed =
    skipped_placed c.args.size c.args.blocks blocks (g.O.Output.written c.args.output.now)
    (g.O.Output.written c.begin_chunk.new.output) c.args.self.now c.and_blocks.result
    (omega (arith, c.if-blocks-eq0.false)) c.requires.can.sound c.and_blocks.ensures c.in-Ok.ensures.written placed
