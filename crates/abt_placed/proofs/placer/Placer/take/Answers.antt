use Rattle.std.proofs.Common.{◌≡◌, ◌∙◌, ap, arith, refl, List, ℕ, ◌++◌}
use Rattle.abt_placed.specs.Placer.{beginning, data_for, taking}
use Rattle.abt_placed.proofs.Numbers.{sound_taken}
use Rattle.abt_placed.proofs.Laying.{taken_placed}
use Rattle.abt_placed.proofs.Parts.{data_long, begun_within, part_passed}
use Rattle.abt_placed.proofs.Refusing.{keeps_less, keeps_then}
use Rattle.abt_placed.proofs.Onward.{onward, fails}
use Rattle.abt_placed.proofs.placer.Placer.take.Goals as goal

-- the class's chunk is not begun
pub returns-in-Err : goal.returns-in-Err
returns-in-Err g c =
    let s = c.args.self.now in
    let h = c.requires.can.sound in
    let k = c.begin_chunk.ensures in
    let e = c.in-Err.ensures in
    record {
      ok = tt;
      goes = record {
        kept = k.kept;
        sound = tt;
        passed = tt;
        same = (refl, refl);
        writes = fails e.writes (omega arith) (omega arith);
        within = begun_within c.args.size c.args.blocks _ _ _ c.args.bytes.now s c.args.kind h
            (λ _. c.requires.part.bytes) c.requires.part.some k.within (omega arith);
      };
      laid = λ blocks p all placed. tt;
      adds = omega (arith, e.adds);
    }

-- the bytes are not written
pub returns-in-Err-put_data : goal.returns-in-Err-put_data
returns-in-Err-put_data g c =
    let s = c.args.self.now in
    let h = c.requires.can.sound in
    let k = c.begin_chunk.ensures in
    let all = c.in-Ok.ensures in
    let d = c.put_data.ensures in
    let e = c.in-Err-put_data.ensures in
    let w = g.O.Output.written c.begin_chunk.new.output in
    let long = data_long c.args.kind c.args.blocks c.args.size c.args.bytes.now c.requires.part.bytes in
    record {
      ok = tt;
      goes = record {
        kept = keeps_then _ _ w _ k.kept (keeps_less _ _ w _ (omega (arith, h.room, k.writes.grown)) d.kept);
        sound = tt;
        passed = tt;
        same = (refl, refl);
        writes = onward all.writes e.writes;
        within = begun_within c.args.size c.args.blocks _ _ _ c.args.bytes.now s c.args.kind h
            (λ _. c.requires.part.bytes) c.requires.part.some k.within d.within;
      };
      laid = λ blocks p all placed. tt;
      adds = omega (arith, long, all.adds, e.adds);
    }

-- the blocks are taken
pub returns : goal.returns
returns g c =
    let s = c.args.self.now in
    let h = c.requires.can.sound in
    let b = c.args.size in
    let x = c.args.bytes.now in
    let t = c.and_blocks.result in
    let k = c.begin_chunk.ensures in
    let begun = c.in-Ok.ensures in
    let d = c.put_data.ensures in
    let e = c.in-Ok-put_data.ensures in
    let old = g.O.Output.written c.args.output.now in
    let w = g.O.Output.written c.begin_chunk.new.output in
    let new = g.O.Output.written c.put_data.new.output in
    let long = data_long c.args.kind c.args.blocks b x c.requires.part.bytes in
    let made : new ≡ taking s c.args.kind b x old = e.written
    ∙ ap (λ (l : List ℕ). l ++ data_for c.args.kind x) {y = beginning s c.args.kind b old} begun.written in
    let passed = part_passed b _ c.args.blocks s t c.args.kind h c.and_blocks.ensures in
    record {
      ok = c.and_blocks.ensures;
      goes = record {
        kept = keeps_then _ _ w _ k.kept (keeps_less _ _ w _ (omega (arith, h.room, k.writes.grown)) d.kept);
        sound = sound_taken b c.args.blocks old w new x s t c.args.kind c.requires.part.some c.requires.part.goes
            c.requires.cap c.requires.part.bytes k.within h c.and_blocks.ensures begun.written e.written;
        passed = passed.0;
        same = passed.1;
        writes = onward begun.writes e.writes;
        within = begun_within b c.args.blocks _ _ _ x s c.args.kind h (λ _. c.requires.part.bytes)
            c.requires.part.some k.within d.within;
      };
      laid = λ blocks p all placed. taken_placed b p blocks old new x s t c.args.kind c.args.blocks
          c.requires.part.some c.requires.part.words c.requires.part.bytes all h c.and_blocks.ensures made placed;
      adds = omega (arith, long, begun.adds, e.adds);
    }
