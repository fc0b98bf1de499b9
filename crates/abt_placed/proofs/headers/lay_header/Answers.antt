use Rattle.std.proofs.Common.{◌+◌, ◌∙◌, ap, length, take, drop, arith}
use Rattle.abt_placed.proofs.Refusing.{keeps_before, unfinished_by, four_zeros, four_kept, magic_last, header_laid}
use Rattle.abt_placed.proofs.Refusing.{header_parts}
use Rattle.abt_placed.proofs.Onward.{onward, at_most, laid_over}
use Rattle.abt_placed.proofs.headers.lay_header.Goals as goal

-- what the magic number is before is not written
pub returns-in-Err : goal.returns-in-Err
returns-in-Err g c =
    let at = c.args.at in
    let a = c.write_over_all.ensures in
    let e = c.in-Err.ensures in
    let w = g.O.Output.written c.args.output.now in
    let w' = g.O.Output.written c.write_over_all.new.output in
    let long = header_parts c.image_header-bytes.result (ap length c.image_header-bytes.ensures) in
    record {
      ok = tt;
      unfinished = unfinished_by 4 (drop at w') (omega arith)
          (four_kept at w w' a.before (four_zeros at w c.requires.zeros));
      over = record {
        before = (keeps_before at (at + 4) w w' (omega arith) a.before a.long).front;
        long = a.long;
        failed = e.failed;
        writes = at_most (laid_over g.O.Output c.args.output.now c.write_over_all.new.output c.args.m.now
            c.write_over_all.new.m _ 24 long.0 a.long e.writes e.cause e.failed a.calls a.turns a.no_step)
            (omega arith) (omega arith);
      };
    }

-- the header is written
pub returns-in-Ok-write_over_all : goal.returns-in-Ok-write_over_all
returns-in-Ok-write_over_all g c =
    let at = c.args.at in
    let a = c.write_over_all.ensures in
    let b = c.write_over_all-2.ensures in
    let all = c.in-Ok.ensures in
    let e = c.in-Ok-write_over_all.ensures in
    let h = c.image_header-bytes.result in
    let w = g.O.Output.written c.args.output.now in
    let w' = g.O.Output.written c.write_over_all.new.output in
    let w'' = g.O.Output.written c.write_over_all-2.new.output in
    let long = header_parts h (ap length c.image_header-bytes.ensures) in
    record {
      ok = header_laid w w' w'' h _ at c.image_header-bytes.ensures
          (ap length c.image_header-bytes.ensures) c.requires.stands all.ok e.ok;
      unfinished = tt;
      over = record {
        before = b.before ∙ (keeps_before at (at + 4) w w' (omega arith) a.before a.long).front;
        long = b.long ∙ a.long;
        failed = tt;
        writes = onward {X = Unit {0}} {x = tt}
            (laid_over g.O.Output c.args.output.now c.write_over_all.new.output c.args.m.now c.write_over_all.new.m _
            24 long.0 a.long all.writes all.cause all.failed a.calls a.turns a.no_step)
            (laid_over g.O.Output c.write_over_all.new.output c.write_over_all-2.new.output c.write_over_all.new.m
            c.write_over_all-2.new.m _ 4 long.1 b.long e.writes e.cause e.failed b.calls b.turns b.no_step);
      };
    }

-- the magic number is not written, or not all of it
pub returns-in-Err-write_over_all : goal.returns-in-Err-write_over_all
returns-in-Err-write_over_all g c =
    let at = c.args.at in
    let a = c.write_over_all.ensures in
    let b = c.write_over_all-2.ensures in
    let all = c.in-Ok.ensures in
    let e = c.in-Err-write_over_all.ensures in
    let f = e.front in
    let h = c.image_header-bytes.result in
    let w = g.O.Output.written c.args.output.now in
    let w' = g.O.Output.written c.write_over_all.new.output in
    let w'' = g.O.Output.written c.write_over_all-2.new.output in
    let long = header_parts h (ap length c.image_header-bytes.ensures) in
    record {
      ok = tt;
      unfinished = magic_last w' w'' (take 4 h) at f.count (ap (take 4) c.image_header-bytes.ensures) f.short
          (omega (arith, a.long)) (four_kept at w w' a.before (four_zeros at w c.requires.zeros)) f.written;
      over = record {
        before = b.before ∙ (keeps_before at (at + 4) w w' (omega arith) a.before a.long).front;
        long = b.long ∙ a.long;
        failed = e.failed;
        writes = onward {X = Unit {0}} {x = tt}
            (laid_over g.O.Output c.args.output.now c.write_over_all.new.output c.args.m.now c.write_over_all.new.m _
            24 long.0 a.long all.writes all.cause all.failed a.calls a.turns a.no_step)
            (laid_over g.O.Output c.write_over_all.new.output c.write_over_all-2.new.output c.write_over_all.new.m
            c.write_over_all-2.new.m _ 4 long.1 b.long e.writes e.cause e.failed b.calls b.turns b.no_step);
      };
    }
