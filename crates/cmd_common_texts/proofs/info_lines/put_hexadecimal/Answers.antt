use Rattle.std.proofs.Common.{◌-◌, length-set, ◌∙◌, arith}
use Rattle.cmd_common_texts.proofs.Digits.{all_to_come, before_digit, last_digit}
use Rattle.cmd_common_texts.proofs.info_lines.put_hexadecimal.Goals as goal

pub loop-first-init : goal.loop-first-init
loop-first-init c = record {
  room = omega arith;
  long = c.told-room;
  left = all_to_come c.args.room.now c.args.number c.told-room;
}

pub loop-first-preserved : goal.loop-first-preserved
loop-first-preserved c =
    let l = c.loop-first in
    record {
      room = omega arith;
      long = length-set l.room (l.first - 1) c.digit_of.result ∙ l.invariant.long;
      left = before_digit l.room l.first l.rest c.digit_of.result c.loop-first-test.true l.invariant.room
          l.invariant.long c.digit_of.ensures c.if-rest-eq0.false ∙ l.invariant.left;
    }

pub returns-then-rest-eq0 : goal.returns-then-rest-eq0
returns-then-rest-eq0 c =
    let l = c.loop-first in
    record {
      within = omega arith;
      digits = last_digit l.room l.first l.rest c.digit_of.result c.loop-first-test.true l.invariant.room
          l.invariant.long c.digit_of.ensures c.if-rest-eq0.true ∙ l.invariant.left;
    }
