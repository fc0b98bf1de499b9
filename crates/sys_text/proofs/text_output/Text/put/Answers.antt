use Rattle.std.proofs.Common.{◌-◌, [], length, take, drop, refl, arith}
use Rattle.abt_io.proofs.Parts.{written_on, length_rest}
use Rattle.sys_text.proofs.Printing.{both_printed, printed_as, printed_none}
use Rattle.sys_text.proofs.text_output.Text.put.Goals as goal

pub loop-at-preserved : goal.loop-at-preserved
loop-at-preserved g c =
    let o = g.O.Output.written in
    let faults = g.O.Output.write_faults in
    let bytes = c.args.bytes.now in
    let at = c.loop-at.at in
    let n = c.put_some-at.result in
    let left = length_rest at bytes in
    record {
      within = omega arith;
      prints = printed_as o faults _ _ _ _ (written_on [] (take at bytes) _ bytes at n refl refl)
          (both_printed o faults c.args.self.now c.loop-at.self c.put_some-at.new.self (take at bytes)
          (take n (take (length bytes - at) (drop at bytes))) c.loop-at.invariant.prints
          c.put_some-at.ensures.prints);
    }

pub loop-at-init : goal.loop-at-init
loop-at-init g c = record {
  within = omega arith;
  prints = printed_none g.O.Output.written g.O.Output.write_faults c.args.self.now;
}
