use Rattle.std.proofs.Common.{◌≡◌, ◌≤◌, length, rules, ◌∙◌, ap}
use Rattle.sys_text.proofs.Holding.{held_by}
use Rattle.sys_text.proofs.held.TextBufferWrite.write_str.Goals as goal

pub returns : goal.returns
returns c = record {
  ok = λ _.
      let old = c.args.self.now in
      let long : length old.bytes ≡ 8192 = search rules in
      let fits : old.used ≤ 8192 = search rules in
      rw c.as_bytes.ensures.value at (held_by old.bytes old.used c.as_bytes.result.now c.put.new.self.bytes
      c.put.new.self.used c.put.result long fits c.put.ensures.count c.put.ensures.text);
}
