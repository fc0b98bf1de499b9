use Rattle.std.proofs.Common.{rules, ◌≡◌, length, replicate, arith}
use Rattle.mem_devices.proofs.Tracked.{torn_of}
use Rattle.mem_devices.proofs.marred.MarredPartition.write_at.Goals as goal

pub returns-then-self-at-clause-torn : goal.returns-then-self-at-clause-torn
returns-then-self-at-clause-torn g c = λ models fresh near far same.
    let e = c.write_at.ensures.laid in
    let p = c.write_at.ensures.put in
    let laid : c.part.result.now ≡ replicate (length c.args.bytes.now) c.args.self.now.mark = search rules in
    torn_of c.args.self.now.mark c.args.at (length c.args.bytes.now) _ _
    c.write_at.result c.part.result.now _ _ laid p.within p.progress (e.written models) p.cause
    (omega (arith, near, far)) same
