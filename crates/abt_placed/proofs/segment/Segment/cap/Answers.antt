use Rattle.std.proofs.Common.{◌-◌, arith}
use Rattle.abt_placed.proofs.Numbers.{room_most}
use Rattle.abt_placed.proofs.Segments.{cap_wide}
use Rattle.abt_placed.proofs.segment.Segment.cap.Goals as goal

pub returns-then-room-clause-cap : goal.returns-then-room-clause-cap
returns-then-room-clause-cap c =
    let s = c.args.self.now in
    let le = room_most s.placer c.room-most.result (omega (arith, c.room-most.ensures.is)) in
    cap_wide s.placer.kind c.room-most.result s.placer.most (s.limit - s.weight) c.args.size
    (omega (arith, c.requires.some)) c.requires.small (omega (arith, c.if-room.true)) le
