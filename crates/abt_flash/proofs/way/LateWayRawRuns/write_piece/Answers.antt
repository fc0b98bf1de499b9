use Rattle.std.proofs.Common.{◌+◌, arith}
use Rattle.abt_flash.proofs.Ways.{late_takes, late_words, passes_on}
use Rattle.abt_flash.proofs.way.LateWayRawRuns.write_piece.Goals as goal
use Rattle.abt_io.proofs.Lent.{reads_err, reads_ok, writes_ok, writes_err}

pub returns-in-Err-clause-costs : goal.returns-in-Err-clause-costs
returns-in-Err-clause-costs g c =
    let e = c.next_piece_at.ensures in
    record {
      given = e.costs.given;
      steps = e.costs.steps;
      greatest = e.costs.greatest;
      calls = omega (arith, e.work.calls, e.costs.given, e.grows.grown);
      turns = omega (arith, e.work.turns, e.costs.given, e.grows.grown);
    }

pub returns-in-Ok-Some-clause-costs : goal.returns-in-Ok-Some-clause-costs
returns-in-Ok-Some-clause-costs g c =
    let e = c.next_piece_at.ensures in
    record {
      given = e.costs.given;
      steps = e.costs.steps;
      greatest = e.costs.greatest;
      calls = omega (arith, e.work.calls, e.costs.given, e.grows.grown);
      turns = omega (arith, e.work.turns, e.costs.given, e.grows.grown);
    }

pub returns-in-Ok-Some-clause-made : goal.returns-in-Ok-Some-clause-made
returns-in-Ok-Some-clause-made g c = record {
  image = (rw c.in-Ok-Some.field-0-is at c.in-Ok-Some.ensures.made).image;
  piece = (rw c.in-Ok-Some.field-0-is at c.in-Ok-Some.ensures.made).piece;
  words =
      let e = c.next_piece_at.ensures in
      let going = (rw c.in-Ok-Some.field-0-is at c.in-Ok-Some.ensures.made).going_turns in
      late_words _ _ c.args.cutter.now.runs.size c.args.cutter.now.runs.blocks c.in-Ok-Some.piece.past
      (omega (arith, e.work.turns, e.costs.given, e.grows.grown)) (λ lt. let h = going lt in
      omega (arith, h, e.costs.given, e.grows.grown));
  takes =
      let o = c.in-Ok-Some.ensures in
      let made = rw c.in-Ok-Some.field-0-is at o.made in
      let p = made.piece in
      let long = made.long in
      let within = c.args.cutter.now.sound.within.within in
      let takes = made.takes in
      late_takes _ _ c.in-Ok-Some.piece.bytes c.in-Ok-Some.piece.first c.in-Ok-Some.piece.past _ _
      (c.args.cutter.now.runs.size + 16)
      (passes_on c.args.cutter.now.runs.blocks c.in-Ok-Some.piece.first c.in-Ok-Some.piece.past p.passed.moves
      (rw p.begins within)) p.begins p.ends long takes;
}

pub returns-in-Err-clause-source : goal.returns-in-Err-clause-source
returns-in-Err-clause-source g c = reads_err _ c.in-Err.ensures.reads

pub returns-in-Ok-Some-clause-source : goal.returns-in-Ok-Some-clause-source
returns-in-Ok-Some-clause-source g c = reads_ok _ c.in-Ok-Some.ensures.reads

pub returns-in-Err-clause-writes : goal.returns-in-Err-clause-writes
returns-in-Err-clause-writes g c = writes_err _ (rw c.requires.between at c.in-Err.ensures.writes)

pub returns-in-Ok-Some-clause-writes : goal.returns-in-Ok-Some-clause-writes
returns-in-Ok-Some-clause-writes g c = writes_ok _ (rw c.requires.between at c.in-Ok-Some.ensures.writes)

pub next_piece_at-requires-clause-ready : goal.next_piece_at-requires-clause-ready
next_piece_at-requires-clause-ready g c = record { opened = c.requires.ready.opened; told = c.requires.ready.told }
