use Rattle.std.proofs.Common.{◌≡◌, ◌∙◌, ◌≤◌, length, arith, refl, length-take, rules}
use Rattle.sys_finish.specs.Given.{given_by_writer}
use Rattle.sys_finish.proofs.Zeros.{none_laid, zeros_written}
use Rattle.sys_finish.proofs.gathered.Gathered.take_zeros.Goals as goal
use Rattle.sys_finish.proofs.gathered.Gathered.take_zeros.Goals.{then-takes_hole+in-Ok+else-laid-gt0}
use Rattle.sys_finish.proofs.gathered.Gathered.take_zeros.Goals.{else-takes_hole}

pub returns-in-Ok-take : goal.returns-in-Ok-take
returns-in-Ok-take g c =
    let k = c.in-Ok-take.k in
    let e = c.in-Ok-take.ensures.wrote in
    let zeros = c.args.zeros.now in
    let some = c.min-some.result in
    let room : some ≤ length zeros = omega arith in
    let within : k ≤ some = omega (arith, e.within, length-take some zeros) in
    let same : given_by_writer c.if-takes_hole.self.writer ≡ given_by_writer c.args.self.now.writer
    = elim c.if-takes_hole.branch [
      | then-takes_hole+in-Ok+else-laid-gt0 w ↦
          let none : w.in-Ok.laid ≡ 0 = omega arith in
          rw w.self-is (none_laid _ _ w.in-Ok.laid w.in-Ok.ensures.written none)
      | else-takes_hole w ↦ rw w.self-is refl
    ] in
    record {
      wrote = record {
        within = search rules;
        progress = search rules;
        written = zeros_written _ _ _ zeros k some same e.written c.requires.zeros within room;
        frame = search rules;
        calls = search rules;
        faults = search rules;
        cause = search rules;
        clean = search rules;
        full_faults = search rules;
        full = search rules;
        still_full = search rules;
      };
      still = c.in-Ok-take.ensures.still ∙ elim c.if-takes_hole.branch [
        | then-takes_hole+in-Ok+else-laid-gt0 w ↦ rw w.self-is w.in-Ok.ensures.still
        | else-takes_hole w ↦ rw w.self-is refl
      ];
    }
