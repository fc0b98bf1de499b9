use Rattle.std.proofs.Common.{◌∙◌, arith}
use Rattle.abt_flash.proofs.Tasks.{can_do, cause_answered, ends_answered, front_answered, idle_still, laid_same}
use Rattle.abt_flash.proofs.Tasks.{ok_answered, put_same}
use Rattle.abt_flash.proofs.Tasks.{refused_answered, settles_part, sound_answered, syncs_answered, unless_answered}
use Rattle.abt_flash.proofs.write_part.lay_part.Goals as goal
use Rattle.std.proofs.Common.{rules}

pub carry_out-done-requires-clause-can : goal.carry_out-done-requires-clause-can
carry_out-done-requires-clause-can g c = rw c.task_for-task.ensures (can_do c.args.part c.requires.writable)

pub carry_out-done-requires-clause-fits : goal.carry_out-done-requires-clause-fits
carry_out-done-requires-clause-fits g c = rw (c.task_for-task.ensures, put_same c.args.part) c.requires.fits

pub carry_out-done-requires-clause-below : goal.carry_out-done-requires-clause-below
carry_out-done-requires-clause-below g c = rw (c.task_for-task.ensures, put_same c.args.part) c.requires.below

pub returns-clause-laid : goal.returns-clause-laid
returns-clause-laid g c models = record {
  all = rw (c.answer_to.ensures, c.task_for-task.ensures)
      (unless_answered _ c.carry_out-done.result _ _ (λ e. e
      ∙ laid_same c.args.part c.args.w.now.bytes (g.P.Source.content c.args.partition.now) c.args.at)
      (rw c.task_for-task.ensures at (c.carry_out-done.ensures.laid models)));
  front = rw (c.answer_to.ensures, c.task_for-task.ensures)
      (front_answered c.args.part c.carry_out-done.result c.args.w.now.bytes _ _ c.args.at
      (rw c.task_for-task.ensures at c.carry_out-done.ensures.sound)
      (rw c.task_for-task.ensures at (c.carry_out-done.ensures.broken models)));
}

pub returns-clause-touches : goal.returns-clause-touches
returns-clause-touches g c models = record {
  kept = rw (c.task_for-task.ensures, put_same c.args.part) at ((c.carry_out-done.ensures.touches models).kept);
  moments = rw (c.task_for-task.ensures, put_same c.args.part) at ((c.carry_out-done.ensures.touches models).moments);
}

pub returns-clause-settled : goal.returns-clause-settled
returns-clause-settled g c models =
    rw c.answer_to.ensures (ok_answered _ c.carry_out-done.result _ _ (settles_part c.args.part _)
    (rw c.task_for-task.ensures at (c.carry_out-done.ensures.settled models)))

pub returns-clause-synced : goal.returns-clause-synced
returns-clause-synced g c =
    let same = syncs_answered c.args.part c.carry_out-done.result in
    let synced = rw c.task_for-task.ensures at c.carry_out-done.ensures.synced in
    rw (c.answer_to.ensures, c.task_for-task.ensures) (omega (arith, same, synced))

pub returns-clause-sound : goal.returns-clause-sound
returns-clause-sound g c =
    rw (c.answer_to.ensures, c.task_for-task.ensures) (sound_answered c.args.part c.carry_out-done.result
    (rw c.task_for-task.ensures at c.carry_out-done.ensures.sound))

pub returns-clause-ends : goal.returns-clause-ends
returns-clause-ends g c =
    rw (c.answer_to.ensures, c.task_for-task.ensures) (ends_answered c.args.part c.carry_out-done.result)

pub returns-clause-refused_syncs : goal.returns-clause-refused_syncs
returns-clause-refused_syncs g c =
    let same = refused_answered c.task_for-task.result c.carry_out-done.result in
    let synced = c.carry_out-done.ensures.refused_syncs in
    rw c.answer_to.ensures (omega (arith, same, synced))

pub returns-clause-all : goal.returns-clause-all
returns-clause-all g c =
    rw (c.answer_to.ensures, c.task_for-task.ensures) (unless_answered _ c.carry_out-done.result _ _ (λ e. e)
    (rw (c.task_for-task.ensures, put_same c.args.part) at c.carry_out-done.ensures.all))

pub returns-clause-still : goal.returns-clause-still
returns-clause-still g c h = c.carry_out-done.ensures.still (rw c.task_for-task.ensures (idle_still c.args.part h))

pub returns-clause-cause : goal.returns-clause-cause
returns-clause-cause g c =
    rw c.answer_to.ensures
    (cause_answered _ c.carry_out-done.result _ _ c.carry_out-done.ensures.fails.cause
    c.carry_out-done.ensures.fails.clean c.carry_out-done.ensures.fails.failed)

pub returns-clause-costs : goal.returns-clause-costs
returns-clause-costs g c = record {
  taken = search rules;
  calls = search rules;
  turns = search rules;
  few = rw c.answer_to.ensures (ok_answered _ c.carry_out-done.result _ _ (λ e. e) c.carry_out-done.ensures.costs.few);
  no_step = search rules;
}
