use Rattle.std.proofs.Common.{rules, refl}
use Rattle.sys_devices.proofs.ahead.AheadSourceSource.read_at.Goals as goal

pub returns-in-Ok : goal.returns-in-Ok
returns-in-Ok g c = record {
  has_read =
      let e = rw c.as_ref.ensures at c.in-Ok.ensures.reads in
      record {
        within = search rules;
        present = λ models. e.present models;
        bytes = λ models. e.bytes models;
        content = λ models. refl;
        size = λ models. refl;
        told = λ models. rw c.as_ref.ensures at (c.in-Ok.ensures.told models);
        ended = λ models. e.ended models;
        frame = refl;
        calls = search rules;
        counted = search rules;
        faults = search rules;
        cause = tt;
        clean = refl;
        failed = tt;
      };
}
