use Rattle.std.proofs.Common.{rules, refl}
use Rattle.sys_devices.proofs.source.FileSourceSource.read_at.Goals as goal

pub returns-in-Ok : goal.returns-in-Ok
returns-in-Ok g c = record {
  has_read =
      let e = c.in-Ok.ensures.reads in
      record {
        within = search rules;
        present = λ models. e.present models;
        bytes = λ models. e.bytes models;
        content = λ models. refl;
        size = λ models. refl;
        told = λ models. c.in-Ok.ensures.told models;
        ended = λ models. e.ended models;
        frame = refl;
        calls = search rules;
        counted = search rules;
        faults = search rules;
        cause = tt;
        clean = refl;
        failed = tt;
      };
}
