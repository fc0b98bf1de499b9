use Rattle.std.proofs.Common.{IsTrue, length, refl, sym, ap, ◌∙◌, arith}
use Rattle.sys_devices.proofs.Histories.{settles_as}
use Rattle.sys_devices.proofs.partition.FilePartitionPartition.sync.Goals as goal

pub invariant_of-self : goal.invariant_of-self
invariant_of-self g c =
    let s = c.args.self.now in
    record {
      sized = λ models. s.sized models ∙ sym (ap length (c.in-Ok.ensures models).same);
      counted = λ models. omega (arith, (c.in-Ok.ensures models).synced, s.counted models, c.add-in-Ok.ensures);
    }

pub invariant_of-self-in-Err : goal.invariant_of-self-in-Err
invariant_of-self-in-Err g c =
    let s = c.args.self.now in
    record {
      sized = λ models. s.sized models ∙ sym (ap length (c.in-Err.ensures models).same);
      counted = λ models. omega (arith, (c.in-Err.ensures models).synced, s.counted models);
    }

pub returns-in-Ok : goal.returns-in-Ok
returns-in-Ok g c =
    let s = c.args.self.now in
    let f = g.F.SystemFile in
    let all = λ (models : IsTrue f.models). settles_as (f.stands s.file) (f.stands c.sync.new.self) (f.past s.file)
    (f.past c.sync.new.self) s.synced.number c.add-in-Ok.new.self.number _ (s.counted models)
    (omega (arith, (c.in-Ok.ensures models).synced, s.counted models, c.add-in-Ok.ensures))
    (c.in-Ok.ensures models) in
    record {
      settled = record {
        kept = λ models. (all models).kept;
        settled = λ models. (all models).settled;
        newest = λ models. (all models).newest;
        stays = λ models. tt;
        moments = λ models. (all models).moments;
        synced = c.add-in-Ok.ensures;
      };
      synced = record {
        size = refl;
        puts = refl;
        taken = refl;
        calls = c.add.ensures;
        reads = refl;
        given = refl;
        read_faults = refl;
        faults = omega arith;
        cause = tt;
        clean = refl;
        failed = tt;
      };
    }

pub returns-in-Err : goal.returns-in-Err
returns-in-Err g c =
    let s = c.args.self.now in
    let f = g.F.SystemFile in
    let all = λ (models : IsTrue f.models). settles_as (f.stands s.file) (f.stands c.sync.new.self) (f.past s.file)
    (f.past c.sync.new.self) s.synced.number s.synced.number _ (s.counted models)
    (omega (arith, (c.in-Err.ensures models).synced, s.counted models))
    (c.in-Err.ensures models) in
    record {
      settled = record {
        kept = λ models. (all models).kept;
        settled = λ models. tt;
        newest = λ models. tt;
        stays = λ models. (all models).stays;
        moments = λ models. (all models).moments;
        synced = omega arith;
      };
      synced = record {
        size = refl;
        puts = refl;
        taken = refl;
        calls = c.add.ensures;
        reads = refl;
        given = refl;
        read_faults = refl;
        faults = omega arith;
        cause = omega arith;
        clean = tt;
        failed = refl;
      };
    }
