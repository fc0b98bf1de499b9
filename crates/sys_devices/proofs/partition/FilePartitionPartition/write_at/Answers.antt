use Rattle.std.proofs.Common.{IsTrue, length, refl, sym, ◌∙◌, arith}
use Rattle.sys_devices.proofs.Histories.{lays_as}
use Rattle.sys_devices.proofs.partition.FilePartitionPartition.write_at.Goals as goal

pub invariant_of-self : goal.invariant_of-self
invariant_of-self g c =
    let s = c.args.self.now in
    let lays = λ (models : IsTrue g.F.SystemFile.models).
    c.in-Ok.ensures.lays models (omega (arith, c.requires.fits, s.sized models)) in
    record {
      sized = λ models. s.sized models ∙ sym (lays models).kept.size;
      counted = λ models. (lays models).synced ∙ s.counted models;
    }

pub invariant_of-self-in-Err : goal.invariant_of-self-in-Err
invariant_of-self-in-Err g c =
    let s = c.args.self.now in
    let lays = λ (models : IsTrue g.F.SystemFile.models).
    c.in-Err.ensures.lays models (omega (arith, c.requires.fits, s.sized models)) in
    record {
      sized = λ models. s.sized models ∙ sym (lays models).kept.size;
      counted = λ models. (lays models).synced ∙ s.counted models;
    }

pub returns-in-Ok : goal.returns-in-Ok
returns-in-Ok g c =
    let s = c.args.self.now in
    let f = g.F.SystemFile in
    let e = c.in-Ok.ensures in
    let lays = λ (models : IsTrue f.models). lays_as (f.stands s.file) (f.stands c.write_at.new.file) (f.past s.file)
    (f.past c.write_at.new.file) s.synced.number _ c.args.at (length c.args.bytes.now) (s.counted models)
    (e.lays models (omega (arith, c.requires.fits, s.sized models))) in
    record {
      laid = record {
        written = e.writes.written;
        kept = λ models. (lays models).kept;
        moments = λ models. (lays models).moments;
        newest = λ models. (lays models).newest;
        pending = λ models. (lays models).pending;
        stays = λ models. (lays models).stays;
        unsettled = λ models. (lays models).unsettled;
        synced = refl;
      };
      put = record {
        within = e.writes.within;
        progress = e.progress;
        size = refl;
        calls = c.add.ensures;
        counted = c.add-in-Ok.ensures;
        sync_calls = refl;
        reads = refl;
        given = refl;
        read_faults = refl;
        faults = omega arith;
        cause = tt;
        clean = refl;
        failed = tt;
      };
    }

pub returns-in-Err : goal.returns-in-Err
returns-in-Err g c =
    let s = c.args.self.now in
    let f = g.F.SystemFile in
    let e = c.in-Err.ensures in
    let lays = λ (models : IsTrue f.models). lays_as (f.stands s.file) (f.stands c.write_at.new.file) (f.past s.file)
    (f.past c.write_at.new.file) s.synced.number _ c.args.at (length c.args.bytes.now) (s.counted models)
    (e.lays models (omega (arith, c.requires.fits, s.sized models))) in
    record {
      laid = record {
        written = λ models. tt;
        kept = λ models. (lays models).kept;
        moments = λ models. (lays models).moments;
        newest = λ models. tt;
        pending = λ models. (lays models).pending;
        stays = λ models. (lays models).stays;
        unsettled = λ models. (lays models).unsettled;
        synced = refl;
      };
      put = record {
        within = omega arith;
        progress = tt;
        size = refl;
        calls = c.add.ensures;
        counted = omega arith;
        sync_calls = refl;
        reads = refl;
        given = refl;
        read_faults = refl;
        faults = omega arith;
        cause = omega arith;
        clean = tt;
        failed = refl;
      };
    }
