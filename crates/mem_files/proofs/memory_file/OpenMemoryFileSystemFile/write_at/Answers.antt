use Rattle.std.proofs.Common.{rules, ◌≡◌, ◌∙◌, ap, sym, List, ℕ, length}
use Rattle.abt_io.specs.Moment.{wrote, put_at}
use Rattle.abt_io.proofs.Moments.{one_wrote}
use Rattle.mem_devices.proofs.Outside.{kept_wrote, unsettled_wrote}
use Rattle.sys_file.proofs.Pasts.{lays_none}
use Rattle.mem_files.proofs.memory_file.OpenMemoryFileSystemFile.write_at.Goals as goal

pub returns-then-is_over-clause-lays : goal.returns-then-is_over-clause-lays
returns-then-is_over-clause-lays c = λ models fits.
    let bytes : c.is_over.new.self.bytes.items ≡ c.args.self.now.bytes.items = search rules in
    let past : c.is_over.new.self.history.past ≡ c.args.self.now.history.past = search rules in
    rw bytes (rw past (lays_none c.args.self.now.bytes.items c.args.self.now.history.past _ c.args.at
    (length c.args.bytes.now)))

pub returns-clause-lays : goal.returns-clause-lays
returns-clause-lays c = λ models fits.
    let old = c.args.self.now.history.past in
    let x = c.args.self.now.bytes.items in
    let b = c.args.bytes.now in
    let at = c.args.at in
    let new = c.wrote.new.self.past in
    let laid : c.lay.new.bytes.items ≡ put_at x at b = search rules in
    let past : new ≡ wrote old c.lay.new.bytes.items at (length b) = search rules in
    let is = past ∙ ap (λ (l : List ℕ). wrote old l at (length b)) laid in
    record {
      kept = rw laid (kept_wrote old new x b at fits is);
      moments = one_wrote old new c.lay.new.bytes.items at (length b) past;
      newest = search rules;
      pending = search rules;
      stays = search rules;
      unsettled = rw laid (unsettled_wrote old new x b at fits is);
      synced = search rules;
    }
