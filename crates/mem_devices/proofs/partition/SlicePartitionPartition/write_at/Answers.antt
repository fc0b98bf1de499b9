use Rattle.std.proofs.Common.{rules, length, ◌∙◌, ap, sym, List, ℕ, ◌≡◌}
use Rattle.std.proofs.Math.Nat.{le_refl}
use Rattle.std.proofs.lemmas.List.{take_all}
use Rattle.abt_io.specs.Moment.{wrote, put_at}
use Rattle.abt_io.proofs.Moments.{one_wrote}
use Rattle.mem_devices.proofs.Outside.{kept_wrote, unsettled_wrote}
use Rattle.mem_devices.proofs.partition.SlicePartitionPartition.write_at.Goals as goal

pub returns-clause-laid : goal.returns-clause-laid
returns-clause-laid c =
    let s = c.args.self.now in
    let n = length c.args.bytes.now in
    let past : c.wrote.new.self.past ≡ wrote s.history.past c.put.new.self.bytes.now c.args.at n = search rules in
    let laid = rw c.put.ensures.value at past in
    record {
      written = λ models. c.put.ensures.value
          ∙ ap (λ (l : List ℕ). put_at s.cells.bytes.now c.args.at l)
          (sym (take_all (length c.args.bytes.now) c.args.bytes.now (le_refl _)));
      kept = λ models. rw c.put.ensures.value
          (kept_wrote s.history.past c.wrote.new.self.past s.cells.bytes.now c.args.bytes.now c.args.at
          c.requires.fits laid);
      moments = λ models. one_wrote s.history.past c.wrote.new.self.past c.put.new.self.bytes.now c.args.at n past;
      newest = λ models. search rules;
      pending = λ models. search rules;
      stays = λ models. search rules;
      unsettled = λ models. rw c.put.ensures.value
          (unsettled_wrote s.history.past c.wrote.new.self.past s.cells.bytes.now c.args.bytes.now c.args.at
          c.requires.fits
          laid);
      synced = search rules;
    }
