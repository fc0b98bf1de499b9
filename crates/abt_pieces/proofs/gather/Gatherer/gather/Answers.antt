use Rattle.std.proofs.Common.{arith}
use Rattle.abt_io.proofs.Lent.{reads_ok}
use Rattle.abt_pieces.proofs.Gathering.{sound_on, grows_on, run_on, told_on, closed_on, left_on, same_at}
use Rattle.abt_pieces.proofs.Counts.{paid_on}
use Rattle.abt_pieces.proofs.Spending.{spent_on}
use Rattle.abt_pieces.proofs.gather.Gatherer.gather.Goals as goal

-- with a part more
pub returns : goal.returns
returns g c =
    let a = c.framed_part.ensures in
    let e = c.in-Ok.ensures in
    let self = c.args.self.now in
    let part = c.in-Ok.part in
    let within = g.R.BlockRuns.within c.args.runs.now in
    let next = c.and_part-run.ensures in
    record {
      source = record { reads = reads_ok _ e.source.reads; cause = tt };
      sound = rw next (sound_on _ _ _ _ self part c.requires.ready.sound
          (record {
            next = e.found.on.0;
            bound = e.found.on.1;
            within = e.found.next;
            behind = e.found.behind;
            raw =
                e.found.raw;
            ended = e.found.ended;
          }));
      told = λ models. rw next (told_on _ _ _ _ self part (c.requires.ready.told models) (e.told models).part
          (e.told models).place (e.told models).raw_place);
      grows = rw next (grows_on _ _ _ _ self part c.requires.ready.sound
          (record {
            next = e.found.on.0;
            bound = e.found.on.1;
            within = e.found.next;
            behind = e.found.behind;
            raw =
                e.found.raw;
            ended = e.found.ended;
          }));
      run = rw next (run_on within _ _ self part (record {
        next = e.found.on.0;
        bound = e.found.on.1;
        within =
            e.found.next;
        behind = e.found.behind;
        raw = e.found.raw;
        ended = e.found.ended;
      }));
      closed = λ models. rw next (closed_on _ self part (c.requires.ready.told models).gathered (e.told models).part);
      left = λ going. rw next (left_on (g.R.BlockRuns.left c.args.runs.now) within _ _ _ self part
          c.requires.ready.sound going e.found.left e.found.tail e.found.at_end);
      paid = λ going. rw next (paid_on within _ _ _ _ self part c.requires.ready.sound going
          (λ low. let f = e.found.fetched low in omega (arith, f)) e.found.tail e.found.at_end);
      gathered = λ models d there place is fresh. rw (next, same_at self part)
          ((e.told models).gathered d there place is fresh);
      spends = λ models d there place is fresh s h. rw next
          (spent_on _ _ _ _ d s self part h (record {
            behind = (e.told models).behind_start d there place is fresh;
            next = e.found.on.0;
            unused = e.found.unused;
            raw = λ k. let r = e.found.raw k in let z = e.found.anew k in
                (r.0, r.1, z.0, z.1, z.2);
          }));
      costs = a.costs;
      words = rw (next, same_at self part) e.words;
    }
