use Rattle.std.proofs.Common.{arith, sym, ℕ, ◌∙◌, ◌≡◌, ◌<◌, ◌≤◌, ◌+◌, ◌-◌, length, min, refl, IsTrue}
use Rattle.std.proofs.lemmas.List.{take-append-drop}
use Rattle.abt_io.proofs.Lent.{reads_err, reads_none, reads_ok, reads_then, writes_err, writes_ok}
use Rattle.abt_pieces.proofs.Fronts.{wrote_front, wrote_rest, wrote_part, nothing_more, as_many, no_more, no_more_than}
use Rattle.abt_pieces.proofs.Fronts.{run_causes, run_unsaid, says_full, not_full}
use Rattle.abt_pieces.proofs.Going.{is_copying, copied_writer, copied_sound, part_front, write_copies, copied_fewer}
use Rattle.abt_pieces.proofs.Going.{copied_passes}
use Rattle.abt_pieces.proofs.Counts.{writer_copies, writer_most, copied_paid}
use Rattle.abt_pieces.proofs.Spending.{spent_copies}
use Rattle.abt_pieces.proofs.Image.{copy_leads}
use Rattle.abt_pieces.proofs.WriterSteps.{none_written, run_never_full}
use Rattle.abt_pieces.specs.Write.{silent_write}
use Rattle.abt_pieces.proofs.write.Writer.copy_bytes.Goals as goal

-- what came is within what was asked for: the part, the chunk and the window
asked_fits : (count out part ask least done size left : ℕ) → count ≤ out → out ≡ part → part ≡ ask - 0
    → ask ≡ min least 65536 → least ≡ min (size - done) left → done < size
    → (done + count ≤ size) × (count ≤ left) × (count ≤ 65536)
asked_fits count out part ask least done size left a b d e f more = (omega arith, omega arith, omega arith)

asked_some : (out part ask least done size left : ℕ) → out ≡ part → part ≡ ask - 0 → ask ≡ min least 65536
    → least ≡ min (size - done) left → done < size → 0 < left → 0 < out
asked_some out part ask least done size left b d e f more some = omega arith

-- the source has failed
pub returns-in-Err : goal.returns-in-Err
returns-in-Err g c =
    let k = c.copy.ensures in
    let given = c.in-Err.ensures.costs.given in
    let most = writer_most (g.R.BlockRuns.one c.args.runs.now) (g.R.BlockRuns.count c.args.runs.now) c.args.self.now in
    record {
      stepped = record {
        reads = reads_err _ c.in-Err.ensures.source.reads;
        writes = none_written _ _ _ (run_never_full _ _ c.run_fault.ensures);
        sound = tt;
        told = λ models. tt;
        segment = (refl, refl, refl);
        within = no_more _ _;
        counted = tt;
        front = λ models. nothing_more _ _;
        rest = λ models. tt;
        leads = tt;
        cause = run_causes _ _ _ _ _ _ _ c.run_fault.ensures c.in-Err.ensures.source.cause;
        left = tt;
        paid = tt;
        spends = λ models d within place is fresh s t spent. tt;
        words = tt;
        costs = record {
          given = given.0;
          received = omega (arith, given.1);
          grown = as_many _;
          few = no_more_than _ _ _;
          steps = k.costs.one_step.steps;
          greatest = k.costs.one_step.greatest;
          calls = omega (arith, k.costs.calls);
          write_calls = no_more _ _;
          turns = omega (arith, k.costs.turns, most);
        };
        full = λ says. absurd (run_unsaid _ _ c.run_fault.ensures says);
      };
      paid = tt;
    }

-- the output has failed
pub returns-in-Err-write_out : goal.returns-in-Err-write_out
returns-in-Err-write_out g c =
    let k = c.copy.ensures in
    let e = c.in-Ok.ensures in
    let o = c.write_out.ensures in
    let f = c.in-Err-write_out.ensures in
    let long : length c.part.result.now ≡ c.in-Ok.count = omega (arith, c.part.ensures.long) in
    let copying = c.args.copying in
    let asked = asked_fits c.in-Ok.count (length c.copy.new.out) (length c.part_mut.result.now) c.min-ask.result
    c.min.result copying.done copying.size copying.left e.within c.copy.auto.out c.part_mut.ensures.long
    c.min-ask.ensures c.min.ensures c.requires.more in
    let fits : copying.done + c.in-Ok.count ≤ copying.size = asked.0 in
    let left : c.in-Ok.count ≤ copying.left = asked.1 in
    let window : c.in-Ok.count ≤ 65536 = asked.2 in
    let h = is_copying _ _ _ _ c.args.self.now c.args.copying c.requires.copies.is c.requires.copies.ready.sound in
    let most = writer_most (g.R.BlockRuns.one c.args.runs.now) (g.R.BlockRuns.count c.args.runs.now) c.args.self.now in
    record {
      stepped = record {
        reads = reads_then e.source.reads (reads_none _ _ _);
        writes = writes_err _ f.writes;
        sound = tt;
        told = λ models. tt;
        segment = (refl, refl, refl);
        within = omega (arith, o.within, long, left, h.room);
        counted = tt;
        front = λ models.
            let o = c.requires.copies.ready.opened models in
            let x = copied_writer _ _ _ _ _ _ _ c.args.self.now c.args.copying c.in-Ok.count c.requires.copies.is
            c.requires.copies.ready.sound (sym (g.met.R.BlockRuns.long c.args.runs.now _ o))
            (g.met.R.BlockRuns.are_blocks c.args.runs.now _ o) (c.requires.copies.ready.told models) fits left in
            let t = rw c.requires.copies.is at (c.requires.copies.ready.told models).copies in
            let these = c.part.ensures.value ∙ part_front c.in-Ok.count c.copy.new.out _ e.within
            ∙ e.bytes models _ t.stands x.raw (omega (arith, fits, h.part)) ∙ x.bytes in
            wrote_part _ _ _ _ _ (rw these at f.front) (sym (take-append-drop c.in-Ok.count _));
        rest = λ models. tt;
        leads = tt;
        cause = f.cause;
        left = tt;
        paid = tt;
        spends = λ models d within place is fresh s t spent. tt;
        words = tt;
        costs = record {
          given = e.costs.given.0;
          received = omega (arith, e.costs.given.1, window);
          grown = o.writes.least;
          few = omega (arith, o.within, long, e.few);
          steps = o.no_step.steps ∙ k.costs.one_step.steps;
          greatest = o.no_step.greatest ∙ k.costs.one_step.greatest;
          calls = omega (arith, k.costs.calls);
          write_calls = o.calls;
          turns = omega (arith, o.turns, o.writes.least, k.costs.turns, most);
        };
        full = λ says. (f.full (says_full c.in-Err-write_out.fault says), omega (arith, f.short, long, left, h.room));
      };
      paid = tt;
    }

-- the bytes are copied
pub returns : goal.returns
returns g c =
    let k = c.copy.ensures in
    let e = c.in-Ok.ensures in
    let o = c.write_out.ensures in
    let w = c.in_default.ensures in
    let self = c.args.self.now in
    let long : length c.part.result.now ≡ c.in-Ok.count = omega (arith, c.part.ensures.long) in
    let copying = c.args.copying in
    let asked = asked_fits c.in-Ok.count (length c.copy.new.out) (length c.part_mut.result.now) c.min-ask.result
    c.min.result copying.done copying.size copying.left e.within c.copy.auto.out c.part_mut.ensures.long
    c.min-ask.ensures c.min.ensures c.requires.more in
    let fits : copying.done + c.in-Ok.count ≤ copying.size = asked.0 in
    let left : c.in-Ok.count ≤ copying.left = asked.1 in
    let window : c.in-Ok.count ≤ 65536 = asked.2 in
    let some = e.some (asked_some (length c.copy.new.out) (length c.part_mut.result.now) c.min-ask.result c.min.result
    copying.done copying.size copying.left c.copy.auto.out c.part_mut.ensures.long c.min-ask.ensures c.min.ensures
    c.requires.more c.requires.copies.remains) in
    let h = is_copying _ _ _ _ self c.args.copying c.requires.copies.is c.requires.copies.ready.sound in
    let all : length (g.O.Output.written c.write_out.new.output) ≡ length (g.O.Output.written c.args.output.now) +
    c.in-Ok.count = omega (arith, w.all, long) in
    let x = λ (models : IsTrue g.S.Source.models). copied_writer _ _ _ _ _ _ _ self c.args.copying c.in-Ok.count
    c.requires.copies.is c.requires.copies.ready.sound (sym (g.met.R.BlockRuns.long c.args.runs.now _
    (c.requires.copies.ready.opened models))) (g.met.R.BlockRuns.are_blocks c.args.runs.now _
    (c.requires.copies.ready.opened models)) (c.requires.copies.ready.told models) fits left in
    let these = λ (models : IsTrue g.S.Source.models).
    let t = rw c.requires.copies.is at (c.requires.copies.ready.told models).copies in
    c.part.ensures.value ∙ part_front c.in-Ok.count c.copy.new.out _ e.within ∙ e.bytes models _ t.stands (x models).raw
    (omega (arith, fits, h.part)) ∙ (x models).bytes in
    let most = writer_most (g.R.BlockRuns.one c.args.runs.now) (g.R.BlockRuns.count c.args.runs.now) c.args.self.now in
    let new = record self { copying = c.and_bytes-self.result; bytes = self.bytes - c.in-Ok.count } in
    let words = writer_copies (g.R.BlockRuns.one c.args.runs.now) (g.R.BlockRuns.count c.args.runs.now) self new refl
    refl (rw (c.and_bytes-self.ensures, c.requires.copies.is)
    (copied_passes c.args.copying c.in-Ok.count _ h.until)) in
    let paid : silent_write (g.R.BlockRuns.count c.args.runs.now) new < silent_write
    (g.R.BlockRuns.count c.args.runs.now) self
    + (length (g.O.Output.written c.write_out.new.output) - length (g.O.Output.written c.args.output.now)) =
    copied_paid _ _ c.in-Ok.count self new c.args.copying refl refl c.requires.copies.is c.and_bytes-self.ensures
    (omega (arith, all, some)) in
    record {
      stepped = record {
        reads = reads_ok _ e.source.reads;
        writes = writes_ok _ w.writes;
        sound = record {
          gathering = c.requires.copies.ready.sound.gathering;
          copies =
              rw c.and_bytes-self.ensures (copied_sound _ _ _ _ _ _ _ c.in-Ok.count c.args.copying h left fits);
          most =
              c.requires.copies.ready.sound.most;
          small = c.requires.copies.ready.sound.small;
          fits =
              omega (arith, c.requires.copies.ready.sound.fits);
        };
        told = λ models. rw c.and_bytes-self.ensures (x models).told;
        segment = (refl, refl, refl);
        within = omega (arith, all, left, h.room);
        counted = omega (arith, all, left, h.room);
        front = λ models. wrote_front _ _ _ _ _ (rw (these models) at w.ok) (sym (take-append-drop c.in-Ok.count _));
        rest = λ models. rw c.and_bytes-self.ensures
            ((x models).rest ∙ wrote_rest _ _ _ _ _ (rw (these models) at w.ok)
            (sym (take-append-drop c.in-Ok.count _)));
        leads = rw c.and_bytes-self.ensures (copy_leads _ _ self c.args.copying c.in-Ok.count c.part.result.now _ _
            c.requires.copies.is long left w.ok);
        cause = tt;
        left = write_copies _ _ self new refl refl (rw (c.and_bytes-self.ensures, c.requires.copies.is)
            (copied_fewer _ self.bytes c.args.copying c.in-Ok.count some (omega (arith, left, h.room))));
        paid = omega (arith, paid);
        spends = λ models d within place is fresh s t spent.
            let size = g.met.R.BlockRuns.sized c.args.runs.now in
            let grows = g.met.R.BlockRuns.held_grows c.args.runs.now c.args.copying.here
            (c.args.copying.done + c.in-Ok.count) c.args.copying.size fits in
            record {
              gathering = spent.gathering;
              copies = rw c.and_bytes-self.ensures (spent_copies _ _ _ _ _ _ _ _ _ _ _ s t _ _ _ c.in-Ok.count
                  c.args.copying (omega (arith, size)) some h fits e.costs.given.0 grows.0 e.costs.read
                  (rw c.requires.copies.is at spent.copies));
            };
        words = omega (arith, words, o.turns, o.writes.least, k.costs.turns);
        costs = record {
          given = e.costs.given.0;
          received = omega (arith, e.costs.given.1, window);
          grown = o.writes.least;
          few = omega (arith, all, e.few);
          steps = o.no_step.steps ∙ k.costs.one_step.steps;
          greatest = o.no_step.greatest ∙ k.costs.one_step.greatest;
          calls = omega (arith, k.costs.calls);
          write_calls = o.calls;
          turns = omega (arith, o.turns, o.writes.least, k.costs.turns, most);
        };
        full = λ says. absurd (not_full says);
      };
      paid = paid;
    }
