use Rattle.std.proofs.Common.{IsTrue, length, arith, sym, ◌≡◌, ◌≤◌, ◌+◌, ◌-◌, ◌*◌, ◌∙◌, true, refl}
use Rattle.std.proofs.lemmas.Bool.{false≢true}
use Rattle.abt_io.proofs.Lent.{reads_err, reads_none, reads_ok, writes_err, writes_none, writes_ok}
use Rattle.abt_pieces.proofs.Fronts.{wrote_part, wrote_front, wrote_rest, chunk_cause, nothing_more, nothing_less}
use Rattle.abt_pieces.proofs.Fronts.{as_many, no_more, no_more_than, not_full, cause_unwritten, none_says}
use Rattle.abt_pieces.proofs.Fronts.{whole_goes_not, whole_unfilled, whole_ended, whole_cause}
use Rattle.abt_pieces.specs.Write.{chunk_opened}
use Rattle.abt_pieces.proofs.Going.{told_whole, opened, opened_sound, write_copies}
use Rattle.abt_pieces.proofs.Counts.{writer_most, writer_passed, open_paid, open_words}
use Rattle.abt_pieces.proofs.Spending.{always_ok, spent_same, spent_whole, open_spent}
use Rattle.abt_pieces.proofs.Image.{leads_same, end_comes, open_leads}
use Rattle.abt_pieces.proofs.WriterSteps.{none_written}
use Rattle.abt_pieces.proofs.write.Writer.step.Goals as goal

-- the next chunk of the raw run
pub returns-in-Ok : goal.returns-in-Ok
returns-in-Ok g c =
    let self = c.args.self.now in
    let r = c.args.runs.now in
    let copying = c.in-Some.copying in
    let b = c.open_chunk.ensures in
    let e = c.in-Ok.ensures in
    let size = c.block_size-size.ensures in
    let some = g.met.R.BlockRuns.sized r in
    let shut = c.if-copying-eq0.true in
    let ok = rw size at e.ok in
    let room = rw size at e.room in
    let written = rw size at e.put.written in
    let z = λ (models : IsTrue g.S.Source.models). opened _ _ _ _ _ _ _ self copying c.in-Some.is
    (sym (g.met.R.BlockRuns.long r _ (c.requires.ready.opened models)))
    (g.met.R.BlockRuns.are_blocks r _ (c.requires.ready.opened models)) c.requires.ready.sound
    (c.requires.ready.told models) shut in
    let most = writer_most (g.R.BlockRuns.one r) (g.R.BlockRuns.count r) self in
    let turns = b.put.turns in
    let whole = e.put.whole in
    record {
      stepped = record {
        reads = reads_none _ _ _;
        writes = writes_ok _ e.put.writes;
        sound = rw ok (opened_sound _ _ _ _ self copying (omega (arith, some)) c.in-Some.is c.requires.ready.sound shut
            room.1);
        told = λ models. rw ok (z models).told;
        segment = b.put.segment;
        within = b.put.within;
        counted = rw ok (omega (arith, whole, room.1));
        front = λ models. wrote_front _ _ _ _ _ written (z models).chunk;
        rest = λ models. rw ok (wrote_rest _ _ _ _ _ written (z models).chunk);
        leads = λ d. rw ok (open_leads _ _ self copying _ _ c.in-Some.is shut room.0 c.requires.ready.sound.small
            written);
        cause = tt;
        left = λ d. rw ok (write_copies _ _ self (chunk_opened self copying (g.R.BlockRuns.size r)) refl refl
            (rw c.in-Some.is (omega (arith, room.1))));
        paid = λ d. rw ok (let y = open_paid (g.R.BlockRuns.count r)
            (length (g.O.Output.written c.open_chunk.new.output) - length (g.O.Output.written c.args.output.now)) self
            copying (g.R.BlockRuns.size r) (omega (arith, whole)) in omega (arith, y));
        spends = λ models d within place is fresh s t h.
            rw ok (open_spent _ _ _ _ d s t _ _ self copying c.in-Some.is h);
        costs = record {
          given = as_many _;
          received = no_more _ _;
          grown = b.put.writes.least;
          few = omega (arith, b.put.few);
          steps = b.one_step.steps;
          greatest = omega (arith, b.one_step.greatest);
          calls = no_more_than _ _ _;
          write_calls = b.put.calls;
          turns = omega (arith, turns, b.put.writes.least, most);
        };
        words = rw ok (open_words _ _ _ _ self copying _ c.in-Some.is (omega (arith, turns, b.put.writes.least)));
        full = λ says. absurd (not_full says);
      };
      all = λ d. absurd (false≢true d);
      ended = λ d. absurd (false≢true d);
      spent = λ models d within place is fresh s t h whole. absurd (false≢true whole);
    }

-- no next chunk
pub returns-in-Err : goal.returns-in-Err
returns-in-Err g c =
    let self = c.args.self.now in
    let r = c.args.runs.now in
    let copying = c.in-Some.copying in
    let b = c.open_chunk.ensures in
    let e = c.in-Err.ensures in
    let size = c.block_size-size.ensures in
    let shut = c.if-copying-eq0.true in
    let z = λ (models : IsTrue g.S.Source.models). opened _ _ _ _ _ _ _ self copying c.in-Some.is
    (sym (g.met.R.BlockRuns.long r _ (c.requires.ready.opened models)))
    (g.met.R.BlockRuns.are_blocks r _ (c.requires.ready.opened models)) c.requires.ready.sound
    (c.requires.ready.told models) shut in
    let most = writer_most (g.R.BlockRuns.one r) (g.R.BlockRuns.count r) self in
    let turns = b.put.turns in
    record {
      stepped = record {
        reads = reads_none _ _ _;
        writes = writes_err _ e.put.writes;
        sound = tt;
        told = λ models. tt;
        segment = b.put.segment;
        within = b.put.within;
        counted = tt;
        front = λ models. wrote_part _ _ _ _ _ (rw size at b.put.front) (z models).chunk;
        rest = λ models. tt;
        leads = tt;
        cause = chunk_cause c.in-Err.fault _ self.chunks self.bytes _ _ _ _ _ (λ models. let y = z models in
            (y.enough, y.room)) (rw size at e.cause);
        left = tt;
        paid = tt;
        spends = λ models d within place is fresh s t h. tt;
        costs = record {
          given = as_many _;
          received = no_more _ _;
          grown = b.put.writes.least;
          few = omega (arith, b.put.few);
          steps = b.one_step.steps;
          greatest = omega (arith, b.one_step.greatest);
          calls = no_more_than _ _ _;
          write_calls = b.put.calls;
          turns = omega (arith, turns, b.put.writes.least, most);
        };
        words = tt;
        full = e.put.full;
      };
      all = tt;
      ended = tt;
      spent = λ models d within place is fresh s t h. tt;
    }

-- the next part of the raw run
pub returns-in-Ok-next_raw : goal.returns-in-Ok-next_raw
returns-in-Ok-next_raw g c =
    let a = c.next_raw.ensures in
    let e = c.in-Ok-next_raw.ensures in
    let turns = a.costs.turns in
    let words = e.goes_on.words in
    record {
      stepped = record {
        reads = reads_ok _ e.source.reads;
        writes = writes_none _ _ _;
        sound = e.goes_on.sound;
        told = e.told;
        segment = a.segment;
        within = no_more _ _;
        counted = omega (arith, a.bytes);
        front = λ models. nothing_more _ _;
        rest = λ models. e.rest models ∙ nothing_less (g.O.Output.written c.args.output.now) _;
        leads = λ d. leads_same _ _ _ _ refl e.goes_on.comes;
        cause = tt;
        left = λ d. e.goes_on.left;
        paid = λ d. let z = e.goes_on.paid in omega (arith, z);
        spends = λ models d within place is fresh s t h. e.spends models d within place is fresh s t h;
        costs = record {
          given = a.costs.given;
          received = a.costs.received;
          grown = as_many _;
          few = no_more_than _ _ _;
          steps = a.costs.one_step.steps;
          greatest = a.costs.one_step.greatest;
          calls = a.costs.calls;
          write_calls = no_more _ _;
          turns = writer_passed _ _ _ _ c.args.self.now c.in-Some.copying c.in-Some.is (omega (arith, turns));
        };
        words = omega (arith, words);
        full = λ says. absurd (not_full says);
      };
      all = λ d. absurd (false≢true d);
      ended = λ d. absurd (false≢true d);
      spent = λ models d within place is fresh s t h whole. absurd (false≢true whole);
    }

-- no next part
pub returns-in-Err-next_raw : goal.returns-in-Err-next_raw
returns-in-Err-next_raw g c =
    let a = c.next_raw.ensures in
    let e = c.in-Err-next_raw.ensures in
    let turns = a.costs.turns in
    record {
      stepped = record {
        reads = reads_err _ e.source.reads;
        writes = none_written _ _ _ e.unwritten;
        sound = tt;
        told = λ models. tt;
        segment = a.segment;
        within = no_more _ _;
        counted = tt;
        front = λ models. nothing_more _ _;
        rest = λ models. tt;
        leads = tt;
        cause = cause_unwritten c.in-Err-next_raw.fault _ _ _ _ _ e.source.cause;
        left = tt;
        paid = tt;
        spends = λ models d within place is fresh s t h. tt;
        costs = record {
          given = a.costs.given;
          received = a.costs.received;
          grown = as_many _;
          few = no_more_than _ _ _;
          steps = a.costs.one_step.steps;
          greatest = a.costs.one_step.greatest;
          calls = a.costs.calls;
          write_calls = no_more _ _;
          turns = writer_passed _ _ _ _ c.args.self.now c.in-Some.copying c.in-Some.is (omega (arith, turns));
        };
        words = tt;
        full = λ says. absurd (none_says _ e.unwritten says);
      };
      all = tt;
      ended = tt;
      spent = λ models d within place is fresh s t h. tt;
    }

-- nothing is left to look for
pub returns-then-is_done : goal.returns-then-is_done
returns-then-is_done g c =
    let r = c.end.result in
    let k = c.args.self.now in
    let w = c.end.ensures.whole in
    let done = sym c.is_done.ensures ∙ c.if-is_done.true in
    let unfull = whole_unfilled r _ c.end.ensures.refused in
    let most = writer_most (g.R.BlockRuns.one c.args.runs.now) (g.R.BlockRuns.count c.args.runs.now) k in
    let turns = c.close_step.ensures.turns in
    record {
      stepped = record {
        reads = reads_none r _ _;
        writes = none_written r _ _ unfull;
        sound = always_ok r _ (λ x. c.requires.ready.sound);
        told = λ models. always_ok r _ (λ x. c.requires.ready.told models);
        segment = (refl, refl, refl);
        within = no_more _ _;
        counted = always_ok r _ (λ x. refl);
        front = λ models. nothing_more _ _;
        rest = λ models. always_ok r _ (λ x. nothing_less (g.O.Output.written c.args.output.now) _);
        leads = whole_goes_not r _ _ _ w;
        cause = whole_cause r _ _ _ _ _ _ c.end.ensures.refused (λ models.
            told_whole _ _ _ _ _ k c.requires.ready.sound.gathering
            (sym (g.met.R.BlockRuns.long c.args.runs.now _ (c.requires.ready.opened models))) c.in-None.is done
            (c.requires.ready.told models));
        left = whole_goes_not r _ _ _ w;
        paid = whole_goes_not r _ _ _ w;
        spends = λ models d within place is fresh s t h. always_ok r _ (λ x. spent_same _ _ _ _ d s t _ k h);
        words = always_ok r _ (λ x. omega (arith, turns));
        costs = record {
          given = as_many _;
          received = no_more _ _;
          grown = as_many _;
          few = no_more_than _ _ _;
          steps = c.close_step.ensures.steps;
          greatest = omega (arith, c.close_step.ensures.greatest);
          calls = no_more_than _ _ _;
          write_calls = no_more _ _;
          turns = omega (arith, turns, most);
        };
        full = λ says. absurd (none_says _ unfull says);
      };
      all = end_comes r _ _ _ k c.requires.ready.sound.gathering c.in-None.is done w;
      ended = whole_ended r _ _ _ w refl;
      spent = λ models d within place is fresh s t h.
          let given = g.S.Source.given c.args.source.now in
          let z = spent_whole _ _ _ _ _ _ d s t k (within, place) is fresh c.in-None.is done
          c.requires.ready.sound.gathering h in
          always_ok r (λ x. x ≡ true → t + (given - given)
          ≤ 2 * g.R.BlockRuns.charge c.args.runs.now d + g.R.BlockRuns.copied c.args.runs.now d + 32)
          (λ x e. omega (arith, z));
    }
