use Rattle.std.proofs.Common.{arith, refl, ◌∙◌, ◌<◌, ◌≤◌, ◌+◌, ◌-◌, ◌*◌, length, IsTrue}
use Rattle.abt_io.proofs.Lent.{reads_err, reads_none, reads_ok, reads_then, writes_none}
use Rattle.abt_pieces.proofs.Fronts.{wrote_part, nothing_more, nothing_less, as_many, no_more, no_more_than, run_causes}
use Rattle.abt_pieces.proofs.Fronts.{run_unsaid, not_full}
use Rattle.abt_pieces.proofs.Writing.{frame_blocks}
use Rattle.abt_pieces.proofs.Going.{gathering, run_begins, run_sound, begun_ok, begun_rest, begun_left, run_counted}
use Rattle.abt_pieces.proofs.Going.{still_told, still_sound, chunk_causes, write_looks, none_small}
use Rattle.abt_pieces.proofs.Counts.{run_words, run_paid, looks_paid, still_passes, writer_looks, writer_looked}
use Rattle.abt_pieces.specs.Spent.{Spent}
use Rattle.abt_pieces.specs.Write.{SoundWriter, ToldWriter, run_begun, silent_write, write_left, writer_words}
use Rattle.abt_pieces.proofs.Spending.{run_spent, spent_looks}
use Rattle.abt_pieces.proofs.Image.{run_leads, look_comes, leads_same}
use Rattle.abt_pieces.proofs.WriterSteps.{none_written, run_never_full}
use Rattle.abt_pieces.proofs.write.Writer.look.Goals as goal

-- the source has failed
pub returns-in-Err : goal.returns-in-Err
returns-in-Err g c =
    let a = c.gather.ensures in
    let turns = a.costs.turns in
    record {
      stepped = record {
        reads = reads_err _ c.in-Err.ensures.source.reads;
        writes = none_written _ _ _ (run_never_full _ _ c.run_fault.ensures);
        sound = tt;
        told = λ models. tt;
        segment = (refl, refl, refl);
        within = no_more _ _;
        counted = tt;
        front = λ models. nothing_more _ _;
        rest = λ models. tt;
        leads = tt;
        cause = run_causes _ _ _ _ _ _ _ c.run_fault.ensures c.in-Err.ensures.source.cause;
        left = tt;
        paid = tt;
        spends = λ models d within place is fresh s t spent. tt;
        words = tt;
        costs = record {
          given = a.costs.given;
          received = a.costs.received;
          grown = as_many _;
          few = no_more_than _ _ _;
          steps = a.costs.one_step.steps;
          greatest = a.costs.one_step.greatest;
          calls = a.costs.calls;
          write_calls = no_more _ _;
          turns = writer_looked _ _ _ _ c.args.self.now (omega (arith, turns));
        };
        full = λ says. absurd (run_unsaid _ _ c.run_fault.ensures says);
      };
    }

-- a run has ended, and is begun
pub returns-in-Some : goal.returns-in-Some
returns-in-Some g c =
    let a = c.gather.ensures in
    let e = c.in-Ok.ensures in
    let b = c.begin_run.ensures in
    let self = c.args.self.now in
    let on = c.gather.new.self in
    let x = c.in-Some.run' in
    let res = c.begin_run.result in
    let new = c.begin_run.new.self in
    let run = rw c.in-Some.is at e.run in
    let sound = c.requires.ready.sound.gathering in
    let runs = c.args.runs.now in
    let content = g.S.Source.content c.args.source.now in
    let count = g.R.BlockRuns.count runs in
    let one = g.R.BlockRuns.one c.args.runs.now in
    let begun = run_sound _ _ _ _ self on x c.requires.none c.requires.ready.sound e.sound run in
    let begins = λ (models : IsTrue g.S.Source.models).
    let closed = rw c.in-Some.is at (e.closed models) in
    let good = frame_blocks _ _ self.first self.past
    (g.met.R.BlockRuns.are_blocks c.args.runs.now _ (c.requires.ready.opened models)) in
    run_begins _ _ _ _ _ _ _ self on x c.requires.none good c.requires.ready.sound (c.requires.ready.told models)
    (e.told models) closed run in
    let turns = a.costs.turns in
    let words = e.words in
    let more = b.put.turns in
    let t = run_begun (gathering self on) x in
    record {
      stepped = record {
        reads = reads_then e.source.reads (reads_none res _ _);
        writes = b.put.writes;
        sound = begun_ok (λ v. SoundWriter (g.R.BlockRuns.within runs) (g.R.BlockRuns.reach runs) count
            (g.R.BlockRuns.size runs) v) t res new begun b.ok;
        told = λ models. begun_ok (λ v. ToldWriter (g.R.BlockRuns.place runs content)
            (g.R.BlockRuns.together runs content) (g.R.BlockRuns.list runs content) v) t res new
            (begins models).told b.ok;
        segment = b.put.segment;
        within = b.put.within;
        counted = run_counted res (gathering self on) new x (length (g.O.Output.written c.args.output.now))
            (length (g.O.Output.written c.begin_run.new.output)) b.ok b.room b.put.whole;
        front = λ models. wrote_part _ _ _ _ _ b.put.front (begins models).chunk;
        rest = λ models. begun_rest _ self t _ res new (g.O.Output.written c.args.output.now)
            (g.O.Output.written c.begin_run.new.output) (begins models).chunk b.ok b.put.written;
        leads = run_leads _ _ _ self on x res new _ _ c.requires.none c.requires.going sound e.sound run b.ok b.some
            b.put.written b.put.whole;
        cause = chunk_causes res _ self.chunks self.bytes _ (g.S.Source.read_faults c.args.source.now)
            (g.S.Source.read_faults c.gather.new.source) (g.O.Output.write_faults c.args.output.now)
            (g.O.Output.write_faults c.begin_run.new.output) b.cause (λ models. let z = begins models in
            (z.enough, z.room));
        left = begun_ok (λ v. write_left (g.R.BlockRuns.left c.args.runs.now) count v < write_left
            (g.R.BlockRuns.left c.args.runs.now) count self) t res new
            (begun_left _ (g.R.BlockRuns.within c.args.runs.now) (g.R.BlockRuns.reach c.args.runs.now) _ _ self on x
            (g.met.R.BlockRuns.left_fits c.args.runs.now) (e.left c.requires.going) begun) b.ok;
        paid = begun_ok (λ v. silent_write count v < silent_write count self
            + (g.S.Source.given c.gather.new.source - g.S.Source.given c.args.source.now)
            + (length (g.O.Output.written c.begin_run.new.output) - length (g.O.Output.written c.args.output.now))) t
            res new
            (let z = run_paid (g.R.BlockRuns.within c.args.runs.now) count _ self on x c.requires.none sound run
            (e.paid c.requires.going) in omega (arith, z)) b.ok;
        spends = λ models d within place is fresh s t' h.
            begun_ok (λ v. Spent (λ y. g.R.BlockRuns.within runs y × g.R.BlockRuns.place runs content y)
            (g.R.BlockRuns.charge runs) (g.R.BlockRuns.copied runs) (g.R.BlockRuns.held runs) d s
            (t' + (g.S.Source.given c.gather.new.source - g.S.Source.given c.args.source.now)) v) t res new
            (run_spent _ _ _ _ _ _ d s t' _ _ self on x
            (λ y. let z = g.met.R.BlockRuns.held_grows c.args.runs.now y 0 0 (omega arith) in z.1)
            (λ k q. ((sound.raw k q).within, (c.requires.ready.told models).gathering.raw k q)) c.requires.none sound
            run h
            (record {
              read = e.gathered models d within place is fresh;
              grown = e.costs.given;
              gathering =
                  e.spends models d within place is fresh s h.gathering;
            })) b.ok;
        words = begun_ok (λ v. c.begin_run.new.m.turns.number + writer_words one count self ≤ c.args.m.now.turns.number
            + 2 * (g.S.Source.given c.gather.new.source - g.S.Source.given c.args.source.now)
            + (length (g.O.Output.written c.begin_run.new.output) - length (g.O.Output.written c.args.output.now)) + 3
            + writer_words one count v) t res new
            (run_words (g.R.BlockRuns.within c.args.runs.now) count one _ _ self on x c.requires.none sound run
            (omega (arith, words, more, b.put.writes.least))) b.ok;
        costs = record {
          given = a.costs.given;
          received = a.costs.received;
          grown = b.put.writes.least;
          few = omega (arith, b.put.few);
          steps = b.no_step.steps ∙ a.costs.one_step.steps;
          greatest = b.no_step.greatest ∙ a.costs.one_step.greatest;
          calls = a.costs.calls;
          write_calls = b.put.calls;
          turns = writer_looked _ _ _ _ self (omega (arith, turns, more, b.put.writes.least));
        };
        full = b.put.full;
      };
    }

-- the run is still open
pub returns-in-None : goal.returns-in-None
returns-in-None g c =
    let a = c.gather.ensures in
    let e = c.in-Ok.ensures in
    let self = c.args.self.now in
    let on = c.gather.new.self in
    let grows = rw c.in-None.is at e.grows in
    let still = λ (models : IsTrue g.S.Source.models).
    still_told _ _ _ _ _ self on c.requires.none c.requires.ready.sound.gathering e.sound
    (c.requires.ready.told models) (e.told models) grows in
    let turns = a.costs.turns in
    let words = e.words in
    record {
      stepped = record {
        reads = reads_ok _ e.source.reads;
        writes = writes_none _ _ _;
        sound = still_sound _ _ _ _ self on c.requires.none c.requires.ready.sound e.sound;
        told = λ models. (still models).1;
        segment = (refl, refl, refl);
        within = no_more _ _;
        counted = refl;
        front = λ models. nothing_more _ _;
        rest = λ models. (still models).0 ∙ nothing_less (g.O.Output.written c.args.output.now) _;
        leads = leads_same _ _ _ _ refl (look_comes _ _ _ self on c.requires.ready.sound.gathering e.sound grows);
        cause = tt;
        left = write_looks _ _ self (gathering self on) on refl refl (e.left c.requires.going)
            (none_small _ self.bytes _ c.requires.none);
        paid = looks_paid _ _ (length (g.O.Output.written c.args.output.now)) self on c.requires.none
            (e.paid c.requires.going);
        spends = λ models d within place is fresh s t h.
            spent_looks _ _ _ _ _ _ d s t _ _ self on c.requires.none c.requires.ready.sound.gathering e.sound grows h
            (record {
              read = e.gathered models d within place is fresh;
              grown = e.costs.given;
              gathering =
                  e.spends models d within place is fresh s h.gathering;
            });
        words = writer_looks _ _ _ _ self _ refl (still_passes self on c.requires.none
            c.requires.ready.sound.gathering.behind_it e.sound.behind_it grows) (omega (arith, words));
        costs = record {
          given = a.costs.given;
          received = a.costs.received;
          grown = as_many _;
          few = no_more_than _ _ _;
          steps = a.costs.one_step.steps;
          greatest = a.costs.one_step.greatest;
          calls = a.costs.calls;
          write_calls = no_more _ _;
          turns = writer_looked _ _ _ _ self (omega (arith, turns));
        };
        full = λ says. absurd (not_full says);
      };
    }
