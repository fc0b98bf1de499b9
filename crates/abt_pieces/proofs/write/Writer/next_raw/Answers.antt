use Rattle.std.proofs.Common.{arith, sym, ap, ◌∙◌, ◌≡◌, ◌<◌, Some, None, refl, ◌-◌, Option, IsTrue}
use Rattle.abt_io.proofs.Lent.{reads_err, reads_none, reads_ok, reads_then}
use Rattle.abt_runs.specs.declared.part.Cursor.{Cursor}
use Rattle.abt_pieces.specs.Fault.{full_in_cut}
use Rattle.abt_pieces.specs.declared.fault.PieceFault.{PieceFault}
use Rattle.abt_pieces.proofs.Fronts.{not_told, run_causes, run_not_full}
use Rattle.abt_pieces.proofs.Going.{is_copying, some_of, next_sound, next_writer, write_copies, goes_on, next_keeps}
use Rattle.abt_pieces.proofs.Going.{raw_known}
use Rattle.abt_pieces.proofs.Counts.{segment_words, segment_top, writer_passes, next_paid}
use Rattle.abt_pieces.proofs.Spending.{spent_next}
use Rattle.abt_pieces.proofs.Image.{part_comes}
use Rattle.abt_pieces.proofs.WriterSteps.{part_words}
use Rattle.abt_pieces.proofs.write.Writer.next_raw.Goals as goal

some_no_none : {A : Type 0} (x : A) → ◌≡◌ {A = Option A} (Some x) None → ⊥
some_no_none x h = absurd cc

-- the part goes on with the run
pub returns-in-Some : goal.returns-in-Some
returns-in-Some g c =
    let n = c.next_raw.ensures.part in
    let e = c.in-Ok.ensures.part in
    let self = c.args.self.now in
    let one = g.R.BlockRuns.one c.args.runs.now in
    let count = g.R.BlockRuns.count c.args.runs.now in
    let h = is_copying _ _ _ _ self c.args.copying c.requires.copies.is c.requires.copies.ready.sound in
    let on = goes_on _ _ _ _ _ _ _ c.args.copying h c.requires.whole c.requires.copies.remains in
    let low : c.args.copying.next.block < self.past = omega (arith, on, h.past) in
    let p = g.met.R.BlockRuns.padded c.args.runs.now c.args.copying.next in
    let top = segment_top _ one count c.args.copying.next.block self.past p.0 p.1 low in
    let words = segment_words _ one count c.args.copying.next.block c.in-Ok.part.next.block c.in-Ok.part.blocks
    self.past p.0 p.1 e.found.filled_up e.found.moved low c.requires.copies.ready.sound.gathering.past in
    let turns = n.costs.turns in
    let is = sym (rw c.block_size-size.ensures at c.and_part.ensures) ∙ c.in-Some.is in
    let kept = next_keeps c.args.copying c.in-Some.next c.in-Ok.part _ is in
    let next = kept.0 in
    let z = next_sound _ _ (g.R.BlockRuns.left c.args.runs.now) _ _ _ _ _ count c.args.copying c.in-Some.next
    c.in-Ok.part h c.requires.whole c.requires.copies.remains
    (omega (arith, c.requires.copies.ready.sound.gathering.room))
    (record {
      next = e.found.moved;
      capped = e.found.capped.raw;
      within = e.found.within;
      here =
          (e.found.here.0, e.found.here.1);
      reached = e.found.reached;
      shorter = e.found.on;
      ended = λ q.
          (e.found.at_end q).0;
    }) is in
    let x = λ (models : IsTrue g.S.Source.models). next_writer _ _ _ _ _ _ _ self c.args.copying c.in-Ok.part
    c.requires.copies.is c.requires.copies.ready.sound (sym (g.met.R.BlockRuns.long c.args.runs.now _
    (c.requires.copies.ready.opened models))) (g.met.R.BlockRuns.are_blocks c.args.runs.now _
    (c.requires.copies.ready.opened models)) c.requires.whole c.requires.copies.remains
    (c.requires.copies.ready.told models)
    (e.told models).part (e.told models).place (e.told models).here_place e.found.here.0 (e.told models).stands
    e.found.capped.raw in
    record {
      source = record { reads = reads_ok _ e.source.reads; cause = tt };
      told = λ models.
          let y = x models in
          let same = some_of y.0 c.in-Some.next (sym y.1 ∙ is) in
          let t = rw same at y.2.told in
          record {
            gathering = t.gathering;
            copies = t.copies;
            count = t.count;
            long =
                (let m : self.bytes ≡ self.bytes - 0 = omega arith in m) ∙ t.long;
          };
      segment = (refl, refl, refl);
      bytes = refl;
      rest = λ models.
          let y = x models in
          let same = some_of y.0 c.in-Some.next (sym y.1 ∙ is) in
          rw same at y.2.rest;
      spends = λ models d within place there fresh s t spent. record {
        gathering = spent.gathering;
        copies = spent_next _ _ _ _ _ _ _ _ _ _ c.args.copying c.in-Some.next c.in-Ok.part (omega (arith, on))
            c.requires.whole
            (record {
              next = e.found.moved;
              charged = e.found.charged;
              onward = e.found.onward;
              copies = e.found.copies;
              stops = λ u. (e.found.stops u).1;
              first = (e.told models).first;
              grown = e.costs.given;
            }) is
            (rw c.requires.copies.is at spent.copies);
      };
      goes_on = record {
        sound = record {
          gathering = c.requires.copies.ready.sound.gathering;
          copies = z.sound;
          most =
              c.requires.copies.ready.sound.most;
          small = c.requires.copies.ready.sound.small;
          fits = c.requires.copies.ready.sound.fits;
        };
        comes = λ t come. part_comes _ _ self (record self { copying = Some c.in-Some.next }) c.args.copying
            c.in-Some.next c.requires.copies.is refl kept.1 kept.2 refl refl t come;
        left = write_copies _ _ self (record self { copying = Some c.in-Some.next }) refl refl
            (let y = z.fewer in rw c.requires.copies.is (omega (arith, y)));
        paid = next_paid count _ _ self (record self { copying = Some c.in-Some.next }) c.args.copying c.in-Some.next
            refl refl c.requires.copies.is refl on n.costs.given
            (λ none. let z = c.in-Ok.ensures.fetched none in let y =
            ap (λ (x : Cursor). x.block) next in omega (arith, z, y, e.found.moved, on));
        words = writer_passes _ _ _ _ self _ refl refl (rw (c.requires.copies.is, next) (omega (arith, words, turns)));
      };
      costs = part_words n.costs top;
      unwritten = refl;
    }

-- the source has changed
pub returns-in-None : goal.returns-in-None
returns-in-None g c =
    let n = c.next_raw.ensures.part in
    let e = c.in-Ok.ensures.part in
    let self = c.args.self.now in
    let h = is_copying _ _ _ _ self c.args.copying c.requires.copies.is c.requires.copies.ready.sound in
    let low : c.args.copying.next.block < self.past = let z = goes_on _ _ _ _ _ _ _ c.args.copying h c.requires.whole
    c.requires.copies.remains in omega (arith, z, h.past) in
    let p = g.met.R.BlockRuns.padded c.args.runs.now c.args.copying.next in
    let top = segment_top _ (g.R.BlockRuns.one c.args.runs.now) (g.R.BlockRuns.count c.args.runs.now)
    c.args.copying.next.block self.past p.0 p.1 low in
    record {
      source = record {
        reads = reads_then e.source.reads (reads_none _ _ _);
        cause = not_told _ (λ models.
            let o = c.requires.copies.ready.opened models in
            let is = sym (rw c.block_size-size.ensures at c.and_part.ensures) ∙ c.in-None.is in
            let x = next_writer _ _ _ _ _ _ _ self c.args.copying c.in-Ok.part c.requires.copies.is
            c.requires.copies.ready.sound
            (sym (g.met.R.BlockRuns.long c.args.runs.now _ o))
            (g.met.R.BlockRuns.are_blocks c.args.runs.now _ o) c.requires.whole c.requires.copies.remains
            (c.requires.copies.ready.told models)
            (e.told models).part (e.told models).place (e.told models).here_place e.found.here.0 (e.told models).stands
            e.found.capped.raw in
            some_no_none x.0 (sym x.1 ∙ is));
      };
      told = λ models. tt;
      segment = (refl, refl, refl);
      bytes = refl;
      rest = λ models. tt;
      goes_on = tt;
      spends = λ models d within place is fresh s t spent. tt;
      costs = part_words n.costs top;
      unwritten = refl;
    }

pub next_raw-requires-clause-raw : goal.next_raw-requires-clause-raw
next_raw-requires-clause-raw g c models =
    raw_known _ _ _ _ _ _ _ c.args.self.now c.args.copying c.requires.copies.is c.requires.copies.ready.sound
    (sym (g.met.R.BlockRuns.long c.args.runs.now _ (c.requires.copies.ready.opened models)))
    (c.requires.copies.ready.told models)

pub next_raw-requires-clause-asks : goal.next_raw-requires-clause-asks
next_raw-requires-clause-asks g c =
    let copies = c.requires.copies in
    let h = is_copying _ _ _ _ c.args.self.now c.args.copying copies.is copies.ready.sound in
    let on = goes_on _ _ _ _ _ _ _ c.args.copying h c.requires.whole copies.remains in
    record {
      some = omega (arith, on);
      within = h.next;
      told = λ models.
          let t = rw copies.is at (copies.ready.told models).copies in (copies.ready.opened models, t.next);
    }

pub next_raw-requires-clause-inside : goal.next_raw-requires-clause-inside
next_raw-requires-clause-inside g c =
    let copies = c.requires.copies in
    let h = is_copying _ _ _ _ c.args.self.now c.args.copying copies.is copies.ready.sound in
    omega (arith, h.until, h.past, copies.ready.sound.gathering.past)

-- the source has failed
pub returns-in-Err : goal.returns-in-Err
returns-in-Err g c =
    let n = c.next_raw.ensures.part in
    let copies = c.requires.copies in
    let self = c.args.self.now in
    let h = is_copying _ _ _ _ self c.args.copying copies.is copies.ready.sound in
    let low : c.args.copying.next.block < self.past =
    let z = goes_on _ _ _ _ _ _ _ c.args.copying h c.requires.whole copies.remains in omega (arith, z, h.past) in
    let p = g.met.R.BlockRuns.padded c.args.runs.now c.args.copying.next in
    let top = segment_top _ (g.R.BlockRuns.one c.args.runs.now) (g.R.BlockRuns.count c.args.runs.now)
    c.args.copying.next.block self.past p.0 p.1 low in
    record {
      source = record {
        reads = reads_err _ c.in-Err.ensures.part.source.reads;
        cause = run_causes _ _ _ _ _ _ _ c.run_fault.ensures c.in-Err.ensures.part.source.cause;
      };
      told = λ models. tt;
      segment = (refl, refl, refl);
      bytes = refl;
      rest = λ models. tt;
      goes_on = tt;
      spends = λ models d within place is fresh s t spent. tt;
      costs = part_words n.costs top;
      unwritten = ap (λ (f : PieceFault). full_in_cut f) c.run_fault.ensures ∙ run_not_full c.in-Err.fault;
    }
