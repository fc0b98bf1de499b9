use Rattle.std.proofs.Common.{◌≡◌, ℕ, ◌+◌, ◌<◌, true, false, List, take, drop, refl, sym, ap, subst, ◌∙◌, arith, IsTrue}
use Rattle.std.specs.Prelude.{Option, Some, None}
use Rattle.std.proofs.lemmas.Bool.{true≢false}
use Rattle.abt_sparse.specs.View.{view}
use Rattle.abt_runs.specs.Head.{has_word, part_of_chunk}
use Rattle.abt_runs.specs.Part.{is_end}
use Rattle.abt_runs.specs.Sparse.{sparse_charge}
use Rattle.abt_runs.specs.SparseLaws.{sparse_long}
use Rattle.abt_sparse.specs.declared.chunk_header.ChunkHeader.{ChunkHeader}
use Rattle.abt_runs.specs.declared.part.Cursor.{Cursor}
use Rattle.abt_runs.specs.declared.part.Run.{Run}
use Rattle.abt_io.proofs.Lent.{reads_none, reads_then, reads_ok}
use Rattle.abt_runs.proofs.Classes.{if_none}
use Rattle.abt_runs.proofs.Chunked.{Parts, parts, standing, standing_as, part_is, next_place, here_place}
use Rattle.abt_runs.proofs.Chunked.{stand_together, at_last, not_telling}
use Rattle.abt_runs.proofs.Passing.{next_within, here_within, here_block, here_used, here_charge, raw_reach, adds}
use Rattle.abt_runs.proofs.Passing.{read_charged, takes, here_next, raw_copies, not_end, nowhere_else, next_block}
use Rattle.abt_runs.proofs.Passing.{raw_few, left_less, stops_full, goes_raw}
use Rattle.abt_runs.specs.RawLaws.{own_size}
use Rattle.abt_runs.proofs.Charges.{no_more, no_more_than, none_added, none_behind, nothing_read, load_costs, both_cost}
use Rattle.abt_runs.proofs.Ordered.{next_first, not_past}
use Rattle.abt_runs.proofs.sparse_parts.SparseRunsBlockRuns.next_part.Goals as goal

not_both : (o : Option ChunkHeader) (k : ChunkHeader) → o ≡ Some k → o ≡ None → ⊥
not_both o k some none = let z : Some k ≡ None = sym some ∙ none in absurd cc

-- the chunks end before the blocks do
pub returns-then-from-self-2 : goal.returns-then-from-self-2
returns-then-from-self-2 g c =
    let self = c.args.self.now in
    let s = c.close_step.ensures in
    record {
      part = record {
        source = record {
          reads = reads_none _ g.S.Source _;
          cause = not_telling g.S.Source.models (λ t. c.if-from-self-2.true
              (at_last (view self.header) (g.S.Source.content c.args.source.now) c.args.from (c.requires.asks.told t).1
              c.if-from-self.true));
        };
        told = λ models. tt;
        found = tt;
        costs = nothing_read _ _ _ _ _ s.turns s.steps s.greatest;
      };
      asked = tt;
      most = no_more_than _ _ _;
    }

-- there is no chunk more
pub returns-then-from-self : goal.returns-then-from-self
returns-then-from-self g c =
    let self = c.args.self.now in
    let s = c.close_step.ensures in
    let w = c.requires.asks.within in
    let fresh : 0 < c.args.from.used → ⊥ = λ used. let z = w.going used in omega (arith, z, c.if-from-self.true) in
    let none : true ≡ false → ⊥ = true≢false in
    record {
      part = record {
        source = record { reads = reads_none _ g.S.Source _; cause = tt };
        told = λ models. record {
          part =
              let long = sparse_long (view self.header) self.length self.image (g.S.Source.content c.args.source.now)
              (c.requires.asks.told models).0 in
              record {
                within = omega (arith, long, c.if-from-self-2.false);
                next = omega arith;
                all = refl;
                ended = λ _. omega (arith, long, c.if-from-self-2.false);
              };
          place = (c.requires.asks.told models).1;
          here_place = (c.requires.asks.told models).1;
          stands = λ kind. absurd cc;
          first = λ some. absurd (omega (arith, some));
          not_past = λ d within place at. omega arith;
        };
        found = record {
          within = w;
          here = (refl, w, own_size _);
          inside = own_size _;
          reached = λ kind. absurd cc;
          nowhere = λ _. refl;
          anew = own_size _;
          moved = none_behind _;
          capped = record { raw = λ kind. omega arith };
          on = λ going. absurd (none going);
          stops = λ used. absurd (fresh used);
          goes_on = λ used. absurd (fresh used);
          at_end = λ end. (c.if-from-self-2.false, refl);
          charged = no_more _ _;
          takes = none_added _;
          copies = λ kind. absurd cc;
          onward = (own_size _, own_size _);
          filled_up = λ some. absurd (omega (arith, some));
        };
        costs = nothing_read _ _ _ _ _ s.turns s.steps s.greatest;
      };
      asked = record {
        length = λ going. absurd (none going);
        fetched = λ going. absurd (none going);
        ended = λ end. refl;
      };
      most = no_more_than _ _ _;
    }

-- the image has no room for a header
pub returns-then-self-from : goal.returns-then-self-from
returns-then-self-from g c =
    let self = c.args.self.now in
    let s = c.close_step-then-self-from.ensures in
    let lt : c.args.from.chunk < self.header.total_chunks = omega
    (arith, c.if-from-self.false, c.requires.asks.within.chunk) in
    record {
      part = record {
        source = record {
          reads = reads_none _ g.S.Source _;
          cause = not_telling g.S.Source.models (λ t.
              let x = g.S.Source.content c.args.source.now in
              let o = (c.requires.asks.told t).0 in
              let r = standing (view self.header) self.length self.image x (take 12 (drop c.args.from.at x)) c.args.from
              o (c.requires.asks.told t).1 lt refl in
              omega (arith, r.2.fits.whole, r.2.fits.total, self.chunk_header, c.if-self-from.true));
        };
        told = λ models. tt;
        found = tt;
        costs = nothing_read _ _ _ _ _ s.turns s.steps s.greatest;
      };
      asked = tt;
      most = no_more_than _ _ _;
    }

-- it is another header
pub returns-in-None : goal.returns-in-None
returns-in-None g c =
    let self = c.args.self.now in
    let h = c.load-head.ensures.wanted in
    let s = c.close_step-in-None.ensures in
    let lt : c.args.from.chunk < self.header.total_chunks = omega
    (arith, c.if-from-self.false, c.requires.asks.within.chunk) in
    record {
      part = record {
        source = record {
          reads = reads_then (rw c.in_default.is at h.loads.reads) (reads_none _ g.S.Source _);
          cause = not_telling g.S.Source.models (λ t.
              let x = g.S.Source.content c.args.source.now in
              let is = c.part.ensures.value ∙ if_none c.load-head.result.fault c.in_default.is
              (c.load-head.ensures.bytes t) in
              let r = standing (view self.header) self.length self.image x c.part.result.now c.args.from
              (c.requires.asks.told t).0 (c.requires.asks.told t).1 lt is in
              let found = c.chunk_here.ensures.found r.0 r.1 r.2.fits in
              absurd (not_both _ _ found c.in-None.is));
        };
        told = λ models. tt;
        found = tt;
        costs = load_costs h.loads (omega (arith, h.few)) s.turns s.steps s.greatest;
      };
      asked = tt;
      most = omega (arith, h.loads.given, h.few);
    }

-- the part, by its cases
cases : (k : ChunkHeader) (word : List ℕ) (c : Cursor) (cap : ℕ) (r : Run) → r ≡ part_of_chunk k word c cap → Parts k
    word c cap r
cases k word c cap r e = subst (λ (q : Run). Parts k word c cap q) (sym e) (parts k word c cap)

-- the part of the chunk
pub returns-in-None-fault : goal.returns-in-None-fault
returns-in-None-fault g c =
    let self = c.args.self.now in
    let v = view self.header in
    let from = c.args.from in
    let h = c.load-head.ensures.wanted in
    let w = c.load_word-word.ensures in
    let s = c.close_step-in-Some-chunk_here.ensures in
    let k = c.in-Some-chunk_here.chunk in
    let word = c.load_word-word.result.bytes in
    let f = c.in-Some-chunk_here.ensures.fits in
    let r = c.part_of.result in
    let p = cases k word from c.args.cap r c.part_of.ensures in
    let lt : from.chunk < self.header.total_chunks = omega (arith, c.if-from-self.false, c.requires.asks.within.chunk)
    in
    let more = adds v self.image from k word c.args.cap r f c.requires.asks.some p in
    let going = not_end k word from c.args.cap r p in
    let not_over : is_end r.kind ≡ true → ⊥ = λ end. true≢false (sym end ∙ going) in
    let stands = λ (models : IsTrue g.S.Source.models).
    let is = c.part.ensures.value ∙ if_none c.load-head.result.fault c.in_default.is (c.load-head.ensures.bytes models)
    in
    standing_as v self.length self.image (g.S.Source.content c.args.source.now) c.part.result.now from k
    (c.requires.asks.told models).0 (c.requires.asks.told models).1 lt is c.in-Some-chunk_here.ensures.read in
    record {
      part = record {
        source = record {
          reads = reads_then (rw c.in_default.is at h.loads.reads)
              (reads_ok _ (rw c.in-None-fault.is at w.loads.reads));
          cause = tt;
        };
        told = λ models. record {
          part =
              let x = g.S.Source.content c.args.source.now in
              let bytes : has_word k.kind k.blocks ≡ true → word ≡ take 4 (drop (from.at + self.header.chunk_hdr_sz) x)
              =
              λ q. if_none c.load_word-word.result.fault c.in-None-fault.is (w.bytes models) q
              ∙ ap (λ (y : List ℕ). take 4 (drop (from.at + c.from.result) y)) (h.loads.reads.content models)
              ∙ ap (λ (n : ℕ). take 4 (drop (from.at + n) x)) c.from.ensures in
              part_is v x self.image from k word c.args.cap r (stands models) c.requires.asks.within.used
              c.requires.asks.some bytes p;
          place = next_place v (g.S.Source.content c.args.source.now) self.image from k word c.args.cap r
              (stands models)
              p;
          here_place = here_place v (g.S.Source.content c.args.source.now) self.image from k word c.args.cap r
              (stands models) (c.requires.asks.told models).1 p;
          stands = stand_together v (g.S.Source.content c.args.source.now) self.image from k word c.args.cap r
              (stands models) p;
          first = λ some d is le.
              let one = next_first v self.length self.image (g.S.Source.content c.args.source.now) from k word
              c.args.cap r (c.requires.asks.told models).0 (stands models) c.requires.asks.some p some d is.0 is.1 le
              in
              (one, one);
          not_past = λ d within place at. not_past v self.length self.image (g.S.Source.content c.args.source.now) from
              k word c.args.cap r (c.requires.asks.told models).0 (stands models) c.requires.asks.some p d within place
              at;
        };
        found = record {
          within = next_within v self.image from k word c.args.cap r c.requires.asks.within f lt c.requires.asks.some p;
          here = (
            here_block v self.image from k word c.args.cap r c.requires.asks.within f p,
            here_within v self.image
                from k word c.args.cap r c.requires.asks.within f lt p,
            here_charge v self.image from k word c.args.cap r
                self.chunk_header f p,
          );
          inside = here_used from k word c.args.cap r p;
          reached = raw_reach v self.image k word from c.args.cap r f p;
          nowhere = nowhere_else k word from c.args.cap r c.requires.asks.some p;
          anew = own_size _;
          moved = next_block v self.image from k word c.args.cap r c.requires.asks.within f p;
          capped = record { raw = raw_few k word from c.args.cap r p };
          on = λ _. left_less v self.image from k word c.args.cap r c.requires.asks.within f lt c.requires.asks.some p;
          stops = stops_full k word from c.args.cap r p;
          goes_on = goes_raw v self.image k word from c.args.cap r f c.requires.asks.some p;
          at_end = λ end. absurd (not_over end);
          charged = let read = read_charged v self.image from k
              (c.load-head.result.received + c.load_word-word.result.received) (sparse_charge v from)
              (sparse_charge v r.next) r self.chunk_header f (λ t. omega (arith, h.few, w.few))
              (λ t. omega (arith, h.few, w.none t)) more in
              omega (arith, read, w.loads.given, h.loads.given);
          takes = takes v self.image from k word c.args.cap r (sparse_charge v from) (sparse_charge v r.next)
              self.chunk_header f p more;
          copies = raw_copies v self.image from k word c.args.cap r self.chunk_header f c.requires.asks.some p;
          onward = (
            here_charge v self.image from k word c.args.cap r self.chunk_header f p,
            here_next v self.image from
                k word c.args.cap r f c.requires.asks.some p,
          );
          filled_up = λ some. absurd (omega (arith, some));
        };
        costs = both_cost h.loads w.loads (omega (arith, h.few, w.few)) s.turns s.steps s.greatest;
      };
      asked = record {
        length = λ _. sym c.length.ensures.size ∙ c.if-length-self.false;
        fetched = λ _.
            let whole = if_none c.load-head.result.fault c.in_default.is h.whole in
            omega (arith, whole, h.loads.given, w.loads.given);
        ended = λ end. absurd (not_over end);
      };
      most = omega (arith, h.loads.given, h.few, w.loads.given, w.few);
    }
