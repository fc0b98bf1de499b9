use Rattle.std.proofs.Common.{rules, ℕ, length, ◌+◌, ◌++◌, arith, ◌≡◌, ap, ◌∙◌, length-append, append-nil, false}
use Rattle.abt_sparse.specs.View.{view}
use Rattle.abt_sparse.specs.declared.fault.SparseFault.TheVariants.{Truncated}
use Rattle.abt_chunks.specs.ListingAhead.{begun_listing, lacking}
use Rattle.abt_chunks.proofs.Onward.{short_word, past_word}
use Rattle.abt_chunks.proofs.Listed.{upcoming_body, short_listing, open_word, word_behind, lacks_word}
use Rattle.abt_chunks.proofs.walk.Walk.take_word.Goals as goal

pub returns-then-got-lt4 : goal.returns-then-got-lt4
returns-then-got-lt4 c =
    let s = c.args.self.now in let h = c.requires.here in let got = c.args.got.now in
    record {
      head = record {
        read = search rules;
        told = record {
          says = λ t e. rw (c.fail.ensures.part, h.0, h.1, h.3, e c.if-got-lt4.true, append-nil) (short_word s.kind
              (view s.header) s.index s.have s.raw s.words s.word (s.position + length got) got c.if-got-lt4.true h.2);
          lists = λ t e.
              let none : length (got ++ t) ≡ length got = omega
              (arith, length-append got t, ap length (e c.if-got-lt4.true)) in
              let sz : s.position + length got ≡ s.position + length (got ++ t) = omega arith in
              let lacks : lacking s.kind s.due s.raw ≡ 4 = rw h.3 (lacks_word s.kind s.raw h.2) in
              rw c.fail.ensures.part (short_listing s (got ++ t) _ h.0 (open_word s h.2 h.3)
              (omega (arith, lacks, c.if-got-lt4.true)) (ap Truncated sz));
          short = search rules;
        };
        turn = search rules;
      };
    }

pub returns : goal.returns
returns c =
    let s = c.args.self.now in let h = c.requires.here in let got = c.args.got.now in
    let l : length got ≡ 4 = omega arith in
    record {
      head = record {
        read = search rules;
        told = record {
          says = λ t e.
              let sz : s.position + length (got ++ t) ≡ s.position + 4 + length t = omega (arith, length-append got t)
              in
              rw (h.0, h.1, h.3, sz, c.copy_from_slice.ensures.after) (past_word s.kind (view s.header) s.index s.have
              s.raw
              s.words s.word (s.position + 4 + length t) got t l h.2);
          lists = λ t e.
              let sz : s.position + length (got ++ t) ≡ s.position + 4 + length t = omega (arith, length-append got t)
              in
              upcoming_body s false (got ++ t) h.0 (open_word s h.2 h.3)
              ∙ ap (λ (n : ℕ). begun_listing s.kind s.due (view s.header) s.index s.have s.extra s.raw s.word s.blocks n
              (got ++ t)) sz
              ∙ rw c.copy_from_slice.ensures.after (word_behind s.kind s.due (view s.header) s.index s.have s.extra
              s.raw
              s.word s.blocks (s.position + 4 + length t) got t h.3 h.1 l h.2);
          short = search rules;
        };
        turn = search rules;
      };
    }
