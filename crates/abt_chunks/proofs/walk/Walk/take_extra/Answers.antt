use Rattle.std.proofs.Common.{rules, length, ℕ, ◌+◌, ◌++◌, arith, ◌≡◌, ap, sym, ◌∙◌, length-append, eqb-true, refl}
use Rattle.std.proofs.Common.{false}
use Rattle.abt_sparse.specs.View.{view}
use Rattle.abt_sparse.specs.declared.fault.SparseFault.TheVariants.{Truncated}
use Rattle.abt_chunks.specs.ListingAhead.{begun_listing}
use Rattle.abt_chunks.proofs.Onward.{short_extra, past_extra}
use Rattle.abt_chunks.proofs.Listed.{upcoming_body, short_listing, open_extra, extra_passed}
use Rattle.abt_chunks.proofs.walk.Walk.take_extra.Goals as goal

pub returns-then-is_empty : goal.returns-then-is_empty
returns-then-is_empty c =
    let s = c.args.self.now in let h = c.requires.here in let got = c.args.got.now in
    let z : length got ≡ 0 = eqb-true _ _ (sym c.is_empty.ensures ∙ c.if-is_empty.true) in
    record {
      head = record {
        read = search rules;
        told = record {
          says = λ t e.
              let sz : s.position + length (got ++ t) ≡ s.position = omega
              (arith, length-append got t, ap length (e (omega arith))) in
              rw (c.fail.ensures.part, h.0, sz) (short_extra s.kind s.due (view s.header) s.index s.have s.extra s.raw
              s.words s.word s.position (got ++ t) (omega (arith, h.1)));
          lists = λ t e.
              let none : length (got ++ t) ≡ 0 = omega (arith, length-append got t, ap length (e (omega arith))) in
              let sz : s.position ≡ s.position + length (got ++ t) = omega arith in
              rw c.fail.ensures.part
              (short_listing s (got ++ t) _ h.0 (open_extra s h.1) (omega (arith, h.1)) (ap Truncated sz));
          short = search rules;
        };
        turn = search rules;
      };
    }

pub returns : goal.returns
returns c =
    let s = c.args.self.now in let h = c.requires.here in let got = c.args.got.now in
    record {
      head = record {
        read = search rules;
        told = record {
          says = λ t e.
              let sz : s.position + length (got ++ t) ≡ s.position + length got + length t = omega
              (arith, length-append got t) in
              rw (h.0, sz) (past_extra s.kind s.due (view s.header) s.index s.have s.extra s.raw s.words s.word
              (s.position + length got + length t) got t (length got) refl c.requires.asked);
          lists = λ t e.
              let sz : s.position + length (got ++ t) ≡ s.position + length got + length t = omega
              (arith, length-append got t) in
              upcoming_body s false (got ++ t) h.0 (open_extra s h.1)
              ∙ ap (λ (n : ℕ). begun_listing s.kind s.due (view s.header) s.index s.have s.extra s.raw s.word s.blocks n
              (got ++ t)) sz
              ∙ extra_passed s.kind s.due (view s.header) s.index s.have s.extra s.raw s.word s.blocks
              (s.position + length got + length t) got t (length got) refl c.requires.asked;
          short = search rules;
        };
        turn = search rules;
      };
    }
