use Rattle.std.proofs.Common.{rules, ℕ, length, ◌+◌, ◌++◌, [], arith, ◌≡◌, ap, ◌∙◌, length-append, refl, false}
use Rattle.std.proofs.lemmas.List.{nil_from_length}
use Rattle.abt_sparse.specs.View.{view}
use Rattle.abt_sparse.specs.declared.fault.SparseFault.TheVariants.{Truncated}
use Rattle.abt_chunks.specs.ListingAhead.{begun_listing, lacking}
use Rattle.abt_chunks.proofs.Onward.{short_raw, past_raw}
use Rattle.abt_chunks.proofs.Listed.{upcoming_body, short_listing, open_raw, raw_behind}
use Rattle.abt_chunks.proofs.walk.Walk.take_raw.Goals as goal

pub returns-then-n-eq0-clause-told : goal.returns-then-n-eq0-clause-told
returns-then-n-eq0-clause-told c got long =
    let s = c.args.self.now in let h = c.requires.here in
    record {
      says = λ t e.
          let n : got ++ t ≡ [] = nil_from_length (got ++ t) (omega
          (arith, length-append got t, long, ap length (e (omega (arith, long))))) in
          let sz : s.position + 0 ≡ s.position = omega arith in
          rw (c.fail.ensures.part, h.0, h.1, h.2, n, sz)
          (short_raw s.due (view s.header) s.index s.have s.raw s.words s.word s.position h.3);
      lists = λ t e.
          let none : length (got ++ t) ≡ 0 = omega
          (arith, length-append got t, long, ap length (e (omega (arith, long)))) in
          let sz : s.position ≡ s.position + length (got ++ t) = omega arith in
          let lacks : lacking s.kind s.due s.raw ≡ s.raw = rw h.2 refl in
          rw c.fail.ensures.part
          (short_listing s (got ++ t) _ h.0 (open_raw s h.2 h.3) (omega (arith, h.3, lacks)) (ap Truncated sz));
      short = search rules;
    }

pub returns-clause-told : goal.returns-clause-told
returns-clause-told c got long =
    let s = c.args.self.now in let h = c.requires.here in let n = c.args.n in
    record {
      says = λ t e.
          let sz : s.position + length (got ++ t) ≡ s.position + n + length t = omega
          (arith, length-append got t, long) in (
            long,
            rw (h.0, h.1, h.2, sz) (past_raw s.due (view s.header) s.index s.have s.raw s.words s.word
                (s.position + n + length t) got t n long c.requires.asked),
          );
      lists = λ t e.
          let sz : s.position + length (got ++ t) ≡ s.position + n + length t = omega
          (arith, length-append got t, long) in
          upcoming_body s false (got ++ t) h.0 (open_raw s h.2 h.3)
          ∙ ap (λ (k : ℕ). begun_listing s.kind s.due (view s.header) s.index s.have s.extra s.raw s.word s.blocks k
          (got ++ t)) sz
          ∙ raw_behind s.kind s.due (view s.header) s.index s.have s.extra s.raw s.word s.blocks
          (s.position + n + length t) got t n h.2 h.1 long c.requires.asked;
      short = λ few. absurd (omega (arith, long, few));
    }
