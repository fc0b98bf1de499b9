use Rattle.std.proofs.Common.{rules, length, ◌+◌, ◌++◌, arith, ◌≡◌, ap, sym, ◌∙◌, append-nil}
use Rattle.abt_sparse.specs.View.{view}
use Rattle.abt_sparse.specs.Reading.{kind_at}
use Rattle.abt_chunks.proofs.Onward.{spent, short_head, bad_kind, short_head_at, bad_kind_at}
use Rattle.abt_chunks.proofs.Listed.{bad_listing, ended}
use Rattle.abt_chunks.proofs.Turns.{refused}
use Rattle.abt_chunks.proofs.walk.Walk.take_chunk.Goals as goal

pub returns-then-got-lt12 : goal.returns-then-got-lt12
returns-then-got-lt12 c =
    let s = c.args.self.now in let h = c.requires.here in let got = c.args.got.now in
    let size = s.position + length got in
    record {
      head = record {
        read = search rules;
        told = record {
          says = λ t e. rw (c.fail.ensures.part, h.0, h.1, e c.if-got-lt12.true, append-nil)
              (spent s.kind s.due (view s.header) s.index s.have s.raw s.words s.word size got h.2
              ∙ short_head (view s.header) size s.index s.have got h.3 c.if-got-lt12.true);
          lists = λ t e. rw (c.fail.ensures.part, e c.if-got-lt12.true, append-nil) (bad_listing s got _ _ h.0
              (ended s h.1 h.2) h.3 (short_head_at (view s.header) size s.index s.have got h.3 c.if-got-lt12.true));
          short = search rules;
        };
        turn = search rules;
      };
    }

pub returns-in-None : goal.returns-in-None
returns-in-None c =
    let s = c.args.self.now in let h = c.requires.here in let got = c.args.got.now in
    let l : length got ≡ 12 = omega arith in
    let none = ap kind_at (sym c.u16_at.ensures) ∙ sym c.from_code.ensures ∙ c.in-None.is in
    record {
      head = record {
        read = search rules;
        told = record {
          says = λ t e. let size = s.position + length (got ++ t) in
              rw (c.fail-in-None.ensures.part, h.0, h.1, c.unknown_type.ensures)
              (spent s.kind s.due (view s.header) s.index s.have s.raw s.words s.word size (got ++ t) h.2
              ∙ bad_kind (view s.header) size s.index s.have got t h.3 l none);
          lists = λ t e. rw (c.fail-in-None.ensures.part, c.unknown_type.ensures)
              (bad_listing s (got ++ t) _ _ h.0 (ended s h.1 h.2) h.3
              (bad_kind_at (view s.header) (s.position + length (got ++ t)) s.index s.have got t h.3 l none));
          short = search rules;
        };
        turn = let e = c.fail-in-None.ensures in
            refused _ _ s _ _ e.part e.failed e.header (rw (h.0, c.unknown_type.ensures) (ended s h.1 h.2))
            (rw (h.0, c.unknown_type.ensures) tt);
      };
    }
