use Rattle.std.proofs.Common.{rules, length, arith, ◌≡◌, ◌∙◌, append-nil}
use Rattle.abt_sparse.specs.View.{view}
use Rattle.abt_chunks.proofs.Onward.{short_header, past_header, bad_header, header_own}
use Rattle.abt_chunks.proofs.Turns.{caused_own, refused}
use Rattle.abt_chunks.proofs.Listed.{upcoming_header, breaking_header, header_cut, header_bad, header_begun}
use Rattle.abt_chunks.proofs.walk.Walk.take_header.Goals as goal

pub returns-then-got-lt28 : goal.returns-then-got-lt28
returns-then-got-lt28 c = let s = c.args.self.now in let got = c.args.got.now in record {
  head = record {
    read = search rules;
    told = record {
      says = λ t e. rw (c.fail.ensures.part, c.requires.here, e c.if-got-lt28.true, append-nil)
          (short_header got c.if-got-lt28.true);
      lists = λ t e. rw (c.fail.ensures.part, e c.if-got-lt28.true, append-nil) (upcoming_header s got c.requires.here
          ∙ header_cut got c.if-got-lt28.true ∙ breaking_header s _ c.requires.here);
      short = search rules;
    };
    turn = search rules;
  };
}

pub returns-in-Ok : goal.returns-in-Ok
returns-in-Ok c =
    let got = c.args.got.now in
    let l : length got ≡ 28 = omega arith in
    record {
      head = record {
        read = search rules;
        told = record {
          says = λ t e. rw (c.requires.here, c.from.ensures)
              (past_header (view c.in-Ok.header) _ got t l c.in-Ok.ensures c.in-Ok.header.file_header);
          lists = λ t e. upcoming_header c.args.self.now _ c.requires.here ∙ rw c.from.ensures
              (header_begun (view c.in-Ok.header) _ got t l c.in-Ok.ensures c.in-Ok.header.file_header);
          short = search rules;
        };
        turn = search rules;
      };
    }

pub returns-in-Err : goal.returns-in-Err
returns-in-Err c =
    let s = c.args.self.now in
    let l : length c.args.got.now ≡ 28 = omega arith in
    record {
      head = record {
        read = search rules;
        told = record {
          says = λ t e. rw (c.fail-in-Err.ensures.part, c.requires.here)
              (bad_header c.in-Err.fault c.args.got.now t l c.in-Err.ensures);
          lists = λ t e. rw c.fail-in-Err.ensures.part (upcoming_header s _ c.requires.here
              ∙ header_bad c.in-Err.fault c.args.got.now t l c.in-Err.ensures
              ∙ breaking_header s c.in-Err.fault c.requires.here);
          short = search rules;
        };
        turn = let e = c.fail-in-Err.ensures in
            refused _ c.in-Err.fault s _ _ e.part e.failed e.header (rw c.requires.here tt) (rw c.requires.here
            (caused_own c.in-Err.fault (header_own c.args.got.now c.in-Err.fault c.in-Err.ensures)));
      };
    }
