use Rattle.std.proofs.Common.{rules, ◌≡◌, Some, Ok}
use Rattle.cmd_cut.proofs.Answered.{broken}
use Rattle.cmd_cut.proofs.Nexts.{next_laid, next_told}
use Rattle.cmd_cut.proofs.next_piece.RawRunsLaysPieces.lay_next.Goals as goal

pub returns-in-Ok-Some-clause-laid : goal.returns-in-Ok-Some-clause-laid
returns-in-Ok-Some-clause-laid g c = λ t.
    let is : c.next_piece_at-answer.result ≡ Ok (Some c.in-Ok-Some.piece) = first_of (search (rules), cc) in
    let laid = rw is at (c.next_piece_at-answer.ensures.laid t) in
    let next = (rw is at c.next_piece_at-answer.ensures.made).piece in
    next_laid _ _ _ _ _ c.in-Ok-Some.piece _ _ _ c.requires.ready.between c.requires.empty
    (c.requires.ready.ready.told t).cuts next.begins laid

pub returns-in-Ok-Some-clause-told : goal.returns-in-Ok-Some-clause-told
returns-in-Ok-Some-clause-told g c = λ t.
    let is : c.next_piece_at-answer.result ≡ Ok (Some c.in-Ok-Some.piece) = first_of (search (rules), cc) in
    let laid = rw is at (c.next_piece_at-answer.ensures.laid t) in
    let next = (rw is at c.next_piece_at-answer.ensures.made).piece in
    next_told _ _ _ _ _ c.in-Ok-Some.piece _ _ _ c.requires.ready.between c.requires.empty
    (c.requires.ready.ready.told t).cuts next.begins laid

pub returns-in-Err-clause-broken : goal.returns-in-Err-clause-broken
returns-in-Err-clause-broken g c = λ t.
    broken _ _ c.requires.empty c.in-Err.ensures.grows.unfinished

pub returns-in-Err-answer-clause-broken : goal.returns-in-Err-answer-clause-broken
returns-in-Err-answer-clause-broken g c = λ t.
    broken _ _ c.requires.empty c.in-Err-answer.ensures.grows.unfinished
