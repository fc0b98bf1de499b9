use Rattle.std.proofs.Common.{◌≡◌, ◌<◌, ℕ, List, ◌∷◌, ◌++◌, Some, None, rules, arith, ap, ◌∙◌}
use Rattle.std.proofs.lemmas.Str.Pattern.{split_parts}
use Rattle.cmd_common_fields.proofs.Boards.{cut_fragment, cut_place}
use Rattle.cmd_common_fields.proofs.OsWords.{same_word, some_is, none_is}
use Rattle.cmd_common_fields.proofs.board_word.BoardWord.new.Goals as goal

pub returns-in_err-fragment-clause-accepts : goal.returns-in_err-fragment-clause-accepts
returns-in_err-fragment-clause-accepts c =
    λ b p v. absurd (cut_fragment c.args.word.now b p None c.in_err-fragment.ensures.cases)

pub returns-in_err-place-clause-accepts : goal.returns-in_err-place-clause-accepts
returns-in_err-place-clause-accepts c = λ b p v.
    let f = cut_fragment c.args.word.now b p (Some (c.in_ok-fragment.fragment, c.in_ok-fragment.rest))
    c.in_ok-fragment.ensures.cases in
    absurd (cut_place c.args.word.now b p c.in_ok-fragment.rest.now None f.1 c.in_err-place.ensures.cases)

pub returns-in_err-number-clause-accepts : goal.returns-in_err-number-clause-accepts
returns-in_err-number-clause-accepts c = λ b p v.
    let f = cut_fragment c.args.word.now b p (Some (c.in_ok-fragment.fragment, c.in_ok-fragment.rest))
    c.in_ok-fragment.ensures.cases in
    absurd (none_is b.fragment (c.in_err-number.ensures.accepts b.fragment
    (same_word c.in_ok-fragment.fragment.now p.fragment b.fragment f.0 p.is_fragment) v.fragment))

pub returns-in_err-number-2-clause-accepts : goal.returns-in_err-number-2-clause-accepts
returns-in_err-number-2-clause-accepts c = λ b p v.
    let f = cut_fragment c.args.word.now b p (Some (c.in_ok-fragment.fragment, c.in_ok-fragment.rest))
    c.in_ok-fragment.ensures.cases in
    let q = cut_place c.args.word.now b p c.in_ok-fragment.rest.now
    (Some (c.in_ok-place.place, c.in_ok-place.value)) f.1 c.in_ok-place.ensures.cases in
    absurd (none_is b.place (c.in_err-number-2.ensures.accepts b.place
    (same_word c.in_ok-place.place.now p.place b.place q.0 p.is_place) (omega (arith, v.place))))

pub returns-in_err-number-3-clause-accepts : goal.returns-in_err-number-3-clause-accepts
returns-in_err-number-3-clause-accepts c = λ b p v.
    let f = cut_fragment c.args.word.now b p (Some (c.in_ok-fragment.fragment, c.in_ok-fragment.rest))
    c.in_ok-fragment.ensures.cases in
    let q = cut_place c.args.word.now b p c.in_ok-fragment.rest.now
    (Some (c.in_ok-place.place, c.in_ok-place.value)) f.1 c.in_ok-place.ensures.cases in
    absurd (none_is b.number (c.in_err-number-3.ensures.accepts b.number
    (same_word c.in_ok-place.value.now p.number b.number q.1 p.is_number) v.number))

pub returns-then-board-lt16-clause-accepts : goal.returns-then-board-lt16-clause-accepts
returns-then-board-lt16-clause-accepts c = λ b p v.
    let f = cut_fragment c.args.word.now b p (Some (c.in_ok-fragment.fragment, c.in_ok-fragment.rest))
    c.in_ok-fragment.ensures.cases in
    let q = cut_place c.args.word.now b p c.in_ok-fragment.rest.now
    (Some (c.in_ok-place.place, c.in_ok-place.value)) f.1 c.in_ok-place.ensures.cases in
    let is_fragment : c.in_ok-number.field-0 ≡ b.fragment =
    some_is _ _ b.fragment c.in_ok-number.was
    (c.number.ensures.accepts b.fragment
    (same_word c.in_ok-fragment.fragment.now p.fragment b.fragment f.0 p.is_fragment) v.fragment) in
    let is_place : c.in_ok-number-2.field-0 ≡ b.place =
    some_is _ _ b.place c.in_ok-number-2.was
    (c.number-2.ensures.accepts b.place (same_word c.in_ok-place.place.now p.place b.place q.0 p.is_place)
    (omega (arith, v.place))) in
    let is_number : c.in_ok-number-3.field-0 ≡ b.number =
    some_is _ _ b.number c.in_ok-number-3.was
    (c.number-3.ensures.accepts b.number (same_word c.in_ok-place.value.now p.number b.number q.1 p.is_number)
    v.number) in
    search (rules, is_fragment, is_place, is_number)

pub returns-else-board-lt16-clause-accepts : goal.returns-else-board-lt16-clause-accepts
returns-else-board-lt16-clause-accepts c = λ b p v.
    let f = cut_fragment c.args.word.now b p (Some (c.in_ok-fragment.fragment, c.in_ok-fragment.rest))
    c.in_ok-fragment.ensures.cases in
    let q = cut_place c.args.word.now b p c.in_ok-fragment.rest.now
    (Some (c.in_ok-place.place, c.in_ok-place.value)) f.1 c.in_ok-place.ensures.cases in
    let is_place : c.in_ok-number-2.field-0 ≡ b.place =
    some_is _ _ b.place c.in_ok-number-2.was
    (c.number-2.ensures.accepts b.place (same_word c.in_ok-place.place.now p.place b.place q.0 p.is_place)
    (omega (arith, v.place))) in
    let low : b.place < 16 = v.place in
    absurd (search (rules, arith, is_place, low))

pub returns-then-board-lt16-clause-value : goal.returns-then-board-lt16-clause-value
returns-then-board-lt16-clause-value c =
    let front = c.in_ok-fragment in
    let back = c.in_ok-place in
    let f = split_parts 58 c.args.word.now (Some (front.fragment, front.rest)) front.ensures.cases (omega arith) in
    let p = split_parts 61 front.rest.now (Some (back.place, back.value)) back.ensures.cases (omega arith) in (
      record {
        fragment = front.fragment.now;
        place = back.place.now;
        number = back.value.now;
        parts = f.0 ∙ ap (λ (r : List ℕ). front.fragment.now ++ (58 ∷ r)) p.0;
        is_fragment = c.in_ok-number.ensures.value;
        is_place = c.in_ok-number-2.ensures.value;
        is_number = c.in_ok-number-3.ensures.value;
      },
      record { fragment = search rules; place = c.if-board-lt16.true; number = search rules },
    )
