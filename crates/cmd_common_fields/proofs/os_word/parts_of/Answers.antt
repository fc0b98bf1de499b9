use Rattle.std.proofs.Common.{◌≡◌, ℕ, List, ◌∷◌, ◌++◌, Some, None, length, rules, arith, ap, ◌∙◌}
use Rattle.std.proofs.lemmas.Str.Pattern.{split_parts}
use Rattle.cmd_common_fields.proofs.OsWords.{cut_a, cut_b, cut_c, cut_year, same_word, some_is, none_is}
use Rattle.cmd_common_fields.proofs.os_word.parts_of.Goals as goal
use Rattle.cmd_common_fields.proofs.os_word.parts_of.Goals.{then-year-ne4-via-then-year-ne4}
use Rattle.cmd_common_fields.proofs.os_word.parts_of.Goals.{then-year-ne4-via-else-year-ne4+then-month-ne2}

pub returns-in_err-a-clause-accepts : goal.returns-in_err-a-clause-accepts
returns-in_err-a-clause-accepts c = λ os p v.
    absurd (cut_a c.args.word.now os p None c.in_err-a.ensures.cases)

pub returns-in_err-b-clause-accepts : goal.returns-in_err-b-clause-accepts
returns-in_err-b-clause-accepts c = λ os p v.
    let a = cut_a c.args.word.now os p (Some (c.in_ok-a.a, c.in_ok-a.rest)) c.in_ok-a.ensures.cases in
    absurd (cut_b c.args.word.now os p None c.in_ok-a.rest.now a.1 c.in_err-b.ensures.cases)

pub returns-in_err-c-clause-accepts : goal.returns-in_err-c-clause-accepts
returns-in_err-c-clause-accepts c = λ os p v.
    let a = cut_a c.args.word.now os p (Some (c.in_ok-a.a, c.in_ok-a.rest)) c.in_ok-a.ensures.cases in
    let b = cut_b c.args.word.now os p (Some (c.in_ok-b.b, c.in_ok-b.rest)) c.in_ok-a.rest.now a.1
    c.in_ok-b.ensures.cases in
    absurd (cut_c c.args.word.now os p None c.in_ok-b.rest.now b.1 c.in_err-c.ensures.cases)

pub returns-in_err-year-clause-accepts : goal.returns-in_err-year-clause-accepts
returns-in_err-year-clause-accepts c = λ os p v.
    let a = cut_a c.args.word.now os p (Some (c.in_ok-a.a, c.in_ok-a.rest)) c.in_ok-a.ensures.cases in
    let b = cut_b c.args.word.now os p (Some (c.in_ok-b.b, c.in_ok-b.rest)) c.in_ok-a.rest.now a.1
    c.in_ok-b.ensures.cases in
    let d = cut_c c.args.word.now os p (Some (c.in_ok-c.c, c.in_ok-c.rest)) c.in_ok-b.rest.now b.1
    c.in_ok-c.ensures.cases in
    absurd (cut_year c.args.word.now os p None c.in_ok-c.rest.now d.1 c.in_err-year.ensures.cases)

pub returns-then-year-ne4-clause-accepts : goal.returns-then-year-ne4-clause-accepts
returns-then-year-ne4-clause-accepts c = λ os p v.
    let a = cut_a c.args.word.now os p (Some (c.in_ok-a.a, c.in_ok-a.rest)) c.in_ok-a.ensures.cases in
    let b = cut_b c.args.word.now os p (Some (c.in_ok-b.b, c.in_ok-b.rest)) c.in_ok-a.rest.now a.1
    c.in_ok-b.ensures.cases in
    let d = cut_c c.args.word.now os p (Some (c.in_ok-c.c, c.in_ok-c.rest)) c.in_ok-b.rest.now b.1
    c.in_ok-c.ensures.cases in
    let y = cut_year c.args.word.now os p (Some (c.in_ok-year.year, c.in_ok-year.month)) c.in_ok-c.rest.now d.1
    c.in_ok-year.ensures.cases in
    let four : length c.in_ok-year.year.now ≡ 4 = ap length y.0 ∙ p.four in
    let two : length c.in_ok-year.month.now ≡ 2 = ap length y.1 ∙ p.two in
    elim c.then-year-ne4.branch [
      | then-year-ne4-via-then-year-ne4 w ↦ absurd (search (rules, w.if-year-ne4, four))
      | then-year-ne4-via-else-year-ne4+then-month-ne2 w ↦ absurd (search (rules, w.if-month-ne2, two))
    ]

pub returns-in_err-number-clause-accepts : goal.returns-in_err-number-clause-accepts
returns-in_err-number-clause-accepts c = λ os p v.
    let a = cut_a c.args.word.now os p (Some (c.in_ok-a.a, c.in_ok-a.rest)) c.in_ok-a.ensures.cases in
    let b = cut_b c.args.word.now os p (Some (c.in_ok-b.b, c.in_ok-b.rest)) c.in_ok-a.rest.now a.1
    c.in_ok-b.ensures.cases in
    let d = cut_c c.args.word.now os p (Some (c.in_ok-c.c, c.in_ok-c.rest)) c.in_ok-b.rest.now b.1
    c.in_ok-c.ensures.cases in
    let y = cut_year c.args.word.now os p (Some (c.in_ok-year.year, c.in_ok-year.month)) c.in_ok-c.rest.now d.1
    c.in_ok-year.ensures.cases in
    absurd (none_is os.a (c.in_err-number.ensures.accepts os.a (same_word c.in_ok-a.a.now p.a os.a a.0 p.is_a)
    (omega (arith, v.bits.a))))

pub returns-in_err-number-2-clause-accepts : goal.returns-in_err-number-2-clause-accepts
returns-in_err-number-2-clause-accepts c = λ os p v.
    let a = cut_a c.args.word.now os p (Some (c.in_ok-a.a, c.in_ok-a.rest)) c.in_ok-a.ensures.cases in
    let b = cut_b c.args.word.now os p (Some (c.in_ok-b.b, c.in_ok-b.rest)) c.in_ok-a.rest.now a.1
    c.in_ok-b.ensures.cases in
    let d = cut_c c.args.word.now os p (Some (c.in_ok-c.c, c.in_ok-c.rest)) c.in_ok-b.rest.now b.1
    c.in_ok-c.ensures.cases in
    let y = cut_year c.args.word.now os p (Some (c.in_ok-year.year, c.in_ok-year.month)) c.in_ok-c.rest.now d.1
    c.in_ok-year.ensures.cases in
    absurd (none_is os.b (c.in_err-number-2.ensures.accepts os.b (same_word c.in_ok-b.b.now p.b os.b b.0 p.is_b)
    (omega (arith, v.bits.b))))

pub returns-in_err-number-3-clause-accepts : goal.returns-in_err-number-3-clause-accepts
returns-in_err-number-3-clause-accepts c = λ os p v.
    let a = cut_a c.args.word.now os p (Some (c.in_ok-a.a, c.in_ok-a.rest)) c.in_ok-a.ensures.cases in
    let b = cut_b c.args.word.now os p (Some (c.in_ok-b.b, c.in_ok-b.rest)) c.in_ok-a.rest.now a.1
    c.in_ok-b.ensures.cases in
    let d = cut_c c.args.word.now os p (Some (c.in_ok-c.c, c.in_ok-c.rest)) c.in_ok-b.rest.now b.1
    c.in_ok-c.ensures.cases in
    let y = cut_year c.args.word.now os p (Some (c.in_ok-year.year, c.in_ok-year.month)) c.in_ok-c.rest.now d.1
    c.in_ok-year.ensures.cases in
    absurd (none_is os.c (c.in_err-number-3.ensures.accepts os.c (same_word c.in_ok-c.c.now p.c os.c d.0 p.is_c)
    (omega (arith, v.bits.c))))

pub returns-in_err-number-4-clause-accepts : goal.returns-in_err-number-4-clause-accepts
returns-in_err-number-4-clause-accepts c = λ os p v.
    let a = cut_a c.args.word.now os p (Some (c.in_ok-a.a, c.in_ok-a.rest)) c.in_ok-a.ensures.cases in
    let b = cut_b c.args.word.now os p (Some (c.in_ok-b.b, c.in_ok-b.rest)) c.in_ok-a.rest.now a.1
    c.in_ok-b.ensures.cases in
    let d = cut_c c.args.word.now os p (Some (c.in_ok-c.c, c.in_ok-c.rest)) c.in_ok-b.rest.now b.1
    c.in_ok-c.ensures.cases in
    let y = cut_year c.args.word.now os p (Some (c.in_ok-year.year, c.in_ok-year.month)) c.in_ok-c.rest.now d.1
    c.in_ok-year.ensures.cases in
    absurd (none_is os.year (c.in_err-number-4.ensures.accepts os.year
    (same_word c.in_ok-year.year.now p.year os.year y.0 p.is_year) (omega (arith, v.bits.year))))

pub returns-in_err-number-5-clause-accepts : goal.returns-in_err-number-5-clause-accepts
returns-in_err-number-5-clause-accepts c = λ os p v.
    let a = cut_a c.args.word.now os p (Some (c.in_ok-a.a, c.in_ok-a.rest)) c.in_ok-a.ensures.cases in
    let b = cut_b c.args.word.now os p (Some (c.in_ok-b.b, c.in_ok-b.rest)) c.in_ok-a.rest.now a.1
    c.in_ok-b.ensures.cases in
    let d = cut_c c.args.word.now os p (Some (c.in_ok-c.c, c.in_ok-c.rest)) c.in_ok-b.rest.now b.1
    c.in_ok-c.ensures.cases in
    let y = cut_year c.args.word.now os p (Some (c.in_ok-year.year, c.in_ok-year.month)) c.in_ok-c.rest.now d.1
    c.in_ok-year.ensures.cases in
    absurd (none_is os.month (c.in_err-number-5.ensures.accepts os.month
    (same_word c.in_ok-year.month.now p.month os.month y.1 p.is_month) (omega (arith, v.bits.month))))

pub returns-clause-value : goal.returns-clause-value
returns-clause-value c =
    let a = split_parts 46 c.args.word.now (Some (c.in_ok-a.a, c.in_ok-a.rest)) c.in_ok-a.ensures.cases (omega arith) in
    let b = split_parts 46 c.in_ok-a.rest.now (Some (c.in_ok-b.b, c.in_ok-b.rest)) c.in_ok-b.ensures.cases
    (omega arith) in
    let d = split_parts 45 c.in_ok-b.rest.now (Some (c.in_ok-c.c, c.in_ok-c.rest)) c.in_ok-c.ensures.cases
    (omega arith) in
    let y = split_parts 45 c.in_ok-c.rest.now
    (Some (c.in_ok-year.year, c.in_ok-year.month)) c.in_ok-year.ensures.cases (omega arith) in
    let from_c : c.in_ok-b.rest.now ≡ c.in_ok-c.c.now ++ (45 ∷ (c.in_ok-year.year.now ++ (45 ∷ c.in_ok-year.month.now)))
    = d.0 ∙ ap (λ (r : List ℕ). c.in_ok-c.c.now ++ (45 ∷ r)) y.0 in
    let from_b : c.in_ok-a.rest.now ≡ c.in_ok-b.b.now
    ++ (46 ∷ (c.in_ok-c.c.now ++ (45 ∷ (c.in_ok-year.year.now ++ (45 ∷ c.in_ok-year.month.now)))))
    = b.0 ∙ ap (λ (r : List ℕ). c.in_ok-b.b.now ++ (46 ∷ r)) from_c in
    record {
      a = c.in_ok-a.a.now;
      b = c.in_ok-b.b.now;
      c = c.in_ok-c.c.now;
      year = c.in_ok-year.year.now;
      month = c.in_ok-year.month.now;
      parts = a.0 ∙ ap (λ (r : List ℕ). c.in_ok-a.a.now ++ (46 ∷ r)) from_b;
      is_a = c.in_ok-number.ensures.value;
      is_b = c.in_ok-number-2.ensures.value;
      is_c = c.in_ok-number-3.ensures.value;
      is_year = c.in_ok-number-4.ensures.value;
      is_month = c.in_ok-number-5.ensures.value;
      four = search rules;
      two = search rules;
    }

pub returns-clause-accepts : goal.returns-clause-accepts
returns-clause-accepts c = λ os p v.
    let a = cut_a c.args.word.now os p (Some (c.in_ok-a.a, c.in_ok-a.rest)) c.in_ok-a.ensures.cases in
    let b = cut_b c.args.word.now os p (Some (c.in_ok-b.b, c.in_ok-b.rest)) c.in_ok-a.rest.now a.1
    c.in_ok-b.ensures.cases in
    let d = cut_c c.args.word.now os p (Some (c.in_ok-c.c, c.in_ok-c.rest)) c.in_ok-b.rest.now b.1
    c.in_ok-c.ensures.cases in
    let y = cut_year c.args.word.now os p (Some (c.in_ok-year.year, c.in_ok-year.month)) c.in_ok-c.rest.now d.1
    c.in_ok-year.ensures.cases in
    let is_a : c.in_ok-number.field-0 ≡ os.a =
    some_is _ _ os.a c.in_ok-number.was
    (c.number.ensures.accepts os.a (same_word c.in_ok-a.a.now p.a os.a a.0 p.is_a) (omega (arith, v.bits.a))) in
    let is_b : c.in_ok-number-2.field-0 ≡ os.b =
    some_is _ _ os.b c.in_ok-number-2.was
    (c.number-2.ensures.accepts os.b (same_word c.in_ok-b.b.now p.b os.b b.0 p.is_b) (omega (arith, v.bits.b))) in
    let is_c : c.in_ok-number-3.field-0 ≡ os.c =
    some_is _ _ os.c c.in_ok-number-3.was
    (c.number-3.ensures.accepts os.c (same_word c.in_ok-c.c.now p.c os.c d.0 p.is_c) (omega (arith, v.bits.c))) in
    let is_year : c.in_ok-number-4.field-0 ≡ os.year =
    some_is _ _ os.year c.in_ok-number-4.was
    (c.number-4.ensures.accepts os.year (same_word c.in_ok-year.year.now p.year os.year y.0 p.is_year)
    (omega (arith, v.bits.year))) in
    let is_month : c.in_ok-number-5.field-0 ≡ os.month =
    some_is _ _ os.month c.in_ok-number-5.was
    (c.number-5.ensures.accepts os.month (same_word c.in_ok-year.month.now p.month os.month y.1 p.is_month)
    (omega (arith, v.bits.month))) in
    search (rules, is_a, is_b, is_c, is_year, is_month)
