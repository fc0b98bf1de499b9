use Rattle.std.proofs.Common.{◌≡◌, ◌≤◌, ℕ, List, ◌∷◌, ◌++◌, Some, None, length, rules, arith, ap, ◌∙◌, refl}
use Rattle.std.proofs.lemmas.Str.Pattern.{split_parts}
use Rattle.cmd_common_fields.specs.Fragment.{type_number}
use Rattle.cmd_common_fields.proofs.Fragments.{first_cut, second_cut, same_spec}
use Rattle.cmd_common_fields.proofs.OsWords.{none_is}
use Rattle.cmd_common_fields.proofs.fragment_word.FragmentWord.new.Goals as goal

pub returns-in_err-kind-clause-accepts : goal.returns-in_err-kind-clause-accepts
returns-in_err-kind-clause-accepts c =
    λ spec path p. absurd (first_cut c.args.word.now spec path p None c.in_err-kind.ensures.cases)

pub returns-in_err-fragment_kind-clause-accepts : goal.returns-in_err-fragment_kind-clause-accepts
returns-in_err-fragment_kind-clause-accepts c = λ spec path p.
    let first = first_cut c.args.word.now spec path p
    (Some (c.in_ok-kind.kind, c.in_ok-kind.rest)) c.in_ok-kind.ensures.cases in
    let known : type_number c.in_ok-kind.kind.now ≡ Some spec.kind = ap type_number first.0 ∙ p.number in
    absurd (none_is spec.kind (c.in_err-fragment_kind.ensures ∙ known))

pub returns-in_err-name-clause-accepts : goal.returns-in_err-name-clause-accepts
returns-in_err-name-clause-accepts c = λ spec path p.
    let first = first_cut c.args.word.now spec path p
    (Some (c.in_ok-kind.kind, c.in_ok-kind.rest)) c.in_ok-kind.ensures.cases in
    absurd (second_cut c.args.word.now c.in_ok-kind.rest.now spec path p None first.1 c.in_err-name.ensures.cases)

pub returns-in_err-fragment_name-clause-accepts : goal.returns-in_err-fragment_name-clause-accepts
returns-in_err-fragment_name-clause-accepts c = λ spec path p.
    let first = first_cut c.args.word.now spec path p
    (Some (c.in_ok-kind.kind, c.in_ok-kind.rest)) c.in_ok-kind.ensures.cases in
    let second = second_cut c.args.word.now c.in_ok-kind.rest.now spec path p
    (Some (c.in_ok-name.name, c.in_ok-name.path)) first.1 c.in_ok-name.ensures.cases in
    let short : length c.in_ok-name.name.now ≤ 31 = omega (arith, ap length second.0, p.short) in
    absurd (search (rules, c.in_err-fragment_name.ensures.accepts.1 short))

pub returns-clause-value : goal.returns-clause-value
returns-clause-value c =
    let first = split_parts 58 c.args.word.now
    (Some (c.in_ok-kind.kind, c.in_ok-kind.rest)) c.in_ok-kind.ensures.cases (omega arith) in
    let second = split_parts 58 c.in_ok-kind.rest.now
    (Some (c.in_ok-name.name, c.in_ok-name.path)) c.in_ok-name.ensures.cases (omega arith) in
    record {
      kind = c.in_ok-kind.kind.now;
      name = c.in_ok-name.name.now;
      parts = first.0 ∙ ap (λ (r : List ℕ). c.in_ok-kind.kind.now ++ (58 ∷ r)) second.0;
      number = search rules;
      no_colon = second.1;
      short = search rules;
      named = search rules;
      no_board = refl;
    }

pub returns-clause-accepts : goal.returns-clause-accepts
returns-clause-accepts c = λ spec path p.
    let first = first_cut c.args.word.now spec path p
    (Some (c.in_ok-kind.kind, c.in_ok-kind.rest)) c.in_ok-kind.ensures.cases in
    let second = second_cut c.args.word.now c.in_ok-kind.rest.now spec path p
    (Some (c.in_ok-name.name, c.in_ok-name.path)) first.1 c.in_ok-name.ensures.cases in (
      same_spec c.args.word.now spec path p c.in_ok-kind.kind.now c.in_ok-name.name.now c.in_ok-fragment_name.field-0
          c.in_ok-fragment_kind.field-0 first.0 second.0 (search rules) (search rules),
      second.1,
    )
