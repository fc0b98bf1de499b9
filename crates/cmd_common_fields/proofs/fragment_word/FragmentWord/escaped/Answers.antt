use Rattle.std.proofs.Common.{◌≡◌, ℕ, List, ◌∷◌, ◌++◌, Some, None, arith, ap, subst, ◌∙◌}
use Rattle.std.proofs.lemmas.Str.Pattern.{split_parts}
use Rattle.cmd_common_fields.specs.Fragment.{IsOfParts}
use Rattle.cmd_common_fields.specs.Unescaped.{unescaped}
use Rattle.cmd_common_fields.proofs.Fragments.{cut_at, type_lacks, same_parts, none_some, some_some}
use Rattle.cmd_common_fields.proofs.fragment_word.FragmentWord.escaped.Goals as goal

pub returns-in_default-clause-accepts : goal.returns-in_default-clause-accepts
returns-in_default-clause-accepts c = λ spec path p.
    absurd (cut_at c.args.word.now p.kind (p.name ++ (58 ∷ path)) None p.parts
    (type_lacks p.kind spec.kind p.of_parts.number) c.in_default.ensures.cases)

pub returns-in_default-split_once-clause-accepts : goal.returns-in_default-split_once-clause-accepts
returns-in_default-split_once-clause-accepts c = λ spec path p.
    let first = cut_at c.args.word.now p.kind (p.name ++ (58 ∷ path)) (Some (c.in-Some.kind, c.in-Some.rest)) p.parts
    (type_lacks p.kind spec.kind p.of_parts.number) c.in-Some.ensures.cases in
    absurd (cut_at c.in-Some.rest.now p.name path None first.1 p.no_colon c.in_default-split_once.ensures.cases)

pub returns-in-Some-fragment_spec-clause-value : goal.returns-in-Some-fragment_spec-clause-value
returns-in-Some-fragment_spec-clause-value c =
    let first = split_parts 58 c.args.word.now (Some (c.in-Some.kind, c.in-Some.rest)) c.in-Some.ensures.cases
    (omega arith) in
    let second = split_parts 58 c.in-Some.rest.now (Some (c.in-Some-split_once.name, c.in-Some-split_once.path))
    c.in-Some-split_once.ensures.cases (omega arith) in
    let bytes : c.as_slice.result.now ≡ unescaped c.in-Some-split_once.name.now = c.as_slice.ensures.value
    ∙ c.in_ok-name.ensures in
    record {
      kind = c.in-Some.kind.now;
      name = c.in-Some-split_once.name.now;
      parts = first.0 ∙ ap (λ (r : List ℕ). c.in-Some.kind.now ++ (58 ∷ r)) second.0;
      no_colon = second.1;
      of_parts = subst (λ (n : List ℕ). IsOfParts c.in-Some.kind.now n c.in-Some-fragment_spec.spec) bytes
          c.in-Some-fragment_spec.ensures.value;
    }

pub returns-in-Some-fragment_spec-clause-accepts : goal.returns-in-Some-fragment_spec-clause-accepts
returns-in-Some-fragment_spec-clause-accepts c = λ spec path p.
    let first = cut_at c.args.word.now p.kind (p.name ++ (58 ∷ path)) (Some (c.in-Some.kind, c.in-Some.rest)) p.parts
    (type_lacks p.kind spec.kind p.of_parts.number) c.in-Some.ensures.cases in
    let second = cut_at c.in-Some.rest.now p.name path (Some (c.in-Some-split_once.name, c.in-Some-split_once.path))
    first.1 p.no_colon c.in-Some-split_once.ensures.cases in
    let bytes : c.as_slice.result.now ≡ unescaped c.in-Some-split_once.name.now = c.as_slice.ensures.value
    ∙ c.in_ok-name.ensures in
    let parts = same_parts c.in-Some.kind.now p.kind c.as_slice.result.now (unescaped p.name) spec first.0 (bytes
    ∙ ap unescaped second.0) p.of_parts in
    (some_some c.in-Some-fragment_spec.spec spec (c.in-Some-fragment_spec.ensures.accepts spec parts), second.1)

pub returns-clause-accepts : goal.returns-clause-accepts
returns-clause-accepts c = λ spec path p.
    let first = cut_at c.args.word.now p.kind (p.name ++ (58 ∷ path)) (Some (c.in-Some.kind, c.in-Some.rest)) p.parts
    (type_lacks p.kind spec.kind p.of_parts.number) c.in-Some.ensures.cases in
    let second = cut_at c.in-Some.rest.now p.name path (Some (c.in-Some-split_once.name, c.in-Some-split_once.path))
    first.1 p.no_colon c.in-Some-split_once.ensures.cases in
    let bytes : c.as_slice.result.now ≡ unescaped c.in-Some-split_once.name.now = c.as_slice.ensures.value
    ∙ c.in_ok-name.ensures in
    let parts = same_parts c.in-Some.kind.now p.kind c.as_slice.result.now (unescaped p.name) spec first.0 (bytes
    ∙ ap unescaped second.0) p.of_parts in
    absurd (none_some spec (c.in-None.ensures.accepts spec parts))
