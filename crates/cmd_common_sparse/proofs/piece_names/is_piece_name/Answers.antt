use Rattle.std.proofs.Common.{rules, arith, ◌≡◌, ◌<◌, length, None}
use Rattle.std.proofs.lemmas.Str.Pattern.{strip_prefix_char}
use Rattle.cmd_common_sparse.proofs.Points.{behind, by_digits, no_point}
use Rattle.cmd_common_sparse.proofs.piece_names.is_piece_name.Goals as goal

pub returns-then-not-is_empty : goal.returns-then-not-is_empty
returns-then-not-is_empty c =
    let cut = c.in-Some.ensures.cases in
    let point = strip_prefix_char 46 c.in-Some.rest.now _ c.strip_prefix-2.ensures.cases (omega arith) in
    let some : 0 < length c.in-Some-strip_prefix.digits.now = search rules in
    by_digits c.args.prefix.now c.args.path.now c.in-Some.rest.now c.in-Some-strip_prefix.digits.now _ _
    (behind _ _ _ cut.0 cut.1.1 cut.2) (search (rules, point)) some (cc) c.are_digits.ensures

pub returns-in-None : goal.returns-in-None
returns-in-None c =
    let cut = c.in-Some.ensures.cases in (
      λ e. search (rules, e),
      λ p. absurd (no_point c.args.prefix.now c.args.path.now c.in-Some.rest.now (behind _ _ _ cut.0 cut.1.1 cut.2)
          (strip_prefix_char 46 c.in-Some.rest.now None c.in-None.ensures.cases (omega arith)) p),
    )
