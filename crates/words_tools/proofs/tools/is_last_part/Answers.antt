use Rattle.std.proofs.Common.{rules, refl}
use Rattle.words_tools.proofs.Calling.{last_is_behind, other_end}
use Rattle.words_tools.proofs.tools.is_last_part.Goals as goal

pub returns-in-Some : goal.returns-in-Some
returns-in-Some c =
    let iff = last_is_behind c.args.name.now c.args.path.now c.in-Some.front.now c.in-Some.ensures.some in
    (λ t. iff.0 (c.is_folder.ensures.0 t), λ last. c.is_folder.ensures.1 (iff.1 last))

pub returns-in-None : goal.returns-in-None
returns-in-None c = (
  λ f. absurd (search (rules, f)),
  λ last. absurd (other_end c.args.name.now c.args.path.now (c.in-None.ensures.none refl) last),
)
