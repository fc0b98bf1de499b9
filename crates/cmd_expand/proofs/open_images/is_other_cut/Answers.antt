use Rattle.std.proofs.Common.{rules, arith, ◌≡◌, ◌<◌, ◌≤◌, ◌∙◌, ap, length, sym, true}
use Rattle.std.specs.List.{list_any}
use Rattle.std.proofs.lemmas.List.{take_all}
use Rattle.std.proofs.lemmas.List.Folds.{list_any_at}
use Rattle.cmd_expand.specs.CutOf.{is_of_other_cut}
use Rattle.cmd_expand.proofs.Turns.{any_map}
use Rattle.cmd_expand.proofs.open_images.is_other_cut.Goals as goal

pub returns-then-is_of_other_cut : goal.returns-then-is_of_other_cut
returns-then-is_of_other_cut g c =
    let one = c.index.result.now in
    let below : c.loop-i.i < length c.args.kept.now.items = search rules in
    sym (any_map (is_of_other_cut c.args.own) (λ kept. kept.piece) c.args.kept.now.items
    ∙ list_any_at (λ kept. is_of_other_cut c.args.own kept.piece) c.args.kept.now.items c.loop-i.i one below
    (ap (λ kept. is_of_other_cut c.args.own kept.piece) (sym c.index.ensures) ∙ sym c.is_of_other_cut.ensures
    ∙ c.if-is_of_other_cut.true))

pub returns : goal.returns
returns g c =
    let over : length c.args.kept.now.items ≤ c.loop-i.i = search rules in
    sym (any_map (is_of_other_cut c.args.own) (λ kept. kept.piece) c.args.kept.now.items
    ∙ ap (λ l. list_any (λ kept. is_of_other_cut c.args.own kept.piece) l)
    (sym (take_all c.loop-i.i c.args.kept.now.items over)) ∙ c.loop-i.invariant.none)
