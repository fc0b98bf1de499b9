use Rattle.std.proofs.Common.{take, sym, subst, refl, ◌∙◌, rules}
use Rattle.std.proofs.lemmas.Bool.{false≢true}
use Rattle.std.proofs.lemmas.List.{take_all}
use Rattle.std.proofs.lemmas.List.Elements.{All-more, All-same}
use Rattle.cmd_common_boot.specs.Carried.{IsCarried}
use Rattle.cmd_common_boot.proofs.pack_texts.PackTexts.not_carried.Goals as goal

pub returns-then-not-is_carried_by : goal.returns-then-not-is_carried_by
returns-then-not-is_carried_by c =
    let is = rw c.deref-option-items.ensures.value at c.option-item.is in
    record {
      option = c.option-item.result;
      is_one = (c.loop-option.option-index, search rules, sym is);
      named = refl;
      not_carried = λ carried. false≢true (sym c.if-not-is_carried_by.true ∙ c.is_carried_by.ensures.1 carried);
    }

pub loop-option-preserved : goal.loop-option-preserved
loop-option-preserved c =
    let P = IsCarried c.args.kind in
    let is = rw c.deref-option-items.ensures.value at c.option-item.is in
    let carried = c.is_carried_by.ensures.0 c.if-not-is_carried_by.false in
    All-more P c.args.self.now.options.items c.loop-option.option-index c.option-item.result (search rules)
    c.loop-option.invariant (subst P is carried)

pub returns : goal.returns
returns c =
    let all = c.args.self.now.options.items in
    let i = c.loop-option.option-index in
    All-same (IsCarried c.args.kind) all (take i all) (sym (take_all i all (search rules))) c.loop-option.invariant
