use Rattle.std.proofs.Common.{take, sym, subst, refl, ◌∙◌, rules}
use Rattle.std.proofs.lemmas.Bool.{false≢true}
use Rattle.std.proofs.lemmas.List.{take_all}
use Rattle.std.proofs.lemmas.List.Elements.{All-more, All-same}
use Rattle.cmd_common_boot.specs.Carried.{IsTaken}
use Rattle.cmd_common_boot.proofs.pack_texts.PackTexts.not_taken.Goals as goal

pub returns-then-not-is_taken_by : goal.returns-then-not-is_taken_by
returns-then-not-is_taken_by c =
    let is = rw c.deref-fragment-items.ensures.value at c.fragment-item.is in
    record {
      fragment = c.fragment-item.result;
      is_one = (c.loop-fragment.fragment-index, search rules, sym is);
      written = refl;
      not_taken = λ taken. false≢true (sym c.if-not-is_taken_by.true ∙ c.is_taken_by.ensures.1 taken);
    }

pub loop-fragment-preserved : goal.loop-fragment-preserved
loop-fragment-preserved c =
    let P = IsTaken c.args.kind in
    let is = rw c.deref-fragment-items.ensures.value at c.fragment-item.is in
    let taken = c.is_taken_by.ensures.0 c.if-not-is_taken_by.false in
    All-more P c.args.self.now.fragments.items c.loop-fragment.fragment-index c.fragment-item.result (search rules)
    c.loop-fragment.invariant (subst P is taken)

pub returns : goal.returns
returns c =
    let all = c.args.self.now.fragments.items in
    let i = c.loop-fragment.fragment-index in
    All-same (IsTaken c.args.kind) all (take i all) (sym (take_all i all (search rules))) c.loop-fragment.invariant
