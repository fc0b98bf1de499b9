use Rattle.std.proofs.Common.{◌∙◌, eqb-true, sym}
use Rattle.std.proofs.lemmas.List.{nil_from_length}
use Rattle.cmd_pack.proofs.Again.{none_stops, opened_none}
use Rattle.cmd_pack.proofs.repack.ramdisks_of.Goals as goal

pub returns-then-is_empty-clause-opens : goal.returns-then-is_empty-clause-opens
returns-then-is_empty-clause-opens g c =
    let opens = c.own_fragments.ensures.opens in
    record {
      unread = opens.unread;
      opened = λ t.
          opened_none _ c.args.texts.now.fragments.items _ _ _
          (sym c.as_slice.ensures.value
          ∙ nil_from_length _ (eqb-true _ _ (sym c.is_empty.ensures ∙ c.if-is_empty.true)))
          (opens.held t);
      refused = λ t. none_stops _ (λ refusal. refusal.fault) _ _ _ (opens.refused t);
      keeps = opens.keeps;
    }
