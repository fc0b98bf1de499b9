use Rattle.std.proofs.Common.{rules, ◌≡◌, false, true, sym, ap, ◌∙◌}
use Rattle.cmd_expand.proofs.Opens.{next_cut, next_lacking, next_other}
use Rattle.cmd_expand.proofs.open_images.open_next.Goals as goal

pub returns-then-not-is_same-clause-refused : goal.returns-then-not-is_same-clause-refused
returns-then-not-is_same-clause-refused g c = λ t.
    let no : c.is_same.result ≡ false = search rules in
    next_other c.refuse.result.fault _ _ c.in-Ok.opened.1 _ _ _ _ _ _ _ c.refuse.ensures.fault
    (c.in-Ok.ensures.opened t) (c.in-Ok.ensures.image t) (sym c.is_same.ensures ∙ no)

pub returns-then-is_other_cut-clause-refused : goal.returns-then-is_other_cut-clause-refused
returns-then-is_other_cut-clause-refused g c = λ t.
    let yes : c.is_other_cut.result ≡ true = search rules in
    next_cut c.refuse-then-is_other_cut.result.fault _ _ c.in-Ok.opened.2 _ _ _ _ _
    c.refuse-then-is_other_cut.ensures.fault (c.in-Ok.ensures.piece t) (sym c.is_other_cut.ensures ∙ yes)

pub returns-in-Err-push_back-clause-refused : goal.returns-in-Err-push_back-clause-refused
returns-in-Err-push_back-clause-refused g c = λ t.
    next_lacking c.of.result.fault _ _ _ _ _ _ _ _ _ _ c.of.ensures (c.in-Ok.ensures.opened t)
    (c.no_memory.ensures.held t)

pub returns-in-Err-push_back-clause-alone : goal.returns-in-Err-push_back-clause-alone
returns-in-Err-push_back-clause-alone g c = λ t.
    let alone = c.in-Ok.ensures.alone t in
    record {
      world = c.no_memory.ensures.world t ∙ alone.world;
      part = ap (λ k. k.part) (c.no_memory.ensures.held t) ∙ alone.part;
    }
