use Rattle.std.proofs.Common.{◌≡◌, refl, sym, subst}
use Rattle.std.specs.Prelude.{IfErr, Option, Result, Err}
use Rattle.sys_refusals.specs.Blamed.{TellsOf}
use Rattle.sys_refusals.specs.declared.place.FileArg.{FileArg}
use Rattle.sys_refusals.specs.declared.told.Side.{Side}
use Rattle.sys_refusals.proofs.Blames.{tells_begun}
use Rattle.std.proofs.lemmas.Bool.{false≢true}
use Rattle.sys_disk.specs.Counts.{call_of, no_counts}
use Rattle.sys_disk.proofs.Failings.{is_some_failure}
use Rattle.sys_disk.proofs.Worlds.{most_of_all}
use Rattle.sys_disk.proofs.ending.ended.Goals as goal

-- of the fault that the call returned
of_answer : {T F : Type 0} (side : F → Side) (answer : Result T F) (fault : F) (place input output : Option FileArg)
    → answer ≡ Err fault → TellsOf (side fault) place input output
    → IfErr answer (λ f. TellsOf (side f) place input output)
of_answer side answer fault place input output is tells =
    subst (λ a. IfErr a (λ f. TellsOf (side f) place input output)) (sym is) tells

pub returns-in-Err-clause-told_of : goal.returns-in-Err-clause-told_of
returns-in-Err-clause-told_of g c =
    of_answer g.F.Told.side_of c.args.answer c.in-Err.fault _ _ _ c.in-Err.is
    (tells_begun c.args.sides c.begun-sides.result c.args.output _ _ c.refuse.ensures.place
    c.begun-sides.ensures.place c.begun-sides.ensures.others)

pub returns-in-Ok-finish-clause-closed : goal.returns-in-Ok-finish-clause-closed
returns-in-Ok-finish-clause-closed g c = λ t. record {
  more = no_counts;
  unread = refl;
  closed = c.in-Ok-finish.ensures.closed t;
  clean = λ _ _. refl;
  left = λ _. c.in-Ok-finish.ensures.ended t;
  most = most_of_all _ _ _ _ (c.in-Ok-finish.ensures.ended t);
}

pub returns-in-Err-finish-clause-closed : goal.returns-in-Err-finish-clause-closed
returns-in-Err-finish-clause-closed g c = λ t. record {
  more = call_of c.in-Err-finish.refusal.fault;
  unread = refl;
  closed = c.in-Err-finish.ensures.closed t;
  clean = λ done. absurd (false≢true done);
  left = λ none. absurd (is_some_failure _ _ none);
  most = c.in-Err-finish.ensures.most t;
}
