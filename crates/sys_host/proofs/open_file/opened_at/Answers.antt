use Rattle.std.proofs.Common.{◌∙◌, Result, Ok, Err, IfOk}
use Rattle.std.proofs.lemmas.Bool.{false≢true}
use Rattle.std.specs.Result.{IsErr}
use Rattle.sys_host.proofs.open_file.opened_at.Goals as goal

-- of an error nothing is said
failed : {T E : Type 0} (p : T → Type 0) (r : Result T E) → IsErr r → IfOk r p
failed p (Ok x) e = absurd (false≢true e)
failed p (Err x) e = tt

pub returns-in_err-require_kind-2-clause-place : goal.returns-in_err-require_kind-2-clause-place
returns-in_err-require_kind-2-clause-place g c = λ t.
    let opened = c.open.ensures.opens t in
    let r = c.from_residual-in_err-require_kind-2 in
    record {
      there = failed _ r.result r.ensures.0;
      this = failed _ r.result r.ensures.0;
      content = failed _ r.result r.ensures.0;
      leads = opened.leads;
      same = λ e. opened.same (c.opening.ensures.creates ∙ e);
      kept = opened.kept;
    }
