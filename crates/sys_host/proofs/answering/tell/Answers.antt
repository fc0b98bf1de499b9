use Rattle.std.proofs.Common.{◌≡◌, ℕ, List, [], Option, Bool, true, false, inl, inr, refl, rules, sym, append-nil}
use Rattle.std.proofs.lemmas.Bool.{false≢true}
use Rattle.sys_refusals.specs.declared.place.FileArg.{FileArg}
use Rattle.sys_refusals.specs.declared.refusal.About.{About}
use Rattle.sys_report.specs.Shows.{IsFirstLine, NotesOne}
use Rattle.sys_report.specs.declared.report.Report.{Report}
use Rattle.sys_host.specs.Answering.{IsMessage, IsSecond}
use Rattle.sys_host.specs.declared.answering.Telling.{Telling}
use Rattle.sys_host.proofs.answering.tell.Goals as goal

-- no second line is asked for
no_second : (verbose : Bool) (piece : Option ℕ) (about : About) → verbose ≡ false → IsSecond verbose piece about []
no_second false piece about quiet = refl
no_second true piece about quiet = absurd (false≢true (sym quiet))

-- the first line is the message
one_line : (Says : Option FileArg → List ℕ → Type 0) (piece : Option ℕ) (how : Telling) (about : About)
    (old new : Report) → how.is_verbose ≡ false → NotesOne old new (IsFirstLine how.program.now (Says about.place))
    → NotesOne old new (IsMessage Says piece how about)
one_line Says piece how about old new quiet (inl line) = inl (
  line.0,
  record {
    first = line.0;
    second = [];
    is_first = line.1;
    is_second = no_second how.is_verbose piece about quiet;
    whole = sym (append-nil line.0);
  },
  line.2,
  line.3,
)
one_line Says piece how about old new quiet (inr lost) = inr lost

pub returns-then-not-how-clause-told : goal.returns-then-not-how-clause-told
returns-then-not-how-clause-told g c =
    let quiet : c.args.how.is_verbose ≡ false = search rules in
    one_line _ _ _ _ c.args.report.now c.refused.new.self quiet c.refused.ensures.told
