use Rattle.std.proofs.Common.{◌≡◌, OnOk, Result, Ok, Err, inl, refl, rules}
use Rattle.std.specs.Prelude.{IsOk}
use Rattle.std.proofs.lemmas.Bool.{false≢true}
use Rattle.sys_text.proofs.Printing.{◌▸◌, text_whole}
use Rattle.sys_report.proofs.report.Report.refused.Goals as goal

-- what holds of an Ok
from_ok : {A E : Type 0} (r : Result A E) (P : Type 0) → OnOk r P → IsOk r → P
from_ok (Ok x) P p ok = p
from_ok (Err e) P p ok = absurd (false≢true ok)

-- the whole line went out
pub returns-else-is_err-2-clause-told : goal.returns-else-is_err-2-clause-told
returns-else-is_err-2-clause-told g c =
    let said : IsOk c.put-said.result = search rules in
    let sent : IsOk c.finish-sent.result = search rules in
    let prints = c.word.ensures ▸ c.word-2.ensures ▸ c.put-said.ensures.1 ▸ c.end_line.ensures
    ▸ c.finish-sent.ensures.prints in
    inl (
      _,
      (c.put-said.ensures.0, from_ok c.put-said.result _ c.put-said.ensures.2 said, refl),
      from_ok c.finish-sent.result _ (text_whole _ _ c.finish-sent.result c.new-text.result c.finish-sent.new.self
          c.args.self.now.err.log.state.bytes c.finish-sent.new.self.output.now.log.state.bytes _ prints
          c.finish-sent.ensures.done c.finish-sent.ensures.emptied c.new-text.ensures.nothing_held
          c.new-text.ensures.written refl) sent,
      refl,
    )
