use Rattle.std.proofs.Common.{◌≡◌, rules, ap, sym, subst}
use Rattle.abt_headers.specs.Os.{IsOsVersion, os_raw}
use Rattle.cmd_common_fields.proofs.OsWords.{ok_with}
use Rattle.cmd_common_fields.proofs.os_word.os_from_word.Goals as goal

pub returns-in-Some-clause-accepts : goal.returns-in-Some-clause-accepts
returns-in-Some-clause-accepts c = λ os p v.
    let same : c.in-Some.os ≡ os = search (rules, c.in-Some.ensures.accepts os p v) in
    ok_with c.new.result (os_raw c.in-Some.os) (os_raw os) (c.new.ensures.accepts.1 (subst IsOsVersion (sym same) v))
    c.new.ensures.value (ap os_raw same)
