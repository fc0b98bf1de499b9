use Rattle.std.proofs.Common.{arith, ◌∙◌, sym, eqb-true}
use Rattle.std.proofs.lemmas.List.{nil_from_length}
use Rattle.std.proofs.lemmas.Str.Pattern.{NoCharPasses-char}
use Rattle.sys_numbered_names.proofs.Numbering.{alone, at_slash, at_top, split_at}
use Rattle.sys_numbered_names.proofs.folder.folder_and_name.Goals as goal

pub returns-in-Some : goal.returns-in-Some
returns-in-Some c =
    let h = c.in-Some.ensures.cases in
    let s = split_at c.args.prefix.now c.in-Some.folder.now c.in-Some.name.now h.0 h.1 h.2 h.3 h.4 h.6 h.7 in
    at_top c.in-Some.folder.now c.in-Some.name.now c.args.prefix.now s.0
    (nil_from_length _ (eqb-true _ _ (sym c.is_empty.ensures ∙ c.if-is_empty.true))) s.1

pub returns-in-Some-2 : goal.returns-in-Some-2
returns-in-Some-2 c =
    let h = c.in-Some.ensures.cases in
    let s = split_at c.args.prefix.now c.in-Some.folder.now c.in-Some.name.now h.0 h.1 h.2 h.3 h.4 h.6 h.7 in
    at_slash c.in-Some.folder.now c.in-Some.name.now c.args.prefix.now s.0 s.1

pub returns-in-None : goal.returns-in-None
returns-in-None c = alone c.args.prefix.now (λ i l.
    NoCharPasses-char 47 c.args.prefix.now i c.in-None.ensures.cases (omega arith) l)
