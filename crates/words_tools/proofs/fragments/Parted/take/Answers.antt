use Rattle.std.proofs.Common.{rules, [], ◌∷◌, ◌++◌, ap, map, subst}
use Rattle.words_tools.specs.Fragments.{AreParting}
use Rattle.words_tools.proofs.Parting.{leave_one, parted_of_none, say_equals, say_next}
use Rattle.words_tools.proofs.Rejecting.{rejects_of_none}
use Rattle.words_tools.proofs.fragments.Parted.take.Goals as goal

pub returns-in-Ok-clause-parting : goal.returns-in-Ok-clause-parting
returns-in-Ok-clause-parting c = λ words before.
    let said = c.in-Ok.ensures.said in
    say_next words _ _ _ _ c.args.word.now c.in-Some.row.now said.0
    (subst (AreParting words c.args.self.now.said.items (map (λ it. it.now) c.args.self.now.others.items)) c.in-Some.is
    before) said.1 said.2 (ap (map (λ it. it.now)) c.in-Ok.ensures.others)

pub returns-in_ok-leave-in-Other-clause-parting : goal.returns-in_ok-leave-in-Other-clause-parting
returns-in_ok-leave-in-Other-clause-parting c = λ words before.
    leave_one words _ _ _ _ c.args.word.now
    (parted_of_none words _ _ c.args.before (first_of (
      assumption c.in_default.not-Some,
      search (rules, c.in_default.not-Some, c.in_default.is),
    )) before) c.in_ok-leave-in-Other.ensures.said c.in_ok-leave-in-Other.ensures.others

pub returns-in-WithNext-clause-parting : goal.returns-in-WithNext-clause-parting
returns-in-WithNext-clause-parting c = λ words before.
    let says = c.in-WithNext.ensures in
    record {
      front = words;
      short = says.0;
      last = ap (λ w. words ++ (w ∷ [])) says.1;
      named = says.2;
      row_in = says.3;
      parted = parted_of_none words _ _ c.args.before (first_of (
        assumption c.in_default.not-Some,
        search (rules, c.in_default.not-Some, c.in_default.is),
      )) before;
    }

pub returns-in-Ok-say-clause-parting : goal.returns-in-Ok-say-clause-parting
returns-in-Ok-say-clause-parting c = λ words before.
    let says = c.in-WithEquals.ensures in
    let said = c.in-Ok-say.ensures.said in
    say_equals words _ _ _ _ says.0 c.in-WithEquals.value.now c.args.word.now c.in-WithEquals.row.now said.0
    (parted_of_none words _ _ c.args.before (first_of (
      assumption c.in_default.not-Some,
      search (rules, c.in_default.not-Some, c.in_default.is),
    )) before) says.2 says.3 said.1 says.1 said.2 (ap (map (λ it. it.now)) c.in-Ok-say.ensures.others)

pub returns-in-Err-say-clause-refused : goal.returns-in-Err-say-clause-refused
returns-in-Err-say-clause-refused c = λ is.
    let says = c.in-WithEquals.ensures in
    let row = c.in-WithEquals.row.now in
    rejects_of_none c.args.before c.args.word.now (first_of (
      assumption c.in_default.not-Some,
      search (rules, c.in_default.not-Some, c.in_default.is),
    ))
    (says.0, c.in-WithEquals.value.now, row, says.1, says.2, says.3, c.in-Err-say.ensures.refused is)
