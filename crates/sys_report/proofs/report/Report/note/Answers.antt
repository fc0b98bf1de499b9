use Rattle.std.proofs.Common.{◌≡◌, ◌⊎◌, ◌<◌, ◌+◌, ℕ, List, ◌++◌, Option, Some, None, IfSome, inl, inr, refl, arith}
use Rattle.sys_report.proofs.report.Report.note.Goals as goal

-- the line went out
noted : (text : Option (List ℕ)) (P Q : List ℕ → Type 0) → ((told : List ℕ) → P told → Q told) → IfSome text P
    → IfSome text Q
noted None P Q more is = tt
noted (Some told) P Q more is = more told is

-- or it is counted
counted : (text : Option (List ℕ)) (Q : List ℕ → Type 0) → ((told : List ℕ) → Q told) → IfSome text Q
counted None Q more = tt
counted (Some told) Q more = more told

pub returns-in-Ok-clause-told : goal.returns-in-Ok-clause-told
returns-in-Ok-clause-told g c = noted _ _ _ (λ told is. inl (is, refl)) c.in-Ok.ensures

pub returns-in-Err-clause-told : goal.returns-in-Err-clause-told
returns-in-Err-clause-told g c = counted _ _ (λ told. inr (omega (arith, c.add.ensures)))
