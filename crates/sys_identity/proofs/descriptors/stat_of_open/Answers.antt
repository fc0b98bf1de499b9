use Rattle.std.proofs.Common.{rules, ◌≡◌, ℕ, Result, Ok, Err, IsOk, IsSome, Option, Some, None, refl, sym, ap, ◌∙◌}
use Rattle.sys_file.specs.System.{LooksAt, Describes, described}
use Rattle.sys_file.specs.declared.stat.Stat.{Stat}
use Rattle.sys_identity.proofs.descriptors.stat_of_open.Goals as goal
use Rattle.sys_identity.proofs.descriptors.stat_of_open.Goals.{in_default-via-in-None-1}
use Rattle.sys_identity.proofs.descriptors.stat_of_open.Goals.{in_default-via-in-Some+in-Err-1}

-- a call describes the file that the path leads to
looked : {E : Type 0} (number : Option ℕ → ℕ → ℕ) (known : ℕ → Stat) (file : Option ℕ) (r : Result Stat E) (f : ℕ)
    → LooksAt number known file r → file ≡ Some f → IsOk r
looked number known file (Ok s) f h e = refl
looked number known file (Err x) f h e = let n : None ≡ Some f = sym h.none ∙ e in cc

is_described : {E : Type 0} (number : Option ℕ → ℕ → ℕ) (known : ℕ → Stat) (file : Option ℕ) (s : Stat) (f : ℕ)
    → LooksAt {E = E} number known file (Ok s) → file ≡ Some f → Describes {E = E} number known f (Ok s)
is_described number known file s f h e =
    let same : Some (described number s) ≡ Some f = sym h.there ∙ e in record { this = cc; same = h.same }

pub returns-clause-input : goal.returns-clause-input
returns-clause-input g c = λ models zero.
    let s = c.args.system.now in
    let law = (g.met.S.System.has_streams models s).input in
    let file = ap (g.S.System.at s) (c.in-Some.ensures.input (rw zero refl)).0 ∙ law in
    (refl, is_described _ _ _ _ _ (c.in-Ok.ensures models) file)

pub returns-clause-output : goal.returns-clause-output
returns-clause-output g c = λ models zero.
    let s = c.args.system.now in
    let law = (g.met.S.System.has_streams models s).output in
    let file = ap (g.S.System.at s) (c.in-Some.ensures.output (rw zero refl)).0 ∙ law in
    (refl, is_described _ _ _ _ _ (c.in-Ok.ensures models) file)

pub returns-2-clause-input : goal.returns-2-clause-input
returns-2-clause-input g c = λ models zero.
    let s = c.args.system.now in
    let some : IsSome c.stream_at.result = (c.stream_at.ensures.input (rw zero refl)).1 in
    absurd (elim c.in_default.branch [
      | in_default-via-in-None-1 w ↦ search (rules, some)
      | in_default-via-in-Some+in-Err-1 w ↦
          let law = (g.met.S.System.has_streams models s).input in
          let file = ap (g.S.System.at s) (w.in-Some.ensures.input (rw zero refl)).0 ∙ law in
          let ok : IsOk w.look.result = looked _ _ _ w.look.result _ (w.look.ensures models) file in
          search (rules, ok)
    ])

pub returns-2-clause-output : goal.returns-2-clause-output
returns-2-clause-output g c = λ models zero.
    let s = c.args.system.now in
    let some : IsSome c.stream_at.result = (c.stream_at.ensures.output (rw zero refl)).1 in
    absurd (elim c.in_default.branch [
      | in_default-via-in-None-1 w ↦ search (rules, some)
      | in_default-via-in-Some+in-Err-1 w ↦
          let law = (g.met.S.System.has_streams models s).output in
          let file = ap (g.S.System.at s) (w.in-Some.ensures.output (rw zero refl)).0 ∙ law in
          let ok : IsOk w.look.result = looked _ _ _ w.look.result _ (w.look.ensures models) file in
          search (rules, ok)
    ])

pub returns-in_err-path-clause-input : goal.returns-in_err-path-clause-input
returns-in_err-path-clause-input g c = λ models zero.
    let s = c.args.system.now in
    let some : IsSome c.stream_at.result = (c.stream_at.ensures.input (rw zero refl)).1 in
    absurd (elim c.in_default.branch [
      | in_default-via-in-None-1 w ↦ search (rules, some)
      | in_default-via-in-Some+in-Err-1 w ↦
          let law = (g.met.S.System.has_streams models s).input in
          let file = ap (g.S.System.at s) (w.in-Some.ensures.input (rw zero refl)).0 ∙ law in
          let ok : IsOk w.look.result = looked _ _ _ w.look.result _ (w.look.ensures models) file in
          search (rules, ok)
    ])

pub returns-in_err-path-clause-output : goal.returns-in_err-path-clause-output
returns-in_err-path-clause-output g c = λ models zero.
    let s = c.args.system.now in
    let some : IsSome c.stream_at.result = (c.stream_at.ensures.output (rw zero refl)).1 in
    absurd (elim c.in_default.branch [
      | in_default-via-in-None-1 w ↦ search (rules, some)
      | in_default-via-in-Some+in-Err-1 w ↦
          let law = (g.met.S.System.has_streams models s).output in
          let file = ap (g.S.System.at s) (w.in-Some.ensures.output (rw zero refl)).0 ∙ law in
          let ok : IsOk w.look.result = looked _ _ _ w.look.result _ (w.look.ensures models) file in
          search (rules, ok)
    ])
