use Rattle.std.proofs.Common.{rules, ◌≡◌, ℕ, List, Result, Ok, Err, IfOk, IsSome, Option, Some, None, refl, sym}
use Rattle.std.proofs.Common.{ap, ◌∙◌}
use Rattle.sys_file.specs.System.{KeepsFiles}
use Rattle.sys_identity.proofs.descriptors.open_again.Goals as goal
use Rattle.sys_identity.proofs.descriptors.open_again.Goals.{in-Some+in-Err+in-Ok-1, in-Some+in-Err+in-Err-1}
use Rattle.sys_identity.proofs.descriptors.open_again.Goals.{in_default}

-- what was opened at a path that leads to a file is that file
opened : {E F : Type 0} (which : F → ℕ) (stands : F → List ℕ) (holds holds' : ℕ → List ℕ) (led file : Option ℕ) (n : ℕ)
    (r : Result F E) → IfOk r (λ f. led ≡ Some (which f)) → IfOk r (λ f. stands f ≡ holds (which f)) → led ≡ file
    → file ≡ Some n → holds' ≡ holds → IfOk r (λ f. (which f ≡ n) × (stands f ≡ holds' n))
opened which stands holds holds' led file n (Ok f) there content path law kept =
    let same : Some (which f) ≡ Some n = sym there ∙ path ∙ law in
    let this : which f ≡ n = cc in
    (this, content ∙ ap holds this ∙ ap (λ h. h n) (sym kept))
opened which stands holds holds' led file n (Err e) there content path law kept = tt

not_missing : (file : Option ℕ) (n : ℕ) → file ≡ None → file ≡ Some n → ⊥
not_missing file n none some = let e : None ≡ Some n = sym none ∙ some in cc

pub returns-in_default-open-clause-keeps : goal.returns-in_default-open-clause-keeps
returns-in_default-open-clause-keeps g c = λ models.
    let o = c.open.ensures.opens models in
    record { paths = o.same c.requires; kept = o.kept }

pub returns-in_default-open-2-clause-keeps : goal.returns-in_default-open-2-clause-keeps
returns-in_default-open-2-clause-keeps g c = λ models.
    let o = c.open.ensures.opens models in
    record { paths = o.same c.requires; kept = o.kept }

pub returns-in_default-open-2-clause-input : goal.returns-in_default-open-2-clause-input
returns-in_default-open-2-clause-input g c = λ models zero.
    let s = c.open.new.self in
    let o = c.open.ensures.opens models in
    let law = (g.met.S.System.has_streams models s).input in
    opened g.S.System.which g.S.File.SystemFile.stands _ _ _ _ g.S.System.stdin c.open.result o.there o.content
    (ap (g.S.System.at s) (c.in-Some.ensures.input (rw zero refl)).0) law o.kept

pub returns-in_err-path-clause-keeps : goal.returns-in_err-path-clause-keeps
returns-in_err-path-clause-keeps g c = λ models.
    elim c.match-stream_at.branch [
      | in-Some+in-Err+in-Ok-1 w ↦
          let o = w.open.ensures.opens models in rw w.system-is (record { paths = o.same c.requires; kept = o.kept })
      | in-Some+in-Err+in-Err-1 w ↦
          let o = w.open.ensures.opens models in rw w.system-is (record { paths = o.same c.requires; kept = o.kept })
      | in_default w ↦ rw w.system-is (record { paths = refl; kept = refl })
    ]

pub returns-clause-keeps : goal.returns-clause-keeps
returns-clause-keeps g c = λ models.
    let before : KeepsFiles g.S.System.at g.S.System.holds c.args.system.now c.match-stream_at.system
    = elim c.match-stream_at.branch [
      | in-Some+in-Err+in-Ok-1 w ↦
          let o = w.open.ensures.opens models in rw w.system-is (record { paths = o.same c.requires; kept = o.kept })
      | in-Some+in-Err+in-Err-1 w ↦
          let o = w.open.ensures.opens models in rw w.system-is (record { paths = o.same c.requires; kept = o.kept })
      | in_default w ↦ rw w.system-is (record { paths = refl; kept = refl })
    ] in
    let o = c.open-2.ensures.opens models in
    record { paths = o.same c.requires ∙ before.paths; kept = o.kept ∙ before.kept }

pub returns-clause-input : goal.returns-clause-input
returns-clause-input g c = λ models zero.
    let s = c.args.system.now in
    let law = (g.met.S.System.has_streams models s).input in
    let some : IsSome c.stream_at.result = (c.stream_at.ensures.input (rw zero refl)).1 in
    absurd (elim c.match-stream_at.branch [
      | in-Some+in-Err+in-Ok-1 w ↦
          let path = ap (g.S.System.at s) (w.in-Some.ensures.input (rw zero refl)).0 in
          not_missing _ _ (w.in-Err.ensures.missing models (search rules)) (path ∙ law)
      | in-Some+in-Err+in-Err-1 w ↦
          let path = ap (g.S.System.at s) (w.in-Some.ensures.input (rw zero refl)).0 in
          not_missing _ _ (w.in-Err.ensures.missing models (search rules)) (path ∙ law)
      | in_default w ↦ search (rules, some)
    ])

pub returns-in_err-path-clause-input : goal.returns-in_err-path-clause-input
returns-in_err-path-clause-input g c = λ models zero.
    let s = c.args.system.now in
    let law = (g.met.S.System.has_streams models s).input in
    let some : IsSome c.stream_at.result = (c.stream_at.ensures.input (rw zero refl)).1 in
    absurd (elim c.match-stream_at.branch [
      | in-Some+in-Err+in-Ok-1 w ↦
          let path = ap (g.S.System.at s) (w.in-Some.ensures.input (rw zero refl)).0 in
          not_missing _ _ (w.in-Err.ensures.missing models (search rules)) (path ∙ law)
      | in-Some+in-Err+in-Err-1 w ↦
          let path = ap (g.S.System.at s) (w.in-Some.ensures.input (rw zero refl)).0 in
          not_missing _ _ (w.in-Err.ensures.missing models (search rules)) (path ∙ law)
      | in_default w ↦ search (rules, some)
    ])
