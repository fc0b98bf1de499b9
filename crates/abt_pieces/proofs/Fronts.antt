-- What is written is a prefix of what was to come, call after call.
use Rattle.std.proofs.Common.{◌≡◌, ℕ, ◌+◌, ◌-◌, ◌≤◌, ◌<◌, List, [], ◌∷◌, ◌++◌, length, take, drop, refl, sym, ap, ◌∙◌}
use Rattle.std.proofs.Common.{append_assoc, append-nil, arith, length-append, length-drop, Bool, true, false, IsTrue}
use Rattle.std.proofs.Common.{◌⊎◌, inl, inr}
use Rattle.std.proofs.lemmas.List.{drop-drop, length-take, take-append-le, take_all}
use Rattle.std.proofs.Math.Seq.{take-add, take-append_seam, drop-append_seam}
use Rattle.abt_runs.specs.Part.{RunCaused}
use Rattle.abt_runs.specs.declared.part.RunFault.{RunFault}
use Rattle.abt_runs.specs.declared.part.RunFault.TheVariants as of_runs
use Rattle.abt_pieces.specs.declared.fault.PieceFault.{PieceFault}
use Rattle.abt_pieces.specs.declared.fault.PieceFault.TheVariants.{Read, Write, TooLarge, SourceChanged, BadBlock}
use Rattle.abt_pieces.specs.declared.fault.PieceFault.TheVariants.{LimitTooSmall}
use Rattle.abt_pieces.specs.Fault.{CutCause, fault_of_run, full_in_cut, full_cut}
use Rattle.abt_pieces.specs.Write.{ChunkCause}
use Rattle.std.proofs.Common.{Result, Ok, Err, IfOk, IfErr, IsErrOf, max}
use Rattle.std.proofs.lemmas.Bool.{true≢false, false≢true}
use Rattle.abt_io.specs.Count.{full_in}
use Rattle.abt_io.specs.declared.device.DeviceFault.{DeviceFault}
use Rattle.abt_io.specs.declared.device.DeviceFault.TheVariants.{Failed, Full}

pub grown_by : (old new x : List ℕ) → new ≡ old ++ x → length new - length old ≡ length x
grown_by old new x e = omega (arith, ap length e, length-append old x)

pub nothing_more : (old rest : List ℕ) → old ≡ old ++ take (length old - length old) rest
nothing_more old rest = sym (ap (λ (n : ℕ). old ++ take n rest) (let z : length old - length old ≡ 0 = omega arith in z)
    ∙ append-nil old)

pub nothing_less : (old rest : List ℕ) → rest ≡ drop (length old - length old) rest
nothing_less old rest = sym (ap (λ (n : ℕ). drop n rest) (let z : length old - length old ≡ 0 = omega arith in z))

pub wrote_front : (old new x rest rest' : List ℕ) → new ≡ old ++ x → rest ≡ x ++ rest' → new ≡ old ++ take
    (length new - length old) rest
wrote_front old new x rest rest' e r = e ∙ ap (λ (y : List ℕ). old ++ y)
    (sym (ap (λ (n : ℕ). take n rest) (grown_by old new x e) ∙ ap (λ (y : List ℕ). take (length x) y) r ∙
    take-append_seam x rest'))

pub wrote_rest : (old new x rest rest' : List ℕ) → new ≡ old ++ x → rest ≡ x ++ rest' → rest' ≡ drop
    (length new - length old) rest
wrote_rest old new x rest rest' e r = sym (ap (λ (n : ℕ). drop n rest) (grown_by old new x e) ∙ ap
    (λ (y : List ℕ). drop (length x) y) r ∙ drop-append_seam x rest')

-- a prefix of the first of it is a prefix of it
pub wrote_part : (old new x rest rest' : List ℕ) → new ≡ old ++ take (length new - length old) x → rest ≡ x ++ rest' →
    new ≡ old ++ take (length new - length old) rest
wrote_part old new x rest rest' e r =
    let d = length new - length old in
    let le : d ≤ length x = omega (arith, ap length e, length-append old (take d x), length-take d x) in
    e ∙ ap (λ (y : List ℕ). old ++ y) (sym (ap (λ (y : List ℕ). take d y) r ∙ take-append-le d x rest' le))

-- one call more
pub front_join : (w0 w1 w2 x c : List ℕ) → length w0 ≤ length w1 → length w1 ≤ length w2 → w1 ≡ w0 ++ take
    (length w1 - length w0) x → c ≡ drop (length w1 - length w0) x → w2 ≡ w1 ++ take (length w2 - length w1) c → w2 ≡ w0
    ++ take (length w2 - length w0) x
front_join w0 w1 w2 x c low high front rest more =
    let a = length w1 - length w0 in
    let d = length w2 - length w1 in
    more ∙ ap (λ (y : List ℕ). y ++ take d c) front ∙ append_assoc w0 (take a x) (take d c)
    ∙ ap (λ (y : List ℕ). w0 ++ (take a x ++ take d y)) rest ∙ ap (λ (y : List ℕ). w0 ++ y)
    (sym (take-add a d x) ∙ ap (λ (n : ℕ). take n x) (let z : a + d ≡ length w2 - length w0 = omega arith in z))

pub rest_join : (w0 w1 w2 x c e : List ℕ) → length w0 ≤ length w1 → length w1 ≤ length w2 → c ≡ drop
    (length w1 - length w0) x → e ≡ drop (length w2 - length w1) c → e ≡ drop (length w2 - length w0) x
rest_join w0 w1 w2 x c e low high one two =
    two ∙ ap (λ (y : List ℕ). drop (length w2 - length w1) y) one ∙ drop-drop (length w2 - length w1)
    (length w1 - length w0) x ∙ ap (λ (n : ℕ). drop n x)
    (let z : (length w1 - length w0) + (length w2 - length w1) ≡ length w2 - length w0 = omega arith in z)

-- all of it is written where nothing is left
pub whole_join : (w0 w1 x : List ℕ) → length w0 ≤ length w1 → w1 ≡ w0 ++ take (length w1 - length w0) x → drop
    (length w1 - length w0) x ≡ [] → w1 ≡ w0 ++ x
whole_join w0 w1 x low front none =
    let d = length w1 - length w0 in
    let le : length x ≤ d = omega (arith, ap length none, length-drop d x) in
    front ∙ ap (λ (y : List ℕ). w0 ++ y) (take_all d x le)

-- ---- causes

pub run_cause : (f : RunFault) (models : Bool) (r r' w w' : ℕ) → RunCaused f models r r'
    → CutCause (fault_of_run f) models
    r r' w w'
run_cause (of_runs.Read d) models r r' w w' h = h
run_cause of_runs.TooLarge models r r' w w' h = absurd h
run_cause of_runs.SourceChanged models r r' w w' h = h
run_cause (of_runs.BadBlock n) models r r' w w' h = absurd h
run_cause (of_runs.Sparse d) models r r' w w' h = absurd h

pub not_told : (models : Bool) → (IsTrue models → ⊥) → models ≡ false
not_told true h = absurd (h refl)
not_told false h = refl

pub chunk_cause : (e : PieceFault) (models : Bool) (chunks bytes need r r' w w' : ℕ) →
    (IsTrue models → (0 < chunks) × (need ≤ bytes)) → ChunkCause e chunks bytes need w w' → CutCause e models r r' w w'
chunk_cause SourceChanged models chunks bytes need r r' w w' fits h = not_told models
    (λ t. let z = fits t in over z.0 z.1 h)
  where
    over : 0 < chunks → need ≤ bytes → (chunks ≡ 0) ⊎ (bytes < need) → ⊥
    over a b (inl c) = omega arith
    over a b (inr c) = omega arith
chunk_cause (Write f) models chunks bytes need r r' w w' fits h = h
chunk_cause (Read f) models chunks bytes need r r' w w' fits h = absurd h
chunk_cause TooLarge models chunks bytes need r r' w w' fits h = absurd h
chunk_cause (BadBlock n) models chunks bytes need r r' w w' fits h = absurd h
chunk_cause (LimitTooSmall n) models chunks bytes need r r' w w' fits h = absurd h

pub no_bytes : (x : List ℕ) → length x ≡ 0 → x ≡ []
no_bytes [] e = refl
no_bytes (y ∷ x) e = absurd (omega arith)

-- a fault since then is a fault since earlier
pub cause_since : (e : PieceFault) (models : Bool) (r0 r r' w0 w w' : ℕ) → r0 ≤ r → w0 ≤ w
    → CutCause e models r r' w w' →
    CutCause e models r0 r' w0 w'
cause_since (Read f) models r0 r r' w0 w w' a b h = (omega (arith, a, h.0), h.1)
cause_since (Write f) models r0 r r' w0 w w' a b h = omega (arith, b, h)
cause_since SourceChanged models r0 r r' w0 w w' a b h = h
cause_since TooLarge models r0 r r' w0 w w' a b h = absurd h
cause_since (BadBlock n) models r0 r r' w0 w w' a b h = absurd h
cause_since (LimitTooSmall n) models r0 r r' w0 w w' a b h = absurd h

pub whole_of : (w0 w1 w2 h c x : List ℕ) → w1 ≡ w0 ++ h → w2 ≡ w1 ++ c → x ≡ h ++ c → w2 ≡ w0 ++ x
whole_of w0 w1 w2 h c x ok all whole = all ∙ ap (λ (y : List ℕ). y ++ c) ok ∙ append_assoc w0 h c ∙ ap
    (λ (y : List ℕ). w0 ++ y) (sym whole)

-- ---- an output that is full

-- no pass over the source says so
pub run_not_full : (f : RunFault) → full_in_cut (fault_of_run f) ≡ 0
run_not_full (of_runs.Read d) = refl
run_not_full of_runs.TooLarge = refl
run_not_full of_runs.SourceChanged = refl
run_not_full (of_runs.BadBlock n) = refl
run_not_full (of_runs.Sparse d) = refl

-- ---- a pass over the source that has failed: nothing was written

pub as_many : (n : ℕ) → n ≤ n
as_many n = omega arith

pub no_more : (n k : ℕ) → n ≤ n + k
no_more n k = omega arith

pub no_more_than : (n j k : ℕ) → n ≤ n + j + k
no_more_than n j k = omega arith

pub max_most : (n k : ℕ) → n ≤ max n k
max_most n k = omega arith

pub run_causes : (e : PieceFault) (f : RunFault) (models : Bool) (r r' w w' : ℕ) → e ≡ fault_of_run f
    → RunCaused f models
    r r' → CutCause e models r r' w w'
run_causes e f models r r' w w' is h = rw is (run_cause f models r r' w w' h)

pub run_unfilled : (e : PieceFault) (f : RunFault) (n : ℕ) → e ≡ fault_of_run f → n ≡ n + full_in_cut e
run_unfilled e f n is = let z = run_not_full f in rw is (omega (arith, z))

pub run_unsaid : (e : PieceFault) (f : RunFault) → e ≡ fault_of_run f → full_in_cut e ≡ 1 → ⊥
run_unsaid e f is says = let z = run_not_full f in let y = rw is at says in omega (arith, y, z)

-- ---- an output that failed

pub says_full : {X : Type 0} (f : DeviceFault) → full_in f ≡ 1 → IsErrOf {T = X} {E = DeviceFault} (Err f) Full
says_full Failed h = absurd (omega (arith, h))
says_full Full h = refl

pub not_full : ◌≡◌ {A = ℕ} 0 1 → ⊥
not_full h = omega (arith, h)

-- a call that has no output
pub cause_unwritten : (e : PieceFault) (models : Bool) (r r' w w' : ℕ) → CutCause e models r r' 0 0
    → CutCause e models r
    r' w w'
cause_unwritten (Read f) models r r' w w' h = h
cause_unwritten (Write f) models r r' w w' h = absurd (omega (arith, h))
cause_unwritten SourceChanged models r r' w w' h = h
cause_unwritten TooLarge models r r' w w' h = absurd h
cause_unwritten (BadBlock n) models r r' w w' h = absurd h
cause_unwritten (LimitTooSmall n) models r r' w w' h = absurd h

pub none_says : (k : ℕ) → k ≡ 0 → k ≡ 1 → ⊥
none_says k none says = omega (arith, none, says)

-- ---- a writer that has nothing more to write

pub whole_goes_not : (r : Result Bool PieceFault) (A B P : Type 0) → IfOk r (λ d. (d ≡ true) × A × B) → IfOk r
    (λ d. d ≡ false → P)
whole_goes_not (Ok true) A B P h = λ d. absurd (true≢false d)
whole_goes_not (Ok false) A B P h = absurd (false≢true h.0)
whole_goes_not (Err f) A B P h = tt

pub whole_ended : (r : Result Bool PieceFault) (A B Q : Type 0) → IfOk r (λ d. (d ≡ true) × A × B) → Q → IfOk r
    (λ d. d ≡ true → A × Q)
whole_ended (Ok d) A B Q h q = λ e. (h.1, q)
whole_ended (Err f) A B Q h q = tt

pub whole_cause : (r : Result Bool PieceFault) (models : Bool) (X : Type 0) (n n' w w' : ℕ) → IfErr r
    (λ e. (e ≡ SourceChanged) × (X → ⊥)) → (IsTrue models → X) → IfErr r (λ e. CutCause e models n n' w w')
whole_cause (Ok d) models X n n' w w' h all = tt
whole_cause (Err f) models X n n' w w' h all = rw h.0 (not_told models (λ t. h.1 (all t)))

pub whole_unfilled : (r : Result Bool PieceFault) (X : Type 0) → IfErr r (λ e. (e ≡ SourceChanged) × X) → full_cut r ≡ 0
whole_unfilled (Ok d) X h = refl
whole_unfilled (Err f) X h = ap full_in_cut h.0

pub nothing_left : (old new rest : List ℕ) (n : ℕ) → new ≡ old → n ≡ length rest → n ≡ 0 → new ≡ old ++ rest
nothing_left old new rest n same long none = same ∙ sym (append-nil old) ∙ ap (λ (x : List ℕ). old ++ x)
    (sym (no_bytes rest (omega (arith, long, none))))
