-- What a step returns for a part that is written, clause by clause.
use Rattle.std.proofs.Common.{◌≡◌, ℕ, ◌≤◌, ◌<◌, ◌||◌, Bool, List, [], true, false, Ok, Err, refl, sym, ◌∙◌, arith}
use Rattle.std.proofs.Common.{nat_lt, inl, inr}
use Rattle.std.specs.Prelude.{IsTrue, if◌then◌else◌}
use Rattle.std.proofs.lemmas.Bool.{cases_Bool, lt-ltb}
use Rattle.abt_io.specs.declared.device.DeviceFault.TheVariants as devices
use Rattle.abt_sparse.specs.declared.fault.SparseFault.TheVariants as faults
use Rattle.abt_chunks.specs.declared.walk.Part.{Part}
use Rattle.abt_chunks.specs.declared.walk.Part.TheVariants as parts
use Rattle.abt_chunks.specs.declared.walk.Phase.{Phase}
use Rattle.abt_chunks.specs.declared.walk.Phase.TheVariants as phases
use Rattle.abt_chunks.specs.declared.walk.Walk.{Walk}
use Rattle.abt_chunks.specs.Expanding.{IsGoing}
use Rattle.abt_chunks.specs.Turns.{IsWalkOver}
use Rattle.abt_chunks.specs.Parts.{PartLeaves, goes_on}
use Rattle.abt_chunks.specs.ListingAhead.{Closes, Numbers, at_end}
use Rattle.abt_flash_faults.specs.declared.fault.FlashFault.{FlashFault}
use Rattle.abt_flash_faults.specs.declared.fault.FlashFault.TheVariants as fails
use Rattle.abt_flash_faults.specs.Fault.{PutCause, refused_syncs}
use Rattle.abt_flash.specs.Laying.{Settles, syncs_by}
use Rattle.abt_flash.specs.Stepping.{Leaves, Measures, OnShort, is_done, need_of, passed, passed_in}
use Rattle.abt_flash.specs.declared.stage.FlashStage.TheVariants as stages
use Rattle.abt_flash.proofs.FlashSteps.{refused_measures}
use Rattle.abt_chunks.specs.Expanding.{OnMoreExpanding, OnDone, answer_by}
use Rattle.abt_flash_faults.specs.Fault.{fault_of_sparse}

-- where the result is more, the part goes on
pub on_more : (q : Part) (P : Type 0) → (IsTrue (goes_on q) → P) → OnMoreExpanding (answer_by fault_of_sparse q) P
on_more (parts.Raw n) P h = h refl
on_more (parts.Words word n) P h = h refl
on_more (parts.Skip n) P h = h refl
on_more parts.Nothing P h = h refl
on_more parts.End P h = tt
on_more (parts.Fault f) P h = tt

-- no part says that the partition is too small
pub never_short : (q : Part) (P : Type 0) → OnShort (answer_by fault_of_sparse q) P
never_short (parts.Raw n) P = tt
never_short (parts.Words word n) P = tt
never_short (parts.Skip n) P = tt
never_short parts.Nothing P = tt
never_short parts.End P = tt
never_short (parts.Fault (faults.Read d)) P = tt
never_short (parts.Fault (faults.Write d)) P = tt
never_short (parts.Fault f) P = tt

pub answer_leaves : (q : Part) (p : Phase) → PartLeaves q p → Leaves (answer_by fault_of_sparse q) p
answer_leaves (parts.Raw n) p h = h
answer_leaves (parts.Words word n) p h = h
answer_leaves (parts.Skip n) p h = h
answer_leaves parts.Nothing p h = h
answer_leaves parts.End p h = h
answer_leaves (parts.Fault (faults.Read d)) p h = tt
answer_leaves (parts.Fault (faults.Write d)) p h = tt
answer_leaves (parts.Fault f) p h = h

goes_body : (q : Part) (p : Phase) → IsTrue (goes_on q) → PartLeaves q p → p ≡ phases.Body
goes_body (parts.Raw n) p goes h = h
goes_body (parts.Words word n) p goes h = h
goes_body (parts.Skip n) p goes h = h
goes_body parts.Nothing p goes h = h
goes_body parts.End p goes h = absurd (let z : false ≡ true = goes in cc)
goes_body (parts.Fault f) p goes h = absurd (let z : false ≡ true = goes in cc)

or_true : (b : Bool) → (b || true) ≡ true
or_true true = refl
or_true false = refl

-- a chunk is begun only after the header
begins_in : (p : Phase) (s s' : Walk) (r : ℕ) → s'.phase ≡ phases.Body → Numbers p s s' r
    → (IsWalkOver p → s'.phase ≡ p) → 0 < s'.index → passed_in p s ≡ true
begins_in phases.Header s s' r body n over some = absurd (omega (arith, n, some))
begins_in phases.Body s s' r body n over some = elim (cases_Bool (at_end s)) [
  | inl t ↦ rw t (or_true (nat_lt 0 s.index))
  | inr f ↦
      let same : s'.index ≡ s.index = rw f at n.0 in
      let lt : nat_lt 0 s.index ≡ true = lt-ltb 0 s.index (omega (arith, same, some)) in
      rw lt refl
]
begins_in phases.Done s s' r body n over some = absurd (let z : phases.Body ≡ phases.Done = sym body ∙ over tt in cc)
begins_in (phases.Failed f) s s' r body n over some =
    absurd (let z : phases.Body ≡ phases.Failed f = sym body ∙ over tt in cc)

pub begins_of : (q : Part) (s s' : Walk) (r : ℕ) → PartLeaves q s'.phase
    → (IsTrue (goes_on q) → Numbers s.phase s s' r) → (IsWalkOver s.phase → s'.phase ≡ s.phase)
    → OnMoreExpanding (answer_by fault_of_sparse q) (0 < s'.index → passed s ≡ true)
begins_of q s s' r leaves numbers over =
    on_more q _ (λ goes. begins_in s.phase s s' r (goes_body q s'.phase goes leaves) (numbers goes) over)

pub faults_rise : (f : FlashFault) (p p' : ℕ) → PutCause {X = Unit {0}} (Err f) p p' → p ≤ p'
faults_rise (fails.Write d) p p' h = omega (arith, h.0)
faults_rise (fails.Sync d) p p' h = omega (arith, h.0)
faults_rise f p p' h = absurd h

-- nor does a partition that refuses a part
pub refused_short : (f : FlashFault) (P : Type 0) (p p' : ℕ) → PutCause {X = Unit {0}} (Err f) p p'
    → OnShort {X = Unit {0}} (Err f) P
refused_short (fails.Write d) P p p' h = tt
refused_short (fails.Sync d) P p p' h = tt
refused_short f P p p' h = absurd h

-- a partition that is not too small, and at the end of the image the header has been passed
pub answer_measures : (q : Part) (s : Walk) (size : ℕ) → IsGoing s.phase → Closes q s.phase s
    → (passed s ≡ true → need_of s ≤ size) → Measures (answer_by fault_of_sparse q) s size
answer_measures (parts.Raw n) s size going closes all = all
answer_measures (parts.Words word n) s size going closes all = all
answer_measures (parts.Skip n) s size going closes all = all
answer_measures parts.Nothing s size going closes all = all
answer_measures parts.End s size going closes all =
    refused_measures parts.End (fails.Sync devices.Failed) s size 0 1 (omega arith, refl) refl going closes all
answer_measures (parts.Fault (faults.Read d)) s size going closes all = all
answer_measures (parts.Fault (faults.Write d)) s size going closes all = all
answer_measures (parts.Fault f) s size going closes all = all

-- the sync of the end, which has succeeded
pub answer_done : (q : Part)
    → syncs_by q (Ok tt) ≡ (if is_done stages.Going (answer_by fault_of_sparse q) then 1 else 0)
answer_done (parts.Raw n) = refl
answer_done (parts.Words word n) = refl
answer_done (parts.Skip n) = refl
answer_done parts.Nothing = refl
answer_done parts.End = refl
answer_done (parts.Fault f) = refl

pub refused_none : (q : Part) (f : FlashFault) → syncs_by q (Err f) ≡ 0
refused_none (parts.Raw n) f = refl
refused_none (parts.Words word n) f = refl
refused_none (parts.Skip n) f = refl
refused_none parts.Nothing f = refl
refused_none parts.End f = refl
refused_none (parts.Fault e) f = refl

pub answer_refused : (q : Part) → refused_syncs (answer_by fault_of_sparse q) ≡ 0
answer_refused (parts.Raw n) = refl
answer_refused (parts.Words word n) = refl
answer_refused (parts.Skip n) = refl
answer_refused parts.Nothing = refl
answer_refused parts.End = refl
answer_refused (parts.Fault (faults.Read d)) = refl
answer_refused (parts.Fault (faults.Write d)) = refl
answer_refused (parts.Fault f) = refl

pub answer_settles : (q : Part) (pending : List (ℕ × ℕ)) → Settles q pending
    → OnDone (answer_by fault_of_sparse q) (pending ≡ [])
answer_settles (parts.Raw n) pending h = tt
answer_settles (parts.Words word n) pending h = tt
answer_settles (parts.Skip n) pending h = tt
answer_settles parts.Nothing pending h = tt
answer_settles parts.End pending h = h
answer_settles (parts.Fault f) pending h = tt
