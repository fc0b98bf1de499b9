-- From a step of the machine to the results of a listing.
use Rattle.std.proofs.Common.{◌≡◌, ℕ, ◌+◌, ◌<◌, Bool, true, false, List, [], ◌∷◌, ◌++◌, length, Err, sym, ap, ◌∙◌}
use Rattle.std.proofs.Common.{arith, ◌==◌, if◌then◌else◌, ne_eqb, eq-eqb}
use Rattle.abt_sparse.specs.declared.fault.SparseFault.{SparseFault}
use Rattle.abt_sparse.specs.declared.fault.SparseFault.TheVariants as faults
use Rattle.abt_sparse.specs.View.{view}
use Rattle.abt_chunks.specs.declared.progress.ChunkInfo.{ChunkInfo}
use Rattle.abt_chunks.specs.declared.walk.Phase.{Phase}
use Rattle.abt_chunks.specs.declared.walk.Phase.TheVariants as phases
use Rattle.abt_chunks.specs.declared.walk.Walk.{Walk}
use Rattle.abt_chunks.specs.declared.walk.Part.{Part}
use Rattle.abt_chunks.specs.declared.walk.Part.TheVariants as parts
use Rattle.abt_chunks.specs.Expanding.{answer_of}
use Rattle.abt_chunks.specs.Listing.{Listing, listing_from, listing_of}
use Rattle.abt_chunks.specs.Turns.{IsWalkOver}
use Rattle.abt_chunks.specs.ListingAhead.{Numbers, is_between, at_end, Lists, info_at, shown_before, upcoming}
use Rattle.abt_chunks.specs.ListingAhead.{with_begun}
use Rattle.abt_chunks.specs.Showing.{ListsTo}
use Rattle.abt_chunks.proofs.Listed.{ended_listing, upcoming_body, upcoming_header}

lists_fault : (f : SparseFault) (s s' : Walk) (c t x : List ℕ) → c ++ t ≡ x → Lists (parts.Fault f) s s' c t
    → ListsTo (Err f) s s' x t
lists_fault (faults.Read d) s s' c t x e h = tt
lists_fault (faults.Write d) s s' c t x e h = tt
lists_fault f s s' c t x e h = ap (λ (l : List ℕ). upcoming s l) (sym e) ∙ h

pub lists_to : (q : Part) (s s' : Walk) (c t x : List ℕ) → c ++ t ≡ x → Lists q s s' c t
    → ListsTo (answer_of q) s s' x t
lists_to (parts.Raw n) s s' c t x e h = ap (λ (l : List ℕ). upcoming s l) (sym e) ∙ h
lists_to (parts.Words word n) s s' c t x e h = ap (λ (l : List ℕ). upcoming s l) (sym e) ∙ h
lists_to (parts.Skip n) s s' c t x e h = ap (λ (l : List ℕ). upcoming s l) (sym e) ∙ h
lists_to parts.Nothing s s' c t x e h = ap (λ (l : List ℕ). upcoming s l) (sym e) ∙ h
lists_to parts.End s s' c t x e h = ap (λ (l : List ℕ). upcoming s l) (sym e) ∙ h
lists_to (parts.Fault f) s s' c t x e h = lists_fault f s s' c t x e h

-- ---- the calls

some_index : (s : Walk) (y : List ℕ) → 0 < s.index → (if s.index == 0 then [] else (info_at s ∷ [])) ≡ info_at s ∷ []
some_index s y i = let e : (s.index == 0) ≡ false = ne_eqb _ _ (λ q. absurd (omega (arith, q))) in
    ap (λ (b : Bool). let l : List ChunkInfo = (if b then [] else (info_at s ∷ [])) in l) e

pub more_index : (p : Phase) (s s1 : Walk) (r : ℕ) → is_between p s ≡ true → s.phase ≡ p → (IsWalkOver p → s1 ≡ s)
    → s1.phase ≡ phases.Body → Numbers p s s1 r → (0 < s1.index) × (0 < r)
more_index phases.Header s s1 r b e again stands n = absurd cc
more_index phases.Body s s1 r b e again stands n =
    let i : s1.index ≡ s.index + 1 = n.0 ∙ ap (λ (v : Bool). if v then s.index + 1 else s.index) b in
    (omega arith, n.1 b)
more_index phases.Done s s1 r b e again stands n =
    absurd (let q : phases.Body ≡ phases.Done = sym stands ∙ ap (λ (w : Walk). w.phase) (again tt) ∙ e in cc)
more_index (phases.Failed f) s s1 r b e again stands n = absurd (let q : phases.Body ≡ phases.Failed f = sym stands
    ∙ ap (λ (w : Walk). w.phase) (again tt) ∙ e in cc)

-- a chunk is shown
pub shown_next : (s s1 s2 : Walk) (x x1 y : List ℕ) → upcoming s x ≡ with_begun s1 x1
    → with_begun s1 x1 ≡ with_begun s2 y
    → at_end s2 ≡ true → s2.phase ≡ phases.Body → 0 < s2.index
    → upcoming s x ≡ shown_before (info_at s2 ∷ []) (upcoming s2 y)
shown_next s s1 s2 x x1 y first next e p i =
    let rest = listing_from (view s2.header) (s2.position + length y) s2.index s2.have y in
    first ∙ next ∙ ended_listing s2 y e ∙ ap (λ (l : List ChunkInfo). shown_before l rest) (some_index s2 y i)
    ∙ ap (λ (a : Listing). shown_before (info_at s2 ∷ []) a) (sym (upcoming_body s2 true y p e))

no_index : (s : Walk) → s.index ≡ 0 → (if s.index == 0 then [] else (info_at s ∷ [])) ≡ []
no_index s i = let e : (s.index == 0) ≡ true = eq-eqb _ _ i in
    ap (λ (b : Bool). let l : List ChunkInfo = (if b then [] else (info_at s ∷ [])) in l) e

-- the header has been passed, and all chunks are still to come
pub shown_open : (s s1 s2 : Walk) (x x1 y : List ℕ) → s.phase ≡ phases.Header → upcoming s x ≡ with_begun s1 x1
    → with_begun s1 x1 ≡ with_begun s2 y → at_end s2 ≡ true → s2.phase ≡ phases.Body → s2.index ≡ 0
    → listing_of x ≡ upcoming s2 y
shown_open s s1 s2 x x1 y h first next e p i =
    let rest = listing_from (view s2.header) (s2.position + length y) s2.index s2.have y in
    sym (upcoming_header s x h) ∙ first ∙ next ∙ ended_listing s2 y e
    ∙ ap (λ (l : List ChunkInfo). shown_before l rest) (no_index s2 i) ∙ sym (upcoming_body s2 true y p e)
