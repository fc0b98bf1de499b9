-- What is known of the image's header while it is read, from the listing of the rest.
use Rattle.std.proofs.Common.{◌≡◌, ℕ, ◌+◌, ◌-◌, ◌<◌, ◌≤◌, Bool, true, false, List, ◌++◌, length, drop, Option, Some}
use Rattle.std.proofs.Common.{None, Result, Ok, Err, refl, sym, ap, ◌∙◌, arith, inl, inr, nat_lt, ◌||◌, ◌==◌, ne_eqb}
use Rattle.std.proofs.Common.{ltb-true, ltb-false}
use Rattle.std.proofs.lemmas.Bool.{cases_Bool}
use Rattle.abt_sparse.specs.declared.fault.SparseFault.{SparseFault}
use Rattle.abt_sparse.specs.declared.fault.SparseFault.TheVariants as faults
use Rattle.abt_sparse.specs.declared.kind.ChunkKind.{ChunkKind}
use Rattle.abt_sparse.specs.Chunk.{Header}
use Rattle.abt_sparse.specs.Reading.{checked_header, ChunksRead, Done, Failed, chunks_at}
use Rattle.abt_sparse.specs.Fails.{SpellsHeader}
use Rattle.abt_sparse.specs.View.{view}
use Rattle.abt_sparse.proofs.Exactly.{header_spelled}
use Rattle.abt_sparse.proofs.Fields.{IsBytes}
use Rattle.abt_chunks.specs.declared.walk.Phase.{Phase}
use Rattle.abt_chunks.specs.declared.walk.Phase.TheVariants as phases
use Rattle.abt_chunks.specs.declared.walk.Walk.{Walk}
use Rattle.abt_chunks.specs.declared.walk.Part.{Part}
use Rattle.abt_chunks.specs.declared.walk.Part.TheVariants as parts
use Rattle.abt_chunks.specs.Listing.{Listing, listed, listing_behind, listing_from, listing_of}
use Rattle.abt_chunks.specs.Parts.{PartLeaves}
use Rattle.abt_chunks.specs.ListingAhead.{Lists, at_end, begun_listing, lacking, upcoming, upcoming_in, with_begun}
use Rattle.abt_chunks.specs.ListingAhead.{upcoming_ended}
use Rattle.abt_chunks.proofs.Listed.{ended_listing}
use Rattle.abt_chunks.proofs.ListingLaws.{listing_behind_header}
use Rattle.abt_flash_faults.specs.Fault.{fault_of_sparse}
use Rattle.abt_flash.specs.Stepping.{Heads, passed, passed_in}
use Rattle.abt_chunks.specs.Expanding.{answer_by}

listed_head : (h : Header) (i : ℕ) (r : ChunksRead) → (listed h i r).head ≡ Some h
listed_head h i (Done cs rest) = refl
listed_head h i (Failed f cs came) = refl

from_head : (h : Header) (size i have : ℕ) (y : List ℕ) → (listing_from h size i have y).head ≡ Some h
unfolding listing_from
from_head h size i have y = listed_head h i (chunks_at h size i have (h.total_chunks - i) y)

-- a header that is at the beginning
pub spelled_head : (x : List ℕ) (h : Header) (y : List ℕ) → SpellsHeader x h y → (listing_of x).head ≡ Some h
spelled_head x h y s = ap (λ (l : Listing). l.head) (listing_behind_header x h y s) ∙ from_head h (length x) 0 0 y

none_some : (h : Header) → (let a : Option Header = None in let b : Option Header = Some h in a ≡ b) → ⊥
none_some h e = cc

some_same : (g h : Header) → (let a : Option Header = Some g in let b : Option Header = Some h in a ≡ b) → g ≡ h
some_same g h e = cc

behind_good : (x : List ℕ) (r : Result Header SparseFault) (h : Header) → (listing_behind x r).head ≡ Some h
    → checked_header x ≡ r → (checked_header x ≡ Ok h) × (h.file_hdr_sz ≤ length x)
behind_good x (Err f) h e c = absurd (none_some h e)
behind_good x (Ok g) h e c = elim (cases_Bool (nat_lt (length x) g.file_hdr_sz)) [
  | inl t ↦ absurd (none_some h (rw t at e))
  | inr t ↦
      let same : g ≡ h = some_same g h (sym (from_head g (length x) 0 0 (drop g.file_hdr_sz x)) ∙ (rw t at e)) in
      let le : g.file_hdr_sz ≤ length x = ltb-false _ _ t in
      (c ∙ ap (λ (k : Header). let r : Result Header SparseFault = Ok k in r) same, rw (← same) le)
]

head_good : (x : List ℕ) (h : Header) → (listing_of x).head ≡ Some h → (28 ≤ length x) × (checked_header x ≡ Ok h)
    × (h.file_hdr_sz ≤ length x)
unfolding listing_of
head_good x h e = elim (cases_Bool (nat_lt (length x) 28)) [
  | inl t ↦ absurd (none_some h (rw t at e))
  | inr t ↦ let g = behind_good x (checked_header x) h (rw t at e) refl in (ltb-false _ _ t, g.0, g.1)
]

-- and back: a listing with a header has it first
pub head_spelled : (x : List ℕ) (h : Header) → IsBytes x → (listing_of x).head ≡ Some h
    → SpellsHeader x h (drop h.file_hdr_sz x)
head_spelled x h fits e = let g = head_good x h e in header_spelled x h fits g.0 g.2 g.1

-- ---- along a walk

begun_head : (k : ChunkKind) (due : Bool) (h : Header) (i have extra raw : ℕ) (word : List ℕ) (blocks size : ℕ)
    (y : List ℕ) → 0 < i → (begun_listing k due h i have extra raw word blocks size y).head ≡ Some h
unfolding begun_listing
begun_head k due h i have extra raw word blocks size y some =
    let e : (i == 0) ≡ false = ne_eqb _ _ (λ q. absurd (omega (arith, q))) in
    elim (cases_Bool (nat_lt (length y) (extra + lacking k due raw))) [
      | inl t ↦ rw (t, e) refl
      | inr t ↦ rw t (from_head h size i have (drop (extra + lacking k due raw) y))
    ]

-- once the header has been passed, what is still to be shown has it
passed_body : (s : Walk) (y : List ℕ) (end : Bool) → at_end s ≡ end → (nat_lt 0 s.index || end) ≡ true
    → (upcoming_ended end s y).head ≡ Some (view s.header)
passed_body s y true e p = from_head (view s.header) (s.position + length y) s.index s.have y
passed_body s y false e p = begun_head s.kind s.due (view s.header) s.index s.have s.extra s.raw s.word s.blocks
    (s.position + length y) y (ltb-true _ _ (or_left (nat_lt 0 s.index) p)) where
      or_left : (b : Bool) → (b || false) ≡ true → b ≡ true
      or_left true q = refl
      or_left false q = absurd (let f : false ≡ true = q in cc)

pub passed_head : (s : Walk) (y : List ℕ) → s.phase ≡ phases.Body → passed s ≡ true
    → (upcoming s y).head ≡ Some (view s.header)
passed_head s y body p =
    let q : (nat_lt 0 s.index || at_end s) ≡ true = ap (λ (ph : Phase). passed_in ph s) (sym body) ∙ p in
    ap (λ (ph : Phase). (upcoming_in ph s y).head) body ∙ passed_body s y (at_end s) refl q

-- between a part and the next
begun_upcoming : (s : Walk) (y : List ℕ) → s.phase ≡ phases.Body → (with_begun s y).head ≡ (upcoming s y).head
begun_upcoming s y body = elim (cases_Bool (at_end s)) [
  | inl t ↦ ap (λ (l : Listing). l.head) (ended_listing s y t)
      ∙ sym (ap (λ (ph : Phase). (upcoming_in ph s y).head) body ∙ ap (λ (b : Bool). (upcoming_ended b s y).head) t)
  | inr t ↦ sym (ap (λ (ph : Phase). (upcoming_in ph s y).head) body ∙ ap (λ (b : Bool). (upcoming_ended b s y).head) t)
]

on_more : (s s' : Walk) (x y : List ℕ) → s'.phase ≡ phases.Body → upcoming s x ≡ with_begun s' y
    → (upcoming s x).head ≡ (upcoming s' y).head
on_more s s' x y body e = ap (λ (l : Listing). l.head) e ∙ begun_upcoming s' y body

heads_fault : (f : SparseFault) (s s' : Walk) (c t x : List ℕ) → c ++ t ≡ x → Lists (parts.Fault f) s s' c t
    → Heads (Err (fault_of_sparse f)) s s' x t
heads_fault (faults.Read d) s s' c t x e h = tt
heads_fault (faults.Write d) s s' c t x e h = tt
heads_fault f s s' c t x e h = ap (λ (l : Listing). l.head) (ap (λ (l : List ℕ). upcoming s l) (sym e) ∙ h)

pub heads : (q : Part) (s s' : Walk) (c t x : List ℕ) → c ++ t ≡ x → PartLeaves q s'.phase → Lists q s s' c t
    → Heads (answer_by fault_of_sparse q) s s' x t
heads (parts.Raw n) s s' c t x e leaves h = on_more s s' x t leaves (ap (λ (l : List ℕ). upcoming s l) (sym e) ∙ h)
heads (parts.Words word n) s s' c t x e leaves h = on_more s s' x t leaves (ap (λ (l : List ℕ). upcoming s l) (sym e)
    ∙ h)
heads (parts.Skip n) s s' c t x e leaves h = on_more s s' x t leaves (ap (λ (l : List ℕ). upcoming s l) (sym e) ∙ h)
heads parts.Nothing s s' c t x e leaves h = on_more s s' x t leaves (ap (λ (l : List ℕ). upcoming s l) (sym e) ∙ h)
heads parts.End s s' c t x e leaves h = ap (λ (l : Listing). l.head) (ap (λ (l : List ℕ). upcoming s l) (sym e) ∙ h)
heads (parts.Fault f) s s' c t x e leaves h = heads_fault f s s' c t x e h
