-- A listing shows no more chunks than its header counts, and where it has begun, its header.
use Rattle.std.proofs.Common.{◌≡◌, ℕ, zero, suc, ◌+◌, ◌-◌, ◌≤◌, Bool, true, false, List, [], ◌∷◌, ◌++◌, Some, Result}
use Rattle.std.proofs.Common.{length, if◌then◌else◌, refl, sym, ap, subst, arith, append_assoc}
use Rattle.abt_sparse.specs.declared.fault.SparseFault.{SparseFault}
use Rattle.abt_sparse.specs.declared.fault.SparseFault.TheVariants.{TooFewBlocks}
use Rattle.abt_sparse.specs.Chunk.{Header, Chunk}
use Rattle.abt_sparse.specs.Reading.{ChunkRead, Got, Bad, chunk_at, ChunksRead, Done, Failed, behind, chunks_at}
use Rattle.abt_sparse.proofs.Exactly.{chunks-got, chunks-bad}
use Rattle.abt_sparse.specs.View.{view}
use Rattle.abt_chunks.specs.declared.progress.ChunkInfo.{ChunkInfo}
use Rattle.abt_chunks.specs.declared.walk.Phase.{Phase}
use Rattle.abt_chunks.specs.declared.walk.Phase.TheVariants as phases
use Rattle.abt_chunks.specs.declared.walk.Walk.{Walk}
use Rattle.abt_chunks.specs.Listing.{Listing, infos, listed, listing_from}
use Rattle.abt_chunks.specs.ListingAhead.{shown_before, at_end as has_ended, upcoming, upcoming_ended, upcoming_in}

chunks_in : ChunksRead → List Chunk
chunks_in (Done cs rest) = cs
chunks_in (Failed f cs came) = cs

one_more : (c : Chunk) (r : ChunksRead) (n : ℕ) → length (chunks_in r) ≤ n → length (chunks_in (behind c r)) ≤ suc n
unfolding chunks_in
one_more c (Done cs rest) n p = omega (arith, p)
one_more c (Failed f cs came) n p = omega (arith, p)

at_end : (b : Bool) (f : SparseFault) (bytes : List ℕ)
    → length (chunks_in (if b then Done [] bytes else Failed f [] [])) ≤ 0
unfolding chunks_in
at_end true f bytes = omega arith
at_end false f bytes = omega arith

few_behind : (h : Header) (size i have left : ℕ) (bytes : List ℕ) (r : ChunkRead) → chunk_at h size i have bytes ≡ r
    → ((n : ℕ) (rest : List ℕ) → length (chunks_in (chunks_at h size (i + 1) (have + n) left rest)) ≤ left)
    → length (chunks_in (chunks_at h size i have (suc left) bytes)) ≤ suc left
unfolding chunks_in
few_behind h size i have left bytes (Got c n rest) e next =
    subst (λ (r : ChunksRead). length (chunks_in r) ≤ suc left) (sym (chunks-got h size i have left bytes c n rest e))
    (one_more c (chunks_at h size (i + 1) (have + n) left rest) left (next n rest))
few_behind h size i have left bytes (Bad f came) e next =
    subst (λ (r : ChunksRead). length (chunks_in r) ≤ suc left) (sym (chunks-bad h size i have left bytes f came e))
    (omega arith)

few : (h : Header) (size i have left : ℕ) (bytes : List ℕ)
    → length (chunks_in (chunks_at h size i have left bytes)) ≤ left
unfolding chunks_at
few h size i have zero bytes = at_end _ (TooFewBlocks have) bytes
few h size i have (suc left) bytes =
    few_behind h size i have left bytes (chunk_at h size i have bytes) refl
    (λ n rest. few h size (i + 1) (have + n) left rest)

infos_long : (i : ℕ) (cs : List Chunk) → length (infos i cs) ≡ length cs
infos_long i [] = refl
infos_long i (c ∷ cs) = ap suc (infos_long (i + 1) cs)

shown_long : (h : Header) (i : ℕ) (r : ChunksRead) → length (listed h i r).shown ≡ length (chunks_in r)
unfolding chunks_in
shown_long h i (Done cs rest) = infos_long i cs
shown_long h i (Failed f cs came) = infos_long i cs

few_shown : (h : Header) (size i have : ℕ) (y : List ℕ) → length (listing_from h size i have y).shown ≤ h.total_chunks
unfolding listing_from
few_shown h size i have y =
    let left = h.total_chunks - i in
    omega (arith, shown_long h i (chunks_at h size i have left y), few h size i have left y)

has_head : (h : Header) (i : ℕ) (r : ChunksRead) → (listed h i r).head ≡ Some h
has_head h i (Done cs rest) = refl
has_head h i (Failed f cs came) = refl

head_shown : (h : Header) (size i have : ℕ) (y : List ℕ) → (listing_from h size i have y).head ≡ Some h
unfolding listing_from
head_shown h size i have y = has_head h i (chunks_at h size i have (h.total_chunks - i) y)

-- the same of what is yet to come, behind the header
pub few_upcoming : (s : Walk) (y : List ℕ) → s.phase ≡ phases.Body → has_ended s ≡ true
    → length (upcoming s y).shown ≤ s.header.total_chunks
few_upcoming s y e a =
    subst (λ (p : Phase). length (upcoming_in p s y).shown ≤ s.header.total_chunks) (sym e)
    (subst (λ (b : Bool). length (upcoming_ended b s y).shown ≤ s.header.total_chunks) (sym a)
    (few_shown (view s.header) _ _ _ y))

pub head_upcoming : (s : Walk) (y : List ℕ) → s.phase ≡ phases.Body → has_ended s ≡ true
    → (upcoming s y).head ≡ Some (view s.header)
head_upcoming s y e a =
    subst (λ (p : Phase). (upcoming_in p s y).head ≡ Some (view s.header)) (sym e)
    (subst (λ (b : Bool). (upcoming_ended b s y).head ≡ Some (view s.header)) (sym a)
    (head_shown (view s.header) _ _ _ y))

pub shown_twice : (a b : List ChunkInfo) (l : Listing) → shown_before a (shown_before b l) ≡ shown_before (a ++ b) l
shown_twice a b l = ap (λ (s : List ChunkInfo). record { head = l.head; shown = s; ending = l.ending })
    (sym (append_assoc a b l.shown))

pub with_ending : (l : Listing) (h : Header) (r : Result (List ℕ) SparseFault) → l.head ≡ Some h → l.ending ≡ r
    → l ≡ record { head = Some h; shown = l.shown; ending = r }
with_ending l h r p q = λ i. record { head = p i; shown = l.shown; ending = q i }
