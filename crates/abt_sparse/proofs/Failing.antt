-- A check that fails in the words of the format is one that reading finds, and the other way round.
use Rattle.std.proofs.Common.{◌≡◌, ℕ, ◌+◌, ◌%◌, ◌≤◌, ◌⊎◌, Bool, true, false, cond, not, List, [], length, drop, Option}
use Rattle.std.proofs.Common.{Some, None, Result, Err, refl, ap, subst, ◌∙◌, inl, inr, ◌==◌, ◌||◌, nat_lt, ltb-true}
use Rattle.std.proofs.Common.{ltb-false, lt-ltb, le-ltb, eqb-true, eq-eqb, ne_eqb}
use Rattle.std.proofs.lemmas.Bool.{cases_Bool, eqb-false}
use Rattle.abt_sparse.specs.declared.fault.SparseFault.{SparseFault}
use Rattle.abt_sparse.specs.declared.fault.SparseFault.TheVariants.{Magic, Major, FileHeaderSize, ChunkHeaderSize}
use Rattle.abt_sparse.specs.declared.fault.SparseFault.TheVariants.{BlockSize, ChunkType, ChunkLength, TooManyBlocks}
use Rattle.abt_sparse.specs.declared.fault.SparseFault.TheVariants.{Truncated}
use Rattle.abt_sparse.specs.declared.kind.ChunkKind.{ChunkKind}
use Rattle.abt_sparse.specs.Field.{number_at}
use Rattle.abt_sparse.specs.Chunk.{Header, code, data_len, counted, partial_of}
use Rattle.abt_sparse.specs.Reading.{header_at, checked_header, kind_at, ChunkRead, Bad, chunk_body, chunk_known}
use Rattle.abt_sparse.specs.Reading.{chunk_at}
use Rattle.abt_sparse.specs.Fails.{IsSparse1, HeaderFails, no_magic, other_major, short_header, short_chunk_header}
use Rattle.abt_sparse.specs.Fails.{bad_block_size, BeginsChunk, ChunkFails, no_header, unknown_type, wrong_length}
use Rattle.abt_sparse.specs.Fails.{too_many, cut_short}
use Rattle.abt_sparse.proofs.Fields.{not_false}
use Rattle.abt_sparse.proofs.ChunkLaws.{kind-code, code-kind}

not_true : (t : Bool) → not t ≡ true → t ≡ false
not_true true e = absurd cc
not_true false e = refl

-- ---- the header

-- a test that fails here or lets what follows be read
guard_err : {A : Type 0} (t : Bool) (d : SparseFault) (r : Result A SparseFault) (f : SparseFault)
    → cond t (Err d) r ≡ Err f → ((t ≡ true) × (d ≡ f)) ⊎ ((t ≡ false) × (r ≡ Err f))
guard_err true d r f e = inl (refl, cc)
guard_err false d r f e = inr (refl, e)

block_size_bad : (n : ℕ) → (n == 0 || not (n % 4 == 0)) ≡ true → (n ≡ 0) ⊎ (n % 4 ≡ 0 → ⊥)
block_size_bad n e = elim (cases_Bool (n == 0)) [
  | inl t ↦ inl (eqb-true _ _ t)
  | inr t ↦ inr (eqb-false _ _ (not_true (n % 4 == 0) (rw t at e)))
]

block_size_fails : (n : ℕ) → (n ≡ 0) ⊎ (n % 4 ≡ 0 → ⊥) → (n == 0 || not (n % 4 == 0)) ≡ true
block_size_fails n (inl e) = let t : (n == 0) ≡ true = eq-eqb _ _ e in rw t refl
block_size_fails n (inr e) = elim (cases_Bool (n == 0)) [
  | inl t ↦ rw t refl
  | inr t ↦ let u : (n % 4 == 0) ≡ false = ne_eqb _ _ e in rw (t, u) refl
]

pub header_fails : (x : List ℕ) (f : SparseFault) → checked_header x ≡ Err f → HeaderFails x f
unfolding checked_header header_at
header_fails x f e = elim (guard_err (not (number_at 0 4 x == 0xED26FF3A)) Magic _ f e) [
  | inl p ↦ subst (λ (g : SparseFault). HeaderFails x g) p.1 (no_magic (eqb-false _ _ (not_true _ p.0)))
  | inr p ↦
      let magic : number_at 0 4 x ≡ 0xED26FF3A = eqb-true _ _ (not_false _ p.0) in
      elim (guard_err (not (number_at 4 2 x == 1)) (Major (number_at 4 2 x)) _ f p.1) [
        | inl q ↦ subst (λ (g : SparseFault). HeaderFails x g) q.1 (other_major magic (eqb-false _ _ (not_true _ q.0)))
        | inr q ↦
            let is : IsSparse1 x = record { magic = magic; major = eqb-true _ _ (not_false _ q.0) } in
            elim (guard_err (nat_lt (number_at 8 2 x) 28) (FileHeaderSize (number_at 8 2 x)) _ f q.1) [
              | inl r ↦ subst (λ (g : SparseFault). HeaderFails x g) r.1 (short_header is (ltb-true _ _ r.0))
              | inr r ↦ elim (guard_err (nat_lt (number_at 10 2 x) 12) (ChunkHeaderSize (number_at 10 2 x)) _ f r.1) [
                | inl s ↦ subst (λ (g : SparseFault). HeaderFails x g) s.1 (short_chunk_header is (ltb-false _ _ r.0)
                    (ltb-true _ _ s.0))
                | inr s ↦ elim (guard_err (number_at 12 4 x == 0 || not (number_at 12 4 x % 4 == 0))
                    (BlockSize (number_at 12 4 x)) _ f s.1) [
                      | inl t ↦ subst (λ (g : SparseFault). HeaderFails x g) t.1
                          (bad_block_size is (ltb-false _ _ r.0) (ltb-false _ _ s.0) (block_size_bad _ t.0))
                      | inr t ↦ absurd (let bad = t.1 in cc)
                    ]
              ]
            ]
      ]
]

pub header_failed : (x : List ℕ) (f : SparseFault) → HeaderFails x f → checked_header x ≡ Err f
unfolding checked_header header_at
header_failed x f (no_magic ne) = let t : (number_at 0 4 x == 0xED26FF3A) ≡ false = ne_eqb _ _ ne in rw t refl
header_failed x f (other_major magic ne) =
    let m : (number_at 0 4 x == 0xED26FF3A) ≡ true = eq-eqb _ _ magic in
    let t : (number_at 4 2 x == 1) ≡ false = ne_eqb _ _ ne in
    rw (m, t) refl
header_failed x f (short_header is lt) =
    let m : (number_at 0 4 x == 0xED26FF3A) ≡ true = eq-eqb _ _ is.magic in
    let v : (number_at 4 2 x == 1) ≡ true = eq-eqb _ _ is.major in
    let t : nat_lt (number_at 8 2 x) 28 ≡ true = lt-ltb _ _ lt in
    rw (m, v, t) refl
header_failed x f (short_chunk_header is le lt) =
    let m : (number_at 0 4 x == 0xED26FF3A) ≡ true = eq-eqb _ _ is.magic in
    let v : (number_at 4 2 x == 1) ≡ true = eq-eqb _ _ is.major in
    let s : nat_lt (number_at 8 2 x) 28 ≡ false = le-ltb _ _ le in
    let t : nat_lt (number_at 10 2 x) 12 ≡ true = lt-ltb _ _ lt in
    rw (m, v, s, t) refl
header_failed x f (bad_block_size is le more bad) =
    let m : (number_at 0 4 x == 0xED26FF3A) ≡ true = eq-eqb _ _ is.magic in
    let v : (number_at 4 2 x == 1) ≡ true = eq-eqb _ _ is.major in
    let s : nat_lt (number_at 8 2 x) 28 ≡ false = le-ltb _ _ le in
    let u : nat_lt (number_at 10 2 x) 12 ≡ false = le-ltb _ _ more in
    let t : (number_at 12 4 x == 0 || not (number_at 12 4 x % 4 == 0)) ≡ true = block_size_fails _ bad in
    rw (m, v, s, u, t) refl

-- ---- a chunk

guard_bad : (t : Bool) (f : SparseFault) (came : List ℕ) (r : ChunkRead) (g : SparseFault) (had : List ℕ)
    → cond t (Bad f came) r ≡ Bad g had → ((t ≡ true) × (f ≡ g) × (came ≡ had)) ⊎ ((t ≡ false) × (r ≡ Bad g had))
guard_bad true f came r g had e = inl (refl, cc, cc)
guard_bad false f came r g had e = inr (refl, e)

moved_to : (h : Header) (size i have : ℕ) (y : List ℕ) (f g : SparseFault) (came had : List ℕ) → f ≡ g → came ≡ had
    → ChunkFails h size i have y f came → ChunkFails h size i have y g had
moved_to h size i have y f g came had p q w =
    subst (λ (l : List ℕ). ChunkFails h size i have y g l) q
    (subst (λ (k : SparseFault). ChunkFails h size i have y k came) p w)

body_fails : (h : Header) (size i have : ℕ) (y : List ℕ) (k : ChunkKind) (f : SparseFault) (came : List ℕ)
    → 12 ≤ length y → number_at 0 2 y ≡ code k → chunk_body h size i have y k ≡ Bad f came
    → ChunkFails h size i have y f came
body_fails h size i have y k f came long e g =
    let n = number_at 4 4 y in
    let total = number_at 8 4 y in
    let begins : BeginsChunk y k n total = record { long = long; chunk_type = e; chunk_sz = refl; total_sz = refl } in
    elim (guard_bad (not (total == h.chunk_hdr_sz + data_len h.blk_sz k n)) (ChunkLength i) [] _ f came g) [
      | inl p ↦ moved_to h size i have y _ f _ came p.1 p.2
          (wrong_length k n total begins (eqb-false _ _ (not_true _ p.0)))
      | inr p ↦
          let right : total ≡ h.chunk_hdr_sz + data_len h.blk_sz k n = eqb-true _ _ (not_false _ p.0) in
          elim (guard_bad (nat_lt h.total_blks (have + counted k n)) (TooManyBlocks i) [] _ f came p.1) [
            | inl q ↦ moved_to h size i have y _ f _ came q.1 q.2 (too_many k n total begins right (ltb-true _ _ q.0))
            | inr q ↦ elim (guard_bad (nat_lt (length y) total) (Truncated size)
                (partial_of k (drop h.chunk_hdr_sz y)) _ f came q.1) [
                  | inl r ↦ moved_to h size i have y _ f _ came r.1 r.2
                      (cut_short k n total begins right (ltb-false _ _ q.0) (ltb-true _ _ r.0))
                  | inr r ↦ absurd (let bad = r.1 in cc)
                ]
          ]
    ]

pub no_kind : (n : ℕ) (k : ChunkKind) → kind_at n ≡ None → n ≡ code k → ⊥
no_kind n k none e = let some : kind_at n ≡ Some k = ap kind_at e ∙ kind-code k in cc

known_fails : (h : Header) (size i have : ℕ) (y : List ℕ) (o : Option ChunkKind) (f : SparseFault) (came : List ℕ)
    → 12 ≤ length y → kind_at (number_at 0 2 y) ≡ o → chunk_known h size i have y o ≡ Bad f came
    → ChunkFails h size i have y f came
known_fails h size i have y None f came long e g =
    moved_to h size i have y (ChunkType i (number_at 0 2 y)) f [] came (let b = g in cc) (let b = g in
    cc) (unknown_type long (λ k. no_kind (number_at 0 2 y) k e))
known_fails h size i have y (Some k) f came long e g =
    body_fails h size i have y k f came long (code-kind (number_at 0 2 y) k e) g

pub chunk_fails : (h : Header) (size i have : ℕ) (y : List ℕ) (f : SparseFault) (came : List ℕ)
    → chunk_at h size i have y ≡ Bad f came → ChunkFails h size i have y f came
unfolding chunk_at
chunk_fails h size i have y f came g =
    elim (guard_bad (nat_lt (length y) 12) (Truncated size) []
    (chunk_known h size i have y (kind_at (number_at 0 2 y))) f came g) [
      | inl p ↦ moved_to h size i have y _ f _ came p.1 p.2 (no_header (ltb-true _ _ p.0))
      | inr p ↦ known_fails h size i have y (kind_at (number_at 0 2 y)) f came (ltb-false _ _ p.0) refl p.1
    ]

none_known : (n : ℕ) (o : Option ChunkKind) → ((k : ChunkKind) → n ≡ code k → ⊥) → kind_at n ≡ o → kind_at n ≡ None
none_known n None never e = e
none_known n (Some k) never e = absurd (never k (code-kind n k e))

begun : (h : Header) (size i have : ℕ) (y : List ℕ) (k : ChunkKind) (n total : ℕ) → BeginsChunk y k n total
    → chunk_at h size i have y ≡ chunk_body h size i have y k
unfolding chunk_at
begun h size i have y k n total b =
    let long : nat_lt (length y) 12 ≡ false = le-ltb _ _ b.long in
    let known : kind_at (number_at 0 2 y) ≡ Some k = ap kind_at b.chunk_type ∙ kind-code k in
    rw (long, known) refl

pub chunk_failed : (h : Header) (size i have : ℕ) (y : List ℕ) (f : SparseFault) (came : List ℕ)
    → ChunkFails h size i have y f came → chunk_at h size i have y ≡ Bad f came
unfolding chunk_at
chunk_failed h size i have y f came (no_header lt) = let t : nat_lt (length y) 12 ≡ true = lt-ltb _ _ lt in rw t refl
chunk_failed h size i have y f came (unknown_type long never) =
    let t : nat_lt (length y) 12 ≡ false = le-ltb _ _ long in
    let none : kind_at (number_at 0 2 y) ≡ None = none_known (number_at 0 2 y) (kind_at (number_at 0 2 y)) never refl in
    rw (t, none) refl
chunk_failed h size i have y f came (wrong_length k n total b ne) =
    let t : (total == h.chunk_hdr_sz + data_len h.blk_sz k n) ≡ false = ne_eqb _ _ ne in
    begun h size i have y k n total b ∙ rw (b.chunk_sz, b.total_sz, t) refl
chunk_failed h size i have y f came (too_many k n total b right lt) =
    let t : (total == h.chunk_hdr_sz + data_len h.blk_sz k n) ≡ true = eq-eqb _ _ right in
    let u : nat_lt h.total_blks (have + counted k n) ≡ true = lt-ltb _ _ lt in
    begun h size i have y k n total b ∙ rw (b.chunk_sz, b.total_sz, t, u) refl
chunk_failed h size i have y f came (cut_short k n total b right room lt) =
    let t : (total == h.chunk_hdr_sz + data_len h.blk_sz k n) ≡ true = eq-eqb _ _ right in
    let u : nat_lt h.total_blks (have + counted k n) ≡ false = le-ltb _ _ room in
    let v : nat_lt (length y) total ≡ true = lt-ltb _ _ lt in
    begun h size i have y k n total b ∙ rw (b.chunk_sz, b.total_sz, t, u, v) refl
