-- Bytes that cells say, and bytes that are at their place.
use Rattle.std.proofs.Common.{◌≡◌, ℕ, zero, suc, ◌+◌, ◌-◌, ◌*◌, ◌%◌, ◌/◌, ◌<◌, ◌≤◌, ◌⊎◌, inl, inr, List, [], ◌∷◌, ◌++◌}
use Rattle.std.proofs.Common.{length, take, drop, replicate, Option, Some, None, get_or, refl, sym, ap, ◌∙◌}
use Rattle.std.proofs.Common.{append_assoc, arith, min, nat_lt, ltb-true, ltb-false, length-take}
use Rattle.std.specs.Prelude.{slice_get}
use Rattle.std.specs.List.{concat}
use Rattle.std.proofs.lemmas.Option.{slice_get_past, slice_get-get_or, slice_get_within}
use Rattle.std.proofs.lemmas.List.{take-append-le}
use Rattle.std.proofs.lemmas.Bool.{cases_Bool}
use Rattle.std.proofs.Common.{length-drop}
use Rattle.abt_io.proofs.Words.{length_words}
use Rattle.abt_sparse.specs.Block.{Block, Raw, Fill, Skip, IsBlock, AreBlocks, cells, cells_of, block_bytes}
use Rattle.abt_chunks.specs.Ahead.{somes}
use Rattle.abt_chunks.specs.Places.{from_place, said_by}
use Rattle.abt_verify.specs.Standing.{FirstDiffers, Stands, StandsAt, held_in}

pub get_none : (i : ℕ) → get_or {A = Option ℕ} [] i None ≡ None
get_none zero = refl
get_none (suc i) = refl

pub none_some : (x : ℕ) → (let a : Option ℕ = None in let b : Option ℕ = Some x in a ≡ b) → ⊥
none_some x e = cc

-- ---- cells after others

pub said_front : (cs ds : List (Option ℕ)) (i x : ℕ) → get_or cs i None ≡ Some x → get_or (cs ++ ds) i None ≡ Some x
said_front [] ds i x e = absurd (none_some x (sym (get_none i) ∙ e))
said_front (c ∷ cs) ds zero x e = e
said_front (c ∷ cs) ds (suc i) x e = said_front cs ds i x e

pub said_behind : (cs ds : List (Option ℕ)) (i x : ℕ) → get_or (from_place (length cs) ds) i None ≡ Some x
    → get_or (cs ++ ds) i None ≡ Some x
said_behind [] ds i x e = e
said_behind (c ∷ cs) ds zero x e = absurd (none_some x e)
said_behind (c ∷ cs) ds (suc i) x e = said_behind cs ds i x e

pub said_split : (cs ds : List (Option ℕ)) (i x : ℕ) → get_or (cs ++ ds) i None ≡ Some x → (get_or cs i None ≡ Some x)
    ⊎ (get_or (from_place (length cs) ds) i None ≡ Some x)
said_split [] ds i x e = inr e
said_split (c ∷ cs) ds zero x e = inl e
said_split (c ∷ cs) ds (suc i) x e = said_split cs ds i x e

said_within : (cs : List (Option ℕ)) (i x : ℕ) → get_or cs i None ≡ Some x → i < length cs
said_within [] i x e = absurd (none_some x (sym (get_none i) ∙ e))
said_within (c ∷ cs) zero x e = omega arith
said_within (c ∷ cs) (suc i) x e = let lt = said_within cs i x e in omega (arith, lt)

-- a byte that cells from a place on say
pub record Placed (at : ℕ) (ds : List (Option ℕ)) (i x : ℕ) : Type 0 where
  pub place : ℕ
  pub is : i ≡ at + place
  pub said : get_or ds place None ≡ Some x

pub placed : (at : ℕ) (ds : List (Option ℕ)) (i x : ℕ) → get_or (from_place at ds) i None ≡ Some x → Placed at ds i x
placed zero ds i x e = record { place = i; is = omega arith; said = e }
placed (suc at) ds zero x e = absurd (none_some x e)
placed (suc at) ds (suc i) x e = let p = placed at ds i x e in
    record { place = p.place; is = omega (arith, p.is); said = p.said }

pub said_at : (at : ℕ) (ds : List (Option ℕ)) (j x : ℕ) → get_or ds j None ≡ Some x
    → get_or (from_place at ds) (at + j) None ≡ Some x
said_at zero ds j x e = let z : 0 + j ≡ j = omega arith in ap (λ (k : ℕ). get_or ds k None) z ∙ e
said_at (suc at) ds j x e = let z : suc at + j ≡ suc (at + j) = omega arith in
    ap (λ (k : ℕ). get_or (None ∷ from_place at ds) k None) z ∙ said_at at ds j x e

pub stands_more : (p : List ℕ) (cs ds : List (Option ℕ)) (at : ℕ) → Stands p cs → at ≡ length cs
    → Stands p (from_place at ds) → Stands p (cs ++ ds)
stands_more p cs ds at before long here = λ i x e. elim (said_split cs ds i x e) [
  | inl a ↦ before i x a
  | inr b ↦ here i x (ap (λ (k : ℕ). get_or (from_place k ds) i None) long ∙ b)
]

pub first_more : (p : List ℕ) (cs ds more : List (Option ℕ)) (at n : ℕ) → Stands p cs → at ≡ length cs
    → FirstDiffers p (from_place at ds) n → FirstDiffers p ((cs ++ ds) ++ more) n
first_more p cs ds more at n before long f =
    let there : get_or (cs ++ ds) n None ≡ Some f.byte =
    said_behind cs ds n f.byte (ap (λ (k : ℕ). get_or (from_place k ds) n None) (sym long) ∙ f.said) in
    let within = said_within (cs ++ ds) n f.byte there in
    record {
      byte = f.byte;
      said = said_front (cs ++ ds) more n f.byte there;
      differs = f.differs;
      before = λ i lt x e. elim (said_split (cs ++ ds) more i x e) [
        | inl a ↦ elim (said_split cs ds i x a) [
          | inl b ↦ before i x b
          | inr b ↦ f.before i lt x (ap (λ (k : ℕ). get_or (from_place k ds) i None) long ∙ b)
        ]
        | inr b ↦ let q = placed (length (cs ++ ds)) more i x b in absurd (omega (arith, within, lt, q.is))
      ];
    }

-- ---- bytes at a place

get-drop : (p : List ℕ) (at j : ℕ) → slice_get (drop at p) j ≡ slice_get p (at + j)
get-drop p zero j = let z : j ≡ 0 + j = omega arith in ap (slice_get p) z
get-drop [] (suc at) j = slice_get_past [] j (omega arith) ∙ sym (slice_get_past [] (suc at + j) (omega arith))
get-drop (y ∷ p) (suc at) j = get-drop p at j ∙ (let z : suc (at + j) ≡ suc at + j = omega arith in
    ap (slice_get (y ∷ p)) z)

get-take : (k : ℕ) (x : List ℕ) (j : ℕ) → j < k → slice_get (take k x) j ≡ slice_get x j
get-take zero x j lt = absurd (omega (arith, lt))
get-take (suc k) [] j lt = refl
get-take (suc k) (y ∷ x) zero lt = refl
get-take (suc k) (y ∷ x) (suc j) lt = get-take k x j (omega (arith, lt))

get_somes : (bytes : List ℕ) (j x : ℕ) → get_or (somes bytes) j None ≡ Some x → slice_get bytes j ≡ Some x
get_somes [] j x e = absurd (none_some x (sym (get_none j) ∙ e))
get_somes (b ∷ bytes) zero x e = e
get_somes (b ∷ bytes) (suc j) x e = get_somes bytes j x e

somes_get : (bytes : List ℕ) (j : ℕ) → j < length bytes → get_or (somes bytes) j None ≡ Some (get_or bytes j 0)
somes_get [] j lt = absurd (omega (arith, lt))
somes_get (b ∷ bytes) zero lt = refl
somes_get (b ∷ bytes) (suc j) lt = somes_get bytes j (omega (arith, lt))

-- as far as the first k bytes are the same
stands_below : (p bytes : List ℕ) (at k i : ℕ) → take k (drop at p) ≡ take k bytes → i < at + k
    → StandsAt p (from_place at (somes bytes)) i
stands_below p bytes at k i same lt x e =
    let q = placed at (somes bytes) i x e in
    let below : q.place < k = omega (arith, q.is, lt) in
    ap (slice_get p) q.is ∙ sym (get-drop p at q.place) ∙ sym (get-take k (drop at p) q.place below)
    ∙ ap (λ (l : List ℕ). slice_get l q.place) same
    ∙ get-take k bytes q.place below ∙ get_somes bytes q.place x q.said

pub stands_at : (p bytes : List ℕ) (at : ℕ) → take (length bytes) (drop at p) ≡ take (length bytes) bytes
    → Stands p (from_place at (somes bytes))
stands_at p bytes at same = λ i x e.
    let q = placed at (somes bytes) i x e in
    let within : q.place < length bytes = slice_get_within bytes q.place x (get_somes bytes q.place x q.said) in
    stands_below p bytes at (length bytes) i same (omega (arith, q.is, within)) x e

pub differs_at : (p bytes : List ℕ) (at k : ℕ) → k < length bytes → take k (drop at p) ≡ take k bytes
    → (slice_get (drop at p) k ≡ slice_get bytes k → ⊥) → FirstDiffers p (from_place at (somes bytes)) (at + k)
differs_at p bytes at k lt same other = record {
  byte = get_or bytes k 0;
  said = said_at at (somes bytes) k (get_or bytes k 0) (somes_get bytes k lt);
  differs = λ e. other (get-drop p at k ∙ e ∙ sym (slice_get-get_or bytes k 0 lt));
  before = λ i less. stands_below p bytes at k i same less;
}

-- where p ends before them, a byte is missing
pub missing_at : (p bytes : List ℕ) (at k : ℕ) → k < length bytes → take k (drop at p) ≡ take k bytes
    → length p - at ≤ k → FirstDiffers p (from_place at (somes bytes)) (at + k)
missing_at p bytes at k lt same short =
    differs_at p bytes at k lt same
    (λ e. none_some (get_or bytes k 0) (sym (slice_get_past (drop at p) k (omega (arith, length-drop at p, short)))
    ∙ e ∙ slice_get-get_or bytes k 0 lt))

-- ---- a window whose beginning is the image's, and whose other half the partition's

half_front : (n h : ℕ) (w x : List ℕ) → n ≤ h → h ≤ length w → take n (take h w ++ x) ≡ take n w
half_front zero h w x le fits = refl
half_front (suc n) zero w x le fits = absurd (omega (arith, le))
half_front (suc n) (suc h) [] x le fits = absurd (omega (arith, fits))
half_front (suc n) (suc h) (y ∷ w) x le fits =
    ap (λ (l : List ℕ). y ∷ l) (half_front n h w x (omega (arith, le)) (omega (arith, fits)))

half_back : (h : ℕ) (w x : List ℕ) → h ≤ length w → drop h (take h w ++ x) ≡ x
half_back zero w x fits = refl
half_back (suc h) [] x fits = absurd (omega (arith, fits))
half_back (suc h) (y ∷ w) x fits = half_back h w x (omega (arith, fits))

pub first_half : (n h : ℕ) (w out tail : List ℕ) → n ≤ h → h ≤ length w
    → take (n - 0) ((take h w ++ out) ++ tail) ≡ take n w
first_half n h w out tail le fits =
    let z : n - 0 ≡ n = omega arith in
    ap (λ (j : ℕ). take j ((take h w ++ out) ++ tail)) z
    ∙ ap (λ (l : List ℕ). take n l) (append_assoc (take h w) out tail) ∙ half_front n h w (out ++ tail) le fits

pub second_half : (k h : ℕ) (w out tail : List ℕ) → k ≤ length out → h ≤ length w
    → take (h + k - h) (drop h ((take h w ++ out) ++ tail)) ≡ take k out
second_half k h w out tail le fits =
    let z : h + k - h ≡ k = omega arith in
    ap (λ (j : ℕ). take j (drop h ((take h w ++ out) ++ tail))) z
    ∙ ap (λ (l : List ℕ). take k (drop h l)) (append_assoc (take h w) out tail)
    ∙ ap (λ (l : List ℕ). take k l) (half_back h w (out ++ tail) fits) ∙ take-append-le k out tail le

take_front : (k n : ℕ) (l : List ℕ) → k ≤ n → take k (take n l) ≡ take k l
take_front zero n l le = refl
take_front (suc k) zero l le = absurd (omega (arith, le))
take_front (suc k) (suc n) [] le = refl
take_front (suc k) (suc n) (y ∷ l) le = ap (λ (r : List ℕ). y ∷ r) (take_front k n l (omega (arith, le)))

-- so many bytes came, d, and the first k of them are those that are wanted, a
module _ (p bytes a d : List ℕ) (at k count : ℕ) (a_is : a ≡ bytes) (d_is : d ≡ take count (drop at p))
    (within : k ≤ min (length a) (length d)) (same : take k a ≡ take k d) where
  came : length d ≡ min count (length p - at)
  came = ap length d_is ∙ length-take count (drop at p) ∙ ap (λ (j : ℕ). min count j) (length-drop at p)

  same_there : take k (drop at p) ≡ take k bytes
  same_there = sym (ap (λ (l : List ℕ). take k l) d_is ∙ take_front k count (drop at p) (omega (arith, within, came)))
      ∙ sym same ∙ ap (λ (l : List ℕ). take k l) a_is

  pub all_there : length bytes ≤ k → Stands p (from_place at (somes bytes))
  all_there le =
      let whole : k ≡ length bytes = omega (arith, le, within, ap length a_is) in
      stands_at p bytes at (sym (ap (λ (j : ℕ). take j (drop at p)) whole) ∙ same_there
      ∙ ap (λ (j : ℕ). take j bytes) whole)

  pub first_there : k < length bytes → (k < min (length a) (length d) → slice_get a k ≡ slice_get d k → ⊥)
      → count ≡ min (length bytes) (length p - at) → FirstDiffers p (from_place at (somes bytes)) (at + k)
  first_there lt other all = elim (cases_Bool (nat_lt k (length d))) [
    | inl t ↦
        let less = ltb-true k (length d) t in
        let few : k < count = omega (arith, less, came) in
        let there : slice_get d k ≡ slice_get (drop at p) k = ap (λ (l : List ℕ). slice_get l k) d_is
        ∙ get-take count (drop at p) k few in
        differs_at p bytes at k lt same_there (λ e. other (omega (arith, lt, less, ap length a_is))
        (ap (λ (l : List ℕ). slice_get l k) a_is ∙ sym e ∙ sym there))
    | inr t ↦
        let past = ltb-false k (length d) t in
        missing_at p bytes at k lt same_there (omega (arith, past, lt, all, came))
  ]

-- a gap says nothing
get_nones : (n i : ℕ) → get_or (replicate n None) i None ≡ let a : Option ℕ = None in a
get_nones zero i = get_none i
get_nones (suc n) zero = refl
get_nones (suc n) (suc i) = get_nones n i

pub stands_nones : (p : List ℕ) (at n : ℕ) → Stands p (from_place at (replicate n None))
stands_nones p at n = λ i x e. let q = placed at (replicate n None) i x e in
    absurd (none_some x (sym (get_nones n q.place) ∙ q.said))

pub stands_none : (p : List ℕ) (at : ℕ) → Stands p (from_place at [])
stands_none p at = stands_nones p at 0

pub stands_nothing : (p : List ℕ) → Stands p []
stands_nothing p = λ i x e. absurd (none_some x (sym (get_none i) ∙ e))

-- ---- how many

pub said_by-append : (cs ds : List (Option ℕ)) → said_by (cs ++ ds) ≡ said_by cs + said_by ds
said_by-append [] ds = omega arith
said_by-append (None ∷ cs) ds = said_by-append cs ds
said_by-append (Some x ∷ cs) ds = omega (arith, said_by-append cs ds)

pub said_somes : (bytes : List ℕ) → said_by (somes bytes) ≡ length bytes
said_somes [] = refl
said_somes (x ∷ bytes) = omega (arith, said_somes bytes)

pub said_nones : (n : ℕ) → said_by (replicate n None) ≡ 0
said_nones zero = refl
said_nones (suc n) = said_nones n

said_block : (b : ℕ) (x : Block) → b % 4 ≡ 0 → IsBlock b x
    → said_by (cells_of b (block_bytes b x)) ≡ b * held_in (x ∷ [])
said_block b (Raw bytes) four h = said_somes bytes ∙ omega (arith, h)
said_block b (Fill word) four h = let long = length_words (b / 4) word h in
    said_somes (concat (replicate (b / 4) word)) ∙ omega (arith, long)
said_block b Skip four h = said_nones b ∙ omega arith

held_more : (x : Block) (l : List Block) → held_in (x ∷ l) ≡ held_in (x ∷ []) + held_in l
held_more (Raw x) l = omega arith
held_more (Fill w) l = omega arith
held_more Skip l = omega arith

-- of blocks: each raw and fill one has its b bytes
pub said_cells : (b : ℕ) (l : List Block) → b % 4 ≡ 0 → AreBlocks b l → said_by (cells b l) ≡ b * held_in l
said_cells b [] four h = omega arith
said_cells b (x ∷ l) four h =
    let sum : b * held_in (x ∷ l) ≡ b * held_in (x ∷ []) + b * held_in l = ap (λ (n : ℕ). b * n) (held_more x l)
    ∙ omega arith in
    omega (
      arith,
      said_by-append (cells_of b (block_bytes b x)) (cells b l),
      said_block b x four h.0,
      said_cells b l four h.1,
      sum,
    )

pub held_le : (l : List Block) → held_in l ≤ length l
held_le [] = omega arith
held_le (Raw x ∷ l) = omega (arith, held_le l)
held_le (Fill w ∷ l) = omega (arith, held_le l)
held_le (Skip ∷ l) = omega (arith, held_le l)
