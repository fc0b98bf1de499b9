-- Raw runs in chunks of r blocks: how many there are, how long they are, and the next one.
use Rattle.std.proofs.Common.{◌≡◌, ℕ, zero, suc, ◌+◌, ◌-◌, ◌*◌, ◌/◌, ◌%◌, ◌<◌, ◌≤◌, min, nat_lt, List, [], ◌∷◌, ◌++◌}
use Rattle.std.proofs.Common.{length, map, take, drop, refl, sym, ap, ◌∙◌, append_assoc, append-nil, arith, inl, inr}
use Rattle.std.proofs.Common.{length-append, length-drop, mul-le-mul_left}
use Rattle.std.specs.List.{AllByRecursion, flat_map}
use Rattle.std.proofs.lemmas.Grind.{flat_map-append}
use Rattle.std.proofs.lemmas.List.{length-map, length-take-le, take_all}
use Rattle.std.proofs.lemmas.Nat.{div-mul-add, div-add-mod'}
use Rattle.std.proofs.lemmas.Bool.{cases_Bool, ltb-true, ltb-false}
use Rattle.std.proofs.Math.ListN.{drop_of_length-le}
use Rattle.abt_sparse.specs.Block.{Block, Raw, Fill, Skip, AreBlocks}
use Rattle.abt_sparse.specs.Runs.{runs}
use Rattle.abt_sparse.specs.Chunk.{Chunk, Raws, plain, chunk_of_run, raw_bytes, in_rs, cut_run, chunks_of}
use Rattle.abt_runs.specs.Part.{AllOf, IsRaw, raw_of}
use Rattle.abt_runs.specs.declared.part.RunKind.{RunKind}
use Rattle.abt_runs.specs.declared.part.RunKind.TheVariants as kinds
use Rattle.abt_pieces.specs.Contents.{head_len, copy_len}
use Rattle.abt_pieces.specs.Write.{front_bytes, chunks_in, bytes_of, cut_bytes, run_front, run_head}
use Rattle.abt_pieces.proofs.Classes.{all_take}
use Rattle.abt_pieces.proofs.Writing.{blocks_take, blocks_drop, run_bytes, front_long, length_raw}

-- ---- how many chunks

pub no_cut : (r : ℕ) → 0 < r → chunks_in kinds.Raw 0 r ≡ 0
no_cut r some = ap (λ (n : ℕ). n / r) (let z : 0 + (r - 1) ≡ 0 * r + (r - 1) = omega arith in z)
    ∙ div-mul-add 0 r (r - 1) (omega arith)

pub one_cut : (q r : ℕ) → 0 < r → 0 < q → chunks_in kinds.Raw q r ≡ suc (chunks_in kinds.Raw (q - min q r) r)
one_cut q r some more = elim (cases_Bool (nat_lt q r)) [
  | inl e ↦
      let lt = ltb-true q r e in
      let z : q - min q r ≡ 0 = omega arith in
      ap (λ (n : ℕ). n / r) (let y : q + (r - 1) ≡ 1 * r + (q - 1) = omega arith in y)
      ∙ div-mul-add 1 r (q - 1) (omega arith) ∙ sym (ap (λ (n : ℕ). suc (chunks_in kinds.Raw n r)) z
      ∙ ap suc (no_cut r some))
  | inr e ↦
      let le = ltb-false q r e in
      let z : q - min q r ≡ q - r = omega arith in
      let a = (q - r + (r - 1)) / r in
      let m = (q - r + (r - 1)) % r in
      let d : a * r + m ≡ q - r + (r - 1) = div-add-mod' (q - r + (r - 1)) r in
      let small : m < r = omega arith in
      ap (λ (n : ℕ). n / r) (let y : q + (r - 1) ≡ suc a * r + m = omega (arith, d) in y)
      ∙ div-mul-add (suc a) r m small ∙ sym (ap (λ (n : ℕ). suc (chunks_in kinds.Raw n r)) z)
]

pub few_cuts : (k : RunKind) (q r : ℕ) → 0 < r → 0 < q → chunks_in k q r ≤ q
few_cuts kinds.Raw q r some more = elim (cases_Bool (nat_lt q ((q + (r - 1)) / r))) [
  | inl e ↦
      let lt = ltb-true q ((q + (r - 1)) / r) e in
      let d : (q + (r - 1)) / r * r + (q + (r - 1)) % r ≡ q + (r - 1) = div-add-mod' (q + (r - 1)) r in
      let m : r * (q + 1) ≤ r * ((q + (r - 1)) / r) =
      mul-le-mul_left r (let z : q + 1 ≤ (q + (r - 1)) / r = omega arith in z) in
      let n : q * 1 ≤ q * r = mul-le-mul_left q (let z : 1 ≤ r = omega arith in z) in
      absurd (omega (arith, d, m, n))
  | inr e ↦ ltb-false q ((q + (r - 1)) / r) e
]
few_cuts (kinds.Fill w) q r some more = omega arith
few_cuts kinds.Skip q r some more = omega arith
few_cuts kinds.End q r some more = omega arith

-- ---- the next chunk

-- how often a list may be taken from doesn't count, where it is often enough
often : (r t s : ℕ) (ys : List (List ℕ)) → 0 < r → length ys ≤ t → length ys ≤ s → in_rs r t ys ≡ in_rs r s ys
often r t s [] some a b = refl
often r zero s (y ∷ ys) some a b = absurd (omega (arith, a))
often r (suc t) zero (y ∷ ys) some a b = absurd (omega (arith, b))
often r (suc t) (suc s) (y ∷ ys) some a b =
    let few : length (drop r (y ∷ ys)) ≤ length ys = omega (arith, length-drop r (y ∷ ys)) in
    ap (λ (cs : List Chunk). Raws (take r (y ∷ ys)) ∷ cs) (often r t s (drop r (y ∷ ys)) some (omega (arith, few, a))
    (omega (arith, few, b)))

next_cut : (r : ℕ) (ys : List (List ℕ)) → 0 < r → 0 < length ys → cut_run r (Raws ys) ≡ Raws (take r ys)
    ∷ cut_run r (Raws (drop r ys))
next_cut r [] some more = absurd (omega (arith, more))
next_cut r (y ∷ ys) some more =
    ap (λ (cs : List Chunk). Raws (take r (y ∷ ys)) ∷ cs) (often r (length ys) (length (drop r (y ∷ ys)))
    (drop r (y ∷ ys)) some (omega (arith, length-drop r (y ∷ ys))) (omega arith))

-- to take more than there is, and to drop it
take-min : {X : Type 0} (r : ℕ) (ys : List X) → take r ys ≡ take (min (length ys) r) ys
take-min r ys = elim (cases_Bool (nat_lt (length ys) r)) [
  | inl e ↦ let lt = ltb-true (length ys) r e in take_all r ys (omega arith)
      ∙ sym (take_all (min (length ys) r) ys (omega arith))
  | inr e ↦ let le = ltb-false (length ys) r e in
      ap (λ (n : ℕ). take n ys) (let z : r ≡ min (length ys) r = omega arith in z)
]

drop-min : {X : Type 0} (r : ℕ) (ys : List X) → drop r ys ≡ drop (min (length ys) r) ys
drop-min r ys = elim (cases_Bool (nat_lt (length ys) r)) [
  | inl e ↦ let lt = ltb-true (length ys) r e in drop_of_length-le ys (let z : length ys ≤ r = omega arith in z)
      ∙ sym (drop_of_length-le ys (let z : length ys ≤ min (length ys) r = omega arith in z))
  | inr e ↦ let le = ltb-false (length ys) r e in
      ap (λ (n : ℕ). drop n ys) (let z : r ≡ min (length ys) r = omega arith in z)
]

map-take : (n : ℕ) (g : List Block) → take n (map raw_bytes g) ≡ map raw_bytes (take n g)
map-take zero g = refl
map-take (suc n) [] = refl
map-take (suc n) (x ∷ g) = ap (λ (ys : List (List ℕ)). raw_bytes x ∷ ys) (map-take n g)

map-drop : (n : ℕ) (g : List Block) → drop n (map raw_bytes g) ≡ map raw_bytes (drop n g)
map-drop zero g = refl
map-drop (suc n) [] = refl
map-drop (suc n) (x ∷ g) = map-drop n g

raw_run : (g : List Block) → AllByRecursion IsRaw g → 0 < length g → chunk_of_run g ≡ Raws (map raw_bytes g)
raw_run [] h some = absurd (omega (arith, some))
raw_run (Raw x ∷ g) h some = refl
raw_run (Fill w ∷ g) h some = absurd h.0
raw_run (Skip ∷ g) h some = absurd h.0

raws_take : (q : ℕ) (g : List Block) → AllByRecursion IsRaw g → AllByRecursion IsRaw (take q g)
raws_take q g h = all_take kinds.Raw q g h

raws_drop : (q : ℕ) (g : List Block) → AllByRecursion IsRaw g → AllByRecursion IsRaw (drop q g)
raws_drop zero g h = h
raws_drop (suc q) [] h = tt
raws_drop (suc q) (x ∷ g) h = raws_drop q g h.1

pub record NextCut (b r : ℕ) (g : List Block) (q : ℕ) : Type 0 where
  pub bytes : cut_bytes r g ≡ front_bytes kinds.Raw q (12 + q * b) ++ (raw_of (take q g) ++ cut_bytes r (drop q g))
  pub count : length (cut_run r (Raws (map raw_bytes g))) ≡ suc (length (cut_run r (Raws (map raw_bytes (drop q g)))))

pub cut_next : (b r : ℕ) (g : List Block) (q : ℕ) → 0 < r → 0 < length g → q ≡ min (length g) r → AllOf kinds.Raw g
    → AreBlocks b g → NextCut b r g q
cut_next b r g q some more is all good =
    let ys = map raw_bytes g in
    let same : min (length ys) r ≡ q = ap (λ (n : ℕ). min n r) (length-map g raw_bytes) ∙ sym is in
    let t : take r ys ≡ map raw_bytes (take q g) = take-min r ys ∙ ap (λ (n : ℕ). take n ys) same ∙ map-take q g in
    let d : drop r ys ≡ map raw_bytes (drop q g) = drop-min r ys ∙ ap (λ (n : ℕ). drop n ys) same ∙ map-drop q g in
    let long : length (take q g) ≡ q = length-take-le q g (omega arith) in
    let cut : cut_run r (Raws ys) ≡ Raws (map raw_bytes (take q g)) ∷ cut_run r (Raws (map raw_bytes (drop q g))) =
    next_cut r ys some (omega (arith, length-map g raw_bytes)) ∙ rw (t, d) refl in
    let one : plain (Raws (map raw_bytes (take q g))) ≡ front_bytes kinds.Raw q (12 + q * b) ++ raw_of (take q g) =
    ap plain (sym (raw_run (take q g) (raws_take q g all) (omega (arith, long))))
    ∙ run_bytes b kinds.Raw (take q g) q (all_take kinds.Raw q g all) long (omega arith) (blocks_take b q g good) in
    record {
      bytes = ap (λ (cs : List Chunk). flat_map plain cs) cut ∙ ap (λ (x : List ℕ). x ++ cut_bytes r (drop q g)) one
          ∙ append_assoc (front_bytes kinds.Raw q (12 + q * b)) (raw_of (take q g)) (cut_bytes r (drop q g));
      count = ap length cut;
    }

-- ---- all chunks of a raw run

pub record CutSize (b r : ℕ) (g : List Block) : Type 0 where
  pub count : length (cut_run r (Raws (map raw_bytes g))) ≡ chunks_in kinds.Raw (length g) r
  pub bytes : length (cut_bytes r g) ≡ chunks_in kinds.Raw (length g) r * 12 + length g * b

two_parts : (x y b : ℕ) → (x + y) * b ≡ x * b + y * b
two_parts x y b = omega arith

cut_sizes : (b r t : ℕ) (g : List Block) → 0 < r → length g ≤ t → AllOf kinds.Raw g → AreBlocks b g → CutSize b r g
cut_sizes b r t [] some few all good = let z = no_cut r some in record { count = sym z; bytes = rw z (omega arith) }
cut_sizes b r zero (x ∷ g) some few all good = absurd (omega (arith, few))
cut_sizes b r (suc t) (x ∷ g) some few all good =
    let n = length (x ∷ g) in
    let q = min n r in
    let rest = drop q (x ∷ g) in
    let less : length rest ≡ n - q = length-drop q (x ∷ g) in
    let next = cut_next b r (x ∷ g) q some (omega arith) refl all good in
    let ih = cut_sizes b r t rest some (omega (arith, less, few, some)) (raws_drop q (x ∷ g) all)
    (blocks_drop b q (x ∷ g) good) in
    let one : chunks_in kinds.Raw n r ≡ suc (chunks_in kinds.Raw (length rest) r) = one_cut n r some (omega arith)
    ∙ ap (λ (m : ℕ). suc (chunks_in kinds.Raw m r)) (sym less) in
    let long : length (take q (x ∷ g)) ≡ q = length-take-le q (x ∷ g) (omega arith) in
    let raw : length (raw_of (take q (x ∷ g))) ≡ q * b =
    length_raw b (take q (x ∷ g)) (raws_take q (x ∷ g) all) (blocks_take b q (x ∷ g) good)
    ∙ ap (λ (m : ℕ). m * b) long in
    let front = front_bytes kinds.Raw q (12 + q * b) in
    let total : length (cut_bytes r (x ∷ g)) ≡ 12 + (q * b + length (cut_bytes r rest)) =
    ap length next.bytes ∙ length-append front (raw_of (take q (x ∷ g)) ++ cut_bytes r rest)
    ∙ ap (λ (m : ℕ). 12 + m) (length-append (raw_of (take q (x ∷ g))) (cut_bytes r rest)
    ∙ ap (λ (m : ℕ). m + length (cut_bytes r rest)) raw) in
    let split : n * b ≡ q * b + (n - q) * b = ap (λ (m : ℕ). m * b) (let z : n ≡ q + (n - q) = omega arith in z)
    ∙ two_parts q (n - q) b in
    let lr : length rest * b ≡ (n - q) * b = ap (λ (m : ℕ). m * b) less in
    record {
      count = next.count ∙ ap suc ih.count
          ∙ sym one;
      bytes = rw one (omega (arith, total, ih.bytes, split, lr));
    }

pub cut_size : (b r : ℕ) (g : List Block) → 0 < r → AllOf kinds.Raw g → AreBlocks b g → CutSize b r g
cut_size b r g some all good = cut_sizes b r (length g) g some (omega arith) all good

-- ---- all chunks of a run

-- what of a run is not written as soon as it has ended
abbrev pub run_rest : RunKind → ℕ → List Block → List ℕ
run_rest kinds.Raw r g = cut_bytes r g
run_rest (kinds.Fill w) r g = []
run_rest kinds.Skip r g = []
run_rest kinds.End r g = []

pub record RunCut (b r : ℕ) (k : RunKind) (g : List Block) : Type 0 where
  pub bytes : flat_map plain (cut_run r (chunk_of_run g)) ≡ run_front k (length g) ++ run_rest k r g
  pub count : length (cut_run r (chunk_of_run g)) ≡ chunks_in k (length g) r
  pub long : length (flat_map plain (cut_run r (chunk_of_run g))) ≡ chunks_in k (length g) r * head_len k + copy_len k
      (length g) b
  pub head : length (run_front k (length g)) ≡ run_head k

not_raws : (r : ℕ) (k : RunKind) (g : List Block) → (k ≡ kinds.Raw → ⊥) → AllOf k g → 0 < length g
    → cut_run r (chunk_of_run g) ≡ chunk_of_run g ∷ []
not_raws r k [] nay all some = absurd (omega (arith, some))
not_raws r kinds.Raw (x ∷ g) nay all some = absurd (nay refl)
not_raws r (kinds.Fill w) (Fill v ∷ g) nay all some = refl
not_raws r (kinds.Fill w) (Raw v ∷ g) nay all some = absurd (let e : Raw v ≡ Fill w = cc in cc)
not_raws r (kinds.Fill w) (Skip ∷ g) nay all some = absurd (let e : Skip ≡ Fill w = cc in cc)
not_raws r kinds.Skip (Skip ∷ g) nay all some = refl
not_raws r kinds.Skip (Raw v ∷ g) nay all some = absurd (let e : Raw v ≡ Skip = cc in cc)
not_raws r kinds.Skip (Fill v ∷ g) nay all some = absurd (let e : Fill v ≡ Skip = cc in cc)
not_raws r kinds.End (x ∷ g) nay all some = absurd cc

-- a run that is one chunk without bytes of its own
alone : (b r : ℕ) (k : RunKind) (g : List Block) (front : List ℕ) (head : ℕ)
    → cut_run r (chunk_of_run g) ≡ chunk_of_run g ∷ [] → plain (chunk_of_run g) ≡ front ++ [] → length front ≡ head
    → (flat_map plain (cut_run r (chunk_of_run g)) ≡ front ++ []) × (length (cut_run r (chunk_of_run g)) ≡ 1)
    × (length (flat_map plain (cut_run r (chunk_of_run g))) ≡ 1 * head + 0)
alone b r k g front head one bytes long =
    let all : flat_map plain (cut_run r (chunk_of_run g)) ≡ front ++ [] =
    ap (λ (cs : List Chunk). flat_map plain cs) one ∙ append-nil (plain (chunk_of_run g)) ∙ bytes in (
      all,
      ap length one,
      ap length all ∙ length-append front []
          ∙ (let z : length front + 0 ≡ 1 * head + 0 = omega (arith, long) in z),
    )

pub run_cut : (b r : ℕ) (k : RunKind) (g : List Block) → 0 < r → AllOf k g → 0 < length g → AreBlocks b g
    → RunCut b r k g
run_cut b r kinds.Raw g some all more good =
    let c = cut_size b r g some all good in
    let e : cut_run r (chunk_of_run g) ≡ cut_run r (Raws (map raw_bytes g)) =
    ap (λ (x : Chunk). cut_run r x) (raw_run g all more) in
    let f : flat_map plain (cut_run r (chunk_of_run g)) ≡ cut_bytes r g =
    ap (λ (cs : List Chunk). flat_map plain cs) e in
    record { bytes = f; count = ap length e ∙ c.count; long = ap length f ∙ c.bytes; head = refl }
run_cut b r (kinds.Fill w) g some all more good =
    let front = front_bytes (kinds.Fill w) (length g) 16 in
    let long = front_long b (kinds.Fill w) g (length g) 16 all more good in
    let x = alone b r (kinds.Fill w) g front 16 (not_raws r (kinds.Fill w) g (λ e. absurd cc) all more)
    (run_bytes b (kinds.Fill w) g (length g) all refl more good) long in
    record { bytes = x.0; count = x.1; long = x.2; head = long }
run_cut b r kinds.Skip g some all more good =
    let front = front_bytes kinds.Skip (length g) 12 in
    let long = front_long b kinds.Skip g (length g) 12 all more good in
    let x = alone b r kinds.Skip g front 12 (not_raws r kinds.Skip g (λ e. absurd cc) all more)
    (run_bytes b kinds.Skip g (length g) all refl more good) long in
    record { bytes = x.0; count = x.1; long = x.2; head = long }
run_cut b r kinds.End g some all more good = absurd (omega (arith, more, ap length all))

-- the first run, before the others
pub record FirstCut (b r : ℕ) (k : RunKind) (g rest whole : List Block) : Type 0 where
  pub bytes : bytes_of r whole ≡ run_front k (length g) ++ (run_rest k r g ++ bytes_of r rest)
  pub count : length (chunks_of r whole) ≡ chunks_in k (length g) r + length (chunks_of r rest)
  pub long : length (bytes_of r whole) ≡ chunks_in k (length g) r * head_len k + copy_len k (length g) b + length
      (bytes_of r rest)

pub first_cut : (b r : ℕ) (k : RunKind) (g rest whole : List Block) → runs whole ≡ g ∷ runs rest → 0 < r → AllOf k g
    → 0 < length g → AreBlocks b g → FirstCut b r k g rest whole
first_cut b r k g rest whole first some all more good =
    let c = run_cut b r k g some all more good in
    let cs : chunks_of r whole ≡ cut_run r (chunk_of_run g) ++ chunks_of r rest =
    ap (λ (gs : List (List Block)). flat_map (λ h. cut_run r (chunk_of_run h)) gs) first in
    let bs : bytes_of r whole ≡ flat_map plain (cut_run r (chunk_of_run g)) ++ bytes_of r rest =
    ap (λ (xs : List Chunk). flat_map plain xs) cs ∙ flat_map-append plain (cut_run r (chunk_of_run g))
    (chunks_of r rest) in
    record {
      bytes = bs ∙ ap (λ (x : List ℕ). x ++ bytes_of r rest) c.bytes
          ∙ append_assoc (run_front k (length g)) (run_rest k r g) (bytes_of r rest);
      count = ap length cs ∙ length-append (cut_run r (chunk_of_run g)) (chunks_of r rest)
          ∙ ap (λ (m : ℕ). m + length (chunks_of r rest)) c.count;
      long = ap length bs ∙ length-append (flat_map plain (cut_run r (chunk_of_run g))) (bytes_of r rest)
          ∙ ap (λ (m : ℕ). m + length (bytes_of r rest)) c.long;
    }
