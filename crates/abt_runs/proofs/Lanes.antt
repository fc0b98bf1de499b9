-- Lanes of 32 bytes.
use Rattle.std.proofs.Common.{◌≡◌, ℕ, zero, suc, ◌+◌, ◌-◌, ◌*◌, ◌/◌, ◌%◌, ◌^◌, ◌≤◌, Bool, true, false, ◌&&◌, not, List}
use Rattle.std.proofs.Common.{[], ◌∷◌, ◌++◌, length, take, drop, map, replicate, refl, sym, ap, ◌∙◌, arith, inl, inr}
use Rattle.std.proofs.Common.{bytes_eq, eqb, eqb-true, eq-eqb, cond, None, length-drop}
use Rattle.std.specs.List.{concat}
use Rattle.std.proofs.lemmas.Bool.{cases_Bool}
use Rattle.std.proofs.lemmas.List.{drop-drop, length-take-le}
use Rattle.std.proofs.lemmas.Simd.{tops_compared, mask_l-mod, length-zip2}
use Rattle.std.proofs.Math.Seq.{take-add}
use lib.Lanes.{zip2, mask_l, top}
use mir.Syntax.{w8}
use Rattle.abt_sparse.proofs.RunLaws.{same_bytes, bytes_same}
use Rattle.abt_runs.specs.Words.{word_of, all_words}
use Rattle.abt_runs.proofs.AllWords.{all-fails}

odd : (m : ℕ) → eqb (1 + 2 * m) 0 ≡ false
odd m = elim (cases_Bool (eqb (1 + 2 * m) 0)) [
  | inl h ↦ let k = eqb-true (1 + 2 * m) 0 h in absurd (omega arith)
  | inr h ↦ h
]

double : (m : ℕ) → eqb (0 + 2 * m) 0 ≡ eqb m 0
double m = elim (cases_Bool (eqb m 0)) [
  | inl h ↦ let k = eqb-true m 0 h in eq-eqb (0 + 2 * m) 0 (omega arith) ∙ sym h
  | inr h ↦ elim (cases_Bool (eqb (0 + 2 * m) 0)) [
    | inl g ↦ let k = eqb-true (0 + 2 * m) 0 g in let z : m ≡ 0 = omega arith in let t = eq-eqb m 0 z in absurd cc
    | inr g ↦ g ∙ sym h
  ]
]

abbrev differs : ℕ → ℕ → Bool
differs a b = not (eqb a b)

same_mask : (xs ys : List ℕ) → length xs ≡ length ys → eqb (mask_l (zip2 differs xs ys)) 0 ≡ bytes_eq xs ys
same_mask [] [] e = refl
same_mask [] (y ∷ ys) e = absurd (omega arith)
same_mask (x ∷ xs) [] e = absurd (omega arith)
same_mask (x ∷ xs) (y ∷ ys) e = elim (cases_Bool (eqb x y)) [
  | inl h ↦ rw h (double (mask_l (zip2 differs xs ys)) ∙ same_mask xs ys (omega arith))
  | inr h ↦ rw h (odd (mask_l (zip2 differs xs ys)))
]

pub lanes_equal : (xs ys : List ℕ) → length xs ≡ 32 → length ys ≡ 32
    → eqb (mask_l (map (top 7) (zip2 (λ a b. cond (differs a b) (2 ^ 8 - 1) 0) xs ys)) % 2 ^ 64) 0 ≡ bytes_eq xs ys
lanes_equal xs ys e f =
    let long : length (zip2 differs xs ys) ≡ 32 = length-zip2 differs xs ys (e ∙ sym f) ∙ e in
    ap (λ (ms : List Bool). eqb (mask_l ms % 2 ^ 64) 0) (tops_compared w8 differs xs ys)
    ∙ ap (λ (n : ℕ). eqb n 0) (mask_l-mod (zip2 differs xs ys) 64 (omega arith))
    ∙ same_mask xs ys (e ∙ sym f)

-- ---- words of lanes

and-assoc : (a b c : Bool) → ((a && b) && c) ≡ (a && (b && c))
and-assoc true b c = refl
and-assoc false b c = refl

bytes-append : (a b c d : List ℕ) → length a ≡ length b → bytes_eq (a ++ c) (b ++ d) ≡ (bytes_eq a b && bytes_eq c d)
bytes-append [] [] c d e = refl
bytes-append [] (y ∷ b) c d e = absurd (omega arith)
bytes-append (x ∷ a) [] c d e = absurd (omega arith)
bytes-append (x ∷ a) (y ∷ b) c d e = ap (λ (r : Bool). eqb x y && r) (bytes-append a b c d (omega arith))
    ∙ sym (and-assoc (eqb x y) (bytes_eq a b) (bytes_eq c d))

bytes-turn : (v w : List ℕ) → bytes_eq v w ≡ bytes_eq w v
bytes-turn v w = elim (cases_Bool (bytes_eq v w)) [
  | inl h ↦ let k = same_bytes v w h in rw k refl
  | inr h ↦ elim (cases_Bool (bytes_eq w v)) [
    | inl g ↦ let k : w ≡ v = same_bytes w v g in let t : bytes_eq v w ≡ true =
        ap (λ (x : List ℕ). bytes_eq x w) (sym k) ∙ bytes_same w in absurd cc
    | inr g ↦ h ∙ sym g
  ]
]

lane_words : (w : List ℕ) (n : ℕ) (xs : List ℕ) → length w ≡ 4 → n * 4 ≤ length xs
    → bytes_eq (take (n * 4) xs) (concat (replicate n w)) ≡ all_words w n xs
lane_words w zero xs e le = refl
lane_words w (suc n) xs e le =
    let one : length (take 4 xs) ≡ 4 = length-take-le 4 xs (omega arith) in
    ap (λ (k : ℕ). bytes_eq (take k xs) (concat (replicate (suc n) w)))
    (let z : suc n * 4 ≡ 4 + n * 4 = omega arith in z)
    ∙ ap (λ (l : List ℕ). bytes_eq l (w ++ concat (replicate n w))) (take-add 4 (n * 4) xs)
    ∙ bytes-append (take 4 xs) w (take (n * 4) (drop 4 xs)) (concat (replicate n w)) (one ∙ sym e)
    ∙ ap (λ (b : Bool). b && bytes_eq (take (n * 4) (drop 4 xs)) (concat (replicate n w))) (bytes-turn (take 4 xs) w)
    ∙ ap (λ (b : Bool). bytes_eq w (take 4 xs) && b) (lane_words w n (drop 4 xs) e (omega (arith, length-drop 4 xs)))

all-plus : (w : List ℕ) (n m : ℕ) (xs : List ℕ)
    → all_words w (n + m) xs ≡ (all_words w n xs && all_words w m (drop (n * 4) xs))
all-plus w zero m xs = ap (λ (k : ℕ). all_words w k xs) (let z : 0 + m ≡ m = omega arith in z)
    ∙ ap (λ (k : ℕ). all_words w m (drop k xs)) (let z : 0 ≡ 0 * 4 = omega arith in z)
all-plus w (suc n) m xs =
    ap (λ (k : ℕ). all_words w k xs) (let z : suc n + m ≡ suc (n + m) = omega arith in z)
    ∙ ap (λ (b : Bool). bytes_eq w (take 4 xs) && b) (all-plus w n m (drop 4 xs)
    ∙ ap (λ (l : List ℕ). all_words w n (drop 4 xs) && all_words w m l) (drop-drop (n * 4) 4 xs
    ∙ ap (λ (k : ℕ). drop k xs) (let z : 4 + n * 4 ≡ suc n * 4 = omega arith in z)))
    ∙ sym (and-assoc (bytes_eq w (take 4 xs)) (all_words w n (drop 4 xs)) (all_words w m (drop (suc n * 4) xs)))

-- 32 bytes more
lane_all : (w : List ℕ) (at : ℕ) (xs : List ℕ) → length w ≡ 4 → at % 4 ≡ 0 → at + 32 ≤ length xs
    → all_words w ((at + 32) / 4) xs ≡ (all_words w (at / 4) xs && bytes_eq (take 32 (drop at xs))
    (concat (replicate 8 w)))
lane_all w at xs e whole le =
    ap (λ (k : ℕ). all_words w k xs) (let z : (at + 32) / 4 ≡ at / 4 + 8 = omega arith in z)
    ∙ all-plus w (at / 4) 8 xs
    ∙ ap (λ (k : ℕ). all_words w (at / 4) xs && all_words w 8 (drop k xs)) (let z : at / 4 * 4 ≡ at = omega arith in z)
    ∙ ap (λ (b : Bool). all_words w (at / 4) xs && b)
    (sym (lane_words w 8 (drop at xs) e (omega (arith, length-drop at xs))))

abbrev pub lane : List ℕ → ℕ → List ℕ → Bool
lane w at xs = bytes_eq (take 32 (drop at xs)) (concat (replicate 8 w))

and-five : (x a b c d : Bool) → ((((x && a) && b) && c) && d) ≡ (x && (((a && b) && c) && d))
and-five true a b c d = refl
and-five false a b c d = refl

one_more : (w : List ℕ) (at next : ℕ) (xs : List ℕ) → length w ≡ 4 → at % 4 ≡ 0 → next ≡ at + 32 → next ≤ length xs
    → all_words w (next / 4) xs ≡ (all_words w (at / 4) xs && lane w at xs)
one_more w at next xs e whole same le = ap (λ (k : ℕ). all_words w (k / 4) xs) same
    ∙ lane_all w at xs e whole (omega arith)

-- 128 bytes more
pub four_all : (w : List ℕ) (at : ℕ) (xs : List ℕ) → length w ≡ 4 → at % 4 ≡ 0 → at + 128 ≤ length xs
    → all_words w ((at + 128) / 4) xs ≡
    (all_words w (at / 4) xs && (((lane w at xs && lane w (at + 32) xs) && lane w (at + 64) xs) && lane w
    (at + 96) xs))
four_all w at xs e whole le =
    let l1 = one_more w at (at + 32) xs e whole refl (omega arith) in
    let l2 = one_more w (at + 32) (at + 64) xs e (omega arith) (omega arith) (omega arith) in
    let l3 = one_more w (at + 64) (at + 96) xs e (omega arith) (omega arith) (omega arith) in
    let l4 = one_more w (at + 96) (at + 128) xs e (omega arith) (omega arith) le in
    l4
    ∙ ap (λ (b : Bool). b && lane w (at + 96) xs) (l3 ∙ ap (λ (b : Bool). b && lane w (at + 64) xs) (l2
    ∙ ap (λ (b : Bool). b && lane w (at + 32) xs) l1))
    ∙ and-five (all_words w (at / 4) xs) (lane w at xs) (lane w (at + 32) xs) (lane w (at + 64) xs)
    (lane w (at + 96) xs)

and-none : (a b : Bool) → b ≡ false → (a && b) ≡ false
and-none true b e = e
and-none false b e = refl

lanes_are : (w : List ℕ) (at : ℕ) (xs pattern : List ℕ) (a b c d : Bool) → pattern ≡ concat (replicate 8 w)
    → a ≡ bytes_eq (take 32 (drop at xs)) pattern → b ≡ bytes_eq (take 32 (drop (at + 32) xs)) pattern
    → c ≡ bytes_eq (take 32 (drop (at + 64) xs)) pattern → d ≡ bytes_eq (take 32 (drop (at + 96) xs)) pattern
    → (((a && b) && c) && d) ≡ (((lane w at xs && lane w (at + 32) xs) && lane w (at + 64) xs) && lane w (at + 96) xs)
lanes_are w at xs pattern a b c d p ea eb ec ed = rw (ea, eb, ec, ed, p) refl

pub lanes_next : (w : List ℕ) (at : ℕ) (xs pattern : List ℕ) (a b c d : Bool) → w ≡ take 4 xs → at % 4 ≡ 0
    → at + 128 ≤ length xs → pattern ≡ concat (replicate 8 w)
    → a ≡ bytes_eq (take 32 (drop at xs)) pattern → b ≡ bytes_eq (take 32 (drop (at + 32) xs)) pattern
    → c ≡ bytes_eq (take 32 (drop (at + 64) xs)) pattern → d ≡ bytes_eq (take 32 (drop (at + 96) xs)) pattern
    → all_words w (at / 4) xs ≡ true → (((a && b) && c) && d) ≡ true → all_words w ((at + 128) / 4) xs ≡ true
lanes_next w at xs pattern a b c d e whole le p ea eb ec ed h all =
    four_all w at xs (ap length e ∙ length-take-le 4 xs (omega arith)) whole le
    ∙ and-from' h (sym (lanes_are w at xs pattern a b c d p ea eb ec ed) ∙ all)
  where
    and-from' : {x y : Bool} → x ≡ true → y ≡ true → (x && y) ≡ true
    and-from' {x} {y} g k = rw (g, k) refl

pub lanes_not : (at : ℕ) (xs pattern : List ℕ) (a b c d : Bool) → at % 4 ≡ 0 → at + 128 ≤ length xs
    → length xs % 4 ≡ 0 → pattern ≡ concat (replicate 8 (take 4 xs))
    → a ≡ bytes_eq (take 32 (drop at xs)) pattern → b ≡ bytes_eq (take 32 (drop (at + 32) xs)) pattern
    → c ≡ bytes_eq (take 32 (drop (at + 64) xs)) pattern → d ≡ bytes_eq (take 32 (drop (at + 96) xs)) pattern
    → (((a && b) && c) && d) ≡ false → None ≡ word_of xs
lanes_not at xs pattern a b c d whole le words p ea eb ec ed other =
    let w = take 4 xs in
    let e : length w ≡ 4 = length-take-le 4 xs (omega arith) in
    let front : all_words w ((at + 128) / 4) xs ≡ false = four_all w at xs e whole le
    ∙ and-none (all_words w (at / 4) xs) _ (sym (lanes_are w at xs pattern a b c d p ea eb ec ed) ∙ other) in
    let whole' : length xs / 4 ≡ (at + 128) / 4 + (length xs / 4 - (at + 128) / 4) = omega arith in
    let none : all_words w (length xs / 4) xs ≡ false = ap (λ (n : ℕ). all_words w n xs) whole'
    ∙ all-fails w ((at + 128) / 4) (length xs / 4 - (at + 128) / 4) xs front in
    rw none refl
