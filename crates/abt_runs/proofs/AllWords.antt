-- Whether the words at the beginning of a block are all one.
use Rattle.std.proofs.Common.{◌≡◌, ℕ, zero, suc, ◌+◌, ◌-◌, ◌*◌, ◌/◌, ◌%◌, ◌≤◌, Bool, true, false, ◌&&◌, List, length}
use Rattle.std.proofs.Common.{take, drop, refl, sym, ap, ◌∙◌, arith, inl, inr, bytes_eq, not, None}
use Rattle.std.proofs.lemmas.Bool.{cases_Bool}
use Rattle.std.proofs.lemmas.List.{drop-drop}
use Rattle.abt_sparse.proofs.RunLaws.{same_bytes, bytes_same}
use Rattle.abt_runs.specs.Words.{word_of, all_words}

and-assoc : (a b c : Bool) → (a && (b && c)) ≡ ((a && b) && c)
and-assoc true b c = refl
and-assoc false b c = refl

and-true : (a : Bool) → (a && true) ≡ a
and-true true = refl
and-true false = refl

pub all-more : (w : List ℕ) (n : ℕ) (bytes : List ℕ)
    → all_words w (suc n) bytes ≡ (all_words w n bytes && bytes_eq w (take 4 (drop (n * 4) bytes)))
all-more w zero bytes = and-true (bytes_eq w (take 4 bytes))
all-more w (suc n) bytes =
    let e : drop (n * 4) (drop 4 bytes) ≡ drop (suc n * 4) bytes = drop-drop (n * 4) 4 bytes
    ∙ ap (λ (k : ℕ). drop k bytes) (omega arith) in
    ap (λ (b : Bool). bytes_eq w (take 4 bytes) && b) (all-more w n (drop 4 bytes)
    ∙ ap (λ (l : List ℕ). all_words w n (drop 4 bytes) && bytes_eq w (take 4 l)) e)
    ∙ and-assoc (bytes_eq w (take 4 bytes)) (all_words w n (drop 4 bytes))
    (bytes_eq w (take 4 (drop (suc n * 4) bytes)))

-- what fails at the beginning fails
pub all-fails : (w : List ℕ) (n k : ℕ) (bytes : List ℕ) → all_words w n bytes ≡ false
    → all_words w (n + k) bytes ≡ false
all-fails w zero k bytes h = absurd cc
all-fails w (suc n) k bytes h = elim (cases_Bool (bytes_eq w (take 4 bytes))) [
  | inl e ↦
      let rest : all_words w n (drop 4 bytes) ≡ false = rw e at h in
      let t = all-fails w n k (drop 4 bytes) rest in
      ap (λ (m : ℕ). all_words w m bytes) (suc_add n k) ∙ (rw (e, t) refl)
  | inr e ↦ ap (λ (m : ℕ). all_words w m bytes) (suc_add n k) ∙ (rw e refl)
]
  where
    suc_add : (i n : ℕ) → suc i + n ≡ suc (i + n)
    suc_add i n = omega arith

pub eq-turns : (v w : List ℕ) → bytes_eq v w ≡ false → bytes_eq w v ≡ false
eq-turns v w h = elim (cases_Bool (bytes_eq w v)) [
  | inl e ↦ let k : w ≡ v = same_bytes w v e in let t : bytes_eq v w ≡ true =
      ap (λ (x : List ℕ). bytes_eq x w) (sym k) ∙ bytes_same w in absurd cc
  | inr e ↦ e
]

-- one word more is the same
pub all-next : (w bytes : List ℕ) (at : ℕ) → at % 4 ≡ 0 → all_words w (at / 4) bytes ≡ true
    → not (bytes_eq (take (at + 4 - at) (drop at bytes)) w) ≡ false → all_words w ((at + 4) / 4) bytes ≡ true
all-next w bytes at whole h same =
    let e : (at + 4) / 4 ≡ suc (at / 4) = omega arith in
    let f : at / 4 * 4 ≡ at = omega arith in
    let g : at + 4 - at ≡ 4 = omega arith in
    let here : bytes_eq (take 4 (drop at bytes)) w ≡ true =
    not-false (bytes_eq (take 4 (drop at bytes)) w) (rw g at same) in
    let there : bytes_eq w (take 4 (drop (at / 4 * 4) bytes)) ≡ true =
    rw (f, same_bytes (take 4 (drop at bytes)) w here) (bytes_same w) in
    ap (λ (n : ℕ). all_words w n bytes) e ∙ all-more w (at / 4) bytes ∙ and-from h there
  where
    not-false : (b : Bool) → not b ≡ false → b ≡ true
    not-false true h = refl
    not-false false h = absurd cc

    and-from : {a b : Bool} → a ≡ true → b ≡ true → (a && b) ≡ true
    and-from {a} {b} h k = rw (h, k) refl

-- one word is another
pub all-not : (bytes : List ℕ) (at : ℕ) → at % 4 ≡ 0 → at + 4 ≤ length bytes → length bytes % 4 ≡ 0
    → not (bytes_eq (take (at + 4 - at) (drop at bytes)) (take 4 bytes)) ≡ true → None ≡ word_of bytes
all-not bytes at whole within words other =
    let w = take 4 bytes in
    let f : at / 4 * 4 ≡ at = omega arith in
    let g : at + 4 - at ≡ 4 = omega arith in
    let here : bytes_eq (take 4 (drop at bytes)) w ≡ false =
    not-true (bytes_eq (take 4 (drop at bytes)) w) (rw g at other) in
    let there : bytes_eq w (take 4 (drop (at / 4 * 4) bytes)) ≡ false =
    rw f (eq-turns (take 4 (drop at bytes)) w here) in
    let front : all_words w (suc (at / 4)) bytes ≡ false = all-more w (at / 4) bytes
    ∙ ap (λ (b : Bool). all_words w (at / 4) bytes && b) there ∙ and-false (all_words w (at / 4) bytes) in
    let whole' : length bytes / 4 ≡ suc (at / 4) + (length bytes / 4 - suc (at / 4)) = omega arith in
    let none : all_words w (length bytes / 4) bytes ≡ false = ap (λ (n : ℕ). all_words w n bytes) whole'
    ∙ all-fails w (suc (at / 4)) (length bytes / 4 - suc (at / 4)) bytes front in
    rw none refl
  where
    not-true : (b : Bool) → not b ≡ true → b ≡ false
    not-true true h = absurd cc
    not-true false h = refl

    and-false : (a : Bool) → (a && false) ≡ false
    and-false true = refl
    and-false false = refl
