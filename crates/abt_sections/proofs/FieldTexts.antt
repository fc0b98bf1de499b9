-- A field that is a text is the text and then zeros.
use Rattle.std.proofs.Common.{◌≡◌, ℕ, zero, suc, ◌+◌, ◌-◌, ◌≤◌, ◌<◌, Bool, true, false, cond, not, ◌&&◌, ◌==◌}
use Rattle.std.proofs.Common.{if◌then◌else◌, inl, inr, List, [], ◌∷◌, ◌++◌, length, take, drop, replicate, refl, sym}
use Rattle.std.proofs.Common.{ap, ◌∙◌, append_assoc, append-nil, arith, length-append, length-drop, take-append-drop}
use Rattle.std.proofs.lemmas.Bool.{and_parts, and_from, cases_lt, eqb-true, le-leb}
use Rattle.std.proofs.lemmas.List.{length-take-le, length-replicate, take_all, take_at, drop_all, drop_at}
use Rattle.std.proofs.lemmas.List.{replicate-append-replicate}
use Rattle.abt_sections.specs.Fields.{no_zero, is_text, filled}
use Rattle.abt_sections.specs.Check.{all_zero, text_field}

pub all_zero_is : (x : List ℕ) → all_zero x ≡ true → x ≡ replicate (length x) 0
all_zero_is [] e = refl
all_zero_is (b ∷ x) e =
    let p = and_parts (b == 0) (all_zero x) e in
    ap (λ (n : ℕ). n ∷ x) (eqb-true b 0 p.0) ∙ ap (λ (l : List ℕ). 0 ∷ l) (all_zero_is x p.1)

pub zeros_are : (n : ℕ) → all_zero (replicate n 0) ≡ true
zeros_are zero = refl
zeros_are (suc n) = zeros_are n

-- ---- from a text to its field

pub length_filled : (n : ℕ) (t : List ℕ) → length t ≤ n → length (filled n t) ≡ n
length_filled n t h =
    omega (arith, length-append t (replicate (n - length t) 0), length-replicate {A = ℕ} (n - length t) 0)

text_then : (t : List ℕ) (k : ℕ) → no_zero t ≡ true → text_field (t ++ replicate (suc k) 0) ≡ true
text_then [] k e = zeros_are k
text_then (b ∷ t) k e =
    let p = and_parts (not (b == 0)) (no_zero t) e in
    let some : (b == 0) ≡ false = not_true (b == 0) p.0 in
    let rest = t ++ replicate (suc k) 0 in
    ap (λ (c : Bool). cond c (all_zero rest) (text_field rest)) some ∙ text_then t k p.1
  where
    not_true : (c : Bool) → not c ≡ true → c ≡ false
    not_true true e = absurd cc
    not_true false e = refl

pub text_filled : (n : ℕ) (t : List ℕ) → no_zero t ≡ true → length t < n → text_field (filled n t) ≡ true
text_filled n t e h =
    let left : n - length t ≡ suc (n - length t - 1) = omega arith in
    ap (λ (k : ℕ). text_field (t ++ replicate k 0)) left ∙ text_then t (n - length t - 1) e

-- ---- from a field to its text

-- the bytes before the first zero
abbrev pub text_of : List ℕ → List ℕ
text_of [] = []
text_of (b ∷ x) = if b == 0 then [] else b ∷ text_of x

no_zero_step : (c : Bool) (b : ℕ) (x : List ℕ) → (b == 0) ≡ c → no_zero (text_of x) ≡ true
    → no_zero (cond c [] (b ∷ text_of x)) ≡ true
no_zero_step true b x e h = refl
no_zero_step false b x e h = ap (λ (t : Bool). not t && no_zero (text_of x)) e ∙ h

pub text_no_zero : (x : List ℕ) → no_zero (text_of x) ≡ true
text_no_zero [] = refl
text_no_zero (b ∷ x) = no_zero_step (b == 0) b x refl (text_no_zero x)

text_step : (c : Bool) (b : ℕ) (x : List ℕ) → (b == 0) ≡ c → cond c (all_zero x) (text_field x) ≡ true
    → (text_field x ≡ true → (length (text_of x) < length x) × (x ≡ filled (length x) (text_of x)))
    → (length (cond c [] (b ∷ text_of x)) < suc (length x))
    × (b ∷ x ≡ filled (suc (length x)) (cond c [] (b ∷ text_of x)))
text_step true b x e h ih =
    let q : suc (length x) ≡ suc (length x) - 0 = omega arith in (
      omega arith,
      ap (λ (n : ℕ). n ∷ x) (eqb-true b 0 e) ∙ ap (λ (l : List ℕ). 0 ∷ l) (all_zero_is x h)
          ∙ ap (λ (n : ℕ). replicate n 0) q,
    )
text_step false b x e h ih =
    let r = ih h in
    let k = r.0 in
    let q : length x - length (text_of x) ≡ suc (length x) - suc (length (text_of x)) = omega arith in
    (omega arith, ap (λ (l : List ℕ). b ∷ l) r.1 ∙ ap (λ (n : ℕ). (b ∷ text_of x) ++ replicate n 0) q)

pub text_is : (x : List ℕ) → text_field x ≡ true → (length (text_of x) < length x) × (x ≡ filled (length x) (text_of x))
text_is [] e = absurd cc
text_is (b ∷ x) e = text_step (b == 0) b x refl e (text_is x)

pub is_short : (n : ℕ) (t : List ℕ) → length t ≤ n → no_zero t ≡ true → is_text n t ≡ true
is_short n t h e = and_from _ _ (le-leb (length t) n h) e

-- ---- a text over two fields

pub two_fields : (a b : ℕ) (t : List ℕ) → length t ≤ a + b → filled a (take a t)
    ++ filled b (drop a t) ≡ filled (a + b) t
two_fields a b t h = elim (cases_lt a (length t)) [
  | inl l ↦ (
      let long : length (take a t) ≡ a = length-take-le a t (omega arith) in
      let none : a - length (take a t) ≡ 0 = omega arith in
      let left : b - length (drop a t) ≡ a + b - length t = omega (arith, length-drop a t) in
      ap (λ (n : ℕ). (take a t ++ replicate n 0) ++ filled b (drop a t)) none
      ∙ ap (λ (l : List ℕ). l ++ filled b (drop a t)) (append-nil (take a t))
      ∙ ap (λ (n : ℕ). take a t ++ (drop a t ++ replicate n 0)) left
      ∙ sym (append_assoc (take a t) (drop a t) (replicate (a + b - length t) 0))
      ∙ ap (λ (l : List ℕ). l ++ replicate (a + b - length t) 0) (take-append-drop a t))
  | inr l ↦ (
      let whole : take a t ≡ t = take_all a t l in
      let rest : drop a t ≡ [] = drop_all a t l in
      let sum : (a - length t) + (b - 0) ≡ a + b - length t = omega arith in
      ap (λ (l : List ℕ). filled a l ++ filled b (drop a t)) whole
      ∙ ap (λ (l : List ℕ). filled a t ++ filled b l) rest
      ∙ append_assoc t (replicate (a - length t) 0) (replicate (b - 0) 0)
      ∙ ap (λ (l : List ℕ). t ++ l) (replicate-append-replicate (a - length t) (b - 0) 0)
      ∙ ap (λ (n : ℕ). t ++ replicate n 0) sum)
]

pub short_front : (a : ℕ) (t : List ℕ) → length (take a t) ≤ a
short_front zero t = omega arith
short_front (suc a) [] = omega arith
short_front (suc a) (b ∷ t) = let k = short_front a t in omega arith

-- the two fields of a text, each by its length
pub each_field : (a b : ℕ) (x y t : List ℕ) → length x ≡ a → length t ≤ a + b → x ++ y ≡ filled (a + b) t
    → (x ≡ filled a (take a t)) × (y ≡ filled b (drop a t))
each_field a b x y t long h e =
    let same : x ++ y ≡ filled a (take a t) ++ filled b (drop a t) = e ∙ sym (two_fields a b t h) in
    let front : length (filled a (take a t)) ≡ a = length_filled a (take a t) (short_front a t) in (
      sym (take_at x y a long) ∙ ap (take a) same ∙ take_at (filled a (take a t)) (filled b (drop a t)) a front,
      sym (drop_at x y a long) ∙ ap (drop a) same ∙ drop_at (filled a (take a t)) (filled b (drop a t)) a front,
    )
