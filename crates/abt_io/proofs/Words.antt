-- A word written again and again.
use Rattle.std.proofs.Common.{◌≡◌, ℕ, zero, suc, ◌+◌, ◌-◌, ◌*◌, ◌^◌, ◌<◌, ◌≤◌, List, [], ◌∷◌, ◌++◌, length, take}
use Rattle.std.proofs.Common.{replicate, refl, sym, ap, ◌∙◌, arith, length-append, append_assoc, zero-add, inl, inr}
use Rattle.std.proofs.Common.{nat_lt, ltb-true, ltb-false}
use Rattle.std.proofs.lemmas.Bool.{cases_Bool}
use Rattle.std.specs.List.{concat}
use Rattle.std.proofs.lemmas.List.{take_at}
use Rattle.std.proofs.Math.Nat.{pow-le-pow_right, two-pow-succ, suc-add}
use Rattle.std.proofs.Math.Seq.{take-append-add}

pub take_past : {A : Type 0} (c t : List A) (n e : ℕ) → length c ≡ n → n ≤ e → take e (c ++ t) ≡ c ++ take (e - n) t
take_past c t n e l le = ap (λ (j : ℕ). take j (c ++ t)) (let j : e ≡ length c + (e - n) = omega arith in j)
    ∙ take-append-add c t (e - n)

pub words_add : (m n : ℕ) (w : List ℕ) → concat (replicate (m + n) w) ≡ concat (replicate m w) ++ concat (replicate n w)
words_add zero n w = rw zero-add refl
words_add (suc m) n w =
    rw suc-add (ap (λ (r : List ℕ). w ++ r) (words_add m n w)
    ∙ sym (append_assoc w (concat (replicate m w)) (concat (replicate n w))))

pub length_words : (n : ℕ) (w : List ℕ) → length w ≡ 4 → length (concat (replicate n w)) ≡ 4 * n
length_words zero w l = refl
length_words (suc n) w l = omega (arith, length-append w (concat (replicate n w)), length_words n w l)

-- so many words are a prefix of more
pub front_words : (d more : ℕ) (w : List ℕ) → length w ≡ 4 → more ≤ d
    → take (4 * more) (concat (replicate d w)) ≡ concat (replicate more w)
front_words d more w l le =
    ap (λ (j : ℕ). take (4 * more) (concat (replicate j w))) (let e : d ≡ more + (d - more) = omega arith in e)
    ∙ ap (λ (xs : List ℕ). take (4 * more) xs) (words_add more (d - more) w)
    ∙ take_at (concat (replicate more w)) (concat (replicate (d - more) w)) (4 * more) (length_words more w l)

pub laid_more : (d more : ℕ) (w front src rest : List ℕ) → length w ≡ 4 → more ≤ d → front ≡ concat (replicate d w)
    → src ≡ take (4 * more) front
    → take (4 * (d + more)) (front ++ (src ++ rest)) ≡ concat (replicate (d + more) w)
laid_more d more w front src rest l le f s =
    let src_is : src ≡ concat (replicate more w) = s ∙ ap (λ (xs : List ℕ). take (4 * more) xs) f
    ∙ front_words d more w l le in
    let long : length front ≡ 4 * d = ap length f ∙ length_words d w l in
    let src_long : length src ≡ 4 * more = ap length src_is ∙ length_words more w l in
    take_past front (src ++ rest) (4 * d) (4 * (d + more)) long (omega arith)
    ∙ ap (λ (j : ℕ). front ++ take j (src ++ rest)) (let e : 4 * (d + more) - 4 * d ≡ 4 * more = omega arith in e)
    ∙ ap (λ (xs : List ℕ). front ++ xs) (take_at src rest (4 * more) src_long ∙ src_is)
    ∙ ap (λ (xs : List ℕ). xs ++ concat (replicate more w)) f
    ∙ sym (words_add d more w)

-- twice as many with each turn
pub twice : (a b : ℕ) → a ≤ b → 2 ^ ((b + 1) - a) ≡ 2 * 2 ^ (b - a)
twice a b le = ap (λ (k : ℕ). 2 ^ k) (let e : (b + 1) - a ≡ suc (b - a) = omega arith in e) ∙ two-pow-succ (b - a)
    ∙ omega arith

pub few_turns : (t : ℕ) → 2 ^ t < 32768 → t ≤ 14
few_turns t lt = elim (cases_Bool (nat_lt 14 t)) [
  | inl s ↦ let b : 15 ≤ t = let h = ltb-true _ _ s in omega arith in
      absurd (let p : 2 ^ 15 ≤ 2 ^ t = pow-le-pow_right (omega arith) b in omega arith)
  | inr s ↦ ltb-false _ _ s
]

pub zero_words : (n : ℕ) → concat (replicate n (0 ∷ 0 ∷ 0 ∷ 0 ∷ [])) ≡ replicate (4 * n) 0
zero_words zero = refl
zero_words (suc n) = ap (λ (xs : List ℕ). 0 ∷ 0 ∷ 0 ∷ 0 ∷ xs) (zero_words n)
    ∙ ap (λ (j : ℕ). replicate j 0) (let e : suc (suc (suc (suc (4 * n)))) ≡ 4 * suc n = omega arith in e)
