-- Words that write a number, taken apart.
use Rattle.std.proofs.Common.{rules, ◌≡◌, ℕ, ◌<◌, ◌*◌, ◌^◌, List, [], ◌∷◌, ◌++◌, inl, inr, Option, Some, None}
use Rattle.std.proofs.Common.{MatchOption, Bor, refl, sym, ap, subst, ◌∙◌, arith, length, length-append}
use Rattle.std.specs.Char.{digit_value}
use Rattle.std.specs.Str.Parse.{AllDigits}
use Rattle.words_values.specs.NumberWord.{IsDigits, IsScale, IsDecimal, IsNumber}

-- ---- letters

no_digit_at : (a letter : ℕ) → letter ≡ a → digit_value letter < 10 → digit_value a < 10
no_digit_at a letter e d = subst (λ (k : ℕ). digit_value k < 10) e d

-- the letter of a scale is no digit
no_digit : (letter scale : ℕ) → IsScale letter scale → digit_value letter < 10 → ⊥
no_digit letter scale (inl h) d = let q : digit_value 75 < 10 = no_digit_at 75 letter h.0 d in omega arith
no_digit letter scale (inr (inl h)) d = let q : digit_value 77 < 10 = no_digit_at 77 letter h.0 d in omega arith
no_digit letter scale (inr (inr h)) d = let q : digit_value 71 < 10 = no_digit_at 71 letter h.0 d in omega arith

same_scale : (x a b : ℕ) → IsScale x a → IsScale x b → a ≡ b
same_scale x a b (inl h) (inl k) = omega arith
same_scale x a b (inl h) (inr (inl k)) = omega arith
same_scale x a b (inl h) (inr (inr k)) = omega arith
same_scale x a b (inr (inl h)) (inl k) = omega arith
same_scale x a b (inr (inl h)) (inr (inl k)) = omega arith
same_scale x a b (inr (inl h)) (inr (inr k)) = omega arith
same_scale x a b (inr (inr h)) (inl k) = omega arith
same_scale x a b (inr (inr h)) (inr (inl k)) = omega arith
same_scale x a b (inr (inr h)) (inr (inr k)) = omega arith

scaled_at : (count scale k : ℕ) → scale ≡ k → count * scale < 2 ^ 64 → count * k < 2 ^ 64
scaled_at count scale k e l = subst (λ (j : ℕ). count * j < 2 ^ 64) e l

pub small_count : (count letter scale : ℕ) → IsScale letter scale → count * scale < 2 ^ 64 → count < 2 ^ 64
small_count count letter scale (inl h) l = let q : count * 1024 < 2 ^ 64 = scaled_at count scale 1024 h.1 l in
    omega arith
small_count count letter scale (inr (inl h)) l = let q : count * 1048576 < 2 ^ 64 =
    scaled_at count scale 1048576 h.1 l in omega arith
small_count count letter scale (inr (inr h)) l = let q : count * 1073741824 < 2 ^ 64 =
    scaled_at count scale 1073741824 h.1 l in omega arith

-- ---- digits with a letter behind them

last_digit : (digits : List ℕ) (letter : ℕ) → AllDigits 10 (digits ++ (letter ∷ [])) → digit_value letter < 10
last_digit [] letter h = h.0
last_digit (c ∷ cs) letter h = last_digit cs letter h.1

scaled_is_no_numeral : (word digits : List ℕ) (letter scale n : ℕ) → word ≡ digits ++ (letter ∷ [])
    → IsScale letter scale → IsDigits 10 word n → ⊥
scaled_is_no_numeral word digits letter scale n e s d =
    no_digit letter scale s (last_digit digits letter (subst (AllDigits 10) e d.digits.1))

-- a word has one last letter
same_cut : (a b : List ℕ) (x y : ℕ) → a ++ (x ∷ []) ≡ b ++ (y ∷ []) → (a ≡ b) × (x ≡ y)
same_cut [] [] x y e = (refl, cc)
same_cut [] (c ∷ cs) x y e = absurd (omega (arith, ap length e, length-append cs (y ∷ [])))
same_cut (c ∷ cs) [] x y e = absurd (omega (arith, ap length e, length-append cs (x ∷ [])))
same_cut (c ∷ cs) (d ∷ ds) x y e =
    let t : cs ++ (x ∷ []) ≡ ds ++ (y ∷ []) = cc in
    let r = same_cut cs ds x y t in
    let f : cs ≡ ds = r.0 in
    ((cc), r.1)

pub record Counted (digits : List ℕ) (scale n : ℕ) : Type 0 where
  pub count : ℕ
  pub is_count : IsDigits 10 digits count
  pub value : count * scale ≡ n

pub counted : (word digits : List ℕ) (letter scale n : ℕ) → word ≡ digits ++ (letter ∷ []) → IsScale letter scale
    → IsDecimal word n → Counted digits scale n
counted word digits letter scale n e s (inl d) = absurd (scaled_is_no_numeral word digits letter scale n e s d)
counted word digits letter scale n e s (inr p) =
    let c = same_cut p.digits digits p.letter letter (sym p.parts ∙ e) in
    let k : scale ≡ p.scale = same_scale letter scale p.scale s (subst (λ (x : ℕ). IsScale x p.scale) c.1 p.is_scale) in
    record {
      count = p.count;
      is_count = subst (λ (x : List ℕ). IsDigits 10 x p.count) c.0 p.is_count;
      value = ap (λ (j : ℕ). p.count * j) k ∙ p.value;
    }

-- ---- `0x`

hex_cut : (ds digits : List ℕ) (letter scale : ℕ) → ds ++ (letter ∷ []) ≡ 48 ∷ (120 ∷ digits) → AllDigits 10 ds
    → IsScale letter scale → ⊥
hex_cut [] digits letter scale e d s = omega (arith, ap length e)
hex_cut (a ∷ []) digits letter scale e d (inl h) = let q : letter ≡ 120 = cc in omega arith
hex_cut (a ∷ []) digits letter scale e d (inr (inl h)) = let q : letter ≡ 120 = cc in omega arith
hex_cut (a ∷ []) digits letter scale e d (inr (inr h)) = let q : letter ≡ 120 = cc in omega arith
hex_cut (a ∷ (b ∷ ds)) digits letter scale e d s =
    let q : b ≡ 120 = cc in
    let r : digit_value 120 < 10 = no_digit_at 120 b q d.1.0 in
    omega arith

pub hex_is_no_decimal : (word digits : List ℕ) (n : ℕ) → word ≡ 48 ∷ (120 ∷ digits) → IsDecimal word n → ⊥
hex_is_no_decimal word digits n e (inl d) =
    let h : AllDigits 10 (48 ∷ (120 ∷ digits)) = subst (AllDigits 10) e d.digits.1 in
    let r : digit_value 120 < 10 = h.1.0 in
    omega arith
hex_is_no_decimal word digits n e (inr p) =
    hex_cut p.digits digits p.letter p.scale (sym p.parts ∙ e) p.is_count.digits.1 p.is_scale

pub hex_digits : (word a b : List ℕ) (n : ℕ) → word ≡ 48 ∷ (120 ∷ a) → word ≡ 48 ∷ (120 ∷ b) → IsDigits 16 a n
    → IsDigits 16 b n
hex_digits word a b n e f d = let q : a ≡ b = cc in subst (λ (x : List ℕ). IsDigits 16 x n) q d

-- ---- what is read

pub accepted_some : (r : Option ℕ) (word digits : List ℕ) (letter scale n : ℕ) → word ≡ digits ++ (letter ∷ [])
    → IsScale letter scale → IsDecimal word n → n < 2 ^ 64
    → ((m : ℕ) → IsDigits 10 digits m → m < 2 ^ 64 → r ≡ Some m) → (m : ℕ) × (r ≡ Some m) × (m * scale ≡ n)
accepted_some r word digits letter scale n e s d l accepts =
    let c = counted word digits letter scale n e s d in
    (c.count, accepts c.count c.is_count (small_count c.count letter scale s (omega (arith, c.value))), c.value)

pub none_is_some : (m : ℕ) → None ≡ Some m → ⊥
none_is_some m e = search (rules, e)

pub same_some : (a b : ℕ) → Some a ≡ Some b → a ≡ b
same_some a b e = cc

-- where a letter is not found at the front
pub none_behind : (bs : List ℕ) (c : ℕ) (r : Option (Bor (List ℕ))) → MatchOption r ((rest : List ℕ) → bs ≡ c ∷ rest
    → ⊥) (λ x. bs ≡ c ∷ x.now) → r ≡ None
    → (rest : List ℕ) → bs ≡ c ∷ rest → ⊥
none_behind bs c None h e = h
none_behind bs c (Some x) h e = absurd (search (rules, e))

pub second_letter : (word bs digits : List ℕ) → word ≡ 48 ∷ bs → word ≡ 48 ∷ (120 ∷ digits) → bs ≡ 120 ∷ digits
second_letter word bs digits e f = cc
