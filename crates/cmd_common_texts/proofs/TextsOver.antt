-- A text that two fields hold together.
use Rattle.std.proofs.Common.{◌≡◌, ◌≢◌, ℕ, suc, ◌==◌, Bool, true, false, not, cond, inl, inr, List, [], ◌∷◌, ◌++◌}
use Rattle.std.proofs.Common.{length, refl, sym, ap, ◌∙◌, arith}
use Rattle.std.proofs.lemmas.Bool.{cases_Bool}
use Rattle.std.proofs.lemmas.List.Sums.{take_while-cons}
use Rattle.cmd_common_texts.specs.Words.{text_of, text_over}

pub text_ends : (b : ℕ) (x : List ℕ) → (b == 0) ≡ true → text_of (b ∷ x) ≡ []
text_ends b x e = take_while-cons (λ c. not (c == 0)) b x ∙ ap (λ (t : Bool). cond (not t) (b ∷ text_of x) []) e

pub text_goes_on : (b : ℕ) (x : List ℕ) → (b == 0) ≡ false → text_of (b ∷ x) ≡ b ∷ text_of x
text_goes_on b x e = take_while-cons (λ c. not (c == 0)) b x ∙ ap (λ (t : Bool). cond (not t) (b ∷ text_of x) []) e

-- the first has no zero
pub over_whole : (a b : List ℕ) → length (text_of a) ≡ length a → text_over a b ≡ text_of a ++ text_of b
over_whole [] b h = refl
over_whole (c ∷ a) b h = elim (cases_Bool (c == 0)) [
  | inl e ↦ let none : 0 ≡ suc (length a) = sym (ap length (text_ends c a e)) ∙ h in absurd (omega arith)
  | inr e ↦
      let more : suc (length (text_of a)) ≡ suc (length a) = sym (ap length (text_goes_on c a e)) ∙ h in
      let rest : length (text_of a) ≡ length a = omega (arith, more) in
      text_goes_on c (a ++ b) e ∙ ap (λ (l : List ℕ). c ∷ l) (over_whole a b rest)
      ∙ ap (λ (l : List ℕ). l ++ text_of b) (sym (text_goes_on c a e))
]

-- the first has one
pub over_part : (a b : List ℕ) → length (text_of a) ≢ length a → text_over a b ≡ text_of a ++ []
over_part [] b h = absurd (h refl)
over_part (c ∷ a) b h = elim (cases_Bool (c == 0)) [
  | inl e ↦ text_ends c (a ++ b) e ∙ ap (λ (l : List ℕ). l ++ []) (sym (text_ends c a e))
  | inr e ↦
      let rest : length (text_of a) ≢ length a = λ q. h (ap length (text_goes_on c a e) ∙ ap suc q) in
      text_goes_on c (a ++ b) e ∙ ap (λ (l : List ℕ). c ∷ l) (over_part a b rest)
      ∙ ap (λ (l : List ℕ). l ++ []) (sym (text_goes_on c a e))
]
