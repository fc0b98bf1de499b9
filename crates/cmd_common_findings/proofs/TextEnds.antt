-- What stands behind a text that two fields hold together.
use Rattle.std.proofs.Common.{◌≡◌, ◌≢◌, ℕ, suc, ◌<◌, ◌≤◌, ◌+◌, ◌-◌, ◌==◌, Bool, true, false, not, cond, inl, inr, List}
use Rattle.std.proofs.Common.{[], ◌∷◌, ◌++◌, length, take, drop, refl, sym, ap, ◌∙◌, arith}
use Rattle.std.proofs.lemmas.Bool.{cases_Bool}
use Rattle.std.proofs.lemmas.List.Sums.{take_while-cons}
use Rattle.cmd_common_fields.specs.Fields.{text_of}
use Rattle.abt_io.proofs.Parts.{rest_is}
use Rattle.cmd_common_findings.specs.LeftOut.{behind_text, set_in}
use Rattle.cmd_common_findings.proofs.Counts.{set_append}

text_ends : (b : ℕ) (x : List ℕ) → (b == 0) ≡ true → text_of (b ∷ x) ≡ []
text_ends b x e = take_while-cons (λ c. not (c == 0)) b x ∙ ap (λ (t : Bool). cond (not t) (b ∷ text_of x) []) e

text_goes_on : (b : ℕ) (x : List ℕ) → (b == 0) ≡ false → text_of (b ∷ x) ≡ b ∷ text_of x
text_goes_on b x e = take_while-cons (λ c. not (c == 0)) b x ∙ ap (λ (t : Bool). cond (not t) (b ∷ text_of x) []) e

behind_none : (b : ℕ) (x : List ℕ) → (b == 0) ≡ true → behind_text (b ∷ x) ≡ b ∷ x
behind_none b x e = ap (λ (t : List ℕ). drop (length t) (b ∷ x)) (text_ends b x e)

behind_one : (b : ℕ) (x : List ℕ) → (b == 0) ≡ false → behind_text (b ∷ x) ≡ behind_text x
behind_one b x e = ap (λ (t : List ℕ). drop (length t) (b ∷ x)) (text_goes_on b x e)

-- the text ends in the first field
ends_in_front : (a b : List ℕ) → length (text_of a) < length a → behind_text (a ++ b) ≡ behind_text a ++ b
ends_in_front [] b h = absurd (let q : 0 < 0 = h in omega arith)
ends_in_front (c ∷ a) b h = elim (cases_Bool (c == 0)) [
  | inl e ↦ behind_none c (a ++ b) e ∙ ap (λ (l : List ℕ). l ++ b) (sym (behind_none c a e))
  | inr e ↦
      let long : length (text_of (c ∷ a)) ≡ suc (length (text_of a)) = ap length (text_goes_on c a e) in
      behind_one c (a ++ b) e ∙ ends_in_front a b (omega (arith, long, h))
      ∙ ap (λ (l : List ℕ). l ++ b) (sym (behind_one c a e))
]

-- or it goes on in the second
ends_behind : (a b : List ℕ) → (length (text_of a) < length a → ⊥) → behind_text (a ++ b) ≡ behind_text b
ends_behind [] b h = refl
ends_behind (c ∷ a) b h = elim (cases_Bool (c == 0)) [
  | inl e ↦
      let none : length (text_of (c ∷ a)) ≡ 0 = ap length (text_ends c a e) in
      absurd (h (omega (arith, none)))
  | inr e ↦
      let long : length (text_of (c ∷ a)) ≡ suc (length (text_of a)) = ap length (text_goes_on c a e) in
      behind_one c (a ++ b) e ∙ ends_behind a b (λ q. h (omega (arith, long, q)))
]

-- what is counted behind the text's end
rest_counted : (a t : List ℕ) → t ≡ text_of a
    → set_in (take (length a - length t) (drop (length t) a)) ≡ set_in (behind_text a)
rest_counted a t is = ap set_in (rest_is (length t) a) ∙ ap (λ (l : List ℕ). set_in (drop (length l) a)) is

pub counted_in_front : (a b t : List ℕ) (n k : ℕ) → t ≡ text_of a → length t < length a
    → n ≡ set_in (take (length a - length t) (drop (length t) a)) → k ≡ set_in b → n + k ≡ set_in (behind_text (a ++ b))
counted_in_front a b t n k is ends first second =
    let short : length (text_of a) < length a = let e = ap length is in omega (arith, e, ends) in
    ap (λ (i : ℕ). i + k) (first ∙ rest_counted a t is) ∙ ap (λ (i : ℕ). set_in (behind_text a) + i) second
    ∙ sym (set_append (behind_text a) b) ∙ ap set_in (sym (ends_in_front a b short))

pub counted_behind : (a b t u : List ℕ) (n : ℕ) → t ≡ text_of a → u ≡ text_of b → length a ≤ length t
    → n ≡ set_in (take (length b - length u) (drop (length u) b)) → n ≡ set_in (behind_text (a ++ b))
counted_behind a b t u n is also whole counted =
    let all : length (text_of a) < length a → ⊥ = λ q. let e = ap length is in omega (arith, e, whole, q) in
    counted ∙ rest_counted b u also ∙ ap set_in (sym (ends_behind a b all))
