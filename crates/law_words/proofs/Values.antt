-- What the words `--NAME=VALUE` and `--NAME` say of an option and of a flag.
use Rattle.std.proofs.Common.{inl, inr, ◌≡◌, ℕ, ◌==◌, ◌&&◌, not, Bool, true, false, cond, List, [], ◌∷◌, ◌++◌, Option}
use Rattle.std.proofs.Common.{Some, None, codes, bytes_eq, refl, sym, ap, ◌∙◌}
use Rattle.std.proofs.lemmas.Bool.{and_parts, cases_Bool, eqb-true, eq-eqb, true≢false}
use Rattle.cmd_common_texts.specs.Words.{option_front}
use Rattle.law_boot.specs.Said.{first_of, is_whole, value_of, values_of, with_value, without_front}

-- a name has no `=`
abbrev pub has_no_mark : List ℕ → Bool
has_no_mark [] = true
has_no_mark (c ∷ name) = not (c == 61) && has_no_mark name

same_tests : (a b : ℕ) → (a == b) ≡ (b == a)
same_tests a b = elim (cases_Bool (a == b)) [
  | inl e ↦ e ∙ sym (eq-eqb b a (sym (eqb-true a b e)))
  | inr e ↦ elim (cases_Bool (b == a)) [
    | inl f ↦ absurd (true≢false (sym (eq-eqb a b (sym (eqb-true b a f))) ∙ e))
    | inr f ↦ e ∙ sym f
  ]
]

not_mark : (b : Bool) → not b ≡ true → b ≡ false
not_mark true e = absurd (true≢false (sym e))
not_mark false e = refl

-- what follows a prefix, by whether the first letters are the same
abbrev behind_if : Bool → List ℕ → List ℕ → Option (List ℕ)
behind_if t front word = elim t [ true ↦ without_front front word | false ↦ None ]

mark_first : (a : ℕ) (name : List ℕ) → has_no_mark (a ∷ name) ≡ true → (a == 61) ≡ false
mark_first a name h = not_mark (a == 61) (and_parts (not (a == 61)) (has_no_mark name) h).0

mark_rest : (a : ℕ) (name : List ℕ) → has_no_mark (a ∷ name) ≡ true → has_no_mark name ≡ true
mark_rest a name h = (and_parts (not (a == 61)) (has_no_mark name) h).1

pub value_behind : (name own value : List ℕ) → has_no_mark name ≡ true → has_no_mark own ≡ true
    → without_front (name ++ codes "=") (own ++ (61 ∷ value)) ≡ (cond (bytes_eq own name) (Some value) None)
value_behind [] [] value h k = refl
value_behind [] (b ∷ own) value h k =
    ap (λ t. behind_if t [] (own ++ (61 ∷ value))) (same_tests 61 b ∙ mark_first b own k)
value_behind (a ∷ name) [] value h k = ap (λ t. behind_if t (name ++ codes "=") value) (mark_first a name h)
value_behind (a ∷ name) (b ∷ own) value h k = elim (cases_Bool (a == b)) [
  | inl e ↦
      ap (λ t. behind_if t (name ++ codes "=") (own ++ (61 ∷ value))) e
      ∙ value_behind name own value (mark_rest a name h) (mark_rest b own k)
      ∙ sym (ap (λ t. cond (t && bytes_eq own name) (Some value) None) (same_tests b a ∙ e))
  | inr e ↦
      ap (λ t. behind_if t (name ++ codes "=") (own ++ (61 ∷ value))) e
      ∙ sym (ap (λ t. cond (t && bytes_eq own name) (Some value) None) (same_tests b a ∙ e))
]

-- no value follows a name
pub no_value_behind : (name own : List ℕ) → has_no_mark own ≡ true → without_front (name ++ codes "=") own ≡ None
no_value_behind [] [] k = refl
no_value_behind (a ∷ name) [] k = refl
no_value_behind [] (b ∷ own) k = ap (λ t. behind_if t [] own) (same_tests 61 b ∙ mark_first b own k)
no_value_behind (a ∷ name) (b ∷ own) k = elim (cases_Bool (a == b)) [
  | inl e ↦
      ap (λ t. behind_if t (name ++ codes "=") own) e ∙ no_value_behind name own (mark_rest b own k)
  | inr e ↦ ap (λ t. behind_if t (name ++ codes "=") own) e
]

-- a flag is one by its whole name
pub whole_name : (name own : List ℕ) → is_whole (without_front name own) ≡ bytes_eq own name
whole_name [] [] = refl
whole_name [] (b ∷ own) = refl
whole_name (a ∷ name) [] = refl
whole_name (a ∷ name) (b ∷ own) = elim (cases_Bool (a == b)) [
  | inl e ↦
      ap (λ t. is_whole (behind_if t name own)) e ∙ whole_name name own
      ∙ sym (ap (λ t. t && bytes_eq own name) (same_tests b a ∙ e))
  | inr e ↦
      ap (λ t. is_whole (behind_if t name own)) e ∙ sym (ap (λ t. t && bytes_eq own name) (same_tests b a ∙ e))
]

pub no_whole_name : (name own value : List ℕ) → has_no_mark name ≡ true
    → is_whole (without_front name (own ++ (61 ∷ value))) ≡ false
no_whole_name [] [] value h = refl
no_whole_name [] (b ∷ own) value h = refl
no_whole_name (a ∷ name) [] value h = ap (λ t. is_whole (behind_if t name value)) (mark_first a name h)
no_whole_name (a ∷ name) (b ∷ own) value h = elim (cases_Bool (a == b)) [
  | inl e ↦
      ap (λ t. is_whole (behind_if t name (own ++ (61 ∷ value)))) e ∙ no_whole_name name own value (mark_rest a name h)
  | inr e ↦ ap (λ t. is_whole (behind_if t name (own ++ (61 ∷ value)))) e
]

-- ---- the first of all values

abbrev pub first : List (List ℕ) → Option (List ℕ)
first [] = None
first (value ∷ values) = Some value

pub value_is_first : (name : List ℕ) (words : List (List ℕ)) → value_of name words ≡ first (values_of name words)
value_is_first name [] = refl
value_is_first name (word ∷ words) =
    both (without_front (option_front name) word) (value_of name words) (values_of name words)
    (value_is_first name words)
  where
    both : (v w : Option (List ℕ)) (values : List (List ℕ)) → w ≡ first values
        → first_of v w ≡ first (with_value v values)
    both None w values e = e
    both (Some v) w values e = refl
