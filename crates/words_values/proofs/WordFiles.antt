-- Words that name a file of words, taken apart.
use Rattle.std.proofs.Common.{rules, ◌≡◌, ◌<◌, ◌+◌, ℕ, List, [], ◌∷◌, ◌++◌, Bool, true, false, Option, Some, None, refl}
use Rattle.std.proofs.Common.{ap, inl, inr, eqb, length, drop, get_or, append_assoc}
use Rattle.std.specs.Prelude.{is_some, not}
use Rattle.std.proofs.lemmas.List.{at_drop_more}
use Rattle.std.proofs.lemmas.Bool.{cases_Bool, ne_eqb, eqb-false, eqb-true}
use Rattle.words_values.specs.WordFile.{IsNamed, names_file, own, stands_for, texts_behind, expansion}

at_front : (at letter : ℕ) (rest : List ℕ) → ((path : List ℕ) → at ∷ (letter ∷ rest) ≡ 64 ∷ path → IsNamed path → ⊥)
    → eqb at 64 ≡ true → eqb letter 64 ≡ false → ⊥
at_front at letter rest none e f =
    let q : at ≡ 64 = eqb-true at 64 e in
    none (letter ∷ rest) (ap (λ (k : ℕ). k ∷ (letter ∷ rest)) q) (eqb-false letter 64 f)

pub unnamed : (word : List ℕ) → ((path : List ℕ) → word ≡ 64 ∷ path → IsNamed path → ⊥) → names_file word ≡ false
unnamed [] none = refl
unnamed (at ∷ []) none = refl
unnamed (at ∷ (letter ∷ rest)) none = elim (cases_Bool (eqb at 64)) [
  | inr f ↦ rw f refl
  | inl e ↦ elim (cases_Bool (eqb letter 64)) [
    | inl g ↦ rw (e, g) refl
    | inr g ↦ absurd (at_front at letter rest none e g)
  ]
]

-- a word with no `@` at its front
pub own_unmarked : (word : List ℕ) → ((rest : List ℕ) → word ≡ 64 ∷ rest → ⊥) → word ≡ own word
own_unmarked [] none = refl
own_unmarked (at ∷ []) none = refl
own_unmarked (at ∷ (letter ∷ rest)) none =
    let f : eqb at 64 ≡ false =
    ne_eqb at 64 (λ (q : at ≡ 64). none (letter ∷ rest) (ap (λ (k : ℕ). k ∷ (letter ∷ rest)) q)) in
    rw f refl

-- ---- what stands for a word

pub is_none_none : {A : Type 0} (r : Option A) (b : Bool) → is_some r ≡ not b → b ≡ true → r ≡ None
is_none_none None b e t = refl
is_none_none (Some x) b e t = absurd (search (rules, e, t))

pub stands_unnamed : (word : List ℕ) (texts : List (List ℕ)) → names_file word ≡ false
    → stands_for word texts ≡ own word ∷ []
stands_unnamed word [] f = rw f refl
stands_unnamed word (text ∷ texts) f = rw f refl

pub behind_unnamed : (word : List ℕ) (texts : List (List ℕ)) → names_file word ≡ false → texts_behind word texts ≡ texts
behind_unnamed word [] f = refl
behind_unnamed word (text ∷ texts) f = rw f refl

pub one_word_more : (all more : List (List ℕ)) (words : List (List ℕ)) (i : ℕ) (word : List ℕ)
    (left behind whole : List (List ℕ))
    → i < length words → get_or words i [] ≡ word → more ≡ all ++ stands_for word left → behind ≡ texts_behind word left
    → all ++ expansion (drop i words) left ≡ whole → more ++ expansion (drop (i + 1) words) behind ≡ whole
one_word_more all more words i word left behind whole l w m b e =
    let d = at_drop_more (λ ws. expansion ws left) words i [] l in
    let s : expansion (get_or words i [] ∷ drop (i + 1) words) left ≡ stands_for word left
    ++ expansion (drop (i + 1) words) behind =
    rw (w, b) refl in
    let a = append_assoc all (stands_for word left) (expansion (drop (i + 1) words) behind) in
    rw m (search (rules, a, d, s, e))
