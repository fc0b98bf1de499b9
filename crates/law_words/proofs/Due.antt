-- The answers to the row of a name.
use Rattle.std.proofs.Common.{inl, inr, rules, arith, suc, subst, ◌≤◌, nat_le, ◌≡◌, ℕ, Bool, true, false, cond, List}
use Rattle.std.proofs.Common.{[], ◌∷◌, ◌++◌, Some, map, bytes_eq, length, drop, refl, sym, ap, ◌∙◌}
use Rattle.std.specs.Prelude.{option_map, unwrap_or}
use Rattle.std.specs.List.{All, filter, find, list_all}
use Rattle.std.proofs.lemmas.Simd.{map-map}
use Rattle.law_words.proofs.Values.{first}
use Rattle.std.proofs.lemmas.Bool.{and_parts, cases_Bool, leb-true}
use Rattle.std.proofs.lemmas.List.Elements.{filter-append}
use Rattle.words_orders.specs.declared.answers.Answer.{Answer}
use Rattle.words_orders.specs.Asked.{answer_named, is_named, saying_of_answer, words_named}
use Rattle.words_sayings.specs.Rows.{Shape, shape_of}
use Rattle.words_sayings.specs.Words.{Saying, answers_due, is_of_name, last_word, of_row, option_list, words_due}
use Rattle.words_sayings.specs.Words.{words_of_row}

abbrev pub is_saying_of : List ℕ → Saying → Bool
is_saying_of name s = is_of_name name s.row

-- what answers the row of this name
abbrev pub sayings_for : List ℕ → List Shape → List Saying → List (List ℕ) → List Saying
sayings_for name [] said placed = []
sayings_for name (row ∷ rows) said placed =
    cond (bytes_eq row.name name) (map (of_row row) (words_of_row row said placed)) []
    ++ sayings_for name rows said (drop (words_due row.place (length placed)) placed)

all_of_row : (name : List ℕ) (row : Shape) (t : Bool) (words : List (List ℕ)) → bytes_eq row.name name ≡ t
    → filter (is_saying_of name) (map (of_row row) words) ≡ cond t (map (of_row row) words) []
all_of_row name row true [] e = refl
all_of_row name row false [] e = refl
all_of_row name row true (word ∷ words) e = rw e (ap (λ l. of_row row word ∷ l) (all_of_row name row true words e))
all_of_row name row false (word ∷ words) e = rw e (all_of_row name row false words e)

filter_due : (name : List ℕ) (table : List Shape) (said : List Saying) (placed : List (List ℕ))
    → filter (is_saying_of name) (answers_due table said placed) ≡ sayings_for name table said placed
filter_due name [] said placed = refl
filter_due name (row ∷ rows) said placed =
    let left = drop (words_due row.place (length placed)) placed in
    let words = words_of_row row said placed in
    filter-append (is_saying_of name) (map (of_row row) words) (answers_due rows said left)
    ∙ ap (λ l. l ++ filter (is_saying_of name) (answers_due rows said left))
    (all_of_row name row (bytes_eq row.name name) words refl)
    ∙ ap (λ l. cond (bytes_eq row.name name) (map (of_row row) words) [] ++ l) (filter_due name rows said left)

of_answers : (name : List ℕ) (all : List Answer)
    → filter (is_saying_of name) (map saying_of_answer all) ≡ map saying_of_answer (filter (is_named name) all)
of_answers name [] = refl
of_answers name (a ∷ all) = elim (cases_Bool (is_named name a)) [
  | inl e ↦ rw e (ap (λ l. saying_of_answer a ∷ l) (of_answers name all))
  | inr e ↦ rw e (of_answers name all)
]

pub answers_for : (name : List ℕ) (table : List Shape) (said : List Saying) (placed : List (List ℕ)) (all : List Answer)
    → map saying_of_answer all ≡ answers_due table said placed
    → map saying_of_answer (filter (is_named name) all) ≡ sayings_for name table said placed
answers_for name table said placed all are =
    sym (of_answers name all) ∙ ap (filter (is_saying_of name)) are ∙ filter_due name table said placed

-- ---- their words

abbrev pub word_of : Answer → List ℕ
word_of a = a.word.now

pub first_found : (name : List ℕ) (all : List Answer)
    → option_map word_of (answer_named name all) ≡ first (words_named name all)
first_found name [] = refl
first_found name (a ∷ all) = elim (cases_Bool (is_named name a)) [
  | inl e ↦
      ap (λ t. option_map word_of (cond t (Some a) (answer_named name all))) e
      ∙ sym (ap (λ t. first (map word_of (cond t (a ∷ filter (is_named name) all) (filter (is_named name) all)))) e)
  | inr e ↦
      ap (λ t. option_map word_of (cond t (Some a) (answer_named name all))) e ∙ first_found name all
      ∙ sym (ap (λ t. first (map word_of (cond t (a ∷ filter (is_named name) all) (filter (is_named name) all)))) e)
]

-- the words of the answers of a name are those of what answers its row
pub words_for : (name : List ℕ) (table : List Shape) (said : List Saying) (placed : List (List ℕ)) (all : List Answer)
    → map saying_of_answer all ≡ answers_due table said placed
    → words_named name all ≡ map (λ s. s.word) (sayings_for name table said placed)
words_for name table said placed all are =
    sym (map-map (λ s. s.word) saying_of_answer (filter (is_named name) all))
    ∙ ap (map (λ s. s.word)) (answers_for name table said placed all are)

-- ---- and their row

head_found : (name : List ℕ) (all : List Answer) (a : Answer) → answer_named name all ≡ Some a
    → (rest : List Answer) × (filter (is_named name) all ≡ a ∷ rest)
head_found name [] a e = absurd (search (rules, e))
head_found name (b ∷ all) a e = elim (cases_Bool (is_named name b)) [
  | inl t ↦
      let same : b ≡ a = ap (λ o. unwrap_or o b) (sym (ap (λ t. cond t (Some b) (answer_named name all)) t) ∙ e) in (
        filter (is_named name) all,
        ap (λ t. cond t (b ∷ filter (is_named name) all) (filter (is_named name) all)) t
            ∙ ap (λ c. c ∷ filter (is_named name) all) same,
      )
  | inr t ↦
      let later = head_found name all a (sym (ap (λ t. cond t (Some b) (answer_named name all)) t) ∙ e) in
      (later.0, ap (λ t. cond t (b ∷ filter (is_named name) all) (filter (is_named name) all)) t ∙ later.1)
]

abbrev head_row : Shape → List Saying → Shape
head_row row [] = row
head_row row (s ∷ said) = unwrap_or s.row row

head_same : (row : Shape) (words : List (List ℕ)) → head_row row (map (of_row row) words) ≡ row
head_same row [] = refl
head_same row (word ∷ words) = refl

-- the answers of a name have these words, and the first of them is of this row
pub record Answered (all : List Answer) (name : List ℕ) (row : Shape) (words : List (List ℕ)) : Type 0 where
  pub words_are : words_named name all ≡ words
  pub shape : (a : Answer) → answer_named name all ≡ Some a → shape_of a.row.now ≡ row

pub answered : (name : List ℕ) (table : List Shape) (said : List Saying) (placed : List (List ℕ)) (all : List Answer)
    (row : Shape) (words : List (List ℕ)) → map saying_of_answer all ≡ answers_due table said placed
    → sayings_for name table said placed ≡ map (of_row row) words → Answered all name row words
answered name table said placed all row words are due =
    let both = answers_for name table said placed all are ∙ due in
    record {
      words_are = sym (map-map (λ s. s.word) saying_of_answer (filter (is_named name) all))
          ∙ ap (map (λ s. s.word)) both ∙ map-map (λ s. s.word) (of_row row) words ∙ map_same words;
      shape = λ a e.
          let head = head_found name all a e in
          ap (head_row row) (sym (ap (map saying_of_answer) head.1) ∙ both) ∙ head_same row words;
    }
  where
    map_same : (words : List (List ℕ)) → map (λ w. w) words ≡ words
    map_same [] = refl
    map_same (word ∷ words) = ap (λ l. word ∷ l) (map_same words)

-- what holds of all answers holds of the one that is found
pub found_has : {X : Type 0} (P : X → Type 0) (p : X → Bool) (xs : List X) → All P xs → (x : X) → find p xs ≡ Some x
    → P x
found_has P p [] h x e = absurd (search (rules, e))
found_has P p (y ∷ xs) h x e = elim (cases_Bool (p y)) [
  | inl t ↦
      let same : y ≡ x = ap (λ o. unwrap_or o y) (sym (ap (λ t. cond t (Some y) (find p xs)) t) ∙ e) in
      subst P same (h 0 y (omega arith))
  | inr t ↦ found_has P p xs (λ k d l. h (suc k) d (omega (arith, l))) x
      (sym (ap (λ t. cond t (Some y) (find p xs)) t) ∙ e)
]

-- a test that all pass is passed by the one that is found
pub found_passes : {X : Type 0} (test p : X → Bool) (xs : List X) → list_all test xs ≡ true → (x : X)
    → find p xs ≡ Some x → test x ≡ true
found_passes test p [] h x e = absurd (search (rules, e))
found_passes test p (y ∷ xs) h x e = elim (cases_Bool (p y)) [
  | inl t ↦
      let same : y ≡ x = ap (λ o. unwrap_or o y) (sym (ap (λ t. cond t (Some y) (find p xs)) t) ∙ e) in
      ap test (sym same) ∙ (and_parts (test y) (list_all test xs) h).0
  | inr t ↦ found_passes test p xs (and_parts (test y) (list_all test xs) h).1 x
      (sym (ap (λ t. cond t (Some y) (find p xs)) t) ∙ e)
]

-- ---- an option that is said at most once

pub one_or_none : (words : List (List ℕ)) → nat_le (length words) 1 ≡ true → option_list (last_word words) ≡ words
one_or_none [] h = refl
one_or_none (word ∷ []) h = refl
one_or_none (word ∷ other ∷ words) h =
    let few : length (word ∷ other ∷ words) ≤ 1 = leb-true (length (word ∷ other ∷ words)) 1 h in
    absurd (omega (arith, few))
