-- Lists that a loop adds to, one element further.
use Rattle.std.proofs.Common.{◌+◌, ◌≡◌, ◌≢◌, ◌<◌, ◌≤◌, ◌∙◌, ℕ, List, [], ◌∷◌, ◌++◌, sym, ap, map, drop, get_or, length}
use Rattle.std.proofs.Common.{rules, refl, Option, Some, None, eqb-true, ⊎_elim}
use Rattle.std.specs.Prelude.{Bool, true, false, ◌==◌, unwrap_or}
use Rattle.std.proofs.lemmas.Bool.{cases_Bool, cond-false, cond-true}
use Rattle.std.proofs.lemmas.List.{drop_all, drop_more, map-append}
use Rattle.words_sayings.specs.Words.{is_of_name, last_word, letter_value, said_words, saying_of}
use Rattle.words_sayings.specs.declared.saying.Said.{Said}

-- one more element is added as what stands for it
pub added_one : {X Z : Type 0} (f : X → Z) (xs new : List X) (x : X) → new ≡ xs ++ (x ∷ [])
    → map f new ≡ map f xs ++ (f x ∷ [])
added_one f xs new x is = ap (map f) is ∙ map-append f xs (x ∷ [])

-- ---- the value behind a letter

-- without `=` it is all
pub whole_value : (more : List ℕ) (b : Bool) → b ≡ (length more == 0) → b ≡ false
    → ((rest : List ℕ) → more ≢ 61 ∷ rest) → Some more ≡ letter_value more
whole_value [] b is none other = absurd (search (rules, is, none))
whole_value (first ∷ rest) b is none other =
    ⊎_elim (λ same. absurd (other rest (ap (λ c. c ∷ rest) (eqb-true first 61 same))))
    (λ differs. ap (λ l. Some l) (sym (cond-false _ _ _ differs))) (cases_Bool (first == 61))

-- ---- the last of the words that are said

-- what is last, of what is before and what is later
abbrev pub later_or : Option (List ℕ) → Option (List ℕ) → Option (List ℕ)
later_or None before = before
later_or (Some word) before = Some word

pub later_none : (later : Option (List ℕ)) → later_or later None ≡ later
later_none None = refl
later_none (Some word) = refl

last_of_some : (later before : Option (List ℕ)) (word : List ℕ)
    → later_or later (Some word) ≡ later_or (Some (unwrap_or later word)) before
last_of_some None before word = refl
last_of_some (Some other) before word = refl

pub last_more : (name : List ℕ) (said : List Said) (i : ℕ) (d : Said) (last : Option (List ℕ)) → i < length said
    → is_of_name name (saying_of (get_or said i d)).row ≡ true
    → later_or (last_word (said_words name (map saying_of (drop (i + 1) said)))) (Some (get_or said i d).word.now)
    ≡ later_or (last_word (said_words name (map saying_of (drop i said)))) last
last_more name said i d last below is =
    let rest = said_words name (map saying_of (drop (i + 1) said)) in
    let word = (get_or said i d).word.now in
    last_of_some (last_word rest) last word
    ∙ ap (λ l. later_or (last_word l) last)
    (sym (ap (λ l. said_words name (map saying_of l)) (drop_more said i d below)
    ∙ ap (map (λ s. s.word)) (cond-true _ _ _ is)))

pub last_same : (name : List ℕ) (said : List Said) (i : ℕ) (d : Said) → i < length said
    → is_of_name name (saying_of (get_or said i d)).row ≡ false
    → said_words name (map saying_of (drop (i + 1) said)) ≡ said_words name (map saying_of (drop i said))
last_same name said i d below is =
    sym (ap (λ l. said_words name (map saying_of l)) (drop_more said i d below)
    ∙ ap (map (λ s. s.word)) (cond-false _ _ _ is))

pub last_end : (name : List ℕ) (said : List Said) (i : ℕ) → length said ≤ i
    → said_words name (map saying_of (drop i said)) ≡ []
last_end name said i past = ap (λ l. said_words name (map saying_of l)) (drop_all i said past)
