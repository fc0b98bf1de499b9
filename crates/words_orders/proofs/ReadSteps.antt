-- Lists that a loop adds to, one element further.
use Rattle.std.proofs.Common.{◌+◌, ◌≡◌, ◌<◌, ◌∙◌, ℕ, List, [], ◌∷◌, ◌++◌, sym, ap, subst, map, drop, get_or, length}
use Rattle.std.proofs.Common.{append_assoc}
use Rattle.std.proofs.lemmas.List.{drop_more, map-append}
use Rattle.words_values.specs.declared.rows.Row.{Row}
use Rattle.words_sayings.specs.Rows.{Shape, shape_of}
use Rattle.words_sayings.specs.Words.{Saying, answers_due, left_over, of_row, words_due, words_of_row}
use Rattle.words_orders.specs.declared.answers.Answer.{Answer}
use Rattle.words_orders.specs.Asked.{IsReadRight, saying_of_answer}
use Rattle.words_orders.specs.Reads.{IsReadFor}

-- the same where another stands for each of these
pub added_more_of : {X Y W Z : Type 0} (f : X → Z) (g : W → Z) (h : Y → W) (xs new : List X) (ys : List Y) (i : ℕ)
    (d : Y) (x : X) → i < length ys → new ≡ xs ++ (x ∷ []) → f x ≡ g (h (get_or ys i d))
    → map f new ++ map g (map h (drop (i + 1) ys)) ≡ map f xs ++ map g (map h (drop i ys))
added_more_of f g h xs new ys i d x below is same =
    ap (λ l. map f l ++ map g (map h (drop (i + 1) ys))) is
    ∙ ap (λ l. l ++ map g (map h (drop (i + 1) ys))) (map-append f xs (x ∷ []))
    ∙ append_assoc (map f xs) (f x ∷ []) (map g (map h (drop (i + 1) ys)))
    ∙ ap (λ z. map f xs ++ (z ∷ map g (map h (drop (i + 1) ys)))) same
    ∙ ap (λ l. map f xs ++ map g (map h l)) (sym (drop_more ys i d below))

-- one row more is answered
pub answered_more : {X : Type 0} (f : X → Shape) (rows : List X) (i : ℕ) (d : X) (said old new : List Saying)
    (left next words : List (List ℕ)) → i < length rows
    → words ≡ words_of_row (f (get_or rows i d)) said left
    → next ≡ drop (words_due (f (get_or rows i d)).place (length left)) left
    → new ≡ old ++ map (of_row (f (get_or rows i d))) words
    → new ++ answers_due (map f (drop (i + 1) rows)) said next ≡ old ++ answers_due (map f (drop i rows)) said left
answered_more f rows i d said old new left next words below words_are next_is new_is =
    let row = f (get_or rows i d) in
    let rest = map f (drop (i + 1) rows) in
    ap (λ l. l ++ answers_due rest said next) new_is
    ∙ append_assoc old (map (of_row row) words) (answers_due rest said next)
    ∙ ap (λ w. old ++ (map (of_row row) w ++ answers_due rest said next)) words_are
    ∙ ap (λ n. old ++ (map (of_row row) (words_of_row row said left) ++ answers_due rest said n)) next_is
    ∙ ap (λ l. old ++ answers_due (map f l) said left) (sym (drop_more rows i d below))

pub left_more : {X : Type 0} (f : X → Shape) (rows : List X) (i : ℕ) (d : X) (left next : List (List ℕ))
    → i < length rows → next ≡ drop (words_due (f (get_or rows i d)).place (length left)) left
    → left_over (map f (drop (i + 1) rows)) next ≡ left_over (map f (drop i rows)) left
left_more f rows i d left next below next_is =
    ap (left_over (map f (drop (i + 1) rows))) next_is
    ∙ ap (λ l. left_over (map f l) left) (sym (drop_more rows i d below))

-- ---- answers

pub answer_is : (a : Answer) (row : Row) (word : List ℕ) → a.row.now ≡ row → a.word.now ≡ word
    → saying_of_answer a ≡ of_row (shape_of row) word
answer_is a row word r w =
    ap (λ s. of_row (shape_of s) a.word.now) r ∙ ap (of_row (shape_of row)) w

pub read_is : (a : Answer) (row : Row) (word : List ℕ) → a.row.now ≡ row → a.word.now ≡ word
    → IsReadFor (shape_of row) word a.number → IsReadRight a
read_is a row word r w n =
    subst (λ s. IsReadFor (shape_of s) a.word.now a.number) (sym r)
    (subst (λ v. IsReadFor (shape_of row) v a.number) (sym w) n)
