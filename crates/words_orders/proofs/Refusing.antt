-- Why words give no answers.
use Rattle.std.proofs.Common.{◌≡◌, ◌∙◌, ◌+◌, ◌<◌, ◌≤◌, ℕ, List, [], ◌∷◌, ◌++◌, refl, sym, ap, subst, drop, take, get_or}
use Rattle.std.proofs.Common.{length, map, arith, Bor, eqb-true}
use Rattle.std.specs.Prelude.{Bool, true, false, IsTrue, ◌↔◌, ◌==◌}
use Rattle.std.specs.List.{All, list_all}
use Rattle.std.proofs.lemmas.List.{drop_all, drop_at, drop_more, get_or-map, length-map, take_at}
use Rattle.std.proofs.lemmas.List.Elements.{All-drop, All-same, All-take}
use Rattle.words_orders.specs.declared.answers.Answer.{Answer}
use Rattle.words_orders.specs.declared.fault.WordsFault.{WordsFault}
use Rattle.words_orders.specs.declared.fault.WordsFault.TheVariants.{Usage, Misread, BadNumber, NotTaken, Memory}
use Rattle.words_orders.specs.Asked.{AreAnswers, is_enough, saying_of_answer}
use Rattle.words_orders.specs.Reads.{CanBeRead, IsReadFor}
use Rattle.words_orders.specs.Refused.{IsOfWords, TellsNoNumber}
use Rattle.words_sayings.specs.Rows.{Shape}
use Rattle.words_sayings.specs.Words.{Saying, answers_due, left_over, of_row, words_by_place, words_due, words_of_row}
use Rattle.words_orders.proofs.Answered.{readable}

-- a word that is told of gives no number
pub told_unread : (row : Shape) (word : List ℕ) (b : Bool) (fault : WordsFault) → TellsNoNumber row word b fault
    → IsOfWords fault → (n : ℕ) → IsReadFor row word n → ⊥
told_unread row word b (Usage error) h is n r = h
told_unread row word b (Misread error) h is n r = h
told_unread row word b (BadNumber told number asked) h is n r = h.0.unread n r
told_unread row word b (NotTaken instead) h is n r = h n r
told_unread row word b Memory h is n r = is

-- one of these words gives no number to the row
pub unread_at : (row : Shape) (words : List (Bor (List ℕ))) (i : ℕ) (d : Bor (List ℕ)) → i < length words
    → ((n : ℕ) → IsReadFor row (get_or words i d).now n → ⊥)
    → All CanBeRead (map (of_row row) (map (λ s. s.now) words)) → ⊥
unread_at row words i d below none all =
    let inner = map (λ (s : Bor (List ℕ)). s.now) words in
    let long : i < length inner = omega (arith, length-map words (λ (s : Bor (List ℕ)). s.now), below) in
    let is : get_or (map (of_row row) inner) i (of_row row d.now) ≡ of_row row (get_or words i d).now =
    get_or-map (of_row row) inner i d.now (of_row row d.now) long
    ∙ ap (of_row row) (get_or-map (λ (s : Bor (List ℕ)). s.now) words i d d.now below) in
    let can : CanBeRead (of_row row (get_or words i d).now) =
    subst CanBeRead is (all i (of_row row d.now) (omega (arith, length-map inner (of_row row), long))) in
    none can.0 can.1

all_front : {X : Type 0} (P : X → Type 0) (xs ys : List X) → All P (xs ++ ys) → All P xs
all_front P xs ys all = All-same P xs (take (length xs) (xs ++ ys)) (sym (take_at xs ys (length xs) refl))
    (All-take P (length xs) (xs ++ ys) all)

all_back : {X : Type 0} (P : X → Type 0) (xs ys : List X) → All P (xs ++ ys) → All P ys
all_back P xs ys all = All-same P ys (drop (length xs) (xs ++ ys)) (sym (drop_at xs ys (length xs) refl))
    (All-drop P (length xs) (xs ++ ys) all)

-- the answers due to the row at hand and to those behind it
module _ {X : Type 0} (f : X → Shape) (rows : List X) (i : ℕ) (d : X) (said : List Saying) (left : List (List ℕ))
    (below : i < length rows) where
  due_now : answers_due (map f (drop i rows)) said left
      ≡ map (of_row (f (get_or rows i d))) (words_of_row (f (get_or rows i d)) said left)
      ++ answers_due (map f (drop (i + 1) rows)) said
      (drop (words_due (f (get_or rows i d)).place (length left)) left)
  due_now = ap (λ l. answers_due (map f l) said left) (drop_more rows i d below)

  pub due_here : (words : List (List ℕ)) → words ≡ words_of_row (f (get_or rows i d)) said left
      → All CanBeRead (answers_due (map f (drop i rows)) said left)
      → All CanBeRead (map (of_row (f (get_or rows i d))) words)
  due_here words is all =
      All-same CanBeRead (map (of_row (f (get_or rows i d))) words)
      (map (of_row (f (get_or rows i d))) (words_of_row (f (get_or rows i d)) said left))
      (ap (map (of_row (f (get_or rows i d)))) is)
      (all_front CanBeRead _ _ (All-same CanBeRead _ _ (sym due_now) all))

  pub due_later : (next : List (List ℕ)) → next ≡ drop (words_due (f (get_or rows i d)).place (length left)) left
      → All CanBeRead (answers_due (map f (drop i rows)) said left)
      → All CanBeRead (answers_due (map f (drop (i + 1) rows)) said next)
  due_later next is all =
      All-same CanBeRead (answers_due (map f (drop (i + 1) rows)) said next)
      (answers_due (map f (drop (i + 1) rows)) said (drop (words_due (f (get_or rows i d)).place (length left)) left))
      (ap (answers_due (map f (drop (i + 1) rows)) said) is)
      (all_back CanBeRead _ _ (All-same CanBeRead _ _ (sym due_now) all))

-- none of the positional words is left behind the last row
pub none_left : {X : Type 0} (f : X → Shape) (rows : List X) (i : ℕ) (left : List (Bor (List ℕ)))
    (over : List (List ℕ)) (b : Bool) → b ≡ (length left == 0) → length rows ≤ i
    → left_over (map f (drop i rows)) (map (λ s. s.now) left) ≡ over → IsTrue b ↔ (over ≡ [])
none_left f rows i left over b is past e =
    none_of left b over is (sym (ap (λ l. left_over (map f l) (map (λ s. s.now) left)) (drop_all i rows past)) ∙ e)
  where
    none_of : (left : List (Bor (List ℕ))) (b : Bool) (over : List (List ℕ)) → b ≡ (length left == 0)
        → map (λ s. s.now) left ≡ over → IsTrue b ↔ (over ≡ [])
    none_of [] b over is e = (λ t. sym e, λ n. is)
    none_of (x ∷ xs) b over is e = (
      λ t. let none : length (x ∷ xs) ≡ 0 = eqb-true (length (x ∷ xs)) 0 (sym is ∙ t) in absurd (omega (arith, none)),
      λ n. let clash : x.now ∷ map (λ s. s.now) xs ≡ [] = e ∙ n in absurd (cc),
    )

-- ---- no answers

-- words are left over
pub left_words : (table : List Shape) (said : List Saying) (placed : List (List ℕ)) (b : Bool)
    → placed ≡ words_by_place said → IsTrue b ↔ (left_over table placed ≡ []) → b ≡ false
    → (all : List Answer) → AreAnswers table said all → ⊥
left_words table said placed b is iff none all h =
    let some : b ≡ true = iff.1 (ap (left_over table) is ∙ h.none_left) in absurd (cc)

-- a row lacks its answer
pub not_enough : (table : List Shape) (said : List Saying) (own : List Answer)
    → map saying_of_answer own ≡ answers_due table said (words_by_place said)
    → list_all (is_enough (map saying_of_answer own)) table ≡ false
    → (all : List Answer) → AreAnswers table said all → ⊥
not_enough table said own are lacks all h =
    let same : list_all (is_enough (map saying_of_answer own)) table
    ≡ list_all (is_enough (map saying_of_answer all)) table =
    ap (λ l. list_all (is_enough l) table) (are ∙ sym h.are) in
    let clash : false ≡ true = sym lacks ∙ same ∙ h.enough in absurd (cc)

-- an answer can't be read
pub unread_answers : (table : List Shape) (said : List Saying) (placed : List (List ℕ))
    → placed ≡ words_by_place said → (All CanBeRead (answers_due table said placed) → ⊥)
    → (all : List Answer) → AreAnswers table said all → ⊥
unread_answers table said placed is none all h =
    none (All-same CanBeRead _ _ (ap (answers_due table said) is) (readable all _ h.are h.read))
