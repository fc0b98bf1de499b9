-- The words of ramdisk fragments, and the others, one word further.
use Rattle.std.proofs.Common.{arith, ◌≡◌, ◌∙◌, ◌+◌, ◌<◌, ◌≤◌, ℕ, List, [], ◌∷◌, ◌++◌, sym, ap, subst, map, take}
use Rattle.std.proofs.Common.{length, get_or, Option, Some, None, Bor, refl}
use Rattle.std.specs.Prelude.{Contains, codes}
use Rattle.std.proofs.lemmas.List.{append-nil, append_assoc, get_or-map, length-map, take_all, take_more}
use Rattle.words_values.specs.declared.rows.Row.{Row}
use Rattle.words_values.specs.NumberWord.{IsRead}
use Rattle.words_orders.specs.declared.answers.Answer.{Answer}
use Rattle.words_sayings.specs.Rows.{shape_of}
use Rattle.words_tools.specs.Fragments.{AreParted, AreParting, AwaitsValue, IsAnswerTo, IsNameOf, IsSaidOf}
use Rattle.words_tools.specs.Fragments.{fragment_rows, none, other, with_equals, with_next}

-- an answer to the row that a name means is said by it
pub said_of : (short w : List ℕ) (r : Row) (a : Answer) → IsNameOf short r.name.now
    → Contains fragment_rows (shape_of r) → IsAnswerTo r w a → IsSaidOf short a
said_of short w r a named there is = record {
  named = subst (λ q. IsNameOf short q.name.now) (sym is.same_row) named;
  row = subst (λ q. Contains fragment_rows (shape_of q)) (sym is.same_row) there;
  read = subst (λ v. IsRead a.row.now.value v a.number) (sym is.same_word)
      (subst (λ q. IsRead q.value w a.number) (sym is.same_row) is.read);
}

parted_append : (a b o p : List (List ℕ)) (s t : List Answer) → AreParted a s o → AreParted b t p
    → AreParted (a ++ b) (s ++ t) (o ++ p)
parted_append _ b _ p _ t none q = q
parted_append _ b _ p _ t (other word words others said r) q =
    other word (words ++ b) (others ++ p) (said ++ t) (parted_append words b others p said t r q)
parted_append _ b _ p _ t (with_equals short a words others said is r) q =
    with_equals short a (words ++ b) (others ++ p) (said ++ t) is (parted_append words b others p said t r q)
parted_append _ b _ p _ t (with_next short a words others said is r) q =
    with_next short a (words ++ b) (others ++ p) (said ++ t) is (parted_append words b others p said t r q)

-- ---- one word more

pub leave_one : (words o o' : List (List ℕ)) (s s' : List Answer) (w : List ℕ) → AreParted words s o → s' ≡ s
    → o' ≡ o ++ (w ∷ []) → AreParted (words ++ (w ∷ [])) s' o'
leave_one words o o' s s' w r same more =
    subst (λ l. AreParted (words ++ (w ∷ [])) l o') (append-nil s ∙ sym same)
    (subst (λ l. AreParted (words ++ (w ∷ [])) (s ++ []) l) (sym more)
    (parted_append words (w ∷ []) o (w ∷ []) s [] r (other w [] [] [] none)))

said_more : (words o o' last : List (List ℕ)) (s s' : List Answer) (a : Answer) → AreParted words s o
    → AreParted last (a ∷ []) [] → s' ≡ s ++ (a ∷ []) → o' ≡ o → AreParted (words ++ last) s' o'
said_more words o o' last s s' a r here more same =
    subst (λ l. AreParted (words ++ last) l o') (sym more)
    (subst (λ l. AreParted (words ++ last) (s ++ (a ∷ [])) l) (append-nil o ∙ sym same)
    (parted_append words last o [] s (a ∷ []) r here))

pub say_equals : (words o o' : List (List ℕ)) (s s' : List Answer) (short v w : List ℕ) (r : Row) (a : Answer)
    → AreParted words s o → IsNameOf short r.name.now → Contains fragment_rows (shape_of r) → IsAnswerTo r v a
    → w ≡ codes "--" ++ (short ++ (61 ∷ v)) → s' ≡ s ++ (a ∷ []) → o' ≡ o → AreParted (words ++ (w ∷ [])) s' o'
say_equals words o o' s s' short v w r a parted named there is word more same =
    said_more words o o' (w ∷ []) s s' a parted
    (subst (λ u. AreParted (u ∷ []) (a ∷ []) [])
    (ap (λ x. codes "--" ++ (short ++ (61 ∷ x))) is.same_word ∙ sym word)
    (with_equals short a [] [] [] (said_of short v r a named there is) none)) more same

pub say_next : (words o o' : List (List ℕ)) (s s' : List Answer) (w : List ℕ) (row : Row) (a : Answer)
    → AwaitsValue words s o row → IsAnswerTo row w a → s' ≡ s ++ (a ∷ []) → o' ≡ o
    → AreParted (words ++ (w ∷ [])) s' o'
say_next words o o' s s' w row a before is more same =
    let front = before.front in
    let short = codes "--" ++ before.short in
    let all : words ++ (w ∷ []) ≡ front ++ (short ∷ (a.word.now ∷ [])) =
    ap (λ l. l ++ (w ∷ [])) before.last ∙ append_assoc front (short ∷ []) (w ∷ [])
    ∙ ap (λ v. front ++ (short ∷ (v ∷ []))) (sym is.same_word) in
    subst (λ l. AreParted l s' o') (sym all)
    (said_more front o o' (short ∷ (a.word.now ∷ [])) s s' a before.parted
    (with_next before.short a [] [] [] (said_of before.short w row a before.named before.row_in is) none) more same)

-- ---- the words that a loop has gone through

pub words_more : {S : Type 0} (text : S → List ℕ) (words : List S) (i : ℕ) (word : S) (w : List ℕ) → i < length words
    → word ≡ get_or words i word → w ≡ text word → take (i + 1) (map text words) ≡ take i (map text words) ++ (w ∷ [])
words_more text words i word w below here is =
    take_more (map text words) i [] (omega (arith, length-map words text, below))
    ∙ ap (λ v. take i (map text words) ++ (v ∷ []))
    (get_or-map text words i word [] below ∙ ap text (sym here) ∙ sym is)

pub words_all : {S : Type 0} (text : S → List ℕ) (words : List S) (i : ℕ) → length words ≤ i
    → take i (map text words) ≡ map text words
words_all text words i past = take_all i (map text words) (omega (arith, length-map words text, past))

-- behind no option that awaits its value
pub parted_of_none : (words o : List (List ℕ)) (s : List Answer) (before : Option (Bor Row))
    → ((row : Bor Row) → before ≡ Some row → ⊥) → AreParting words s o before → AreParted words s o
parted_of_none words o s None not parted = parted
parted_of_none words o s (Some row) not parted = absurd (not row refl)
