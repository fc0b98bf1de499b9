-- What answers say, and which of them can be read.
use Rattle.std.proofs.Common.{◌≡◌, ◌∙◌, ℕ, ◌+◌, ◌<◌, List, [], ◌∷◌, ◌++◌, refl, sym, ap, subst, map, drop, length}
use Rattle.std.proofs.Common.{get_or}
use Rattle.std.proofs.Common.{Some, arith, suc}
use Rattle.std.specs.Prelude.{Bool, true, false, is_some, not, ◌==◌, IsTrue}
use Rattle.std.specs.List.{All}
use Rattle.std.proofs.lemmas.Bool.{cond-true, cond-false}
use Rattle.std.proofs.lemmas.Bool.Decides.{nat_tests}
use Rattle.std.proofs.lemmas.List.{drop_more}
use Rattle.std.proofs.lemmas.List.Elements.{All-map, All-same}
use Rattle.words_orders.specs.declared.answers.Answer.{Answer}
use Rattle.words_orders.specs.Asked.{IsReadRight, answer_named, is_named, saying_of_answer}
use Rattle.words_orders.specs.Reads.{CanBeRead}
use Rattle.words_sayings.specs.Words.{Saying, said_words, says_name}

none_longer : (n : ℕ) → (suc n == 0) ≡ false
none_longer n = grind (arith, nat_tests)

-- an answer has a name if and only if something is said of its row
pub answered : (name : List ℕ) (all : List Answer)
    → is_some (answer_named name all) ≡ says_name name (map saying_of_answer all)
answered name [] = refl
answered name (a ∷ all) = go (is_named name a) refl (answered name all)
  where
    go : (b : Bool) → is_named name a ≡ b
        → is_some (answer_named name all) ≡ says_name name (map saying_of_answer all)
        → is_some (answer_named name (a ∷ all)) ≡ says_name name (map saying_of_answer (a ∷ all))
    go true e later =
        ap (λ o. is_some o) (cond-true _ _ _ e)
        ∙ sym (ap not (none_longer (length (said_words name (map saying_of_answer all)))))
        ∙ sym (ap (λ (l : List Saying). not (length (map (λ s. s.word) l) == 0)) (cond-true _ _ _ e))
    go false e later =
        ap (λ o. is_some o) (cond-false _ _ _ e) ∙ later
        ∙ sym (ap (λ (l : List Saying). not (length (map (λ s. s.word) l) == 0)) (cond-false _ _ _ e))

-- each answer can be read, so what they say can be
pub readable : (all : List Answer) (due : List Saying) → map saying_of_answer all ≡ due → All IsReadRight all
    → All CanBeRead due
readable all due are read =
    All-same CanBeRead due (map saying_of_answer all) (sym are)
    (All-map CanBeRead saying_of_answer all (λ k d below. ((get_or all k d).number, read k d below)))
