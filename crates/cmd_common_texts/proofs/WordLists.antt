-- Words printed one behind another.
use Rattle.std.proofs.Common.{◌≡◌, ℕ, zero, suc, ◌+◌, ◌<◌, List, [], ◌∷◌, ◌++◌, Result, Ok, Err, OnOk, length, take}
use Rattle.std.proofs.Common.{get_or, flat_map, subst, sym, ap, ◌∙◌, arith, append_assoc, append-nil}
use Rattle.std.proofs.lemmas.Grind.{flat_map-append}
use Rattle.sys_text.specs.declared.text_output.Text.{Text}
use Rattle.cmd_common_texts.specs.Info.{escaped, line}
use Rattle.sys_text.specs.Printed.{Prints}
use Rattle.cmd_common_texts.specs.Words.{words_text, board_word, board_words, text_of, text_over}
use Rattle.sys_text.proofs.Printing.{both_printed}

abbrev pub PrintsWords : {O : Type 0} → (O → List ℕ) → (O → ℕ) → Text O → Text O → List (List ℕ) → Type 0
PrintsWords written faults s t ws = Prints written faults s t (words_text ws)

module _ {O : Type 0} (written : O → List ℕ) (faults : O → ℕ) where
  pub both_words : (s t u : Text O) (a b : List (List ℕ)) → PrintsWords written faults s t a
      → PrintsWords written faults t u b → PrintsWords written faults s u (a ++ b)
  both_words s t u a b p q =
      subst (Prints written faults s u) (sym (flat_map-append line a b))
      (both_printed written faults s t u (words_text a) (words_text b) p q)

  -- the second may fail
  pub then_words : {A E : Type 0} (s t u : Text O) (a b : List (List ℕ)) (r : Result A E)
      → PrintsWords written faults s t a → OnOk r (PrintsWords written faults t u b)
      → OnOk r (PrintsWords written faults s u (a ++ b))
  then_words s t u a b (Ok x) p q = both_words s t u a b p q
  then_words s t u a b (Err e) p q = tt

-- these words, and then those
pub more_words : {O : Type 0} {written : O → List ℕ} {faults : O → ℕ} {s t u : Text O} (a b : List (List ℕ))
    → PrintsWords written faults s t a → PrintsWords written faults t u b → PrintsWords written faults s u (a ++ b)
more_words a b p q = both_words _ _ _ _ _ a b p q

-- one word is a line
pub one_word : (w : List ℕ) → line w ≡ words_text (w ∷ [])
one_word w = sym (append-nil (line w))

-- a text that two fields hold together
pub then_text : (a b f r : List ℕ) → f ≡ text_of a → text_over a b ≡ text_of a ++ r
    → flat_map escaped f ++ flat_map escaped r ≡ flat_map escaped (text_over a b)
then_text a b f r front rest =
    ap (λ z. flat_map escaped z ++ flat_map escaped r) front ∙ sym (flat_map-append escaped (text_of a) r)
    ∙ ap (flat_map escaped) (sym rest)

-- a board id as far as number k
pub one_board : (i first : ℕ) (ns : List ℕ) (k : ℕ) → k < length ns → board_words i first (take k ns)
    ++ board_word i (first + k) (get_or ns k 0) ≡ board_words i first (take (suc k) ns)
one_board i first [] k h = absurd (let q : k < 0 = h in omega arith)
one_board i first (n ∷ ns) zero h =
    let same : first + 0 ≡ first = omega arith in
    ap (λ (m : ℕ). board_word i m n) same ∙ sym (append-nil (board_word i first n))
one_board i first (n ∷ ns) (suc k) h =
    let next : first + suc k ≡ suc first + k = omega arith in
    append_assoc (board_word i first n) (board_words i (suc first) (take k ns))
    (board_word i (first + suc k) (get_or ns k 0))
    ∙ ap (λ (m : ℕ). board_word i first n
    ++ (board_words i (suc first) (take k ns) ++ board_word i m (get_or ns k 0))) next
    ∙ ap (λ (l : List (List ℕ)). board_word i first n ++ l) (one_board i (suc first) ns k (omega (arith, h)))
