-- The place of the command among the words.
use Rattle.std.proofs.Common.{◌≡◌, ◌∙◌, ◌+◌, ◌<◌, ◌≤◌, ℕ, List, ◌∷◌, sym, ap, map, drop, get_or, length, arith, take}
use Rattle.std.proofs.Common.{Some, None, Option, refl}
use Rattle.std.specs.Prelude.{Bool, true, false, cond, not, slice_get}
use Rattle.std.specs.List.{after_first, before_first, find, position_or_len, prefix_len}
use Rattle.std.proofs.lemmas.List.{drop-map, drop_all, drop_more, take-map, take_all, length-drop, length-map}
use Rattle.std.proofs.lemmas.List.Folds.{find_at}
use Rattle.words_orders.specs.Asked.{command_in, is_command_word, words_before, words_behind}
use Rattle.words_sayings.specs.Words.{is_option_word}

abbrev prefix_step : Bool → ℕ → ℕ
prefix_step b n = cond (not (not b)) (1 + n) 0

module _ {X : Type 0} (text : X → List ℕ) (words : List X) (i : ℕ) where
  pub place_now : (d : X) → i < length words → is_option_word (text (get_or words i d)) ≡ false
      → position_or_len is_command_word (map text (drop i words)) ≡ 0
  place_now d below fails =
      ap (λ l. position_or_len is_command_word (map text l)) (drop_more words i d below)
      ∙ ap (λ b. prefix_step b (position_or_len is_command_word (map text (drop (i + 1) words)))) fails

  pub place_later : (d : X) → i < length words → is_option_word (text (get_or words i d)) ≡ true
      → position_or_len is_command_word (map text (drop i words))
      ≡ 1 + position_or_len is_command_word (map text (drop (i + 1) words))
  place_later d below holds =
      ap (λ l. position_or_len is_command_word (map text l)) (drop_more words i d below)
      ∙ ap (λ b. prefix_step b (position_or_len is_command_word (map text (drop (i + 1) words)))) holds

  pub place_last : length words ≤ i → position_or_len is_command_word (map text (drop i words)) ≡ 0
  place_last past = ap (λ l. position_or_len is_command_word (map text l)) (drop_all i words past)

  pub found_place : (x : X) (word : List ℕ) → i < length words → x ≡ get_or words i x → word ≡ text x
      → is_option_word word ≡ false → i ≡ i + position_or_len is_command_word (map text (drop i words))
  found_place x word below is same fails =
      let here : is_option_word (text (get_or words i x)) ≡ false =
      ap (λ y. is_option_word (text y)) (sym is) ∙ ap is_option_word (sym same) ∙ fails in
      omega (arith, place_now x below here)

  pub next_place : (x : X) (word : List ℕ) → i < length words → x ≡ get_or words i x → word ≡ text x
      → is_option_word word ≡ true
      → (i + 1) + position_or_len is_command_word (map text (drop (i + 1) words))
      ≡ i + position_or_len is_command_word (map text (drop i words))
  next_place x word below is same holds =
      let here : is_option_word (text (get_or words i x)) ≡ true =
      ap (λ y. is_option_word (text y)) (sym is) ∙ ap is_option_word (sym same) ∙ holds in
      omega (arith, place_later x below here)

-- ---- the words cut at it

module _ {X : Type 0} (text : X → List ℕ) (all own : List X) (program : X) (at : ℕ) where
  pub cut_named : map text all ≡ text program ∷ map text own
      → at ≡ position_or_len is_command_word (map text own)
      → command_in (map text all) ≡ slice_get (map text own) at
  cut_named is at_is =
      ap (λ l. find is_command_word (drop 1 l)) is ∙ find_at is_command_word (map text own)
      ∙ ap (slice_get (map text own)) (sym at_is)

  pub cut_before : (front : List X) → map text all ≡ text program ∷ map text own
      → at ≡ position_or_len is_command_word (map text own) → front ≡ take at own
      → map text front ≡ words_before (map text all)
  cut_before front is at_is front_is =
      ap (map text) front_is ∙ sym (take-map text at own) ∙ ap (λ n. take n (map text own)) at_is
      ∙ sym (ap (λ l. before_first is_command_word (drop 1 l)) is)

  pub cut_behind : (behind : List X) → map text all ≡ text program ∷ map text own
      → at ≡ position_or_len is_command_word (map text own) → behind ≡ drop (at + 1) own
      → map text behind ≡ words_behind (map text all)
  cut_behind behind is at_is behind_is =
      ap (map text) behind_is ∙ sym (drop-map text (at + 1) own) ∙ ap (λ n. drop (n + 1) (map text own)) at_is
      ∙ sym (ap (λ l. after_first is_command_word (drop 1 l)) is)
