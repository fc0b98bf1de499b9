-- A word of `--board-id`, cut at its colon and its sign of equality.
use Rattle.std.proofs.Common.{rules, ◌≡◌, ℕ, ◌<◌, true, List, ◌∷◌, ◌++◌, Option, MatchOption, Bor, arith}
use Rattle.std.proofs.lemmas.Str.Pattern.{IsSplitOnceResult, split_after}
use Rattle.std.proofs.lemmas.Str.Parse.{IsNumeralModel, numerals_by_value, not_in_digits}
use Rattle.std.specs.Int.{IsInRange}
use Rattle.std.specs.Str.{all_ascii_digits}
use Rattle.std.specs.Str.Parse.{digits_value}
use Rattle.cmd_common_fields.specs.OsWord.{IsNumberWord}
use Rattle.cmd_common_fields.specs.declared.board_word.BoardWord.{BoardWord}
use Rattle.cmd_common_fields.specs.Board.{IsBoardWord}

own : IsNumeralModel (λ (ds : List ℕ). all_ascii_digits ds ≡ true) (digits_value 10)
own = numerals_by_value _ (search rules)

-- digits hold no mark, so a cut at the first mark is a cut behind them
cut : (mark : ℕ) (word front back : List ℕ) (n : ℕ) (r : Option (Bor (List ℕ) × Bor (List ℕ))) → 57 < mark
    → mark < 128 → IsNumberWord front n
    → word ≡ front ++ (mark ∷ back) → IsSplitOnceResult mark word r
    → MatchOption r ⊥ (λ x. (x.0.now ≡ front) × (x.1.now ≡ back))
cut mark word front back n r high low w e h =
    split_after mark word front back r h low e (not_in_digits own front mark w.digits (λ (q : IsInRange 48 57 mark).
    omega (arith, q.1, high)))

pub cut_fragment : (word : List ℕ) (b : BoardWord) (p : IsBoardWord word b) (r : Option (Bor (List ℕ) × Bor (List ℕ)))
    → IsSplitOnceResult 58 word r
    → MatchOption r ⊥ (λ x. (x.0.now ≡ p.fragment) × (x.1.now ≡ p.place ++ (61 ∷ p.number)))
cut_fragment word b p r h = cut 58 word p.fragment (p.place ++ (61 ∷ p.number)) b.fragment r (omega arith)
    (omega arith) p.is_fragment p.parts h

pub cut_place : (word : List ℕ) (b : BoardWord) (p : IsBoardWord word b) (rest : List ℕ)
    (r : Option (Bor (List ℕ) × Bor (List ℕ))) → rest ≡ p.place ++ (61 ∷ p.number)
    → IsSplitOnceResult 61 rest r → MatchOption r ⊥ (λ x. (x.0.now ≡ p.place) × (x.1.now ≡ p.number))
cut_place word b p rest r e h = cut 61 rest p.place p.number b.place r (omega arith) (omega arith) p.is_place e h
