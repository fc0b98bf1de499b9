-- The argument of `--board-id`.
use Rattle.std.specs.Prelude.{◌≡◌, ◌<◌, ◌^◌, ℕ, List, ◌∷◌, ◌++◌}
use Rattle.cmd_common_fields.specs.declared.board_word.BoardWord.{BoardWord}
use Rattle.cmd_common_fields.specs.OsWord.{IsNumberWord}

-- I:K=N
pub record IsBoardWord (word : List ℕ) (b : BoardWord) : Type 0 where
  pub fragment : List ℕ
  pub place : List ℕ
  pub number : List ℕ
  pub parts : word ≡ fragment ++ (58 ∷ (place ++ (61 ∷ number)))
  pub is_fragment : IsNumberWord fragment b.fragment
  pub is_place : IsNumberWord place b.place
  pub is_number : IsNumberWord number b.number

-- a board id has sixteen numbers, each of 32 bits
pub record BoardFits (b : BoardWord) : Type 0 where
  pub fragment : b.fragment < 2 ^ 32
  pub place : b.place < 16
  pub number : b.number < 2 ^ 32
