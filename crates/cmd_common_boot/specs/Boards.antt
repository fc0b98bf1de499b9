-- What an argument of `--board-id` does to the ramdisk fragments that are packed.
use Rattle.std.specs.Prelude.{◌≡◌, ◌<◌, ℕ, zero, suc, List, [], ◌∷◌, length, set}
use Rattle.abt_sections.specs.declared.spec.FragmentSpec.{FragmentSpec}
use Rattle.cmd_common_fields.specs.Board.{BoardFits, IsBoardWord}
use Rattle.cmd_common_fields.specs.declared.board_word.BoardWord.{BoardWord}

-- this fragment, with number k of its board id
abbrev pub with_place : FragmentSpec → ℕ → ℕ → FragmentSpec
with_place f k n = record { kind = f.kind; name = f.name; board_id = set f.board_id k n }

-- of these fragments, fragment i has number k of its board id, where there is one
abbrev pub with_fragment : List FragmentSpec → ℕ → ℕ → ℕ → List FragmentSpec
with_fragment [] i k n = []
with_fragment (f ∷ fs) zero k n = with_place f k n ∷ fs
with_fragment (f ∷ fs) (suc i) k n = f ∷ with_fragment fs i k n

abbrev pub with_board : List FragmentSpec → BoardWord → List FragmentSpec
with_board fs b = with_fragment fs b.fragment b.place b.number

-- an argument sets one number of these fragments: it has that format, and there is such a fragment
pub record IsSet (word : List ℕ) (old new : List FragmentSpec) : Type 0 where
  pub board : BoardWord
  pub shape : IsBoardWord word board
  pub fits : BoardFits board
  pub there : board.fragment < length old
  pub is : new ≡ with_board old board

-- the arguments set their numbers, one after another
abbrev pub AreSet : List (List ℕ) → List FragmentSpec → List FragmentSpec → Type 0
AreSet [] old new = new ≡ old
AreSet (word ∷ words) old new = (next : List FragmentSpec) × IsSet word old next × AreSet words next new
