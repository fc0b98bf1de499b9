-- Which arguments of `--board-id` are wrong.
use Rattle.std.specs.Prelude.{◌<◌, ℕ, List, Contains}
use Rattle.cmd_common_fields.specs.Board.{BoardFits, IsBoardWord}
use Rattle.cmd_common_fields.specs.declared.board_word.BoardWord.{BoardWord}
use Rattle.cmd_common_boot.specs.declared.fault.BootCommandFault.{BootCommandFault}
use Rattle.cmd_common_boot.specs.declared.fault.BootCommandFault.TheVariants as faults

-- one of these arguments is no argument of `--board-id`, or its fragment is none of this many
pub record IsBadBoardId (words : List (List ℕ)) (count : ℕ) (word : List ℕ) : Type 0 where
  pub is_one : Contains words word
  pub sets_none : (b : BoardWord) → IsBoardWord word b → BoardFits b → b.fragment < count → ⊥

abbrev pub IsBadBoard : List (List ℕ) → ℕ → BootCommandFault → Type 0
IsBadBoard words count (faults.BadBoardId word) = IsBadBoardId words count word.now
IsBadBoard words count (faults.Host f) = ⊥
IsBadBoard words count (faults.Section f) = ⊥
IsBadBoard words count (faults.OptionNotCarried name) = ⊥
IsBadBoard words count (faults.BadFragment word) = ⊥
IsBadBoard words count (faults.BadNumber word) = ⊥
IsBadBoard words count faults.CheckFailed = ⊥
