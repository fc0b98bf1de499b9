-- The words of a block.
use Rattle.std.specs.Prelude.{ℕ, Bool, ◌/◌, List, length, take, bytes_eq, Option, Some, None, if◌then◌else◌}
use Rattle.std.specs.List.{list_all}
use Rattle.abt_sparse.specs.Block.{split}
use Rattle.abt_runs.specs.declared.part.RunKind.{RunKind}
use Rattle.abt_runs.specs.declared.part.RunKind.TheVariants as kinds

-- the first word, if all are equal to it
abbrev pub word_of : List ℕ → Option (List ℕ)
word_of bytes =
    if list_all (bytes_eq (take 4 bytes)) (split 4 (length bytes / 4) bytes) then Some (take 4 bytes) else None

-- what a block is whose words are so
abbrev pub kind_of_word : Option (List ℕ) → RunKind
kind_of_word (Some w) = kinds.Fill w
kind_of_word None = kinds.Raw

-- the first n words are all w
abbrev pub all_words : List ℕ → ℕ → List ℕ → Bool
all_words w n bytes = list_all (bytes_eq w) (split 4 n bytes)
