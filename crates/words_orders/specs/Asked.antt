-- The order that the answers to the rows of a command's table ask for.
use Rattle.std.specs.Prelude.{◌≡◌, ℕ, ◌++◌, List, [], Bool, true, false, Option, Some, None, map, codes, bytes_eq}
use Rattle.std.specs.Prelude.{unwrap_or, option_map, ◌&&◌, ◌||◌, not, is_some, drop}
use Rattle.std.specs.Prelude.{if◌then◌else◌, nat_lt}
use Rattle.std.specs.List.{after_first, before_first, filter, find, list_all, All, AllZip}
use Rattle.words_orders.specs.declared.answers.Answer.{Answer}
use Rattle.words_orders.specs.declared.completions.Shell.{Shell}
use Rattle.words_orders.specs.declared.completions.Shell.TheVariants as shells
use Rattle.words_orders.specs.declared.order.Order.{Order}
use Rattle.words_orders.specs.declared.order.Task.{Task}
use Rattle.words_orders.specs.declared.order.Task.TheVariants as tasks
use Rattle.words_orders.specs.declared.order.SparseTask.{SparseTask}
use Rattle.words_orders.specs.declared.order.SparseTask.TheVariants as sparse
use Rattle.words_orders.specs.declared.order.BootTask.{BootTask}
use Rattle.words_orders.specs.declared.order.BootTask.TheVariants as boot
use Rattle.words_orders.specs.declared.order.Pieces.{Pieces}
use Rattle.words_orders.specs.declared.order.PackOrder.{PackOrder}
use Rattle.words_orders.specs.declared.order.Given.{Given}
use Rattle.words_orders.specs.declared.rows.Work.{Work}
use Rattle.words_orders.specs.Table.{name_of, option_rows, rows_of, telling_rows, work_of}
use Rattle.words_sayings.specs.Rows.{Shape, shape_of}
use Rattle.words_orders.specs.Reads.{IsReadFor}
use Rattle.words_sayings.specs.Words.{Saying, answers_due, is_option_word, left_over, of_row, says, says_name}
use Rattle.words_sayings.specs.Words.{words_by_place, words_say}

-- whether this is an answer to the row of this name
abbrev pub is_named : List ℕ → Answer → Bool
is_named name a = bytes_eq a.row.now.name.now name

-- its word, and its number where that has 32 bits
abbrev pub answer_word : Option Answer → List ℕ
answer_word None = []
answer_word (Some a) = a.word.now

abbrev pub narrow_number : Option Answer → Option ℕ
narrow_number None = None
narrow_number (Some a) = if nat_lt a.number 4294967296 then Some a.number else None

-- the first answer of this name, its word and its number
abbrev pub answer_named : List ℕ → List Answer → Option Answer
answer_named name all = find (is_named name) all

abbrev pub word_named : List ℕ → List Answer → List ℕ
word_named name all = answer_word (answer_named name all)

abbrev pub number_named : List ℕ → List Answer → Option ℕ
number_named name all = narrow_number (answer_named name all)

-- whether the flag of this name was given
abbrev pub flag_named : List ℕ → List Answer → Bool
flag_named name all = bytes_eq (word_named name all) (codes "true")

-- the words of all answers of this name, in order
abbrev pub words_named : List ℕ → List Answer → List (List ℕ)
words_named name all = map (λ a. a.word.now) (filter (is_named name) all)

-- its number; 0, where there is none
abbrev pub answer_number : Option Answer → ℕ
answer_number None = 0
answer_number (Some a) = a.number

-- what the option of a row was given: the word and the number of the first answer of its name, or none and 0
pub record IsGiven (all : List Answer) (row : Shape) (given : Given) : Type 0 where
  pub is : shape_of given.row.now ≡ row
  pub word : option_map (λ s. s.now) given.word ≡ option_map (λ a. a.word.now) (answer_named row.name all)
  pub number : given.number ≡ answer_number (answer_named row.name all)

-- ---- what they ask for

-- LIMIT, SPOOL and --from; without SPOOL the image is flashed whole
abbrev pub AsksPieces : List Answer → Option Pieces → Type 0
AsksPieces all None = is_some (answer_named (codes "SPOOL") all) ≡ false
AsksPieces all (Some p) = (p.limit ≡ unwrap_or (number_named (codes "LIMIT") all) 0)
    × (p.spool.now ≡ word_named (codes "SPOOL") all) × (p.from ≡ unwrap_or (number_named (codes "from") all) 1)

abbrev pub AsksSparse : List Answer → SparseTask → Type 0
AsksSparse all (sparse.Expand inputs output) = (map (λ s. s.now) inputs.items ≡ words_named (codes "IN") all)
    × (output.now ≡ word_named (codes "OUT") all)
AsksSparse all (sparse.List input) = input.now ≡ word_named (codes "IN") all
AsksSparse all (sparse.Sparse input output block tail) = (input.now ≡ word_named (codes "IN") all)
    × (output.now ≡ word_named (codes "OUT") all) × (block ≡ unwrap_or (number_named (codes "block") all) 0)
    × (tail ≡ false)
AsksSparse all (sparse.Cut input limit prefix from_zero raw) = (input.now ≡ word_named (codes "IN") all)
    × (limit ≡ unwrap_or (number_named (codes "LIMIT") all) 0) × (prefix.now ≡ word_named (codes "PREFIX") all)
    × (from_zero ≡ false) × (raw ≡ number_named (codes "raw") all)
AsksSparse all (sparse.Flash input partition raw pieces) = (input.now ≡ word_named (codes "IN") all)
    × (partition.now ≡ word_named (codes "PARTITION") all) × (raw ≡ number_named (codes "raw") all)
    × AsksPieces all pieces
AsksSparse all (sparse.Verify input partition raw) = (input.now ≡ word_named (codes "IN") all)
    × (partition.now ≡ word_named (codes "PARTITION") all) × (raw ≡ number_named (codes "raw") all)

-- OUT, the kind and the version, what each option of the table was given, in its order, and the ramdisk fragments:
-- those of --fragment, followed by those after OUT
pub record AsksPack (all : List Answer) (order : PackOrder) : Type 0 where
  pub output : order.output.now ≡ word_named (codes "OUT") all
  pub vendor : order.is_vendor ≡ flag_named (codes "vendor") all
  pub version : order.version ≡ unwrap_or (number_named (codes "version") all) 0
  pub page : order.page ≡ number_named (codes "page") all
  pub given : AllZip (IsGiven all) option_rows order.given.items
  pub board_ids : map (λ s. s.now) order.board_ids.items ≡ words_named (codes "board-id") all
  pub fragments : map (λ s. s.now) order.fragments.items
      ≡ words_named (codes "fragment") all ++ words_named (codes "FRAGMENT") all
  pub trailing : order.keeps_trailing ≡ flag_named (codes "keep-trailing") all
  pub escaped : order.is_escaped ≡ flag_named (codes "escaped") all
  pub front : order.is_front_ended ≡ false

abbrev pub AsksBoot : List Answer → BootTask → Type 0
AsksBoot all (boot.Pack order) = AsksPack all order
AsksBoot all (boot.Repack input order) = (input.now ≡ word_named (codes "IN") all) × AsksPack all order
AsksBoot all (boot.Unpack input folder with_words) = (input.now ≡ word_named (codes "IN") all)
    × (folder.now ≡ word_named (codes "DIR") all) × (with_words ≡ flag_named (codes "words") all)
AsksBoot all (boot.Info input with_check with_hex) = (input.now ≡ word_named (codes "IN") all)
    × (with_check ≡ flag_named (codes "check") all) × (with_hex ≡ flag_named (codes "hex") all)

abbrev pub shell_named : List ℕ → Shell
shell_named name =
    if bytes_eq name (codes "zsh") then shells.Zsh
    else if bytes_eq name (codes "fish") then shells.Fish else shells.Bash

abbrev pub Asks : List Answer → Task → Type 0
Asks all (tasks.Sparse task) = AsksSparse all task
Asks all (tasks.Boot task) = AsksBoot all task
Asks all (tasks.Completions shell) = shell ≡ shell_named (word_named (codes "SHELL") all)

-- ---- an order

-- a row that must have an answer has one, with the row that it needs, and without the one that it excludes
abbrev pub has_needed : List Saying → Option (List ℕ) → Bool
has_needed due None = true
has_needed due (Some other) = says_name other due

abbrev pub has_excluded : List Saying → Option (List ℕ) → Bool
has_excluded due None = false
has_excluded due (Some other) = says_name other due

abbrev pub is_enough : List Saying → Shape → Bool
is_enough due row =
    if says_name row.name due then has_needed due row.needs && not (has_excluded due row.excludes)
    else not row.required

abbrev pub saying_of_answer : Answer → Saying
saying_of_answer a = of_row (shape_of a.row.now) a.word.now

abbrev pub IsReadRight : Answer → Type 0
IsReadRight a = IsReadFor (shape_of a.row.now) a.word.now a.number

-- the answers are what is said of each row, else its default; no word is left, and each number is the one that its word
-- encodes
pub record AreAnswers (table : List Shape) (said : List Saying) (all : List Answer) : Type 0 where
  pub are : map saying_of_answer all ≡ answers_due table said (words_by_place said)
  pub none_left : left_over table (words_by_place said) ≡ []
  pub read : All IsReadRight all
  pub enough : list_all (is_enough (map saying_of_answer all)) table ≡ true

-- the answers of these words, where names may be abbreviated: each word is used once
pub record AreAnswersOf (table : List Shape) (words : List (List ℕ)) (all : List Answer) : Type 0 where
  pub said : List Saying
  pub says_these : says true table words ≡ Some said
  pub answers : AreAnswers table said all

-- the command is the first word after the program's name that is no option; the words before it, and those behind it
abbrev pub is_command_word : List ℕ → Bool
is_command_word word = not (is_option_word word)

abbrev pub command_in : List (List ℕ) → Option (List ℕ)
command_in words = find is_command_word (drop 1 words)

abbrev pub words_before : List (List ℕ) → List (List ℕ)
words_before words = before_first is_command_word (drop 1 words)

abbrev pub words_behind : List (List ℕ) → List (List ℕ)
words_behind words = after_first is_command_word (drop 1 words)

-- the words, with a command and its name, those before it and those behind it
pub record IsSplit (words : List (List ℕ)) (name : List ℕ) (work : Work) (front behind : List (List ℕ)) : Type 0 where
  pub named : command_in words ≡ Some name
  pub name_is : name ≡ name_of work
  pub front_is : front ≡ words_before words
  pub behind_is : behind ≡ words_behind words

-- the words ask for it: each of them is used once, and what they answer to the rows of the command asks for its task
pub record IsOrderOf (words : List (List ℕ)) (order : Order) : Type 0 where
  pub named : command_in words ≡ Some (name_of (work_of order.task))
  pub command : order.command.now ≡ name_of (work_of order.task)
  -- what is said before the command
  pub before : List Saying
  pub first : words_say telling_rows (words_before words) ≡ Some before
  -- what is said behind it, and the answers
  pub said : List Saying
  pub reads : words_say (rows_of (work_of order.task)) (words_behind words) ≡ Some said
  pub all : List Answer
  pub answers : AreAnswers (rows_of (work_of order.task)) said all
  pub asks : Asks all order.task
  pub verbose : order.is_verbose ≡ (says_name (codes "verbose") before || says_name (codes "verbose") said)
  pub quiet : order.is_quiet ≡ (says_name (codes "quiet") before || says_name (codes "quiet") said)
  pub synced : order.is_synced ≡ says_name (codes "sync") said
  pub mounted : order.is_mounted_allowed ≡ says_name (codes "mounted") said

-- the words ask for no order
abbrev pub AskForNone : List (List ℕ) → Type 0
AskForNone words = (order : Order) → IsOrderOf words order → ⊥
