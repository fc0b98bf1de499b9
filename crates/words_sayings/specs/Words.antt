-- What words say, by the rows of a table: a function of them. Each word is used once, and none is left.
use Rattle.std.specs.Prelude.{◌-◌, ◌==◌, ◌&&◌, ◌||◌, ℕ, List, [], ◌∷◌, ◌++◌, Bool, true, false, not, nat_le}
use Rattle.std.specs.Prelude.{Option, Some, None, codes, map, take, drop, length, bytes_eq}
use Rattle.std.specs.Prelude.{if◌then◌else◌, option_map, is_some, unwrap_or}
use Rattle.std.specs.List.{filter, find, list_all, list_any, starts_with}
use Rattle.clap.specs.Lexer.{name_and_value, strip_byte}
use Rattle.words_values.specs.declared.rows.Value.{Value}
use Rattle.words_values.specs.declared.rows.Value.TheVariants as values
use Rattle.words_values.specs.declared.rows.WordPlace.{WordPlace}
use Rattle.words_values.specs.declared.rows.WordPlace.TheVariants as places
use Rattle.words_sayings.specs.declared.saying.Said.{Said}
use Rattle.words_sayings.specs.Rows.{Shape, shape_of}

-- ---- what is said

-- a positional word, of no row yet; or the value of an option, or `true` of a flag
pub record Saying : Type 0 where
  pub row : Option Shape
  pub word : List ℕ

abbrev pub by_place : List ℕ → Saying
by_place word = record { row = None; word = word }

abbrev pub of_row : Shape → List ℕ → Saying
of_row row word = record { row = Some row; word = word }

abbrev pub saying : Option Shape → List ℕ → Saying
saying row word = record { row = row; word = word }

abbrev pub saying_of : Said → Saying
saying_of said = saying (option_map (λ row. shape_of row.now) said.row) said.word.now

-- whether a row is a positional word, an option or a flag
abbrev pub is_word : WordPlace → Bool
is_word places.Word = true
is_word places.Words = true
is_word places.LastWords = true
is_word place = false

abbrev pub is_option : WordPlace → Bool
is_option places.Option = true
is_option places.Options = true
is_option place = false

abbrev pub is_flag : WordPlace → Bool
is_flag places.Flag = true
is_flag (places.ShortFlag letter) = true
is_flag place = false

-- ---- what a word looks like

pub data Look : Type 0 where
  -- no option: `-`, or a word that does not begin with a hyphen
  plain : Look
  -- `--`
  stop : Look
  -- `--name`, or `--name=value`: what stands before the first `=`, and what stands after it
  long : List ℕ → Option (List ℕ) → Look
  -- a hyphen and letters
  letters : List ℕ → Look

-- by what follows two hyphens, if two are there; else by what follows one
abbrev pub look_long : List ℕ → Look
look_long [] = stop
look_long (first ∷ rest) = long (name_and_value (first ∷ rest)).0 (name_and_value (first ∷ rest)).1

abbrev pub look_letters : List ℕ → Look
look_letters [] = plain
look_letters (first ∷ rest) = letters (first ∷ rest)

abbrev pub look_behind : List ℕ → Option (List ℕ) → Look
look_behind behind None = look_letters behind
look_behind behind (Some text) = look_long text

abbrev pub look_by : Option (List ℕ) → Look
look_by None = plain
look_by (Some behind) = look_behind behind (strip_byte 45 behind)

abbrev pub look : List ℕ → Look
look word = look_by (strip_byte 45 word)

-- whether it is an option or several: no plain word, and not `--`
abbrev pub looks_optional : Look → Bool
looks_optional plain = false
looks_optional stop = false
looks_optional (long name value) = true
looks_optional (letters text) = true

abbrev pub is_option_word : List ℕ → Bool
is_option_word word = looks_optional (look word)

abbrev pub looks_plain : Look → Bool
looks_plain plain = true
looks_plain stop = false
looks_plain (long name value) = false
looks_plain (letters text) = false

abbrev pub is_plain : List ℕ → Bool
is_plain word = looks_plain (look word)

abbrev pub looks_stop : Look → Bool
looks_stop stop = true
looks_stop plain = false
looks_stop (long name value) = false
looks_stop (letters text) = false

abbrev pub is_stop : List ℕ → Bool
is_stop word = looks_stop (look word)

-- ---- which row is named

-- a prefix of a name, and of no other name of the table
abbrev pub is_only : List ℕ → List ℕ → Shape → Bool
is_only short name row = bytes_eq row.name name || not (starts_with ◌==◌ row.name short)

abbrev pub is_short_of : List Shape → List ℕ → List ℕ → Bool
is_short_of table short name = starts_with ◌==◌ name short
    && list_all (is_only short name) table

-- which names say a row: its own; where names may be abbreviated, also such a prefix
abbrev pub names_row : Bool → List Shape → List ℕ → Shape → Bool
names_row short table said row = bytes_eq said row.name || (short && is_short_of table said row.name)

abbrev pub row_named : Bool → List Shape → List ℕ → Option Shape
row_named short table said = find (names_row short table said) table

-- the row of the flag that a letter stands for
abbrev pub is_letter : ℕ → WordPlace → Bool
is_letter letter (places.ShortFlag own) = own == letter
is_letter letter place = false

abbrev pub flag_of : List Shape → ℕ → Option Shape
flag_of table letter = find (λ row. is_letter letter row.place) table

-- the row of an option whose name is a letter, with which these letters begin
abbrev pub is_lettered : WordPlace → Bool
is_lettered places.Letter = true
is_lettered place = false

abbrev pub begins_with : List ℕ → Shape → Bool
begins_with text row = is_lettered row.place && starts_with ◌==◌ text row.name

abbrev pub lettered_in : List Shape → List ℕ → Option Shape
lettered_in table text = find (begins_with text) table

-- the value behind a letter in its word, of which a first `=` is no part
abbrev pub letter_value : List ℕ → Option (List ℕ)
letter_value [] = None
letter_value (first ∷ rest) = Some (if first == 61 then rest else first ∷ rest)

-- ---- what words say

-- what came before a word: nothing that matters to it; an option that awaits its value; or `--`
pub data Before : Type 0 where
  nothing : Before
  awaiting : Shape → Before
  stopped : Before

-- what a word says, and what is then before the next word; none if it says nothing
pub record Step : Type 0 where
  pub said : List Saying
  pub next : Before

abbrev pub step : List Saying → Before → Option Step
step said next = Some (record { said = said; next = next })

-- a name says its flag, or its option with a value after `=`, or in the next word
abbrev pub row_says : Option Shape → Option (List ℕ) → Option Step
row_says None value = None
row_says (Some row) None =
    if is_flag row.place then step (of_row row (codes "true") ∷ []) nothing
    else if is_option row.place then step [] (awaiting row) else None
row_says (Some row) (Some value) = if is_option row.place then step (of_row row value ∷ []) nothing else None

-- each letter says its flag
abbrev pub flags_with : Option Shape → Option (List Saying) → Option (List Saying)
flags_with None later = None
flags_with (Some row) later = option_map (λ said. of_row row (codes "true") ∷ said) later

abbrev pub flags_said : List Shape → List ℕ → Option (List Saying)
flags_said table [] = Some []
flags_said table (letter ∷ rest) = flags_with (flag_of table letter) (flags_said table rest)

abbrev pub flags_step : Option (List Saying) → Option Step
flags_step None = None
flags_step (Some said) = step said nothing

-- the letter of an option says it with what follows in the word, or with the next word
abbrev pub letter_says : Shape → Option (List ℕ) → Option Step
letter_says row None = step [] (awaiting row)
letter_says row (Some value) = step (of_row row value ∷ []) nothing

abbrev pub letters_say : List Shape → List ℕ → Option Shape → Option Step
letters_say table text None = flags_step (flags_said table text)
letters_say table text (Some row) = letter_says row (letter_value (drop (length row.name) text))

abbrev pub word_says : Bool → List Shape → List ℕ → Look → Option Step
word_says short table word plain = step (by_place word ∷ []) nothing
word_says short table word stop = step [] stopped
word_says short table word (long name value) = row_says (row_named short table name) value
word_says short table word (letters text) = letters_say table text (lettered_in table text)

-- which words may be the value of the option before them: of AOSP's tools any; else a plain word, or any if the option
-- takes a command line
abbrev pub takes_hyphens : Option Value → Bool
takes_hyphens (Some values.CommandLine) = true
takes_hyphens value = false

abbrev pub may_be_value : Bool → Shape → List ℕ → Bool
may_be_value short row word = short || (takes_hyphens row.value || is_plain word)

-- what a word says after what came before it. After `--` each is a positional word.
abbrev pub step_of : Bool → List Shape → Before → List ℕ → Option Step
step_of short table nothing word = word_says short table word (look word)
step_of short table (awaiting row) word =
    if may_be_value short row word then step (of_row row word ∷ []) nothing else None
step_of short table stopped word = step (by_place word ∷ []) stopped

abbrev pub then_says : Option Step → (Before → Option (List Saying)) → Option (List Saying)
then_says None later = None
then_says (Some s) later = option_map (λ said. s.said ++ said) (later s.next)

-- what all of these words say, in turn; none if one says nothing, or the last is an option without its value
abbrev pub says_last : Before → Option (List Saying)
says_last nothing = Some []
says_last (awaiting row) = None
says_last stopped = Some []

abbrev pub says_after : Bool → List Shape → Before → List (List ℕ) → Option (List Saying)
says_after short table before [] = says_last before
says_after short table before (word ∷ rest) =
    then_says (step_of short table before word) (λ next. says_after short table next rest)

-- whether names may be abbreviated
abbrev pub says : Bool → List Shape → List (List ℕ) → Option (List Saying)
says short table words = says_after short table nothing words

-- ---- what is said of a row

abbrev pub is_of_name : List ℕ → Option Shape → Bool
is_of_name name None = false
is_of_name name (Some row) = bytes_eq row.name name

-- the words that are said of the row of this name, in turn
abbrev pub said_words : List ℕ → List Saying → List (List ℕ)
said_words name said = map (λ s. s.word) (filter (λ s. is_of_name name s.row) said)

abbrev pub says_name : List ℕ → List Saying → Bool
says_name name said = not (length (said_words name said) == 0)

-- the positional words, in turn
abbrev pub words_by_place : List Saying → List (List ℕ)
words_by_place said = map (λ s. s.word) (filter (λ s. not (is_some s.row)) said)

-- an option or a flag is said once, unless its row is one that may be said again
abbrev pub is_again : WordPlace → Bool
is_again places.Options = true
is_again place = false

abbrev pub is_once : List Saying → Shape → Bool
is_once said row = is_again row.place || nat_le (length (said_words row.name said)) 1

abbrev pub if_once : List Shape → Option (List Saying) → Option (List Saying)
if_once table None = None
if_once table (Some said) = if list_all (is_once said) table then Some said else None

-- ---- several words for one row

-- whether a table has a row of several words with another behind it
abbrev pub is_several : WordPlace → Bool
is_several places.Words = true
is_several place = false

-- whether an option, or nothing, comes next
abbrev pub ends_run : List (List ℕ) → Bool
ends_run [] = true
ends_run (word ∷ rest) = is_option_word word

-- whether a word is positional, where `--` has come or has not, and whether one comes later; no option has a value here
abbrev pub is_placed : Bool → List ℕ → Bool
is_placed ended word = ended || is_plain word

abbrev pub has_placed : Bool → List (List ℕ) → Bool
has_placed ended [] = false
has_placed ended (word ∷ rest) = is_placed ended word || has_placed (ended || is_stop word) rest

-- A positional word has an option, or nothing, directly behind it exactly if it is the last.
abbrev pub is_either : Bool → Bool → Bool
is_either one other = if one then not other else other

abbrev pub goes_on : Bool → List ℕ → List (List ℕ) → Bool
goes_on ended word rest = not (is_placed ended word) || is_either (ends_run rest) (has_placed ended rest)

-- this is so of each: the positional words stand in one run
abbrev pub is_run : Bool → List (List ℕ) → Bool
is_run ended [] = true
is_run ended (word ∷ rest) = goes_on ended word rest && is_run (ended || is_stop word) rest

abbrev pub is_placed_right : List Shape → List (List ℕ) → Bool
is_placed_right table words = not (list_any (λ row. is_several row.place) table) || is_run false words

-- what words say by whole names, and each option once
abbrev pub words_say : List Shape → List (List ℕ) → Option (List Saying)
words_say table words = if is_placed_right table words then if_once table (says false table words) else None

-- ---- the words for a row

-- how many of this many positional words go to a row: one, all but the last, or all
abbrev pub words_due : WordPlace → ℕ → ℕ
words_due places.Word many = if many == 0 then 0 else 1
words_due places.Words many = many - 1
words_due places.LastWords many = many
words_due place many = 0

-- if nothing is said of an option or a flag: its default, or that it is not given
abbrev pub option_list : Option (List ℕ) → List (List ℕ)
option_list None = []
option_list (Some word) = word ∷ []

abbrev pub default_words : WordPlace → Option (List ℕ) → List (List ℕ)
default_words places.Flag default = codes "false" ∷ []
default_words (places.ShortFlag letter) default = codes "false" ∷ []
default_words place default = option_list default

abbrev pub else_default : List (List ℕ) → List (List ℕ) → List (List ℕ)
else_default [] other = other
else_default (word ∷ words) other = word ∷ words

-- of what is said of an option or a flag the last counts, unless its row is one that may be said again
abbrev pub last_word : List (List ℕ) → Option (List ℕ)
last_word [] = None
last_word (word ∷ words) = Some (unwrap_or (last_word words) word)

abbrev pub counted_words : WordPlace → List (List ℕ) → List (List ℕ)
counted_words place words = if is_again place then words else option_list (last_word words)

-- what is said of an option or a flag, else its default; for a positional row the words that go to it
abbrev pub words_of_row : Shape → List Saying → List (List ℕ) → List (List ℕ)
words_of_row row said placed =
    if is_word row.place then take (words_due row.place (length placed)) placed
    else else_default (counted_words row.place (said_words row.name said)) (default_words row.place row.default)

-- the same for each row of a table, where a positional row gets words that those before it left
abbrev pub answers_due : List Shape → List Saying → List (List ℕ) → List Saying
answers_due [] said placed = []
answers_due (row ∷ rows) said placed = map (of_row row) (words_of_row row said placed)
    ++ answers_due rows said (drop (words_due row.place (length placed)) placed)

-- the positional words that no row has
abbrev pub left_over : List Shape → List (List ℕ) → List (List ℕ)
left_over [] placed = placed
left_over (row ∷ rows) placed = left_over rows (drop (words_due row.place (length placed)) placed)
