-- The words of ramdisk fragments, separated from the others, and what they ask for. They are in groups: each ends with
-- the fragment's file.
use Rattle.std.specs.Prelude.{◌≡◌, ◌⊎◌, ◌+◌, ◌||◌, ℕ, List, [], ◌∷◌, ◌++◌, Bool, not, Option, Some, None, codes}
use Rattle.std.specs.Borrow.{Bor}
use Rattle.std.specs.Prelude.{option_map}
use Rattle.std.specs.Prelude.{Contains, IsTrue, bytes_eq, if◌then◌else◌}
use Rattle.std.specs.Str.{str_eq_ignore_ascii_case}
use Rattle.words_values.specs.AospNumber.{python_number}
use Rattle.words_values.specs.NumberWord.{IsDigits, IsRead}
use Rattle.words_values.specs.declared.rows.WordPlace.TheVariants as places
use Rattle.words_values.specs.declared.rows.Row.{Row}
use Rattle.words_values.specs.declared.rows.Value.TheVariants as values
use Rattle.words_orders.specs.declared.answers.Answer.{Answer}
use Rattle.words_orders.specs.Table.{part, row}
use Rattle.words_sayings.specs.Rows.{Shape, shape_of}
use Rattle.words_tools.specs.declared.fragments.WordKind.{WordKind}
use Rattle.words_tools.specs.declared.fragments.WordKind.TheVariants as kinds
use Rattle.words_tools.specs.declared.groups.Group.{Group}
use Rattle.words_sayings.specs.Words.{is_short_of}

-- ---- their table

abbrev pub board : List ℕ → Shape
board name = row places.Option values.PythonNumber name

abbrev pub fragment_rows : List Shape
fragment_rows =
    row places.Option values.Text (codes "ramdisk_type") ∷ row places.Option values.Text (codes "ramdisk_name")
    ∷ part (codes "vendor_ramdisk_fragment")
    ∷ board (codes "board_id0") ∷ board (codes "board_id1") ∷ board (codes "board_id2") ∷ board (codes "board_id3")
    ∷ board (codes "board_id4") ∷ board (codes "board_id5") ∷ board (codes "board_id6") ∷ board (codes "board_id7")
    ∷ board (codes "board_id8") ∷ board (codes "board_id9") ∷ board (codes "board_id10") ∷ board (codes "board_id11")
    ∷ board (codes "board_id12") ∷ board (codes "board_id13") ∷ board (codes "board_id14") ∷ board (codes "board_id15")
    ∷ []

-- ---- the words, separated

-- a name of the table, or a prefix of it and of no other
abbrev pub IsNameOf : List ℕ → List ℕ → Type 0
IsNameOf short name = (short ≡ name) ⊎ IsTrue (is_short_of fragment_rows short name)

-- the answer of a word to a row
pub record IsAnswerTo (row : Row) (word : List ℕ) (a : Answer) : Type 0 where
  pub same_row : a.row.now ≡ row
  pub same_word : a.word.now ≡ word
  pub read : IsRead row.value word a.number

-- an answer to a row of the table, said by this name
pub record IsSaidOf (short : List ℕ) (a : Answer) : Type 0 where
  pub named : IsNameOf short a.row.now.name.now
  pub row : Contains fragment_rows (shape_of a.row.now)
  pub read : IsRead a.row.now.value a.word.now a.number

-- what a word is: an option with its value, or before it; or no option of fragments
abbrev pub SaysOption : List ℕ → WordKind → Type 0
SaysOption word kinds.Other = Unit {0}
SaysOption word (kinds.WithEquals r value) = (short : List ℕ) × (word ≡ codes "--" ++ (short ++ (61 ∷ value.now)))
    × IsNameOf short r.now.name.now × Contains fragment_rows (shape_of r.now)
SaysOption word (kinds.WithNext r) = (short : List ℕ) × (word ≡ codes "--" ++ short)
    × IsNameOf short r.now.name.now × Contains fragment_rows (shape_of r.now)

-- what those words say, in their order, and the others
pub data AreParted : List (List ℕ) → List Answer → List (List ℕ) → Type 0 where
  none : AreParted [] [] []
  other : (word : List ℕ) (words others : List (List ℕ)) (said : List Answer) → AreParted words said others
      → AreParted (word ∷ words) said (word ∷ others)
  with_equals : (short : List ℕ) (a : Answer) (words others : List (List ℕ)) (said : List Answer) → IsSaidOf short a
      → AreParted words said others
      → AreParted ((codes "--" ++ (short ++ (61 ∷ a.word.now))) ∷ words) (a ∷ said) others
  with_next : (short : List ℕ) (a : Answer) (words others : List (List ℕ)) (said : List Answer) → IsSaidOf short a
      → AreParted words said others
      → AreParted ((codes "--" ++ short) ∷ (a.word.now ∷ words)) (a ∷ said) others

-- words whose last is an option that has its value in the next one
pub record AwaitsValue (words : List (List ℕ)) (said : List Answer) (others : List (List ℕ)) (awaited : Row) : Type 0
  where
    pub front : List (List ℕ)
    pub short : List ℕ
    pub last : words ≡ front ++ ((codes "--" ++ short) ∷ [])
    pub named : IsNameOf short awaited.name.now
    pub row_in : Contains fragment_rows (shape_of awaited)
    pub parted : AreParted front said others

-- the same of words of which such an option may be the last
abbrev pub AreParting : List (List ℕ) → List Answer → List (List ℕ) → Option (Bor Row) → Type 0
AreParting words said others None = AreParted words said others
AreParting words said others (Some awaited) = AwaitsValue words said others awaited.now

-- ---- groups

abbrev pub is_of : List ℕ → Answer → Bool
is_of name a = bytes_eq a.row.now.name.now name

abbrev pub is_file_word : Answer → Bool
is_file_word a = is_of (codes "vendor_ramdisk_fragment") a

-- the number of a type: of a name, in small letters or large ones, or as Python reads it
abbrev pub ramdisk_type : List ℕ → Option ℕ
ramdisk_type word =
    if str_eq_ignore_ascii_case word (codes "none") then Some 0
    else if str_eq_ignore_ascii_case word (codes "platform") then Some 1
    else if str_eq_ignore_ascii_case word (codes "recovery") then Some 2
    else if str_eq_ignore_ascii_case word (codes "dlkm") then Some 3 else python_number word

-- what was said of a fragment: its type, and its name
pub record GroupSaid : Type 0 where
  pub kind : Option ℕ
  pub name : Option (List ℕ)

abbrev pub group_said : Option ℕ → Option (List ℕ) → GroupSaid
group_said kind name = record { kind = kind; name = name }

-- nothing yet, which is the type none
abbrev pub no_group : GroupSaid
no_group = group_said (Some 0) None

-- that of `--vendor_ramdisk`, of the platform and without a name
abbrev pub platform_group : GroupSaid
platform_group = group_said (Some 1) (Some [])

abbrev pub group_of : Group → GroupSaid
group_of g = group_said g.kind (option_map (λ s. s.now) g.name)

abbrev pub group_with : GroupSaid → Answer → GroupSaid
group_with g a =
    if is_of (codes "ramdisk_type") a then group_said (ramdisk_type a.word.now) g.name
    else if is_of (codes "ramdisk_name") a then group_said g.kind (Some a.word.now) else g

-- a fragment that is asked for: its group, and the path of its file
pub record FragmentSaid : Type 0 where
  pub group : GroupSaid
  pub path : List ℕ

abbrev pub fragment_said : GroupSaid → List ℕ → FragmentSaid
fragment_said group path = record { group = group; path = path }

abbrev pub of_platform : Option Answer → List FragmentSaid
of_platform None = []
of_platform (Some a) = fragment_said platform_group a.word.now ∷ []

-- the fragment that an answer ends
abbrev pub ended_by : GroupSaid → Answer → List FragmentSaid
ended_by g a = if is_file_word a then fragment_said g a.word.now ∷ [] else []

abbrev pub group_behind : GroupSaid → Answer → GroupSaid
group_behind g a = if is_file_word a then no_group else group_with g a

-- those of groups that begin with this one
abbrev pub fragments_said : GroupSaid → List Answer → List FragmentSaid
fragments_said g [] = []
fragments_said g (a ∷ said) = ended_by g a ++ fragments_said (group_behind g a) said

-- ---- board ids

-- an answer, and the place of its fragment, counted from 0
pub record BoardSaid : Type 0 where
  pub fragment : ℕ
  pub answer : Answer

abbrev pub board_said : ℕ → Answer → BoardSaid
board_said fragment answer = record { fragment = fragment; answer = answer }

abbrev pub is_board : Answer → Bool
is_board a = not (is_file_word a || (is_of (codes "ramdisk_type") a || is_of (codes "ramdisk_name") a))

abbrev pub board_by : ℕ → Answer → List BoardSaid
board_by n a = if is_board a then board_said n a ∷ [] else []

abbrev pub count_behind : ℕ → Answer → ℕ
count_behind n a = if is_file_word a then n + 1 else n

abbrev pub boards_said : ℕ → List Answer → List BoardSaid
boards_said n [] = []
boards_said n (a ∷ said) = board_by n a ++ boards_said (count_behind n a) said

-- ---- as words of `pack`

-- the word TYPE:NAME:FILE of a fragment, whose type is written as a number
pub record IsSpelledFragment (kind : ℕ) (name path text : List ℕ) : Type 0 where
  pub digits : List ℕ
  pub numbered : IsDigits 10 digits kind
  pub parts : text ≡ digits ++ (58 ∷ (name ++ (58 ∷ path)))

pub record IsFragmentText (f : FragmentSaid) (text : List ℕ) : Type 0 where
  pub kind : ℕ
  pub name : List ℕ
  pub typed : f.group.kind ≡ Some kind
  pub named : f.group.name ≡ Some name
  pub says : IsSpelledFragment kind name f.path text

-- the word I:K=N of a number of a board id
pub record IsSpelledBoard (fragment : ℕ) (place : List ℕ) (number : ℕ) (text : List ℕ) : Type 0 where
  pub counted : List ℕ
  pub digits : List ℕ
  pub is_fragment : IsDigits 10 counted fragment
  pub is_number : IsDigits 10 digits number
  pub parts : text ≡ counted ++ (58 ∷ (place ++ (61 ∷ digits)))

pub record IsBoardText (b : BoardSaid) (text : List ℕ) : Type 0 where
  pub place : List ℕ
  pub placed : b.answer.row.now.name.now ≡ codes "board_id" ++ place
  pub says : IsSpelledBoard b.fragment place b.answer.number text
