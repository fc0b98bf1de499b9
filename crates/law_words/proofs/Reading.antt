-- What the words of an image say of the rows of `pack`.
use Rattle.std.proofs.Common.{inl, inr, rules, ◌≡◌, ℕ, ◌&&◌, ◌||◌, not, Bool, true, false, cond, List, [], ◌∷◌, ◌++◌}
use Rattle.std.proofs.Common.{Option, Some, None, codes, map, bytes_eq, refl, sym, ap, ◌∙◌}
use Rattle.std.specs.Prelude.{is_some, option_map, unwrap_or}
use Rattle.std.specs.List.{AllByRecursion, filter}
use Rattle.std.proofs.lemmas.Bool.{cases_Bool, true≢false}
use Rattle.std.proofs.lemmas.Slice.Eq.{bytes_eq-Decides}
use Rattle.cmd_common_texts.specs.Words.{flag_word, option_front}
use Rattle.law_boot.specs.Said.{is_said, is_whole, values_of, with_value, without_front}
use Rattle.words_orders.specs.Table.{rows_of}
use Rattle.words_sayings.specs.Rows.{Shape}
use Rattle.words_sayings.specs.Words.{Saying, is_of_name, of_row, nothing, said_words, says_after, step, step_of}
use Rattle.words_sayings.specs.Words.{last_word, then_says, words_by_place}
use Rattle.words_orders.specs.declared.rows.Work.TheVariants as works
use Rattle.law_words.proofs.Values.{has_no_mark, no_value_behind, no_whole_name, value_behind, whole_name}

-- ---- a word `--NAME=VALUE` or `--NAME`

abbrev pub pack_rows : List Shape
pack_rows = rows_of works.Pack

-- the flags that these words may have
abbrev pub is_flag_name : List ℕ → Bool
is_flag_name name = bytes_eq name (codes "escaped") || bytes_eq name (codes "vendor")

abbrev pub written : List ℕ → Option (List ℕ) → List ℕ
written name None = flag_word name
written name (Some value) = codes "--" ++ (name ++ (61 ∷ value))

-- what a word gives its row
abbrev pub given_word : Option (List ℕ) → List ℕ
given_word None = codes "true"
given_word (Some value) = value

-- it is of a row of the table, and says it
pub record IsPackWord (word : List ℕ) : Type 0 where
  pub row : Shape
  pub value : Option (List ℕ)
  pub is : word ≡ written row.name value
  pub unmarked : has_no_mark row.name ≡ true
  pub kind : is_flag_name row.name ≡ not (is_some value)
  pub says : step_of false pack_rows nothing word ≡ step (of_row row (given_word value) ∷ []) nothing

abbrev pub ArePackWords : List (List ℕ) → Type 0
ArePackWords words = AllByRecursion IsPackWord words

-- ---- what all of them say, before others

-- the words of a flag: one for each time that it is said
abbrev pub times_said : List ℕ → List (List ℕ) → List (List ℕ)
times_said name [] = []
times_said name (word ∷ words) =
    cond (is_whole (without_front (flag_word name) word)) (codes "true" ∷ times_said name words) (times_said name words)

pub record SaysBefore (words : List (List ℕ)) (said later : List Saying) : Type 0 where
  pub placed : words_by_place said ≡ words_by_place later
  pub values : (name : List ℕ) → has_no_mark name ≡ true → is_flag_name name ≡ false
      → said_words name said ≡ values_of name words ++ said_words name later
  pub flags : (name : List ℕ) → has_no_mark name ≡ true → is_flag_name name ≡ true
      → said_words name said ≡ times_said name words ++ said_words name later

same_flag : (name own : List ℕ) (t u : Bool) → is_flag_name own ≡ t → is_flag_name name ≡ u → (t && u) ≡ false
    → (t || u) ≡ true → bytes_eq own name ≡ false
same_flag name own t u e f both one = elim (cases_Bool (bytes_eq own name)) [
  | inl s ↦
      let same : own ≡ name = (bytes_eq-Decides own name).0 s in
      let g : t ≡ u = sym e ∙ ap is_flag_name same ∙ f in
      absurd (clash t u g both one)
  | inr s ↦ s
]
  where
    clash : (t u : Bool) → t ≡ u → (t && u) ≡ false → (t || u) ≡ true → ⊥
    clash true u g both one = true≢false (g ∙ both)
    clash false u g both one = true≢false (sym one ∙ sym g)

-- what a word has of an option, and of a flag
value_in : (name : List ℕ) (row : Shape) (value : Option (List ℕ)) → has_no_mark name ≡ true
    → has_no_mark row.name ≡ true → is_flag_name row.name ≡ not (is_some value) → is_flag_name name ≡ false
    → without_front (option_front name) (written row.name value)
    ≡ cond (bytes_eq row.name name) (Some (given_word value)) None
value_in name row (Some value) h k kind other = value_behind name row.name value h k
value_in name row None h k kind other =
    no_value_behind name row.name k ∙ sym (ap (λ t. cond t (Some (codes "true")) None)
    (same_flag name row.name true false kind other refl refl))

flag_in : (name : List ℕ) (row : Shape) (value : Option (List ℕ)) → has_no_mark name ≡ true
    → has_no_mark row.name ≡ true → is_flag_name row.name ≡ not (is_some value) → is_flag_name name ≡ true
    → is_whole (without_front (flag_word name) (written row.name value)) ≡ bytes_eq row.name name
flag_in name row None h k kind own = whole_name name row.name
flag_in name row (Some value) h k kind own =
    no_whole_name name row.name value h ∙ sym (same_flag name row.name false true kind own refl refl)

flag_gives_true : (value : Option (List ℕ)) (row : Shape) (name : List ℕ) → is_flag_name row.name ≡ not (is_some value)
    → bytes_eq row.name name ≡ true → is_flag_name name ≡ true → given_word value ≡ codes "true"
flag_gives_true None row name kind same own = refl
flag_gives_true (Some value) row name kind same own =
    absurd (true≢false (sym own ∙ sym (ap is_flag_name ((bytes_eq-Decides row.name name).0 same)) ∙ kind))

-- one saying more
said_more : (name : List ℕ) (row : Shape) (word : List ℕ) (said : List Saying)
    → said_words name (of_row row word ∷ said)
    ≡ cond (bytes_eq row.name name) (word ∷ said_words name said) (said_words name said)
said_more name row word said =
    let rest = filter (λ s. is_of_name name s.row) said in
    elim (cases_Bool (bytes_eq row.name name)) [
      | inl e ↦
          ap (λ t. map (λ s. s.word) (cond t (of_row row word ∷ rest) rest)) e
          ∙ sym (ap (λ t. cond t (word ∷ said_words name said) (said_words name said)) e)
      | inr e ↦
          ap (λ t. map (λ s. s.word) (cond t (of_row row word ∷ rest) rest)) e
          ∙ sym (ap (λ t. cond t (word ∷ said_words name said) (said_words name said)) e)
    ]

one_value : (t : Bool) (word : List ℕ) (words later : List (List ℕ))
    → cond t (word ∷ (words ++ later)) (words ++ later) ≡ with_value (cond t (Some word) None) words ++ later
one_value true word words later = refl
one_value false word words later = refl

one_flag : (t : Bool) (word : List ℕ) (words later : List (List ℕ)) → (t ≡ true → word ≡ codes "true")
    → cond t (word ∷ (words ++ later)) (words ++ later) ≡ cond t (codes "true" ∷ words) words ++ later
one_flag true word words later h = ap (λ w. w ∷ (words ++ later)) (h refl)
one_flag false word words later h = refl

module _ (word : List ℕ) (w : IsPackWord word) (words : List (List ℕ)) (said before later : List Saying)
    (is : before ≡ of_row w.row (given_word w.value) ∷ said) (s : SaysBefore words said later) where
  values_more : (name : List ℕ) → has_no_mark name ≡ true → is_flag_name name ≡ false
      → said_words name before ≡ values_of name (word ∷ words) ++ said_words name later
  values_more name h other =
      let given = given_word w.value in
      let t = bytes_eq w.row.name name in
      let behind : without_front (option_front name) word ≡ cond t (Some given) None =
      ap (without_front (option_front name)) w.is ∙ value_in name w.row w.value h w.unmarked w.kind other in
      ap (said_words name) is ∙ said_more name w.row given said
      ∙ ap (λ l. cond t (given ∷ l) l) (s.values name h other)
      ∙ one_value t given (values_of name words) (said_words name later)
      ∙ sym (ap (λ o. with_value o (values_of name words) ++ said_words name later) behind)

  flags_more : (name : List ℕ) → has_no_mark name ≡ true → is_flag_name name ≡ true
      → said_words name before ≡ times_said name (word ∷ words) ++ said_words name later
  flags_more name h own =
      let given = given_word w.value in
      let t = bytes_eq w.row.name name in
      let behind : is_whole (without_front (flag_word name) word) ≡ t =
      ap (λ x. is_whole (without_front (flag_word name) x)) w.is ∙ flag_in name w.row w.value h w.unmarked w.kind own in
      ap (said_words name) is ∙ said_more name w.row given said
      ∙ ap (λ l. cond t (given ∷ l) l) (s.flags name h own)
      ∙ one_flag t given (times_said name words) (said_words name later)
      (λ same. flag_gives_true w.value w.row name w.kind same own)
      ∙ sym (ap (λ b. cond b (codes "true" ∷ times_said name words) (times_said name words)
      ++ said_words name later) behind)

  one_more : SaysBefore (word ∷ words) before later
  one_more = record { placed = ap words_by_place is ∙ s.placed; values = values_more; flags = flags_more }

-- what a function of something is, is one of it
pub mapped : {X Y : Type 0} (f : X → Y) (o : Option X) (y : Y) → option_map f o ≡ Some y
    → (x : X) × (o ≡ Some x) × (y ≡ f x)
mapped f None y e = absurd (search (rules, e))
mapped f (Some x) y e = (x, refl, ap (λ o. unwrap_or o y) (sym e))

pub says_before : (words rest : List (List ℕ)) → ArePackWords words → (said : List Saying)
    → says_after false pack_rows nothing (words ++ rest) ≡ Some said
    → (later : List Saying) × (says_after false pack_rows nothing rest ≡ Some later) × SaysBefore words said later
says_before [] rest a said e =
    (said, e, record { placed = refl; values = λ name h other. refl; flags = λ name h own. refl })
says_before (word ∷ words) rest a said e =
    let w = a.0 in
    let next = says_after false pack_rows nothing (words ++ rest) in
    let m = mapped (λ l. of_row w.row (given_word w.value) ∷ l) next said
    (sym (ap (λ s. then_says s (λ b. says_after false pack_rows b (words ++ rest))) w.says) ∙ e) in
    let r = says_before words rest a.1 m.0 m.1 in
    (r.0, r.1, one_more word w words m.0 said r.0 m.2 r.2)

-- ---- flags

pub flag_is_said : (name : List ℕ) (words : List (List ℕ))
    → last_word (times_said name words) ≡ cond (is_said name words) (Some (codes "true")) None
flag_is_said name [] = refl
flag_is_said name (word ∷ words) =
    one (is_whole (without_front (flag_word name) word)) (is_said name words) (times_said name words)
    (flag_is_said name words)
  where
    one : (t u : Bool) (l : List (List ℕ)) → last_word l ≡ cond u (Some (codes "true")) None
        → last_word (cond t (codes "true" ∷ l) l) ≡ cond (t || u) (Some (codes "true")) None
    one false u l e = e
    one true true l e = ap (λ o. Some (unwrap_or o (codes "true"))) e
    one true false l e = ap (λ o. Some (unwrap_or o (codes "true"))) e
