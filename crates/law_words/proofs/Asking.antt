-- The answers of an order whose words are those of an image and OUT: they are what these words say.
use Rattle.std.proofs.Common.{inl, inr, rules, ◌≡◌, ℕ, nat_le, ◌||◌, Bool, true, false, cond, take, List, [], ◌∷◌, ◌++◌}
use Rattle.std.proofs.Common.{map, Option, Some, None, codes, bytes_eq, length, refl, sym, ap, subst, ◌∙◌, append-nil}
use Rattle.std.specs.Prelude.{option_map, unwrap_or}
use Rattle.std.specs.List.{All, AllByRecursion, find, list_all}
use Rattle.std.proofs.lemmas.Bool.{cases_Bool, true≢false}
use Rattle.words_values.specs.declared.rows.WordPlace.{WordPlace}
use Rattle.words_values.specs.declared.rows.WordPlace.TheVariants as places
use Rattle.words_values.specs.declared.rows.Value.TheVariants as values
use Rattle.words_orders.specs.declared.answers.Answer.{Answer}
use Rattle.words_orders.specs.Asked.{IsReadRight, answer_named, answer_word, flag_named, saying_of_answer, word_named}
use Rattle.words_orders.specs.Asked.{words_named}
use Rattle.words_orders.specs.Table.{excludes, flag, number, option_rows, part, row}
use Rattle.words_sayings.specs.Rows.{Shape}
use Rattle.words_sayings.specs.Words.{Look, Saying, answers_due, by_place, counted_words, default_words, else_default}
use Rattle.words_sayings.specs.Words.{if_once, is_again, is_once, is_placed_right, is_plain, is_word, last_word}
use Rattle.words_sayings.specs.Words.{letters, long, look, looks_plain, nothing, of_row, option_list, plain, said_words}
use Rattle.words_sayings.specs.Words.{says}
use Rattle.words_sayings.specs.Words.{says_after, stop, then_says, word_says, words_due, words_of_row, words_say}
use Rattle.law_boot.specs.Said.{is_said, values_of}
use Rattle.law_words.proofs.Command.{also, AnswersSay, OptionSaid, page_row, version_row}
use Rattle.law_words.proofs.Due.{Answered, answered, first_found, found_passes, one_or_none, sayings_for, word_of}
use Rattle.law_words.proofs.Due.{words_for}
use Rattle.law_words.proofs.Reading.{SaysBefore, flag_is_said, is_flag_name, mapped, pack_rows, times_said}
use Rattle.law_words.proofs.Values.{first, has_no_mark}

-- ---- what is said, where something is

of_some : {X : Type 0} (x y : X) → Some x ≡ Some y → x ≡ y
of_some x y e = ap (λ o. unwrap_or o x) e

said_by : (t : Bool) (o : Option (List Saying)) (said : List Saying) → cond t o None ≡ Some said → o ≡ Some said
said_by true o said e = e
said_by false o said e = absurd (search (rules, e))

said_once : (table : List Shape) (o : Option (List Saying)) (said : List Saying) → if_once table o ≡ Some said
    → (o ≡ Some said) × (list_all (is_once said) table ≡ true)
said_once table None said e = absurd (search (rules, e))
said_once table (Some own) said e = elim (cases_Bool (list_all (is_once own) table)) [
  | inl t ↦
      let same : own ≡ said = of_some own said (sym (ap (λ b. cond b (Some own) None) t) ∙ e) in
      (ap Some same, subst (λ l. list_all (is_once l) table ≡ true) same t)
  | inr t ↦ absurd (none_some (sym (ap (λ b. cond b (Some own) None) t) ∙ e))
]
  where
    none_some : None ≡ Some said → ⊥
    none_some e = search (rules, e)

pub words_said : (table : List Shape) (words : List (List ℕ)) (said : List Saying) → words_say table words ≡ Some said
    → (says false table words ≡ Some said) × (list_all (is_once said) table ≡ true)
words_said table words said e = said_once table (says false table words) said
    (said_by (is_placed_right table words) (if_once table (says false table words)) said e)

-- a plain word is a positional one
pub plain_more : (table : List Shape) (word : List ℕ) (rest : List (List ℕ)) (said : List Saying)
    → is_plain word ≡ true → says_after false table nothing (word ∷ rest) ≡ Some said
    → (later : List Saying) × (says_after false table nothing rest ≡ Some later) × (said ≡ by_place word ∷ later)
plain_more table word rest said p e = by_look (look word) p e
  where
    by_look : (l : Look) → looks_plain l ≡ true
        → then_says (word_says false table word l) (λ next. says_after false table next rest) ≡ Some said
        → (later : List Saying) × (says_after false table nothing rest ≡ Some later) × (said ≡ by_place word ∷ later)
    by_look plain p e = mapped (λ l. by_place word ∷ l) (says_after false table nothing rest) said e
    by_look stop p e = absurd (true≢false (sym p))
    by_look (long name value) p e = absurd (true≢false (sym p))
    by_look (letters text) p e = absurd (true≢false (sym p))

-- ---- the word of a name

pub word_is : (all : List Answer) (name : List ℕ) → word_named name all ≡ unwrap_or (first (words_named name all)) []
word_is all name = by_answer (answer_named name all) ∙ ap (λ o. unwrap_or o []) (first_found name all)
  where
    by_answer : (o : Option Answer) → answer_word o ≡ unwrap_or (option_map word_of o) []
    by_answer None = refl
    by_answer (Some a) = refl

-- ---- an option of the table

-- it has one answer at most, and its name is no other row's
record IsPlainRow (said : List Saying) (placed : List (List ℕ)) (own : Shape) : Type 0 where
  place : own.place ≡ places.Option
  unmarked : has_no_mark own.name ≡ true
  other : is_flag_name own.name ≡ false
  there : find (λ r. bytes_eq r.name own.name) pack_rows ≡ Some own
  due : sayings_for own.name pack_rows said placed ≡ map (of_row own) (words_of_row own said placed) ++ []

-- the words of a row, by its parts
abbrev words_by : WordPlace → Option (List ℕ) → List (List ℕ) → List (List ℕ) → List (List ℕ)
words_by place default words placed =
    cond (is_word place) (take (words_due place (length placed)) placed)
    (else_default (counted_words place words) (default_words place default))

once_of : (own : Shape) (said : List Saying) → own.place ≡ places.Option → is_once said own ≡ true
    → nat_le (length (said_words own.name said)) 1 ≡ true
once_of own said place e =
    sym (ap (λ p. is_again p || nat_le (length (said_words own.name said)) 1) place) ∙ e

else_alone : (words other : List (List ℕ)) → nat_le (length words) 1 ≡ true
    → else_default (option_list (last_word words)) other ≡ else_default words other
else_alone [] other h = refl
else_alone (word ∷ []) other h = refl
else_alone (word ∷ next ∷ words) other h = ap (λ l. else_default l other) (one_or_none (word ∷ next ∷ words) h)

words_back : (own : Shape) (words : List (List ℕ)) → map (λ s. s.word) (map (of_row own) words ++ []) ≡ words
words_back own [] = refl
words_back own (word ∷ words) = ap (λ l. word ∷ l) (words_back own words)

else_nothing : (words : List (List ℕ)) → else_default words [] ≡ words
else_nothing [] = refl
else_nothing (word ∷ words) = refl

module _ (words : List (List ℕ)) (out : List ℕ) (said : List Saying) (all : List Answer)
    (before : SaysBefore words said (by_place out ∷ [])) (once : list_all (is_once said) pack_rows ≡ true)
    (are : map saying_of_answer all ≡ answers_due pack_rows said (out ∷ [])) where
  abbrev placed : List (List ℕ)
  placed = out ∷ []

  said_is : (name : List ℕ) → has_no_mark name ≡ true → is_flag_name name ≡ false
      → said_words name said ≡ values_of name words
  said_is name h other = before.values name h other ∙ append-nil (values_of name words)

  row_answered : (own : Shape) → IsPlainRow said placed own
      → Answered all own.name own (else_default (values_of own.name words) (option_list own.default))
  row_answered own p =
      let x = said_words own.name said in
      let few = once_of own said p.place
      (found_passes (is_once said) (λ r. bytes_eq r.name own.name) pack_rows once own p.there) in
      let is : words_of_row own said placed ≡ else_default (values_of own.name words) (option_list own.default) =
      ap (λ q. words_by q own.default x placed) p.place ∙ else_alone x (option_list own.default) few
      ∙ ap (λ l. else_default l (option_list own.default)) (said_is own.name p.unmarked p.other) in
      answered own.name pack_rows said placed all own
      (else_default (values_of own.name words) (option_list own.default)) are
      (p.due ∙ append-nil (map (of_row own) (words_of_row own said placed)) ∙ ap (map (of_row own)) is)

  option_said : (own : Shape) → own.default ≡ None → IsPlainRow said placed own → OptionSaid words all own
  option_said own none p = subst (Answered all own.name own)
      (ap (λ d. else_default (values_of own.name words) (option_list d)) none
      ∙ else_nothing (values_of own.name words))
      (row_answered own p)

  -- several values of an option
  several : (name : List ℕ) → has_no_mark name ≡ true → is_flag_name name ≡ false
      → map (λ s. s.word) (sayings_for name pack_rows said placed) ≡ else_default (said_words name said) []
      → words_named name all ≡ values_of name words
  several name h other due =
      words_for name pack_rows said placed all are ∙ due ∙ else_nothing (said_words name said) ∙ said_is name h other

  -- ---- a flag

  abbrev flag_words : Bool → List (List ℕ)
  flag_words t = else_default (option_list (cond t (Some (codes "true")) None)) (codes "false" ∷ [])

  flag_is : (name : List ℕ) → has_no_mark name ≡ true → is_flag_name name ≡ true
      → map (λ s. s.word) (sayings_for name pack_rows said placed)
      ≡ else_default (option_list (last_word (said_words name said))) (codes "false" ∷ [])
      → flag_named name all ≡ is_said name words
  flag_is name h own due =
      let t = is_said name words in
      let times : said_words name said ≡ times_said name words =
      before.flags name h own ∙ append-nil (times_said name words) in
      let answer : words_named name all ≡ flag_words t =
      words_for name pack_rows said placed all are ∙ due
      ∙ ap (λ l. else_default (option_list (last_word l)) (codes "false" ∷ [])) times
      ∙ ap (λ o. else_default (option_list o) (codes "false" ∷ [])) (flag_is_said name words) in
      ap (λ w. bytes_eq w (codes "true")) (word_is all name ∙ ap (λ l. unwrap_or (first l) []) answer) ∙ by_test t
    where
      by_test : (t : Bool) → bytes_eq (unwrap_or (first (flag_words t)) []) (codes "true") ≡ t
      by_test true = refl
      by_test false = refl

  pub output_is : word_named (codes "OUT") all ≡ out
  output_is = word_is all (codes "OUT")
      ∙ ap (λ l. unwrap_or (first l) []) (words_for (codes "OUT") pack_rows said placed all are)

  plain_row : (own : Shape) → own.place ≡ places.Option → has_no_mark own.name ≡ true
      → is_flag_name own.name ≡ false → find (λ r. bytes_eq r.name own.name) pack_rows ≡ Some own
      → sayings_for own.name pack_rows said placed ≡ map (of_row own) (words_of_row own said placed) ++ []
      → IsPlainRow said placed own
  plain_row own a b c d e = record { place = a; unmarked = b; other = c; there = d; due = e }

  one : (own : Shape) → own.default ≡ None → own.place ≡ places.Option → has_no_mark own.name ≡ true
      → is_flag_name own.name ≡ false → find (λ r. bytes_eq r.name own.name) pack_rows ≡ Some own
      → sayings_for own.name pack_rows said placed ≡ map (of_row own) (words_of_row own said placed) ++ []
      → OptionSaid words all own
  one own none a b c d e = option_said own none (plain_row own a b c d e)

  options_said : AllByRecursion (OptionSaid words all) option_rows
  options_said =
      also (one (part (codes "kernel")) refl refl refl refl refl refl)
      (also (one (part (codes "ramdisk")) refl refl refl refl refl refl)
      (also (one (part (codes "second")) refl refl refl refl refl refl)
      (also (one (part (codes "recovery-dtbo")) refl refl refl refl refl refl)
      (also (one (part (codes "dtb")) refl refl refl refl refl refl)
      (also (one (part (codes "signature")) refl refl refl refl refl refl)
      (also (one (part (codes "bootconfig")) refl refl refl refl refl refl)
      (also (one (number (codes "kernel-addr")) refl refl refl refl refl refl)
      (also (one (number (codes "ramdisk-addr")) refl refl refl refl refl refl)
      (also (one (number (codes "tags-addr")) refl refl refl refl refl refl)
      (also (one (number (codes "second-addr")) refl refl refl refl refl refl)
      (also (one (row places.Option values.LongNumber (codes "dtb-addr")) refl refl refl refl refl refl)
      (also (one (number (codes "base")) refl refl refl refl refl refl)
      (also (one (number (codes "kernel-offset")) refl refl refl refl refl refl)
      (also (one (number (codes "ramdisk-offset")) refl refl refl refl refl refl)
      (also (one (number (codes "second-offset")) refl refl refl refl refl refl)
      (also (one (number (codes "tags-offset")) refl refl refl refl refl refl)
      (also (one (row places.Option values.LongNumber (codes "dtb-offset")) refl refl refl refl refl refl)
      (also (one (excludes (codes "os-number") (row places.Option values.Os (codes "os"))) refl refl refl refl refl
      refl)
      (also (one (number (codes "os-number")) refl refl refl refl refl refl)
      (also (one (row places.Option values.Text (codes "name")) refl refl refl refl refl refl)
      (also (one (row places.Option values.CommandLine (codes "cmdline")) refl refl refl refl refl refl)
      tt)))))))))))))))))))))

  flag_at : (name : List ℕ) → has_no_mark name ≡ true → is_flag_name name ≡ true
      → sayings_for name pack_rows said placed ≡ map (of_row (flag name))
      (else_default (option_list (last_word (said_words name said))) (codes "false" ∷ [])) ++ []
      → flag_named name all ≡ is_said name words
  flag_at name h own due = flag_is name h own (ap (map (λ s. s.word)) due ∙ words_back (flag name)
      (else_default (option_list (last_word (said_words name said))) (codes "false" ∷ [])))

  several_at : (name : List ℕ) → has_no_mark name ≡ true → is_flag_name name ≡ false
      → sayings_for name pack_rows said placed
      ≡ map (of_row (row places.Options values.Text name)) (else_default (said_words name said) []) ++ []
      → words_named name all ≡ values_of name words
  several_at name h other due = several name h other (ap (map (λ s. s.word)) due
      ∙ words_back (row places.Options values.Text name) (else_default (said_words name said) []))

  pub answers_say : All IsReadRight all → is_said (codes "escaped") words ≡ true → AnswersSay words all
  answers_say read escaped = record {
    read = read;
    vendor = flag_at (codes "vendor") refl refl refl;
    escaped = flag_at (codes "escaped") refl refl refl ∙ escaped;
    are_escaped = escaped;
    version = row_answered version_row (plain_row version_row refl refl refl refl refl);
    page = row_answered page_row (plain_row page_row refl refl refl refl refl);
    options = options_said;
    boards = several_at (codes "board-id") refl refl refl;
    fragments = several_at (codes "fragment") refl refl refl;
    behind = words_for (codes "FRAGMENT") pack_rows said placed all are;
  }
