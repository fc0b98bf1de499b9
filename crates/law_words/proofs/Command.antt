-- The command that an order becomes is what the words say, if the answers of the order are what they say.
use Rattle.std.proofs.Common.{inl, inr, rules, ◌≡◌, ◌<◌, ℕ, nat_lt, Bool, true, cond, List, [], ◌∷◌, ◌++◌, map, Option}
use Rattle.std.proofs.Common.{Some, None, codes, bytes_eq, refl, sym, ap, subst, ◌∙◌, append-nil, get_or, drop, arith}
use Rattle.std.proofs.Common.{suc}
use Rattle.std.specs.Prelude.{option_map, unwrap_or}
use Rattle.std.specs.List.{All, AllByRecursion, AllZip, find}
use Rattle.std.proofs.lemmas.Bool.{cases_Bool, lt-ltb}
use Rattle.words_values.specs.declared.rows.Value.{Value}
use Rattle.words_values.specs.declared.rows.Value.TheVariants as values
use Rattle.words_orders.specs.declared.answers.Answer.{Answer}
use Rattle.words_orders.specs.declared.order.PackOrder.{PackOrder}
use Rattle.words_orders.specs.Asked.{AsksPack, IsReadRight, answer_named, flag_named, is_named, narrow_number}
use Rattle.words_orders.specs.Asked.{words_named}
use Rattle.words_orders.specs.Reads.{IsReadBy, IsReadFor}
use Rattle.words_values.specs.NumberWord.{IsRead}
use Rattle.words_values.specs.declared.rows.WordPlace.TheVariants as places
use Rattle.words_orders.specs.Table.{excludes, number, option_rows, part, required, row, usual}
use Rattle.words_sayings.specs.Rows.{Shape}
use Rattle.words_sayings.specs.Words.{else_default}
use Rattle.abt_sections.specs.declared.spec.FragmentSpec.{FragmentSpec}
use Rattle.cmd_boot_dispatch.specs.Ordered.{IsCommandOf, IsFragmentOfWord, IsOfItsWord}
use Rattle.cmd_common_boot.specs.Given.{found}
use Rattle.cmd_common_boot.specs.declared.pack_command.PackCommand.{PackCommand}
use Rattle.cmd_common_boot.specs.declared.pack_texts.FragmentText.{FragmentText}
use Rattle.cmd_common_boot.specs.declared.pack_texts.OptionText.{OptionText}
use Rattle.cmd_common_fields.specs.Fragment.{IsEscapedFragment}
use Rattle.cmd_common_fields.specs.OsWord.{IsNumberWord}
use Rattle.cmd_common_fields.specs.Unescaped.{unescaped}
use Rattle.law_boot.specs.Said.{SaysNumber, is_said, value_of, values_of}
use Rattle.law_pack.specs.Said.{GivesNumber, GivesText, IsFragmentBy, IsGivenBy, SaysCommand, number_options}
use Rattle.law_pack.specs.Said.{text_options}
use Rattle.law_words.proofs.Due.{Answered, first_found, found_has, word_of}
use Rattle.law_words.proofs.FragmentOnce.{fragment_once}
use Rattle.law_words.proofs.Numbers.{has_number, read_number}
use Rattle.law_words.proofs.Options.{IsOptionOf, option_is}
use Rattle.law_words.proofs.Reading.{mapped}
use Rattle.law_words.proofs.Values.{first, value_is_first}

-- ---- what the words say is what the answers are

-- the row of the version, and that of the page
abbrev pub version_row : Shape
version_row = required (row places.Option (values.Count 0) (codes "version"))

abbrev pub page_row : Shape
page_row = usual (codes "4096") (number (codes "page"))

abbrev pub OptionSaid : List (List ℕ) → List Answer → Shape → Type 0
OptionSaid words all row = Answered all row.name row (values_of row.name words)

pub record AnswersSay (words : List (List ℕ)) (all : List Answer) : Type 0 where
  pub read : All IsReadRight all
  pub vendor : flag_named (codes "vendor") all ≡ is_said (codes "vendor") words
  pub escaped : flag_named (codes "escaped") all ≡ true
  pub are_escaped : is_said (codes "escaped") words ≡ true
  pub version : Answered all (codes "version") version_row (else_default (values_of (codes "version") words) [])
  pub page : Answered all (codes "page") page_row (else_default (values_of (codes "page") words) (codes "4096" ∷ []))
  pub options : AllByRecursion (OptionSaid words all) option_rows
  pub boards : words_named (codes "board-id") all ≡ values_of (codes "board-id") words
  pub fragments : words_named (codes "fragment") all ≡ values_of (codes "fragment") words
  pub behind : words_named (codes "FRAGMENT") all ≡ []

pub also : {A B : Type 0} → A → B → A × B
also a b = (a, b)

found_among : {X : Type 0} (P : X → Type 0) (p : X → Bool) (xs : List X) → AllByRecursion P xs → (x : X)
    → find p xs ≡ Some x → P x
found_among P p [] h x e = absurd (search (rules, e))
found_among P p (y ∷ xs) h x e = elim (cases_Bool (p y)) [
  | inl t ↦ subst P (ap (λ o. unwrap_or o y) (sym (ap (λ t. cond t (Some y) (find p xs)) t) ∙ e)) h.0
  | inr t ↦ found_among P p xs h.1 x (sym (ap (λ t. cond t (Some y) (find p xs)) t) ∙ e)
]

-- ---- one option

module _ (words : List (List ℕ)) (all : List Answer) (read : All IsReadRight all) (row : Shape)
    (said : OptionSaid words all row) where
  value_is : option_map word_of (answer_named row.name all) ≡ value_of row.name words
  value_is = first_found row.name all ∙ ap first said.words_are ∙ sym (value_is_first row.name words)

  read_right : (a : Answer) → answer_named row.name all ≡ Some a → IsReadFor row a.word.now a.number
  read_right a e = subst (λ s. IsReadFor s a.word.now a.number) (said.shape a e)
      (found_has IsReadRight (is_named row.name) all read a e)

  number_given : (value : Value) → row.value ≡ Some value → has_number value ≡ true → (t : Bool)
      → (o : Option Answer) (p : Option OptionText) → answer_named row.name all ≡ o → IsOptionOf t o p
      → IsGivenBy GivesNumber (option_map word_of o) p
  number_given value v h t None None e i = tt
  number_given value v h t None (Some text) e i = absurd i
  number_given value v h t (Some a) None e i = absurd i
  number_given value v h t (Some a) (Some text) e i = λ n is.
      let reads : IsReadBy (Some value) row.names a.word.now a.number =
      subst (λ v. IsReadBy v row.names a.word.now a.number) v (read_right a e) in
      i.number ∙ read_number value a.word.now a.number n h reads.0 is

  text_given : (t : Bool) (o : Option Answer) (p : Option OptionText) → IsOptionOf t o p
      → IsGivenBy (GivesText t) (option_map word_of o) p
  text_given t None None i = tt
  text_given t None (Some text) i = absurd i
  text_given t (Some a) None i = absurd i
  text_given t (Some a) (Some text) i = record { word = i.word; bytes = i.bytes }

-- a number that an answer has, where words say it
module _ (words : List (List ℕ)) (all : List Answer) (read : All IsReadRight all) (row : Shape) (value : Value)
    (kind : row.value ≡ Some value) (numbers : has_number value ≡ true) where
  number_asked : (default : List (List ℕ))
      → Answered all row.name row (else_default (values_of row.name words) default) → (n : ℕ)
      → SaysNumber words row.name n → ((word : List ℕ) (m : ℕ) → IsRead value word m → m < 4294967296)
      → narrow_number (answer_named row.name all) ≡ Some n
  number_asked default said n s small =
      let some : option_map word_of (answer_named row.name all) ≡ Some s.0 =
      first_found row.name all ∙ ap first said.words_are ∙ first_said (values_of row.name words) default s.0
      (sym (value_is_first row.name words) ∙ s.1) in
      let m = mapped word_of (answer_named row.name all) s.0 some in
      let a = m.0 in
      let reads : IsReadFor row a.word.now a.number = subst (λ s. IsReadFor s a.word.now a.number) (said.shape a m.1)
      (found_has IsReadRight (is_named row.name) all read a m.1) in
      let by : IsReadBy (Some value) row.names a.word.now a.number =
      subst (λ v. IsReadBy v row.names a.word.now a.number) kind reads in
      let low : nat_lt a.number 4294967296 ≡ true = lt-ltb a.number 4294967296 (small a.word.now a.number by.0) in
      ap narrow_number m.1 ∙ ap (λ t. cond t (Some a.number) None) low
      ∙ ap Some (read_number value a.word.now a.number n numbers by.0 (subst (λ w. IsNumberWord w n) m.2 s.2))
    where
      first_said : (values default : List (List ℕ)) (v : List ℕ) → first values ≡ Some v
          → first (else_default values default) ≡ Some v
      first_said [] default v e = absurd (search (rules, e))
      first_said (w ∷ values) default v e = e

-- ---- fragments

fragments_said : (words : List (List ℕ)) (texts : List FragmentText) → map (λ f. f.word.now) texts ≡ words
    → All (IsOfItsWord true) texts → AllZip (IsFragmentBy true) words texts
fragments_said [] [] e h = tt
fragments_said [] (text ∷ texts) e h = absurd (search (rules, e))
fragments_said (word ∷ words) [] e h = absurd (search (rules, e))
fragments_said (word ∷ words) (text ∷ texts) e h =
    let same : text.word.now ≡ word = ap (λ l. get_or l 0 word) e in (
      λ spec path is.
          let own : IsFragmentOfWord true text.word.now text.spec text.path.items = h 0 text (omega arith) in
          one text.word.now text.spec text.path.items own spec path
          (subst (λ w. IsEscapedFragment w spec path) (sym same) is),
      fragments_said words texts (ap (drop 1) e) (λ k d l. h (suc k) d (omega (arith, l))),
    )
  where
    one : (word : List ℕ) (o : Option FragmentSpec) (bytes : List ℕ) → IsFragmentOfWord true word o bytes
        → (spec : FragmentSpec) (path : List ℕ) → IsEscapedFragment word spec path
        → (o ≡ Some spec) × (bytes ≡ unescaped path)
    one word None bytes none spec path is = absurd (none spec path is)
    one word (Some own) bytes f spec path is =
        let once = fragment_once word own spec f.0 path f.1 is in
        (ap Some once.0, f.2 ∙ ap unescaped once.1)

-- ---- the command

module _ (words : List (List ℕ)) (all : List Answer) (order : PackOrder) (command : PackCommand)
    (say : AnswersSay words all) (asks : AsksPack all order) (is : IsCommandOf order command) where
  abbrev texts : List OptionText
  texts = command.texts.options.items

  escaped_is : order.is_escaped ≡ true
  escaped_is = asks.escaped ∙ say.escaped

  same_option : (row : Shape) → find (λ r. bytes_eq r.name row.name) option_rows ≡ Some row
      → IsOptionOf order.is_escaped (answer_named row.name all) (found texts row.name)
  same_option row there =
      option_is order.is_escaped all row.name option_rows order.given.items asks.given row there texts is.options

  gives_number : (row : Shape) (value : Value) → find (λ r. bytes_eq r.name row.name) option_rows ≡ Some row
      → row.value ≡ Some value → has_number value ≡ true → OptionSaid words all row
      → IsGivenBy GivesNumber (value_of row.name words) (found texts row.name)
  gives_number row value there v h said = subst (λ o. IsGivenBy GivesNumber o (found texts row.name))
      (value_is words all say.read row said)
      (number_given words all say.read row said value v h order.is_escaped (answer_named row.name all)
      (found texts row.name) refl (same_option row there))

  gives_text : (row : Shape) → find (λ r. bytes_eq r.name row.name) option_rows ≡ Some row → OptionSaid words all row
      → IsGivenBy (GivesText (is_said (codes "escaped") words)) (value_of row.name words) (found texts row.name)
  gives_text row there said = subst (λ t. IsGivenBy (GivesText t) (value_of row.name words) (found texts row.name))
      (escaped_is ∙ sym say.are_escaped)
      (subst (λ o. IsGivenBy (GivesText order.is_escaped) o (found texts row.name))
      (value_is words all say.read row said)
      (text_given words all say.read row said order.is_escaped (answer_named row.name all) (found texts row.name)
      (same_option row there)))

  short : (name : List ℕ) → find (λ r. bytes_eq r.name name) option_rows ≡ Some (number name)
      → IsGivenBy GivesNumber (value_of name words) (found texts name)
  short name there = gives_number (number name) values.Number there refl refl
      (found_among (OptionSaid words all) (λ r. bytes_eq r.name name) option_rows say.options (number name) there)

  long : (name : List ℕ)
      → find (λ r. bytes_eq r.name name) option_rows ≡ Some (row places.Option values.LongNumber name)
      → IsGivenBy GivesNumber (value_of name words) (found texts name)
  long name there = gives_number (row places.Option values.LongNumber name) values.LongNumber there refl refl
      (found_among (OptionSaid words all) (λ r. bytes_eq r.name name) option_rows say.options
      (row places.Option values.LongNumber name) there)

  numbers_given : AllByRecursion (λ name. IsGivenBy GivesNumber (value_of name words) (found texts name)) number_options
  numbers_given =
      also (short (codes "kernel-addr") refl)
      (also (short (codes "ramdisk-addr") refl)
      (also (short (codes "second-addr") refl)
      (also (short (codes "tags-addr") refl)
      (also (long (codes "dtb-addr") refl)
      (also (short (codes "kernel-offset") refl)
      (also (short (codes "ramdisk-offset") refl)
      (also (short (codes "second-offset") refl)
      (also (short (codes "tags-offset") refl)
      (also (long (codes "dtb-offset") refl)
      (also (short (codes "base") refl)
      (also (short (codes "os-number") refl)
      tt)))))))))))

  text_at : (name : List ℕ) (own : Shape) → own.name ≡ name
      → find (λ r. bytes_eq r.name name) option_rows ≡ Some own
      → IsGivenBy (GivesText (is_said (codes "escaped") words)) (value_of name words) (found texts name)
  text_at name own is there = subst
      (λ n. IsGivenBy (GivesText (is_said (codes "escaped") words)) (value_of n words) (found texts n)) is
      (gives_text own (subst (λ n. find (λ r. bytes_eq r.name n) option_rows ≡ Some own) (sym is) there)
      (found_among (OptionSaid words all) (λ r. bytes_eq r.name name) option_rows say.options own there))

  texts_given : AllByRecursion (λ name. IsGivenBy (GivesText (is_said (codes "escaped") words)) (value_of name words)
      (found texts name)) text_options
  texts_given =
      also (text_at (codes "kernel") (part (codes "kernel")) refl refl)
      (also (text_at (codes "ramdisk") (part (codes "ramdisk")) refl refl)
      (also (text_at (codes "second") (part (codes "second")) refl refl)
      (also (text_at (codes "recovery-dtbo") (part (codes "recovery-dtbo")) refl refl)
      (also (text_at (codes "dtb") (part (codes "dtb")) refl refl)
      (also (text_at (codes "signature") (part (codes "signature")) refl refl)
      (also (text_at (codes "bootconfig") (part (codes "bootconfig")) refl refl)
      (also (text_at (codes "os") (excludes (codes "os-number") (row places.Option values.Os (codes "os"))) refl refl)
      (also (text_at (codes "name") (row places.Option values.Text (codes "name")) refl refl)
      (also (text_at (codes "cmdline") (row places.Option values.CommandLine (codes "cmdline")) refl refl)
      tt)))))))))

  pub says_command : SaysCommand words command
  says_command = record {
    vendor = is.vendor ∙ asks.vendor ∙ say.vendor;
    version = λ n s. is.version ∙ asks.version ∙ ap (λ m. unwrap_or m 0)
        (number_asked words all say.read version_row (values.Count 0) refl refl [] say.version n s
        (λ word m reads. reads.1));
    page = λ n s. is.page ∙ asks.page ∙ number_asked words all say.read page_row values.Number refl refl
        (codes "4096" ∷ []) say.page n s (λ word m reads. reads.1);
    numbers = numbers_given;
    texts = texts_given;
    fragments = subst (λ t. AllZip (IsFragmentBy t) (values_of (codes "fragment") words)
        command.texts.fragments.items) (sym say.are_escaped)
        (fragments_said (values_of (codes "fragment") words) command.texts.fragments.items
        (is.words ∙ asks.fragments ∙ ap (λ l. l ++ words_named (codes "FRAGMENT") all) say.fragments
        ∙ ap (λ l. values_of (codes "fragment") words ++ l) say.behind
        ∙ append-nil (values_of (codes "fragment") words))
        (subst (λ t. All (IsOfItsWord t) command.texts.fragments.items) escaped_is is.fragments));
    board_ids = is.board_ids ∙ asks.board_ids ∙ say.boards;
    front = is.front ∙ asks.front;
  }
