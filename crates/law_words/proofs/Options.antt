-- The options of a command are those of its order.
use Rattle.std.proofs.Common.{inl, inr, rules, ◌≡◌, ℕ, Bool, true, false, cond, List, [], ◌∷◌, Option, Some, None}
use Rattle.std.proofs.Common.{bytes_eq, refl, sym, ap, ◌∙◌}
use Rattle.std.specs.Prelude.{option_map, unwrap_or}
use Rattle.std.specs.List.{AllZip, cons_option, find}
use Rattle.std.proofs.lemmas.Bool.{cases_Bool}
use Rattle.std.proofs.lemmas.Slice.Eq.{bytes_eq-Decides}
use Rattle.words_orders.specs.declared.answers.Answer.{Answer}
use Rattle.words_orders.specs.declared.order.Given.{Given}
use Rattle.words_orders.specs.Asked.{IsGiven, answer_named, answer_number}
use Rattle.words_sayings.specs.Rows.{Shape}
use Rattle.cmd_boot_dispatch.specs.Ordered.{OptionWord, bytes_for, command_option, command_options, ordered_option}
use Rattle.cmd_boot_dispatch.specs.Ordered.{ordered_options}
use Rattle.cmd_common_boot.specs.Given.{found, has_name}
use Rattle.cmd_common_boot.specs.declared.pack_texts.OptionText.{OptionText}
use Rattle.law_words.proofs.Due.{word_of}
use Rattle.law_words.proofs.Reading.{mapped}

-- ---- the first option of a name, in the order

abbrev is_of : List ℕ → OptionWord → Bool
is_of name w = bytes_eq w.name name

abbrev or_else : {X : Type 0} → Option X → Option X → Option X
or_else None later = later
or_else (Some x) later = Some x

found_first : {X W : Type 0} (f : X → W) (p : W → Bool) (o : Option X) (rest : List W) (b : Bool)
    → ((x : X) → p (f x) ≡ b)
    → find p (cons_option (option_map f o) rest) ≡ cond b (or_else (option_map f o) (find p rest)) (find p rest)
found_first f p None rest true h = refl
found_first f p None rest false h = refl
found_first f p (Some x) rest true h = ap (λ t. cond t (Some (f x)) (find p rest)) (h x)
found_first f p (Some x) rest false h = ap (λ t. cond t (Some (f x)) (find p rest)) (h x)

none_too : {X Y Z : Type 0} (f : X → Y) (g : X → Z) (o : Option X) → option_map f o ≡ None → option_map g o ≡ None
none_too f g None e = refl
none_too f g (Some x) e = absurd (search (rules, e))

-- an option of an order, for an answer
record IsWordOf (is_escaped : Bool) (a : Answer) (w : OptionWord) : Type 0 where
  word : w.word ≡ a.word.now
  number : w.number ≡ a.number
  bytes : w.bytes ≡ bytes_for is_escaped a.word.now

record HasWordOf (is_escaped : Bool) (a : Answer) (o : Option OptionWord) : Type 0 where
  option : OptionWord
  is : o ≡ Some option
  of : IsWordOf is_escaped a option

module _ (is_escaped : Bool) (all : List Answer) (name : List ℕ) where
  abbrev first_in : List Given → Option OptionWord
  first_in given = find (is_of name) (ordered_options is_escaped given)

  -- it is that of the first row, or else of a later one
  first_by : (row : Shape) (g : Given) (given : List Given) → IsGiven all row g
      → first_in (g ∷ given)
      ≡ cond (bytes_eq row.name name) (or_else (ordered_option is_escaped g) (first_in given)) (first_in given)
  first_by row g given i =
      let b = bytes_eq g.row.now.name.now name in
      let same : b ≡ bytes_eq row.name name = ap (λ s. bytes_eq s.name name) i.is in
      found_first _ (is_of name) g.word (ordered_options is_escaped given) b (λ x. refl)
      ∙ ap (λ t. cond t (or_else (ordered_option is_escaped g) (first_in given)) (first_in given)) same

  none_in : (rows : List Shape) (given : List Given) → AllZip (IsGiven all) rows given → answer_named name all ≡ None
      → first_in given ≡ None
  none_in [] [] z e = refl
  none_in [] (g ∷ given) z e = absurd z
  none_in (row ∷ rows) [] z e = absurd z
  none_in (row ∷ rows) (g ∷ given) z e = elim (cases_Bool (bytes_eq row.name name)) [
    | inl t ↦
        let same : row.name ≡ name = (bytes_eq-Decides row.name name).0 t in
        let unsaid : option_map (λ s. s.now) g.word ≡ None =
        z.0.word ∙ ap (λ n. option_map word_of (answer_named n all)) same ∙ ap (option_map word_of) e in
        first_by row g given z.0
        ∙ ap (λ t. cond t (or_else (ordered_option is_escaped g) (first_in given)) (first_in given)) t
        ∙ ap (λ o. or_else o (first_in given)) (none_too (λ s. s.now) _ g.word unsaid)
        ∙ none_in rows given z.1 e
    | inr t ↦
        first_by row g given z.0
        ∙ ap (λ t. cond t (or_else (ordered_option is_escaped g) (first_in given)) (first_in given)) t
        ∙ none_in rows given z.1 e
  ]

  some_in : (rows : List Shape) (given : List Given) → AllZip (IsGiven all) rows given → (a : Answer)
      → answer_named name all ≡ Some a → (row : Shape) → find (λ r. bytes_eq r.name name) rows ≡ Some row
      → HasWordOf is_escaped a (first_in given)
  some_in [] given z a e row there = absurd (search (rules, there))
  some_in (r ∷ rows) [] z a e row there = absurd z
  some_in (r ∷ rows) (g ∷ given) z a e row there = elim (cases_Bool (bytes_eq r.name name)) [
    | inl t ↦
        let same : r.name ≡ name = (bytes_eq-Decides r.name name).0 t in
        let said : option_map (λ s. s.now) g.word ≡ Some a.word.now =
        z.0.word ∙ ap (λ n. option_map word_of (answer_named n all)) same ∙ ap (option_map word_of) e in
        let m = mapped (λ s. s.now) g.word a.word.now said in
        let number : g.number ≡ a.number =
        z.0.number ∙ ap (λ n. answer_number (answer_named n all)) same ∙ ap answer_number e in
        record {
          option = record {
            row = g.row.now;
            name = g.row.now.name.now;
            word = m.0.now;
            number = g.number;
            bytes = bytes_for is_escaped m.0.now;
          };
          is = first_by r g given z.0
              ∙ ap (λ t. cond t (or_else (ordered_option is_escaped g) (first_in given)) (first_in given)) t
              ∙ ap (λ o. or_else (option_map (λ word. record {
                row = g.row.now;
                name = g.row.now.name.now;
                word = word.now;
                number = g.number;
                bytes = bytes_for is_escaped word.now;
              }) o) (first_in given)) m.1;
          of = record {
            word = sym m.2;
            number = number;
            bytes = ap (bytes_for is_escaped) (sym m.2);
          };
        }
    | inr t ↦
        let h = some_in rows given z.1 a e row
        (sym (ap (λ t. cond t (Some r) (find (λ r. bytes_eq r.name name) rows)) t) ∙ there) in
        record {
          option = h.option;
          is = first_by r g given z.0
              ∙ ap (λ t. cond t (or_else (ordered_option is_escaped g) (first_in given)) (first_in given)) t ∙ h.is;
          of = h.of;
        }
  ]

-- ---- and in the command

in_command : (name : List ℕ) (texts : List OptionText)
    → find (is_of name) (command_options texts) ≡ option_map command_option (found texts name)
in_command name [] = refl
in_command name (text ∷ texts) = elim (cases_Bool (has_name name text)) [
  | inl t ↦
      ap (λ t. cond t (Some (command_option text)) (find (is_of name) (command_options texts))) t
      ∙ sym (ap (λ t. option_map command_option (cond t (Some text) (found texts name))) t)
  | inr t ↦
      ap (λ t. cond t (Some (command_option text)) (find (is_of name) (command_options texts))) t
      ∙ in_command name texts
      ∙ sym (ap (λ t. option_map command_option (cond t (Some text) (found texts name))) t)
]

-- an option of a command, for an answer
pub record IsTextOf (is_escaped : Bool) (a : Answer) (text : OptionText) : Type 0 where
  pub word : text.word.now ≡ a.word.now
  pub number : text.number ≡ a.number
  pub bytes : text.bytes.items ≡ bytes_for is_escaped a.word.now

abbrev pub IsOptionOf : Bool → Option Answer → Option OptionText → Type 0
IsOptionOf t None None = Unit {0}
IsOptionOf t None (Some text) = ⊥
IsOptionOf t (Some a) None = ⊥
IsOptionOf t (Some a) (Some text) = IsTextOf t a text

module _ (is_escaped : Bool) (all : List Answer) (name : List ℕ) (rows : List Shape) (given : List Given)
    (z : AllZip (IsGiven all) rows given) (row : Shape) (there : find (λ r. bytes_eq r.name name) rows ≡ Some row)
    (texts : List OptionText) (are : command_options texts ≡ ordered_options is_escaped given) where
  first_is : option_map command_option (found texts name) ≡ first_in is_escaped all name given
  first_is = sym (in_command name texts) ∙ ap (find (is_of name)) are

  option_of : (o : Option Answer) (p : Option OptionText) → answer_named name all ≡ o
      → option_map command_option p ≡ first_in is_escaped all name given → IsOptionOf is_escaped o p
  option_of None None e f = tt
  option_of None (Some text) e f =
      absurd (some_none (command_option text) (f ∙ none_in is_escaped all name rows given z e))
    where
      some_none : (w : OptionWord) → Some w ≡ None → ⊥
      some_none w e = search (rules, e)
  option_of (Some a) None e f =
      let h = some_in is_escaped all name rows given z a e row there in
      absurd (none_some h.option (f ∙ h.is))
    where
      none_some : (w : OptionWord) → None ≡ Some w → ⊥
      none_some w e = search (rules, e)
  option_of (Some a) (Some text) e f =
      let h = some_in is_escaped all name rows given z a e row there in
      let same : command_option text ≡ h.option = ap (λ o. unwrap_or o (command_option text)) (f ∙ h.is) in
      record {
        word = ap (λ w. w.word) same ∙ h.of.word;
        number = ap (λ w. w.number) same ∙ h.of.number;
        bytes = ap (λ w. w.bytes) same ∙ h.of.bytes;
      }

  pub option_is : IsOptionOf is_escaped (answer_named name all) (found texts name)
  option_is = option_of (answer_named name all) (found texts name) refl first_is
