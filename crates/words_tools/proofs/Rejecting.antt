-- Why words are rejected, at the word or the answer at hand.
use Rattle.std.proofs.Common.{arith, ◌≡◌, ◌∙◌, ◌+◌, ◌-◌, ◌<◌, ◌≤◌, ℕ, List, [], ◌∷◌, ◌++◌, refl, sym, ap, subst}
use Rattle.std.proofs.Common.{inl, inr}
use Rattle.std.proofs.Common.{Bor, Option, Some, None, ⊎_elim, eqb-true}
use Rattle.std.proofs.Common.{drop, get_or, length, map, take}
use Rattle.std.specs.Prelude.{◌⊎◌, ◌&&◌, ◌==◌, Bool, Contains, IfSome, bytes_eq, is_some, option_map, true}
use Rattle.std.specs.Option.{option_eq}
use Rattle.std.proofs.lemmas.Slice.Eq.{bytes_eq-Decides}
use Rattle.std.specs.List.{starts_with}
use Rattle.std.proofs.lemmas.Bool.{cond-true, false≢true}
use Rattle.std.proofs.lemmas.List.{append_assoc, drop_more, get_or-map, length-map, map-append, take-append-drop}
use Rattle.std.proofs.lemmas.List.{take_more}
use Rattle.std.proofs.lemmas.List.Elements.{Contains-append_right, Contains-get_or}
use Rattle.words_values.specs.declared.rows.Row.{Row}
use Rattle.words_values.specs.declared.rows.WordPlace.{WordPlace}
use Rattle.words_values.specs.declared.rows.WordPlace.TheVariants as places
use Rattle.words_sayings.specs.Rows.{Shape, shape_of}
use Rattle.words_sayings.specs.Words.{is_lettered, is_option}
use Rattle.words_tools.proofs.Standing.{rows_last}
use Rattle.words_orders.specs.Asked.{AreAnswersOf}
use Rattle.words_orders.specs.declared.answers.Answer.{Answer}
use Rattle.words_tools.specs.Fragments.{FragmentSaid, GroupSaid, ended_by, fragment_said, fragments_said, group_behind}
use Rattle.words_tools.specs.Fragments.{is_file_word, no_group, of_platform, platform_group}
use Rattle.words_tools.specs.declared.orders.Orders.{Orders}
use Rattle.words_tools.specs.declared.tools.Tool.{Tool}
use Rattle.words_tools.specs.declared.tools.Tool.TheVariants as tools
use Rattle.words_tools.specs.Rejected.{AreRejected, RejectsFragments, RejectsImages, RejectsName, RejectsType}
use Rattle.words_tools.specs.Rejected.{AwaitsNext, BeginsLetter, BeginsOption, EndsInGroup, HasHyphenValue, IsOfName}
use Rattle.words_tools.specs.Rejected.{RejectsWord, ask_for_none, not_made}
use Rattle.words_tools.specs.Tools.{AsksOrders, tool_rows}

-- ---- the element at hand, between those before it and those behind it

parts_at : {X : Type 0} (xs : List X) (i : ℕ) (d : X) → i < length xs
    → xs ≡ take i xs ++ (get_or xs i d ∷ drop (i + 1) xs)
parts_at xs i d below = sym (take-append-drop i xs) ∙ ap (λ l. take i xs ++ l) (drop_more xs i d below)

module _ {S : Type 0} (text : S → List ℕ) (words : List S) (i : ℕ) where
  pub words_at : (word : S) (w : List ℕ) → i < length words → word ≡ get_or words i word → w ≡ text word
      → map text words ≡ take i (map text words) ++ (w ∷ drop (i + 1) (map text words))
  words_at word w below here is =
      parts_at (map text words) i [] (omega (arith, length-map words text, below))
      ∙ ap (λ v. take i (map text words) ++ (v ∷ drop (i + 1) (map text words)))
      (get_or-map text words i word [] below ∙ ap text (sym here) ∙ sym is)

  -- and the next one
  pub two_at : (j : ℕ) (word next : S) (w v : List ℕ) → j ≡ i + 1 → j < length words → word ≡ get_or words i word
      → w ≡ text word → next ≡ get_or words j next → v ≡ text next
      → map text words ≡ take i (map text words) ++ (w ∷ (v ∷ drop (j + 1) (map text words)))
  two_at j word next w v e below here is here' is' =
      words_at word w (omega (arith, e, below)) here is
      ∙ ap (λ n. take i (map text words) ++ (w ∷ drop n (map text words))) (sym e)
      ∙ ap (λ l. take i (map text words) ++ (w ∷ l))
      (drop_more (map text words) j [] (omega (arith, length-map words text, below))
      ∙ ap (λ u. u ∷ drop (j + 1) (map text words))
      (get_or-map text words j next [] below ∙ ap text (sym here') ∙ sym is'))

-- ---- a row of a table, by the name at hand

pub letter_begun : (rows : List Row) (text : List ℕ) (i : ℕ) (d : Row) (b : Bool) → i < length rows
    → (get_or rows i d).place ≡ places.Letter → b ≡ starts_with ◌==◌ text (get_or rows i d).name.now → b ≡ true
    → BeginsLetter (map shape_of rows) text
letter_begun rows text i d b below is begins holds = (
  shape_of (get_or rows i d),
  (
    rows_last rows (map shape_of rows) refl i d below,
    ap (λ p. is_lettered p && starts_with ◌==◌ text (get_or rows i d).name.now) is ∙ sym begins ∙ holds,
  ),
)

pub option_begun : (rows : List Row) (short : List ℕ) (i : ℕ) (d : Row) (b : Bool) → i < length rows
    → is_option (get_or rows i d).place ≡ true → b ≡ starts_with ◌==◌ (get_or rows i d).name.now short → b ≡ true
    → BeginsOption (map shape_of rows) short
option_begun rows short i d b below is begins holds = (
  shape_of (get_or rows i d),
  (rows_last rows (map shape_of rows) refl i d below, (is, sym begins ∙ holds)),
)

pub option_place : (place : WordPlace) → (place ≡ places.Option) ⊎ (place ≡ places.Options) → is_option place ≡ true
option_place place is = ⊎_elim (λ e. ap is_option e) (λ e. ap is_option e) is

-- ---- a value with a hyphen

pub hyphen_at : {S : Type 0} (text : S → List ℕ) (words : List S) (i : ℕ) (a b : S) (w v : List ℕ)
    (table : List Shape) (r : Option (Bor (List ℕ))) (is : Bool) → 1 ≤ i → i < length words
    → a ≡ get_or words (i - 1) a → w ≡ text a → b ≡ get_or words i b → v ≡ text b → AwaitsNext table w
    → IfSome r (λ behind. v ≡ 45 ∷ behind.now) → is ≡ is_some r → is ≡ true → HasHyphenValue table (map text words)
hyphen_at text words i a b w v table None is first below here wa next vb awaits begins some holds =
    absurd (false≢true (sym some ∙ holds))
hyphen_at text words i a b w v table (Some behind) is first below here wa next vb awaits begins some holds = record {
  front = take (i - 1) (map text words);
  option = w;
  value = behind.now;
  behind = drop (i + 1) (map text words);
  words_are = two_at text words (i - 1) i a b w v (omega (arith, first)) below here wa next vb
      ∙ ap (λ u. take (i - 1) (map text words) ++ (w ∷ (u ∷ drop (i + 1) (map text words)))) begins;
  awaits = awaits;
}

-- a word among those behind the first
pub word_in : {S : Type 0} (text : S → List ℕ) (words : List S) (i : ℕ) (a : S) (w v : List ℕ) → i < length words
    → a ≡ get_or words i a → w ≡ text a → w ≡ v → Contains (map text words) v
word_in text words i a w v below here is same =
    subst (Contains (map text words))
    (get_or-map text words i a (text a) below ∙ ap text (sym here) ∙ sym is ∙ same)
    (Contains-get_or (map text words) i (text a) (omega (arith, length-map words text, below)))

-- ---- groups

-- what is said of a fragment after these answers
abbrev pub group_after : GroupSaid → List Answer → GroupSaid
group_after g [] = g
group_after g (a ∷ said) = group_after (group_behind g a) said

after_append : (g : GroupSaid) (xs ys : List Answer) → group_after g (xs ++ ys) ≡ group_after (group_after g xs) ys
after_append g [] ys = refl
after_append g (x ∷ xs) ys = after_append (group_behind g x) xs ys

said_append : (g : GroupSaid) (xs ys : List Answer)
    → fragments_said g (xs ++ ys) ≡ fragments_said g xs ++ fragments_said (group_after g xs) ys
said_append g [] ys = refl
said_append g (x ∷ xs) ys =
    ap (λ l. ended_by g x ++ l) (said_append (group_behind g x) xs ys)
    ∙ sym (append_assoc (ended_by g x) (fragments_said (group_behind g x) xs)
    (fragments_said (group_after (group_behind g x) xs) ys))

pub after_more : (g g' : GroupSaid) (said : List Answer) (i : ℕ) (d : Answer) → i < length said
    → g ≡ group_after no_group (take i said) → g' ≡ group_behind g (get_or said i d)
    → g' ≡ group_after no_group (take (i + 1) said)
after_more g g' said i d below so_far next =
    next ∙ ap (λ h. group_behind h (get_or said i d)) so_far
    ∙ sym (after_append no_group (take i said) (get_or said i d ∷ []))
    ∙ sym (ap (group_after no_group) (take_more said i d below))

module _ (g : GroupSaid) (said : List Answer) (i : ℕ) (d : Answer) (below : i < length said)
    (so_far : g ≡ group_after no_group (take i said)) (holds : is_file_word (get_or said i d) ≡ true) where
  -- the fragment that an answer ends, among all
  ended_at : fragments_said no_group said ≡ fragments_said no_group (take i said)
      ++ (fragment_said g (get_or said i d).word.now
      ∷ fragments_said (group_behind g (get_or said i d)) (drop (i + 1) said))
  ended_at =
      let a = get_or said i d in
      let rest = drop (i + 1) said in
      let done = fragments_said no_group (take i said) in
      ap (fragments_said no_group) (parts_at said i d below) ∙ said_append no_group (take i said) (a ∷ rest)
      ∙ ap (λ h. done ++ fragments_said h (a ∷ rest)) (sym so_far)
      ∙ ap (λ l. done ++ (l ++ fragments_said (group_behind g a) rest)) (cond-true _ _ _ holds)

  pub ended_in : Contains (fragments_said no_group said) (fragment_said g (get_or said i d).word.now)
  ended_in = subst (λ l. Contains l (fragment_said g (get_or said i d).word.now)) (sym ended_at)
      (Contains-append_right (fragments_said no_group (take i said)) _ _ (0, omega arith, refl))

  pub rejects_at : (platform : List FragmentSaid)
      → RejectsType g.kind ⊎ RejectsName (platform ++ fragments_said no_group (take i said)) g.name
      → RejectsFragments (platform ++ fragments_said no_group said)
  rejects_at platform rejects = record {
    before = platform ++ fragments_said no_group (take i said);
    one = fragment_said g (get_or said i d).word.now;
    behind = fragments_said (group_behind g (get_or said i d)) (drop (i + 1) said);
    among = ap (λ l. platform ++ l) ended_at
        ∙ sym (append_assoc platform (fragments_said no_group (take i said)) _);
    rejects = rejects;
  }

-- the answer at hand ends a fragment that is rejected
pub refused_at : {X : Type 0} (r : Option X) (g : GroupSaid) (said : List Answer) (i : ℕ) (d : Answer)
    (platform : List FragmentSaid) → i < length said → g ≡ group_after no_group (take i said)
    → IfSome r (λ _. is_file_word (get_or said i d) ≡ true)
    → IfSome r (λ _. RejectsType g.kind ⊎ RejectsName (platform ++ fragments_said no_group (take i said)) g.name)
    → IfSome r (λ _. RejectsFragments (platform ++ fragments_said no_group said) ⊎ EndsInGroup said)
refused_at None g said i d platform below so_far file rejects = tt
refused_at (Some x) g said i d platform below so_far file rejects =
    inl (rejects_at g said i d below so_far file platform rejects)

pub named_as : (own : Option (Bor (List ℕ))) (name : Bor (List ℕ))
    → option_eq (λ a b. bytes_eq a.now b.now) own (Some name) ≡ true → option_map (λ s. s.now) own ≡ Some name.now
named_as None name same = absurd (false≢true same)
named_as (Some own) name same = ap (λ n. Some n) ((bytes_eq-Decides own.now name.now).0 same)

-- the name of the fragment of `--vendor_ramdisk`, and that of one before
pub platform_named : (ramdisk : Option Answer) (before : List FragmentSaid) (name : List ℕ) (is : Bool)
    → is ≡ is_some ramdisk → is ≡ true → (length name == 0) ≡ true
    → RejectsName (of_platform ramdisk ++ before) (Some name)
platform_named None before name is some holds empty = absurd (false≢true (sym some ∙ holds))
platform_named (Some a) before [] is some holds empty =
    inr (inr (fragment_said platform_group a.word.now, ((0, omega arith, refl), refl)))
platform_named (Some a) before (x ∷ name) is some holds empty =
    let none : length (x ∷ name) ≡ 0 = eqb-true (length (x ∷ name)) 0 empty in absurd (omega (arith, none))

pub before_named : (platform before : List FragmentSaid) (name : List ℕ)
    → (f : FragmentSaid) × (Contains before f × IsOfName name f) → RejectsName (platform ++ before) (Some name)
before_named platform before name is =
    inr (inr (is.0, (Contains-append_right platform before is.0 is.1.0, is.1.1)))

-- ---- words of fragments

-- behind no option that awaits its value
pub rejects_of_none : (before : Option (Bor Row)) (word : List ℕ) → ((row : Bor Row) → before ≡ Some row → ⊥)
    → RejectsWord None word → RejectsWord before word
rejects_of_none None word not rejects = rejects
rejects_of_none (Some row) word not rejects = absurd (not row refl)

-- ---- words

-- there is none
pub no_words : (tool : Tool) (words : List (List ℕ)) (said : List Answer) → words ≡ [] → AreRejected tool words said
no_words tool words said is = ask_for_none (λ orders o.
    let clash : [] ≡ o.caller ∷ o.own = sym is ∙ o.words_are in absurd (cc))

-- no words ask for orders of the tool
pub no_tool : (tool : Tool) (words : List (List ℕ)) (said : List Answer)
    → ((all said : List Answer) (orders : Orders) → AsksOrders tool all said orders → ⊥) → AreRejected tool words said
no_tool tool words said none = ask_for_none (λ orders o. none o.all said orders o.asks)

module _ (tool : Tool) (words : List (List ℕ)) (said : List Answer) (caller : List ℕ) (own : List (List ℕ))
    (is : words ≡ caller ∷ own) where
  -- they have no answers
  pub no_answers : ((all : List Answer) → AreAnswersOf (tool_rows tool) own all → ⊥) → AreRejected tool words said
  no_answers none = ask_for_none (λ orders o.
      let same : o.own ≡ own = ap (drop 1) (sym o.words_are ∙ is) in
      none o.all (subst (λ l. AreAnswersOf (tool_rows tool) l o.all) same o.answers))

  -- they have answers
  pub no_images : (all : List Answer) → AreAnswersOf (tool_rows tool) own all
      → (tool ≡ tools.Mkbootimg) × RejectsImages all said → AreRejected tool words said
  no_images all answers rejected = not_made rejected.0 (record {
    caller = caller;
    own = own;
    words_are = is;
    all = all;
    answers = subst (λ t. AreAnswersOf (tool_rows t) own all) rejected.0 answers;
    rejects = rejected.1;
  })
