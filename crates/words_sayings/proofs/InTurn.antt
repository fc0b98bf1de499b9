-- Words that are read in turn, one word further.
use Rattle.std.proofs.Common.{◌≡◌, ◌∙◌, ◌+◌, ◌<◌, ◌≤◌, ℕ, List, [], ◌∷◌, ◌++◌, refl, sym, ap, Option, Some, None}
use Rattle.std.proofs.Common.{append_assoc, drop, get_or, length, map}
use Rattle.std.specs.Prelude.{Bool, true, false, codes, option_map, ◌&&◌, ◌||◌, if◌then◌else◌}
use Rattle.std.proofs.lemmas.List.{append-nil, drop_all, drop_more}
use Rattle.words_sayings.specs.declared.saying.State.{State}
use Rattle.words_sayings.specs.declared.saying.State.TheVariants as states
use Rattle.words_sayings.specs.Steps.{Steps, before_of}
use Rattle.words_sayings.specs.Rows.{Shape}
use Rattle.words_sayings.specs.Words.{Before, Saying, Step, flag_of, flags_said, flags_step, flags_with}
use Rattle.words_sayings.specs.Words.{goes_on, has_placed, is_placed, is_run, is_stop, of_row, says_after}
use Rattle.words_sayings.specs.Words.{says_last, step_of, then_says}

-- what is said before an optional list of it
abbrev pub before_all : List Saying → Option (List Saying) → Option (List Saying)
before_all old later = option_map (λ l. old ++ l) later

over_append : (a b : List Saying) (o : Option (List Saying))
    → before_all (a ++ b) o ≡ before_all a (before_all b o)
over_append a b None = refl
over_append a b (Some l) = ap (λ x. Some x) (append_assoc a b l)

-- one step further, what is said and what is said later are all together the same
pub step_more : (st : Option Step) (state : State) (old new : List Saying) (later : Before → Option (List Saying))
    → Steps st (Some state) old new
    → before_all new (later (before_of state)) ≡ before_all old (then_says st later)
step_more None state old new later h = absurd h
step_more (Some s) state old new later h =
    ap (λ n. before_all n (later (before_of state))) h.0
    ∙ over_append old s.said (later (before_of state))
    ∙ ap (λ b. before_all old (before_all s.said (later b))) h.1

-- after a word that says nothing, nothing is said
pub step_none : (st : Option Step) (old new : List Saying) (later : Before → Option (List Saying))
    → Steps st None old new → None ≡ before_all old (then_says st later)
step_none None old new later h = refl
step_none (Some s) old new later h = absurd h

all_said : (said : List Saying) → Some said ≡ before_all said (Some [])
all_said said = ap (λ l. Some l) (sym (append-nil said))

over_one : (a : List Saying) (x : Saying) (o : Option (List Saying))
    → before_all (a ++ (x ∷ [])) o ≡ before_all a (option_map (λ l. x ∷ l) o)
over_one a x None = refl
over_one a x (Some l) = ap (λ y. Some y) (append_assoc a (x ∷ []) l)

-- ---- words

pub last_none : (said : List Saying) (b : Bool) (o : Option (List Saying))
    → (if b then None else Some []) ≡ o → b ≡ true → None ≡ before_all said o
last_none said b o is holds =
    ap (λ c. before_all said (if c then None else Some [])) (sym holds) ∙ ap (before_all said) is

pub last_some : (said : List Saying) (b : Bool) (o : Option (List Saying))
    → (if b then None else Some []) ≡ o → b ≡ false → Some said ≡ before_all said o
last_some said b o is fails =
    all_said said ∙ ap (λ c. before_all said (if c then None else Some [])) (sym fails) ∙ ap (before_all said) is

module _ {X : Type 0} (text : X → List ℕ) (short : Bool) (table : List Shape) (words : List X) (i : ℕ)
    (before : Before) where
  at_word : (d : X) → i < length words → says_after short table before (map text (drop i words))
      ≡ then_says (step_of short table before (text (get_or words i d)))
      (λ n. says_after short table n (map text (drop (i + 1) words)))
  at_word d below = ap (λ l. says_after short table before (map text l)) (drop_more words i d below)

  pub turn : (d : X) (word : List ℕ) (state : State) (old new : List Saying) → i < length words
      → word ≡ text (get_or words i d) → Steps (step_of short table before word) (Some state) old new
      → before_all new (says_after short table (before_of state) (map text (drop (i + 1) words)))
      ≡ before_all old (says_after short table before (map text (drop i words)))
  turn d word state old new below is steps =
      step_more (step_of short table before word) state old new
      (λ n. says_after short table n (map text (drop (i + 1) words))) steps
      ∙ ap (λ w. before_all old (then_says (step_of short table before w)
      (λ n. says_after short table n (map text (drop (i + 1) words))))) is
      ∙ sym (ap (before_all old) (at_word d below))

  pub turn_none : (d : X) (word : List ℕ) (old new : List Saying) → i < length words
      → word ≡ text (get_or words i d) → Steps (step_of short table before word) None old new
      → None ≡ before_all old (says_after short table before (map text (drop i words)))
  turn_none d word old new below is steps =
      step_none (step_of short table before word) old new
      (λ n. says_after short table n (map text (drop (i + 1) words))) steps
      ∙ ap (λ w. before_all old (then_says (step_of short table before w)
      (λ n. says_after short table n (map text (drop (i + 1) words))))) is
      ∙ sym (ap (before_all old) (at_word d below))

  pub turn_last : (old : List Saying) → length words ≤ i
      → before_all old (says_last before) ≡ before_all old (says_after short table before (map text (drop i words)))
  turn_last old past =
      sym (ap (λ l. before_all old (says_after short table before (map text l))) (drop_all i words past))

-- ---- letters

module _ (table : List Shape) (letters : List ℕ) (i d : ℕ) (below : i < length letters) where
  pub flag_turn : (row : Shape) (old new : List Saying) → Some row ≡ flag_of table (get_or letters i d)
      → new ≡ old ++ (of_row row (codes "true") ∷ [])
      → before_all new (flags_said table (drop (i + 1) letters)) ≡ before_all old (flags_said table (drop i letters))
  flag_turn row old new is new_is =
      ap (λ n. before_all n (flags_said table (drop (i + 1) letters))) new_is
      ∙ over_one old (of_row row (codes "true")) (flags_said table (drop (i + 1) letters))
      ∙ ap (λ f. before_all old (flags_with f (flags_said table (drop (i + 1) letters)))) is
      ∙ sym (ap (λ l. before_all old (flags_said table l)) (drop_more letters i d below))

  pub flag_turn_none : (old : List Saying) → None ≡ flag_of table (get_or letters i d)
      → None ≡ before_all old (flags_said table (drop i letters))
  flag_turn_none old is =
      ap (λ f. before_all old (flags_with f (flags_said table (drop (i + 1) letters)))) is
      ∙ sym (ap (λ l. before_all old (flags_said table l)) (drop_more letters i d below))

pub flag_last : (table : List Shape) (letters : List ℕ) (i : ℕ) (old : List Saying) → length letters ≤ i
    → before_all old (Some []) ≡ before_all old (flags_said table (drop i letters))
flag_last table letters i old past = sym (ap (λ l. before_all old (flags_said table l)) (drop_all i letters past))

pub flags_none : (o : Option (List Saying)) (old new : List Saying) → None ≡ before_all old o
    → Steps (flags_step o) None old new
flags_none None old new e = tt
flags_none (Some l) old new e = absurd (cc)

pub flags_all : (o : Option (List Saying)) (old new : List Saying) → before_all new (Some []) ≡ before_all old o
    → Steps (flags_step o) (Some states.Nothing) old new
flags_all None old new e = absurd (cc)
flags_all (Some l) old new e =
    let same : new ++ [] ≡ old ++ l = cc in (sym (append-nil new) ∙ same, refl)

-- ---- one run

pub run_more : (ended : Bool) (word : List ℕ) (rest all : List (List ℕ)) → all ≡ word ∷ rest
    → goes_on ended word rest ≡ true → is_run (ended || is_stop word) rest ≡ is_run ended all
run_more ended word rest all is holds =
    sym (ap (is_run ended) is ∙ ap (λ b. b && is_run (ended || is_stop word) rest) holds)

pub run_broken : (ended : Bool) (word : List ℕ) (rest all : List (List ℕ)) → all ≡ word ∷ rest
    → goes_on ended word rest ≡ false → false ≡ is_run ended all
run_broken ended word rest all is fails =
    sym (ap (is_run ended) is ∙ ap (λ b. b && is_run (ended || is_stop word) rest) fails)

module _ {X : Type 0} (text : X → List ℕ) (words : List X) (i : ℕ) (ended : Bool) where
  pub placed_now : (d : X) (word : List ℕ) → i < length words → word ≡ text (get_or words i d)
      → is_placed ended word ≡ true → true ≡ has_placed ended (map text (drop i words))
  placed_now d word below is holds =
      sym (ap (λ l. has_placed ended (map text l)) (drop_more words i d below)
      ∙ ap (λ w. has_placed ended (w ∷ map text (drop (i + 1) words))) (sym is)
      ∙ ap (λ b. b || has_placed (ended || is_stop word) (map text (drop (i + 1) words))) holds)

  pub placed_later : (d : X) (word : List ℕ) → i < length words → word ≡ text (get_or words i d)
      → is_placed ended word ≡ false
      → has_placed (ended || is_stop word) (map text (drop (i + 1) words)) ≡ has_placed ended (map text (drop i words))
  placed_later d word below is fails =
      sym (ap (λ l. has_placed ended (map text l)) (drop_more words i d below)
      ∙ ap (λ w. has_placed ended (w ∷ map text (drop (i + 1) words))) (sym is)
      ∙ ap (λ b. b || has_placed (ended || is_stop word) (map text (drop (i + 1) words))) fails)

  pub placed_nowhere : length words ≤ i → false ≡ has_placed ended (map text (drop i words))
  placed_nowhere past = sym (ap (λ l. has_placed ended (map text l)) (drop_all i words past))

-- at the beginning
pub before_none : (o : Option (List Saying)) → before_all [] o ≡ o
before_none None = refl
before_none (Some l) = refl
