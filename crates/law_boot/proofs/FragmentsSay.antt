-- The words of a vendor boot image say its fragments.
use Rattle.std.proofs.Common.{◌≡◌, ◌≢◌, ℕ, zero, suc, ◌+◌, ◌-◌, ◌*◌, ◌/◌, ◌%◌, ◌<◌, ◌≤◌, ◌^◌, ◌==◌, ◌&&◌, nat_lt, not}
use Rattle.std.proofs.Common.{Bool, true, false, cond, inl, inr, List, [], ◌∷◌, ◌++◌, Option, Some, None, codes}
use Rattle.std.proofs.Common.{decimal, length, take, drop, replicate, flat_map, slice_index, slice_index_or, refl, sym}
use Rattle.std.proofs.Common.{ap, subst, ◌∙◌, rules, arith, append-nil, length-append, eq-eqb}
use Rattle.std.proofs.lemmas.Bool.{and_parts, and_right, cases_Bool, eqb-true, lt-ltb, true≢false}
use Rattle.std.proofs.lemmas.Fmt.{decimal_nonempty, digits_decimal, digits_value-decimal}
use Rattle.std.proofs.lemmas.List.{length-drop}
use Rattle.std.proofs.lemmas.List.Concat.{flat_map-cons}
use Rattle.std.proofs.lemmas.List.Sums.{take_while-cons}
use Rattle.std.proofs.lemmas.Slice.Eq.{bytes_eq-Decides}
use Rattle.std.proofs.lemmas.Str.Parse.{IsNumeralModel, not_in_digits, numerals_by_value}
use Rattle.std.specs.Int.{IsInRange}
use Rattle.std.specs.Str.{all_ascii_digits, bytes_eq}
use Rattle.std.specs.Str.Parse.{digits_value}
use Rattle.hex.specs.Hex.{encode_with, lower_digits}
use Rattle.abt_io.specs.Bytes.{AreBytes}
use Rattle.abt_io.specs.BytesLaws.{bytes_of_drop, bytes_of_take}
use Rattle.abt_headers.specs.declared.vendor.VendorFront.{VendorFront}
use Rattle.abt_headers.specs.Entry.{entry_at}
use Rattle.abt_headers.specs.Vendor.{Tail, Vendor}
use Rattle.abt_sections.specs.declared.spec.FragmentSpec.{FragmentSpec}
use Rattle.abt_sections.specs.Canonical.{FragmentFits}
use Rattle.abt_sections.specs.Check.{all_zero}
use Rattle.abt_sections.specs.Fields.{filled}
use Rattle.abt_sections.specs.Header.{Header, OfVendor, entry_of, fragment_count, table_at}
use Rattle.abt_sections.proofs.FieldTexts.{all_zero_is}
use Rattle.cmd_common_fields.specs.declared.board_word.BoardWord.{BoardWord}
use Rattle.cmd_common_fields.specs.Fragment.{decimal_u32, type_number}
use Rattle.cmd_common_texts.specs.Info.{escaped, is_plain}
use Rattle.law_boot.specs.Said.{AreBoards, SaysEach, SaysFragment, SaysFragments, without_front, board_id_of}
use Rattle.law_boot.specs.Said.{number_after, values_of, with_value}
use Rattle.cmd_common_fields.specs.Unescaped.{unescaped}
use Rattle.law_boot.specs.WayBack.{spec_of, specs_of}
use Rattle.cmd_common_texts.specs.Words.{board_option, board_word, board_words, entry_words, escaped_in_name}
use Rattle.cmd_common_texts.specs.Words.{fragment_words, image_words, name_bytes, option_front, text_of}
use Rattle.cmd_common_fields.proofs.Escapes.{plain_step}
use Rattle.law_boot.proofs.Escapes.{name_back}
use Rattle.law_boot.proofs.FilesSay.{front_back}
use Rattle.cmd_common_fields.proofs.Fragments.{lacks, lacks-at}
use Rattle.law_boot.proofs.WordsSay.{number_word}

own : IsNumeralModel (λ (ds : List ℕ). all_ascii_digits ds ≡ true) (digits_value 10)
own = numerals_by_value _ (search rules)

-- ---- values of words that stand one behind another

with_both : (o : Option (List ℕ)) (a b : List (List ℕ)) → with_value o (a ++ b) ≡ with_value o a ++ b
with_both (Some value) a b = refl
with_both None a b = refl

values_both : (name : List ℕ) (a b : List (List ℕ)) → values_of name (a ++ b) ≡ values_of name a ++ values_of name b
values_both name [] b = refl
values_both name (word ∷ a) b = ap (with_value (without_front (option_front name) word)) (values_both name a b)
    ∙ with_both (without_front (option_front name) word) (values_of name a) (values_of name b)

-- ---- a name

lacks_both : (c : ℕ) (a b : List ℕ) → lacks c a ≡ true → lacks c b ≡ true → lacks c (a ++ b) ≡ true
lacks_both c [] b h k = k
lacks_both c (d ∷ a) b h k = let p = and_parts (not (d == c)) (lacks c a) h in rw p.0 (lacks_both c a b p.1 k)

unequal : (a b : ℕ) → a ≢ b → not (a == b) ≡ true
unequal a b h = elim (cases_Bool (a == b)) [
  | inl e ↦ absurd (h (eqb-true a b e))
  | inr e ↦ ap not e
]

digit_lacks : (i : ℕ) → i < 16 → not (slice_index lower_digits i == 58) ≡ true
digit_lacks i h = unequal (slice_index lower_digits i) 58 (lacks-at 58 lower_digits refl i (omega (arith, h)))

one_lacks : (b : ℕ) → b < 256 → lacks 58 (escaped_in_name b) ≡ true
unfolding encode_with
one_lacks b small = elim (cases_Bool (b == 58)) [
  | inl e ↦ rw e refl
  | inr e ↦ elim (cases_Bool (is_plain b)) [
    | inl p ↦ rw (e, p, e) refl
    | inr p ↦
        let high : not (slice_index lower_digits (b / 16) == 58) ≡ true = digit_lacks (b / 16) (omega (arith, small)) in
        let low : not (slice_index lower_digits (b % 16) == 58) ≡ true = digit_lacks (b % 16) (omega arith) in
        rw (e, p, high, low) refl
  ]
]

name_lacks : (x : List ℕ) → AreBytes x → lacks 58 (flat_map escaped_in_name x) ≡ true
name_lacks [] h = refl
name_lacks (b ∷ x) h =
    ap (lacks 58) (flat_map-cons escaped_in_name b x)
    ∙ lacks_both 58 (escaped_in_name b) (flat_map escaped_in_name x) (one_lacks b (h 0)) (name_lacks x (λ i. h (suc i)))

-- a text stands in front of what is behind it
text_front : (x : List ℕ) → x ≡ text_of x ++ drop (length (text_of x)) x
text_front [] = refl
text_front (b ∷ x) =
    let step = take_while-cons (λ (c : ℕ). not (c == 0)) b x in
    elim (cases_Bool (not (b == 0))) [
      | inl e ↦
          let here : text_of (b ∷ x) ≡ b ∷ text_of x = step ∙ ap (λ (t : Bool). cond t (b ∷ text_of x) []) e in
          ap (λ (l : List ℕ). b ∷ l) (text_front x) ∙ ap (λ (l : List ℕ). l ++ drop (length l) (b ∷ x)) (sym here)
      | inr e ↦
          let here : text_of (b ∷ x) ≡ [] = step ∙ ap (λ (t : Bool). cond t (b ∷ text_of x) []) e in
          ap (λ (l : List ℕ). l ++ drop (length l) (b ∷ x)) (sym here)
    ]

-- a name of 32 bytes is its bytes and then zeros
abbrev IsNameOf : List ℕ → List ℕ → Type 0
IsNameOf name x = (length x ≤ 32) × (name ≡ filled 32 x)

name_whole : (name : List ℕ) → length name ≡ 32 → IsNameOf name name
name_whole name long =
    let none : 32 - length name ≡ 0 = omega (arith, long) in
    (omega (arith, long), sym (ap (λ (k : ℕ). name ++ replicate k 0) none ∙ append-nil name))

name_text : (name : List ℕ) → length name ≡ 32 → all_zero (drop (length (text_of name)) name) ≡ true
    → IsNameOf name (text_of name)
name_text name long zeros =
    let t = text_of name in
    let rest = drop (length t) name in
    let front = text_front name in
    let left : length rest ≡ 32 - length t = length-drop (length t) name ∙ ap (λ (n : ℕ). n - length t) long in
    let sum : length name ≡ length t + length rest = ap length front ∙ length-append t rest in (
      omega (arith, sum, long),
      front ∙ ap (λ (l : List ℕ). t ++ l) (all_zero_is rest zeros)
          ∙ ap (λ (k : ℕ). t ++ replicate k 0) left,
    )

name_is : (name : List ℕ) → length name ≡ 32 → IsNameOf name (name_bytes name)
name_is name long = elim (cases_Bool (all_zero (drop (length (text_of name)) name))) [
  | inl e ↦ subst (IsNameOf name) (let q : text_of name ≡ name_bytes name = rw e refl in q) (name_text name long e)
  | inr e ↦ subst (IsNameOf name) (let q : name ≡ name_bytes name = rw e refl in q) (name_whole name long)
]

pub name_of_bytes : (name : List ℕ) → AreBytes name → AreBytes (name_bytes name)
name_of_bytes name h = elim (cases_Bool (all_zero (drop (length (text_of name)) name))) [
  | inl e ↦ subst AreBytes (let q : text_of name ≡ name_bytes name = rw e refl in q) (bytes_of_take _ name h)
  | inr e ↦ subst AreBytes (let q : name ≡ name_bytes name = rw e refl in q) h
]

-- ---- a TYPE

no_name : (k : ℕ) (name : List ℕ) → k < 2 ^ 64 → all_ascii_digits name ≡ false → bytes_eq (decimal k) name ≡ false
no_name k name small no_digits = elim (cases_Bool (bytes_eq (decimal k) name)) [
  | inl e ↦ absurd (true≢false (sym (digits_decimal own k small)
      ∙ ap all_ascii_digits ((bytes_eq-Decides (decimal k) name).0 e) ∙ no_digits))
  | inr e ↦ e
]

number_again : (k : ℕ) → k < 2 ^ 32 → decimal_u32 (decimal k) ≡ Some k
number_again k small =
    let long : k < 2 ^ 64 = omega (arith, small) in
    let value : digits_value 10 (decimal k) ≡ k = digits_value-decimal own k long in
    let digits : all_ascii_digits (decimal k) ≡ true = digits_decimal own k long in
    let some : nat_lt 0 (length (decimal k)) ≡ true = lt-ltb 0 (length (decimal k)) (decimal_nonempty k long) in
    let fits : nat_lt k (2 ^ 32) ≡ true = lt-ltb k (2 ^ 32) small in
    rw (digits, some, value, fits) refl

type_again : (k : ℕ) → k < 2 ^ 32 → type_number (decimal k) ≡ Some k
type_again k small =
    let long : k < 2 ^ 64 = omega (arith, small) in
    let a = no_name k (codes "none") long refl in
    let b = no_name k (codes "platform") long refl in
    let c = no_name k (codes "recovery") long refl in
    let d = no_name k (codes "dlkm") long refl in
    rw (a, b, c, d) (number_again k small)

-- ---- a fragment

plain_text : (x : List ℕ) → ((i : ℕ) → i < length x → slice_index x i ≢ 92) → unescaped x ≡ x
plain_text [] h = refl
plain_text (b ∷ x) h =
    let other : (b == 92) ≡ false = no_backslash (b == 92) (unequal b 92 (h 0 (omega arith))) in
    plain_step b x other ∙ ap (λ (l : List ℕ). b ∷ l) (plain_text x (λ i l. h (suc i) (omega (arith, l))))
  where
    no_backslash : (t : Bool) → not t ≡ true → t ≡ false
    no_backslash true e = absurd (search (rules, e))
    no_backslash false e = refl

plain_front : (a b : List ℕ) → lacks 92 a ≡ true → unescaped (a ++ b) ≡ a ++ unescaped b
plain_front [] b h = refl
plain_front (c ∷ a) b h =
    let p = and_parts (not (c == 92)) (lacks 92 a) h in
    plain_step c (a ++ b) (no_backslash (c == 92) p.0) ∙ ap (λ (l : List ℕ). c ∷ l) (plain_front a b p.1)
  where
    no_backslash : (t : Bool) → not t ≡ true → t ≡ false
    no_backslash true e = absurd (search (rules, e))
    no_backslash false e = refl

file_again : (i : ℕ) → i < 2 ^ 32 → unescaped (codes "/fragment." ++ decimal i) ≡ codes "/fragment." ++ decimal i
file_again i small =
    let digits : all_ascii_digits (decimal i) ≡ true = digits_decimal own i (omega (arith, small)) in
    let none = not_in_digits own (decimal i) 92 digits (λ (q : IsInRange 48 57 92).
    absurd (let high : 92 ≤ 57 = q.1 in omega arith)) in
    plain_front (codes "/fragment.") (decimal i) refl
    ∙ ap (λ (l : List ℕ). codes "/fragment." ++ l) (plain_text (decimal i) none)

-- TYPE:NAME:FILE
abbrev value_for : List ℕ → ℕ → FragmentSpec → List ℕ
value_for folder i f =
    decimal f.kind ++ (codes ":" ++ (flat_map escaped_in_name (name_bytes f.name)
    ++ (codes ":" ++ (flat_map escaped folder ++ (codes "/fragment." ++ decimal i)))))

says_fragment : (folder : List ℕ) (i : ℕ) (f : FragmentSpec) → AreBytes folder → AreBytes f.name → FragmentFits f
    → i < 2 ^ 32 → SaysFragment folder (value_for folder i f) i f
says_fragment folder i f bytes name fits small =
    let n = name_bytes f.name in
    let back : unescaped (flat_map escaped_in_name n) ≡ n = name_back n (name_of_bytes f.name name) in
    let is = name_is f.name fits.name in
    record {
      path = flat_map escaped folder ++ (codes "/fragment." ++ decimal i);
      word = record {
        kind = decimal f.kind;
        name = flat_map escaped_in_name n;
        parts = refl;
        no_colon = lacks-at 58 (flat_map escaped_in_name n) (name_lacks n (name_of_bytes f.name name));
        of_parts = record {
          number = type_again f.kind fits.kind;
          short = subst (λ (l : List ℕ). length l ≤ 32) (sym back) is.0;
          named = is.1 ∙ ap (filled 32) (sym back);
          no_board = refl;
        };
      };
      file = front_back folder (codes "/fragment." ++ decimal i) bytes
          ∙ ap (λ (l : List ℕ). folder ++ l) (file_again i small);
    }

-- one fragment more
each_more : (folder : List ℕ) (vs : List (List ℕ)) (i : ℕ) (fs : List FragmentSpec) (v : List ℕ) (f : FragmentSpec)
    (k : ℕ) → k ≡ i + length fs → SaysEach folder vs i fs → SaysFragment folder v k f
    → SaysEach folder (vs ++ (v ∷ [])) i (fs ++ (f ∷ []))
each_more folder [] i [] v f k e s one =
    (subst (λ (n : ℕ). SaysFragment folder v n f) (let q : k ≡ i = omega (arith, e) in q) one, tt)
each_more folder [] i (g ∷ fs) v f k e s one = absurd s
each_more folder (w ∷ vs) i [] v f k e s one = absurd s
each_more folder (w ∷ vs) i (g ∷ fs) v f k e s one =
    (s.0, each_more folder vs (suc i) fs v f k (omega (arith, e)) s.1 one)

-- ---- board ids

abbrev one_board : Bool → ℕ → ℕ → ℕ → List BoardWord
one_board left_out i k n = cond left_out [] (record { fragment = i; place = k; number = n } ∷ [])

-- the words of the numbers from number k on
abbrev boards_for : ℕ → ℕ → List ℕ → List BoardWord
boards_for i k [] = []
boards_for i k (n ∷ ns) = one_board (n == 0) i k n ++ boards_for i (suc k) ns

boards_both : (count : ℕ) (vs ws : List (List ℕ)) (bs cs : List BoardWord) → AreBoards count vs bs
    → AreBoards count ws cs → AreBoards count (vs ++ ws) (bs ++ cs)
boards_both count [] ws [] cs h k = k
boards_both count [] ws (b ∷ bs) cs h k = absurd h
boards_both count (v ∷ vs) ws [] cs h k = absurd h
boards_both count (v ∷ vs) ws (b ∷ bs) cs h k = (h.0, h.1, h.2, boards_both count vs ws bs cs h.3 k)

no_fragment_one : (c : Bool) (i k n : ℕ) → values_of (codes "fragment") (cond c [] (board_option i k n ∷ [])) ≡ []
no_fragment_one true i k n = refl
no_fragment_one false i k n = refl

no_fragment : (i k : ℕ) (ns : List ℕ) → values_of (codes "fragment") (board_words i k ns) ≡ []
no_fragment i k [] = refl
no_fragment i k (n ∷ ns) =
    values_both (codes "fragment") (board_word i k n) (board_words i (suc k) ns)
    ∙ ap (λ (l : List (List ℕ)). l ++ values_of (codes "fragment") (board_words i (suc k) ns))
    (no_fragment_one (n == 0) i k n)
    ∙ no_fragment i (suc k) ns

one_is_board : (c : Bool) (count i k n : ℕ) → i < count → i < 2 ^ 32 → k < 16 → n < 2 ^ 32
    → AreBoards count (values_of (codes "board-id") (cond c [] (board_option i k n ∷ []))) (one_board c i k n)
one_is_board true count i k n there small place fits = tt
one_is_board false count i k n there small place fits = (
  record {
    fragment = decimal i;
    place = decimal k;
    number = decimal n;
    parts = refl;
    is_fragment = number_word i (omega (arith, small));
    is_place = number_word k (omega (arith, place));
    is_number = number_word n (omega (arith, fits));
  },
  record { fragment = small; place = place; number = fits },
  there,
  tt,
)

are_boards : (count i k : ℕ) (ns : List ℕ) → i < count → i < 2 ^ 32 → k + length ns ≤ 16
    → ((j : ℕ) → slice_index ns j < 2 ^ 32) → AreBoards count (values_of (codes "board-id") (board_words i k ns))
    (boards_for i k ns)
are_boards count i k [] there small long fits = tt
are_boards count i k (n ∷ ns) there small long fits =
    subst (λ (vs : List (List ℕ)). AreBoards count vs (boards_for i k (n ∷ ns)))
    (sym (values_both (codes "board-id") (board_word i k n) (board_words i (suc k) ns)))
    (boards_both count (values_of (codes "board-id") (board_word i k n))
    (values_of (codes "board-id") (board_words i (suc k) ns)) (one_board (n == 0) i k n) (boards_for i (suc k) ns)
    (one_is_board (n == 0) count i k n there small (omega (arith, long)) (fits 0))
    (are_boards count i (suc k) ns there small (omega (arith, long)) (λ j. fits (suc j))))

-- ---- what a number is after these words

after_both : (bs : List BoardWord) (n : ℕ) (cs : List BoardWord) (i k : ℕ)
    → number_after n (bs ++ cs) i k ≡ number_after (number_after n bs i k) cs i k
after_both [] n cs i k = refl
after_both (b ∷ bs) n cs i k = after_both bs (cond ((b.fragment == i) && (b.place == k)) b.number n) cs i k

-- one more number in front
after_one : (m n i p : ℕ) (ns : List ℕ) (j k q : ℕ) → number_after m (one_board (n == 0) i p n) j k ≡ q
    → number_after m (boards_for i p (n ∷ ns)) j k ≡ number_after q (boards_for i (suc p) ns) j k
after_one m n i p ns j k q e = after_both (one_board (n == 0) i p n) m (boards_for i (suc p) ns) j k
    ∙ ap (λ (r : ℕ). number_after r (boards_for i (suc p) ns) j k) e

-- a word about another number
other_one : (left_out : Bool) (m n i p j k : ℕ) → ((i == j) && (p == k)) ≡ false
    → number_after m (one_board left_out i p n) j k ≡ m
other_one true m n i p j k e = refl
other_one false m n i p j k e = ap (λ (t : Bool). cond t n m) e

is_not : (a b : ℕ) → a ≢ b → (a == b) ≡ false
is_not a b h = elim (cases_Bool (a == b)) [
  | inl e ↦ absurd (h (eqb-true a b e))
  | inr e ↦ e
]

other_fragment : (m i p : ℕ) (ns : List ℕ) (j k : ℕ) → i ≢ j → number_after m (boards_for i p ns) j k ≡ m
other_fragment m i p [] j k h = refl
other_fragment m i p (n ∷ ns) j k h =
    after_one m n i p ns j k m (other_one (n == 0) m n i p j k (ap (λ (t : Bool). t && (p == k)) (is_not i j h)))
    ∙ other_fragment m i (suc p) ns j k h

other_place : (left_out : Bool) (m n i p k : ℕ) → p ≢ k → number_after m (one_board left_out i p n) i k ≡ m
other_place left_out m n i p k h = other_one left_out m n i p i k (and_right (i == i) (p == k) (is_not p k h))

places_behind : (m i p : ℕ) (ns : List ℕ) (k : ℕ) → k < p → number_after m (boards_for i p ns) i k ≡ m
places_behind m i p [] k h = refl
places_behind m i p (n ∷ ns) k h =
    after_one m n i p ns i k m (other_place (n == 0) m n i p k (λ e. omega (arith, e, h)))
    ∙ places_behind m i (suc p) ns k (omega (arith, h))

this_one : (left_out : Bool) (n i p k : ℕ) → (n == 0) ≡ left_out → p ≡ k
    → number_after 0 (one_board left_out i p n) i k ≡ n
this_one true n i p k e same = sym (eqb-true n 0 e)
this_one false n i p k e same = rw (eq-eqb i i refl, eq-eqb p k same) refl

pub none_at : (i : ℕ) → slice_index [] i ≡ 0
none_at zero = refl
none_at (suc i) = refl

number_here : (i p : ℕ) (ns : List ℕ) (d k : ℕ) → k ≡ p + d → number_after 0 (boards_for i p ns) i k ≡ slice_index ns d
number_here i p [] d k e = sym (none_at d)
number_here i p (n ∷ ns) zero k e =
    after_one 0 n i p ns i k n (this_one (n == 0) n i p k refl (omega (arith, e)))
    ∙ places_behind n i (suc p) ns k (omega (arith, e))
number_here i p (n ∷ ns) (suc d) k e =
    after_one 0 n i p ns i k 0 (other_place (n == 0) 0 n i p k (λ s. omega (arith, e, s)))
    ∙ number_here i (suc p) ns d k (omega (arith, e))

-- ---- the board ids of fragments

pub no_board_at : (i : ℕ) → slice_index_or {A = List ℕ} [] i [] ≡ []
no_board_at zero = refl
no_board_at (suc i) = refl

board_at_end : (fs : List FragmentSpec) (f : FragmentSpec) → board_id_of (fs ++ (f ∷ [])) (length fs) ≡ f.board_id
board_at_end [] f = refl
board_at_end (g ∷ fs) f = board_at_end fs f

board_past_end : (fs : List FragmentSpec) → board_id_of fs (length fs) ≡ []
board_past_end [] = refl
board_past_end (g ∷ fs) = board_past_end fs

board_not_at_end : (fs : List FragmentSpec) (f : FragmentSpec) (i : ℕ) → i ≢ length fs
    → board_id_of (fs ++ (f ∷ [])) i ≡ board_id_of fs i
board_not_at_end [] f zero h = absurd (h refl)
board_not_at_end [] f (suc i) h = no_board_at i
board_not_at_end (g ∷ fs) f zero h = refl
board_not_at_end (g ∷ fs) f (suc i) h = board_not_at_end fs f i (λ e. h (ap suc e))

-- ---- all fragments

-- the words of the board ids of the first k fragments
abbrev boards_of : List ℕ → Header → ℕ → List BoardWord
boards_of x h zero = []
boards_of x h (suc k) = boards_of x h k ++ boards_for k 0 (entry_of x h k).board_id

pub entry_name : (x : List ℕ) (h : Header) (k : ℕ) → AreBytes x → AreBytes (entry_of x h k).name
unfolding entry_at
entry_name x h k bytes =
    let at = table_at h + 108 * k in
    let entry = take 108 (drop at x) in
    bytes_of_take 32 (drop 12 entry) (bytes_of_drop 12 entry (bytes_of_take 108 (drop at x) (bytes_of_drop at x bytes)))

module _ (folder x : List ℕ) (h : Header) where
  pub specs_long : (k : ℕ) → length (specs_of x h k) ≡ k
  specs_long zero = refl
  specs_long (suc k) = let e = specs_long k in
      omega (arith, length-append (specs_of x h k) (spec_of (entry_of x h k) ∷ []), e)

  numbers_said : (k i j : ℕ) → slice_index (board_id_of (specs_of x h k) i) j ≡ number_after 0 (boards_of x h k) i j
  numbers_said zero i j = ap (λ (l : List ℕ). slice_index l j) (no_board_at i) ∙ none_at j
  numbers_said (suc k) i j =
      let fs = specs_of x h k in
      let f = spec_of (entry_of x h k) in
      let long = specs_long k in
      let both = after_both (boards_of x h k) 0 (boards_for k 0 f.board_id) i j in
      let old = numbers_said k i j in
      elim (cases_Bool (i == k)) [
        | inl e ↦
            let same : i ≡ k = eqb-true i k e in
            let last : i ≡ length fs = same ∙ sym long in
            let none : number_after 0 (boards_of x h k) i j ≡ 0 =
            sym old ∙ ap (λ (n : ℕ). slice_index (board_id_of fs n) j) last
            ∙ ap (λ (l : List ℕ). slice_index l j) (board_past_end fs) ∙ none_at j in
            ap (λ (n : ℕ). slice_index (board_id_of (fs ++ (f ∷ [])) n) j) last
            ∙ ap (λ (l : List ℕ). slice_index l j) (board_at_end fs f)
            ∙ sym (number_here k 0 f.board_id j j (let z : j ≡ 0 + j = omega arith in z))
            ∙ ap (λ (n : ℕ). number_after 0 (boards_for k 0 f.board_id) n j) (sym same)
            ∙ ap (λ (m : ℕ). number_after m (boards_for k 0 f.board_id) i j) (sym none)
            ∙ sym both
        | inr e ↦
            let other : i ≢ k = λ s. true≢false (sym (eq-eqb i k s) ∙ e) in
            ap (λ (l : List ℕ). slice_index l j) (board_not_at_end fs f i (λ s. other (s ∙ long)))
            ∙ old
            ∙ sym (other_fragment (number_after 0 (boards_of x h k) i j) k 0 f.board_id i j (λ s. other (sym s)))
            ∙ sym both
      ]

  module _ (n : ℕ) (bytes : AreBytes folder) (image : AreBytes x) (small : n < 2 ^ 32) (fits : (i : ℕ) → i < n
      → FragmentFits (spec_of (entry_of x h i))) where
    each_said : (k : ℕ) → k ≤ n → SaysEach folder (values_of (codes "fragment") (fragment_words folder x h k)) 0
        (specs_of x h k)
    each_said zero l = tt
    each_said (suc k) l =
        let f = spec_of (entry_of x h k) in
        let own : values_of (codes "fragment") (entry_words folder k (entry_of x h k)) ≡ value_for folder k f ∷ [] =
        ap (λ (vs : List (List ℕ)). value_for folder k f ∷ vs) (no_fragment k 0 f.board_id) in
        let all : values_of (codes "fragment") (fragment_words folder x h (suc k)) ≡ values_of (codes "fragment")
        (fragment_words folder x h k) ++ (value_for folder k f ∷ []) =
        values_both (codes "fragment") (fragment_words folder x h k) (entry_words folder k (entry_of x h k))
        ∙ ap (λ (vs : List (List ℕ)). values_of (codes "fragment") (fragment_words folder x h k) ++ vs) own in
        let long = specs_long k in
        let one = says_fragment folder k f bytes (entry_name x h k image) (fits k (omega (arith, l)))
        (omega (arith, l, small)) in
        subst (λ (vs : List (List ℕ)). SaysEach folder vs 0 (specs_of x h (suc k))) (sym all)
        (each_more folder (values_of (codes "fragment") (fragment_words folder x h k)) 0 (specs_of x h k)
        (value_for folder k f) f k (let z : k ≡ 0 + length (specs_of x h k) = omega (arith, long) in
        z) (each_said k (omega (arith, l))) one)

    boards_said : (k : ℕ) → k ≤ n → AreBoards n (values_of (codes "board-id") (fragment_words folder x h k))
        (boards_of x h k)
    boards_said zero l = tt
    boards_said (suc k) l =
        let ids = (entry_of x h k).board_id in
        let fit = fits k (omega (arith, l)) in
        let all : values_of (codes "board-id") (fragment_words folder x h (suc k)) ≡ values_of (codes "board-id")
        (fragment_words folder x h k) ++ values_of (codes "board-id") (board_words k 0 ids) =
        values_both (codes "board-id") (fragment_words folder x h k) (entry_words folder k (entry_of x h k)) in
        let one = are_boards n k 0 ids (omega (arith, l)) (omega (arith, l, small)) (let long = fit.board_long in
        omega (arith, long)) fit.board_id in
        subst (λ (vs : List (List ℕ)). AreBoards n vs (boards_of x h (suc k))) (sym all)
        (boards_both n (values_of (codes "board-id") (fragment_words folder x h k))
        (values_of (codes "board-id") (board_words k 0 ids)) (boards_of x h k) (boards_for k 0 ids)
        (boards_said k (omega (arith, l))) one)

    says_all : (words : List (List ℕ)) → values_of (codes "fragment") words ≡ values_of (codes "fragment")
        (fragment_words folder x h n) → values_of (codes "board-id") words ≡ values_of (codes "board-id")
        (fragment_words folder x h n) → SaysFragments words folder (specs_of x h n)
    says_all words a b = record {
      each = subst (λ (vs : List (List ℕ)). SaysEach folder vs 0 (specs_of x h n)) (sym a) (each_said n (omega arith));
      boards = boards_of x h n;
      are_boards = subst (λ (vs : List (List ℕ)). AreBoards (length (specs_of x h n)) vs (boards_of x h n)) (sym b)
          (subst (λ (m : ℕ). AreBoards m (values_of (codes "board-id") (fragment_words folder x h n))
          (boards_of x h n)) (sym (specs_long n)) (boards_said n (omega arith)));
      board_ids = numbers_said n;
    }

vendor_says : (folder x : List ℕ) (f : VendorFront) (o : Option Tail) → AreBytes folder → AreBytes x
    → fragment_count (OfVendor (record { front = f; tail = o })) < 2 ^ 32
    → ((i : ℕ) → i < fragment_count (OfVendor (record { front = f; tail = o }))
    → FragmentFits (spec_of (entry_of x (OfVendor (record { front = f; tail = o })) i)))
    → SaysFragments (image_words folder x (OfVendor (record { front = f; tail = o }))) folder
    (specs_of x (OfVendor (record { front = f; tail = o }))
    (fragment_count (OfVendor (record { front = f; tail = o }))))
vendor_says folder x f None bytes image small fits =
    says_all folder x (OfVendor (record { front = f; tail = None })) 0 bytes image small fits
    (image_words folder x (OfVendor (record { front = f; tail = None }))) refl refl
vendor_says folder x f (Some t) bytes image small fits =
    says_all folder x (OfVendor (record { front = f; tail = Some t })) t.entry_num bytes image small fits
    (image_words folder x (OfVendor (record { front = f; tail = Some t }))) refl refl

pub fragments_said : (folder x : List ℕ) (v : Vendor) → AreBytes folder → AreBytes x
    → fragment_count (OfVendor v) < 2 ^ 32
    → ((i : ℕ) → i < fragment_count (OfVendor v) → FragmentFits (spec_of (entry_of x (OfVendor v) i)))
    → SaysFragments (image_words folder x (OfVendor v)) folder (specs_of x (OfVendor v) (fragment_count (OfVendor v)))
fragments_said folder x v = vendor_says folder x v.front v.tail
