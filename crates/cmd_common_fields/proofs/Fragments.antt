-- A FRAGMENT word, cut at its first two colons.
use Rattle.std.proofs.Common.{rules, suc, zero, ◌≡◌, ◌≢◌, ℕ, ◌<◌, ◌≤◌, ◌^◌, nat_lt, Bool, true, false, cond, not, ◌==◌}
use Rattle.std.proofs.Common.{◌&&◌, List, [], ◌∷◌, ◌++◌, Option, Some, None, MatchOption, Bor, length, slice_index}
use Rattle.std.proofs.Common.{codes, replicate, refl, sym, ap, subst, ◌∙◌, arith, eq-eqb}
use Rattle.std.proofs.lemmas.Bool.{and_parts, true≢false}
use Rattle.std.proofs.lemmas.Slice.Eq.{bytes_eq-Decides}
use Rattle.std.proofs.lemmas.Str.Pattern.{IsSplitOnceResult, split_after}
use Rattle.std.proofs.lemmas.Str.Parse.{IsNumeralModel, numerals_by_value, not_in_digits}
use Rattle.std.specs.Int.{IsInRange}
use Rattle.std.specs.Str.{all_ascii_digits, bytes_eq}
use Rattle.std.specs.Str.Parse.{digits_value}
use Rattle.abt_sections.specs.Fields.{filled}
use Rattle.abt_sections.specs.declared.spec.FragmentSpec.{FragmentSpec}
use Rattle.cmd_common_fields.specs.Fragment.{IsFragment, IsOfParts, decimal_u32, type_number}

-- ---- no TYPE has a colon

own : IsNumeralModel (λ (ds : List ℕ). all_ascii_digits ds ≡ true) (digits_value 10)
own = numerals_by_value _ (search rules)

abbrev pub lacks : ℕ → List ℕ → Bool
lacks c [] = true
lacks c (b ∷ x) = not (b == c) && lacks c x

pub lacks-at : (c : ℕ) (x : List ℕ) → lacks c x ≡ true → (i : ℕ) → i < length x → slice_index x i ≢ c
lacks-at c [] h i l = absurd (let q : i < 0 = l in omega arith)
lacks-at c (b ∷ x) h zero l = λ e. true≢false (sym (and_parts (not (b == c)) (lacks c x) h).0 ∙ ap not (eq-eqb b c e))
lacks-at c (b ∷ x) h (suc i) l = lacks-at c x (and_parts (not (b == c)) (lacks c x) h).1 i (omega arith)

abbrev pub NoColon : List ℕ → Type 0
NoColon t = (i : ℕ) → i < length t → slice_index t i ≢ 58

-- the first of the names that passes its test, else a number
type_cases : (a b c d : Bool) (o : Option ℕ) (P : Type 0) (k : ℕ)
    → cond a (Some 0) (cond b (Some 1) (cond c (Some 2) (cond d (Some 3) o))) ≡ Some k
    → (a ≡ true → P) → (b ≡ true → P) → (c ≡ true → P) → (d ≡ true → P) → (o ≡ Some k → P) → P
type_cases true b c d o P k e pa pb pc pd pn = pa refl
type_cases false true c d o P k e pa pb pc pd pn = pb refl
type_cases false false true d o P k e pa pb pc pd pn = pc refl
type_cases false false false true o P k e pa pb pc pd pn = pd refl
type_cases false false false false o P k e pa pb pc pd pn = pn e

number_digits : (a b c : Bool) (v k : ℕ) → cond (a && b && c) (Some v) None ≡ Some k → a ≡ true
number_digits true b c v k e = refl
number_digits false b c v k e = absurd (search (rules, e))

named_type : (t name : List ℕ) → lacks 58 name ≡ true → bytes_eq t name ≡ true → NoColon t
named_type t name h q = lacks-at 58 t (ap (lacks 58) ((bytes_eq-Decides t name).0 q) ∙ h)

number_type : (t : List ℕ) (k : ℕ) → decimal_u32 t ≡ Some k → NoColon t
number_type t k e =
    not_in_digits own t 58 (number_digits (all_ascii_digits t) (nat_lt 0 (length t))
    (nat_lt (digits_value 10 t) (2 ^ 32)) (digits_value 10 t) k e)
    (λ (q : IsInRange 48 57 58). absurd (let high : 58 ≤ 57 = q.1 in omega arith))

pub type_lacks : (t : List ℕ) (k : ℕ) → type_number t ≡ Some k → NoColon t
type_lacks t k e = type_cases (bytes_eq t (codes "none")) (bytes_eq t (codes "platform"))
    (bytes_eq t (codes "recovery")) (bytes_eq t (codes "dlkm")) (decimal_u32 t) (NoColon t) k e
    (named_type t (codes "none") refl)
    (named_type t (codes "platform") refl)
    (named_type t (codes "recovery") refl)
    (named_type t (codes "dlkm") refl)
    (number_type t k)

-- ---- what cutting gives

-- behind what has no colon
pub cut_at : (word front back : List ℕ) (r : Option (Bor (List ℕ) × Bor (List ℕ))) → word ≡ front ++ (58 ∷ back)
    → NoColon front → IsSplitOnceResult 58 word r
    → MatchOption r ⊥ (λ x. (x.0.now ≡ front) × (x.1.now ≡ back))
cut_at word front back r e free h = split_after 58 word front back r h (omega arith) e free

-- at the first colon
pub first_cut : (word : List ℕ) (spec : FragmentSpec) (path : List ℕ) (p : IsFragment word spec path)
    (r : Option (Bor (List ℕ) × Bor (List ℕ)))
    → IsSplitOnceResult 58 word r → MatchOption r ⊥ (λ x. (x.0.now ≡ p.kind) × (x.1.now ≡ p.name ++ (58 ∷ path)))
first_cut word spec path p r h = split_after 58 word p.kind (p.name ++ (58 ∷ path)) r h (omega arith) p.parts
    (type_lacks p.kind spec.kind p.number)

-- and of what is left
pub second_cut : (word rest : List ℕ) (spec : FragmentSpec) (path : List ℕ) (p : IsFragment word spec path)
    (r : Option (Bor (List ℕ) × Bor (List ℕ)))
    → rest ≡ p.name ++ (58 ∷ path) → IsSplitOnceResult 58 rest r
    → MatchOption r ⊥ (λ x. (x.0.now ≡ p.name) × (x.1.now ≡ path))
second_cut word rest spec path p r e h = split_after 58 rest p.name path r h (omega arith) e p.no_colon

abbrev spec_of : ℕ → List ℕ → List ℕ → FragmentSpec
spec_of kind name board = record { kind = kind; name = name; board_id = board }

same_some : (a b : ℕ) (o : Option ℕ) → o ≡ Some a → o ≡ Some b → a ≡ b
same_some a b o e f = search (rules, sym e ∙ f)

-- the parts of a spec determine it
pub same_spec : (word : List ℕ) (spec : FragmentSpec) (path : List ℕ) (p : IsFragment word spec path)
    (kind_word name_word name : List ℕ) (kind : ℕ)
    → kind_word ≡ p.kind → name_word ≡ p.name → type_number kind_word ≡ Some kind → name ≡ filled 32 name_word
    → spec_of kind name (replicate 16 0) ≡ spec
same_spec word spec path p kind_word name_word name kind same_kind same_name number named =
    let kinds : kind ≡ spec.kind = same_some kind spec.kind (type_number p.kind) (sym (ap type_number same_kind)
    ∙ number) p.number in
    let names : name ≡ spec.name = named ∙ ap (filled 32) same_name ∙ sym p.named in
    ap (λ (k : ℕ). spec_of k name (replicate 16 0)) kinds
    ∙ ap (λ (n : List ℕ). spec_of spec.kind n (replicate 16 0)) names
    ∙ ap (λ (b : List ℕ). spec_of spec.kind spec.name b) (sym p.no_board)

-- ---- an escaped word

pub none_some : (spec : FragmentSpec) → None ≡ Some spec → ⊥
none_some spec e = search (rules, e)

pub some_some : (one other : FragmentSpec) → Some one ≡ Some other → one ≡ other
some_some one other e = search (rules, e)

pub same_parts : (kind kind' name name' : List ℕ) (spec : FragmentSpec) → kind ≡ kind' → name ≡ name'
    → IsOfParts kind' name' spec → IsOfParts kind name spec
same_parts kind kind' name name' spec e f p =
    subst (λ (k : List ℕ). IsOfParts k name spec) (sym e) (subst (λ (n : List ℕ). IsOfParts kind' n spec) (sym f) p)
