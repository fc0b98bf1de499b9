-- What an order gives of the words that say it.
use Rattle.std.proofs.Common.{inl, inr, rules, ◌≡◌, ℕ, ◌<◌, nat_le, Bool, true, false, cond, not, ◌&&◌, List, [], ◌∷◌}
use Rattle.std.proofs.Common.{Option, Some, None, codes, refl, sym, ap, subst, ◌∙◌}
use Rattle.std.specs.Prelude.{is_some, option_map}
use Rattle.std.specs.Option.{unwrap_or}
use Rattle.std.specs.List.{AllByRecursion}
use Rattle.cmd_common_fields.specs.Loading.{base_for, is_sum, load_from, offset_or, usual_offset, most_address}
use Rattle.cmd_common_fields.specs.Options.{address_option, offset_option}
use Rattle.cmd_common_fields.specs.OsWord.{IsNumberWord}
use Rattle.cmd_common_fields.specs.Unescaped.{unescaped}
use Rattle.cmd_common_fields.specs.declared.fields.Address.{Address}
use Rattle.cmd_common_boot.specs.Given.{address_for, bytes_or, found, has_offset, number_in, up_to, words_for}
use Rattle.cmd_common_boot.specs.declared.pack_texts.OptionText.{OptionText}
use Rattle.law_boot.specs.Said.{SaysNumber, SaysNumberOr0, SaysText, SaysTextOrNone, value_of}
use Rattle.law_pack.specs.Said.{GivesNumber, GivesText, IsGivenBy, number_options, text_options}

-- ---- one option

same_value : (a b : List ℕ) → Some a ≡ Some b → a ≡ b
same_value a b e = ap (λ o. unwrap_or o a) e

pub same_number : (a b : ℕ) → Some a ≡ Some b → a ≡ b
same_number a b e = ap (λ o. unwrap_or o a) e

-- it is given where there is a value
pub record Gives (Has : List ℕ → OptionText → Type 0) (value : List ℕ) (o : Option OptionText) : Type 0 where
  pub option : OptionText
  pub is : o ≡ Some option
  pub has : Has value option

pub one_given : (Has : List ℕ → OptionText → Type 0) (v : Option (List ℕ)) (o : Option OptionText) (value : List ℕ)
    → IsGivenBy Has v o → v ≡ Some value → Gives Has value o
one_given Has None None value g e = absurd (search (rules, e))
one_given Has None (Some option) value g e = absurd g
one_given Has (Some w) None value g e = absurd g
one_given Has (Some w) (Some option) value g e = record {
  option = option;
  is = refl;
  has = subst (λ (x : List ℕ). Has x option) (same_value w value e) g;
}

pub none_given : (Has : List ℕ → OptionText → Type 0) (v : Option (List ℕ)) (o : Option OptionText) → IsGivenBy Has v o
    → v ≡ None → o ≡ None
none_given Has None None g e = refl
none_given Has None (Some option) g e = absurd g
none_given Has (Some w) None g e = refl
none_given Has (Some w) (Some option) g e = absurd (search (rules, e))

abbrev pub number_of : Option OptionText → Option ℕ
number_of o = option_map (λ option. option.number) o

abbrev bytes_of : Option OptionText → List ℕ
bytes_of o = unwrap_or (option_map (λ option. option.bytes.items) o) []

number_given : (o : Option OptionText) (value : List ℕ) (n : ℕ) → Gives GivesNumber value o → IsNumberWord value n
    → number_of o ≡ Some n
number_given o value n g w = ap number_of g.is ∙ ap Some (g.has n w)

bytes_given : (o : Option OptionText) (value text : List ℕ) → Gives (GivesText true) value o → unescaped value ≡ text
    → bytes_of o ≡ text
bytes_given o value text g e = ap bytes_of g.is ∙ g.has.bytes ∙ e

-- ---- all options

-- the options are those that the words say, none of which is a base or an offset
pub record Orders (words : List (List ℕ)) (options : List OptionText) : Type 0 where
  pub numbers : AllByRecursion (λ name. IsGivenBy GivesNumber (value_of name words) (found options name)) number_options
  pub texts : AllByRecursion (λ name. IsGivenBy (GivesText true) (value_of name words) (found options name))
      text_options
  pub base : found options (codes "base") ≡ None
  pub no_offset : has_offset options ≡ false

module _ (words : List (List ℕ)) (options : List OptionText) (name : List ℕ) where
  pub said_number : (n : ℕ) → IsGivenBy GivesNumber (value_of name words) (found options name)
      → SaysNumber words name n → number_in options name ≡ Some n
  said_number n g s = number_given (found options name) s.0 n
      (one_given GivesNumber (value_of name words) (found options name) s.0 g s.1) s.2

  pub unsaid_number : IsGivenBy GivesNumber (value_of name words) (found options name) → value_of name words ≡ None
      → number_in options name ≡ None
  unsaid_number g e = ap number_of (none_given GivesNumber (value_of name words) (found options name) g e)

  pub said_text : (text : List ℕ) → IsGivenBy (GivesText true) (value_of name words) (found options name)
      → SaysText words name text → bytes_or options name [] ≡ text
  said_text text g s = bytes_given (found options name) s.0 text
      (one_given (GivesText true) (value_of name words) (found options name) s.0 g s.1) s.2

  pub said_or_none : (text : List ℕ) → IsGivenBy (GivesText true) (value_of name words) (found options name)
      → SaysTextOrNone words name text → bytes_or options name [] ≡ text
  said_or_none text g (inl s) = said_text text g s
  said_or_none text g (inr none) = ap bytes_of
      (none_given (GivesText true) (value_of name words) (found options name) g none.0) ∙ sym none.1

-- ---- addresses

within : (t : Bool) (n a : ℕ) → cond t (Some n) None ≡ Some a → a ≡ n
within true n a e = sym (same_number n a e)
within false n a e = absurd (search (rules, e))

address_loaded : (address base : Option ℕ) (most offset own n a : ℕ) → address ≡ Some n
    → up_to most (load_from address base offset own) ≡ Some a → a ≡ n
address_loaded address base most offset own n a e f =
    within (nat_le n most) n a (subst (λ (o : Option ℕ). up_to most (load_from o base offset own) ≡ Some a) e f)

own_loaded : (address base : Option ℕ) (most offset own a : ℕ) → address ≡ None → base ≡ None
    → up_to most (load_from address base offset own) ≡ Some a → a ≡ own
own_loaded address base most offset own a e b f =
    let g : up_to most (load_from None base offset own) ≡ Some a = subst
    (λ (o : Option ℕ). up_to most (load_from o base offset own) ≡ Some a) e f in
    within (nat_le own most) own a (subst (λ (o : Option ℕ). up_to most (load_from None o offset own) ≡ Some a) b g)

no_base : (words : List (List ℕ)) (options : List OptionText) → Orders words options
    → base_for (number_in options (codes "base")) (has_offset options) ≡ None
no_base words options o = ap (λ (p : Option OptionText). base_for (number_of p) (has_offset options)) o.base ∙ ap
    (base_for None) o.no_offset

module _ (words : List (List ℕ)) (options : List OptionText) (o : Orders words options) (which : Address)
    (g : IsGivenBy GivesNumber (value_of (address_option which) words) (found options (address_option which))) (a : ℕ)
    (loads : address_for options which 0 ≡ Some a) where
  pub said_address : (n : ℕ) → SaysNumber words (address_option which) n → a ≡ n
  said_address n s =
      let w = words_for options which in
      address_loaded w.address w.base (most_address which) (offset_or w.offset (usual_offset which)) 0 n a
      (said_number words options (address_option which) n g s) loads

  pub address_or_0 : (n : ℕ) → SaysNumberOr0 words (address_option which) n → a ≡ n
  address_or_0 n (inl s) = said_address n s
  address_or_0 n (inr none) =
      let w = words_for options which in
      own_loaded w.address w.base (most_address which) (offset_or w.offset (usual_offset which)) 0 a
      (unsaid_number words options (address_option which) g none.0) (no_base words options o) loads
      ∙ sym none.1

never : (t : Bool) (base : Option ℕ) → base ≡ None → (not t && is_some base) ≡ false
never true base e = refl
never false base e = ap is_some e

-- no address is the sum of a base and an offset
pub no_sum : (words : List (List ℕ)) (options : List OptionText) → Orders words options → (which : Address)
    → is_sum (words_for options which) ≡ false
no_sum words options o which = never (is_some (words_for options which).address) (words_for options which).base
    (no_base words options o)
