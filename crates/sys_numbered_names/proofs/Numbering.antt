-- The least of the numbers that files have, as the names of a folder are returned.
use Rattle.std.proofs.Common.{arith, ◌≡◌, ◌≢◌, ◌⊎◌, inl, inr, ℕ, zero, suc, ◌<◌, ◌≤◌, ◌+◌, ◌^◌, List, [], ◌∷◌}
use Rattle.std.proofs.Common.{◌++◌, length, get_or, Option, Some, None, true, false, sym, ◌∙◌, ap, subst, refl}
use Rattle.std.proofs.Common.{decimal, codes, Contains, nat_lt, ltb-true, ltb-false, lt-ltb, IfSome}
use Rattle.std.proofs.Common.{append_assoc, ◌&&◌, take, drop, is_some, ap₂}
use Rattle.std.proofs.lemmas.Bool.{and_parts, cases_Bool, false≢true}
use Rattle.std.proofs.lemmas.List.{get_or-append-add, append_cancel_left}
use Rattle.std.proofs.lemmas.Fmt.{decimal_is_IsNumeral, first_decimal, decimal_injective}
use Rattle.std.specs.Str.Parse.{AllDigits}
use Rattle.std.specs.Char.{digit_value}
use Rattle.std.specs.Str.Pattern.{RFindsChar}
use Rattle.std.proofs.lemmas.List.{drop_more, take-append-drop}
use Rattle.std.proofs.lemmas.Str.{len_utf8_ascii}
use Rattle.std.proofs.lemmas.Str.Pattern.{NoCharPasses-char}
use Rattle.sys_disk.specs.LeftOver.{IsNextLeft}
use Rattle.sys_file.specs.Folders.{IsName, ListsFolder, HasNone}
use Rattle.sys_numbered_names.specs.Numbers.{NamesNumbers, HasNoNumber, IsAtMost, IsLeastSoFar, IsThereAbove}
use Rattle.sys_numbered_names.specs.Numbers.{PutsNumbersIn}
use Rattle.sys_numbered_names.specs.Lesser.{lesser_of}
use Rattle.sys_refusals.specs.Paths.{numbered}

-- ---- a name and a number in a folder

digit_at : (ds : List ℕ) (j : ℕ) → AllDigits 10 ds → j < length ds → digit_value (get_or ds j 0) < 10
digit_at [] j all l = absurd (omega (arith, l))
digit_at (d ∷ ds) zero all l = all.0
digit_at (d ∷ ds) (suc j) all l = digit_at ds j all.1 (omega (arith, l))

not_digit : (d : ℕ) → digit_value d < 10 → d ≢ 47
not_digit d few e = omega (arith, subst (λ d. digit_value d < 10) e few)

low : (i : ℕ) → get_or (46 ∷ 46 ∷ []) i 0 ≤ 46
low zero = omega arith
low (suc zero) = omega arith
low (suc (suc i)) = omega arith

low_one : (i : ℕ) → get_or (46 ∷ []) i 0 ≤ 46
low_one zero = omega arith
low_one (suc i) = omega arith

-- the first digit
led : (name : List ℕ) (n : ℕ) → 0 < n → n < 2 ^ 32
    → 48 < get_or (name ++ (46 ∷ decimal n)) (length name + 1) 0
led name n some small =
    subst (λ d. 48 < d) (sym (get_or-append-add name (46 ∷ decimal n) 1 0))
    (first_decimal n some (omega (arith, small)))

slashless : (name : List ℕ) (n i : ℕ) → n < 2 ^ 32 → ((i : ℕ) → i < length name → get_or name i 0 ≢ 47)
    → i < length (name ++ (46 ∷ decimal n)) → get_or (name ++ (46 ∷ decimal n)) i 0 ≢ 47
slashless [] n zero small none l e = omega (arith, e)
slashless [] n (suc i) small none l e =
    not_digit _ (digit_at (decimal n) i (decimal_is_IsNumeral n (omega (arith, small))).0.1 (omega (arith, l))) e
slashless (c ∷ name) n zero small none l e = none 0 (omega arith) e
slashless (c ∷ name) n (suc i) small none l e =
    slashless name n i small (λ j k. none (suc j) (omega (arith, k))) (omega (arith, l)) e

is_name : (name : List ℕ) (n : ℕ) → ((i : ℕ) → i < length name → get_or name i 0 ≢ 47) → 0 < n → n < 2 ^ 32
    → IsName (name ++ (46 ∷ decimal n))
is_name name n none some small = record {
  some = λ e. omega (arith, subst (λ l. 48 < get_or l (length name + 1) 0) e (led name n some small));
  without_slash = λ i l. slashless name n i small none l;
  not_here = λ e. omega (
    arith,
    low_one (length name + 1),
    subst (λ l. 48 < get_or l (length name + 1) 0) e (led name n some small),
  );
  not_above = λ e. omega (
    arith,
    low (length name + 1),
    subst (λ l. 48 < get_or l (length name + 1) 0) e (led name n some small),
  );
}

-- ---- the list of a folder

pub has_numbers : (at : List ℕ → Option ℕ) (folder name prefix : List ℕ) (names : List (List ℕ))
    → PutsNumbersIn folder name prefix → ListsFolder at folder names
    → NamesNumbers (λ n. at (numbered prefix (Some n))) name names
has_numbers at folder name prefix names placed lists = λ n some small there.
    lists (name ++ (46 ∷ decimal n)) (prefix ++ (46 ∷ decimal n)) (is_name name n placed.without_slash some small)
    (placed.inside (46 ∷ decimal n)) there

pub has_no_number : (at : List ℕ → Option ℕ) (folder name prefix : List ℕ)
    → PutsNumbersIn folder name prefix → HasNone at folder → HasNoNumber (λ n. at (numbered prefix (Some n)))
has_no_number at folder name prefix placed none = λ n some small.
    none (name ++ (46 ∷ decimal n)) (prefix ++ (46 ∷ decimal n)) (is_name name n placed.without_slash some small)
    (placed.inside (46 ∷ decimal n))

pub begins : (at : ℕ → Option ℕ) (name : List ℕ) (behind : ℕ) (names : List (List ℕ)) → NamesNumbers at name names
    → IsLeastSoFar at name behind names None
begins at name behind names has = record {
  there = tt;
  others = λ n above. inr (has n (omega (arith, above.0)) above.1.0 above.1.1);
}

nowhere : {X : Type 0} (x : X) → Contains [] x → ⊥
nowhere x c = omega (arith, c.1)

IsNothing : Option ℕ → Type 0
IsNothing None = Unit {0}
IsNothing (Some x) = ⊥

nothing_some : (x : ℕ) → Some x ≢ None
unfolding IsNothing
nothing_some x e = absurd (subst IsNothing (sym e) tt)

or_none : (o : Option ℕ) → (o ≢ None) ⊎ (o ≡ None)
or_none None = inr refl
or_none (Some x) = inl (nothing_some x)

at_least : (at : ℕ → Option ℕ) (name : List ℕ) (behind n : ℕ) (least : Option ℕ) → IsLeastSoFar at name behind [] least
    → IsThereAbove at behind n → IsAtMost least n
at_least at name behind n least so above = elim (so.others n above) [
  | inl most ↦ most
  | inr next ↦ absurd (nowhere _ next)
]

pub ends : (at : ℕ → Option ℕ) (name : List ℕ) (behind : ℕ) (least : Option ℕ) → IsLeastSoFar at name behind [] least
    → IsNextLeft at behind least
ends at name behind None so = λ n more small. elim (or_none (at n)) [
  | inl there ↦ absurd (at_least at name behind n None so (more, (small, there)))
  | inr none ↦ none
]
ends at name behind (Some k) so = (
  so.there.0,
  (
    so.there.1.0,
    (
      so.there.1.1,
      λ n more less. elim (or_none (at n)) [
        | inl there ↦ absurd (omega (
          arith,
          less,
          at_least at name behind n (Some k) so
              (more, (omega (arith, less, so.there.1.0), there)),
        ))
        | inr none ↦ none
      ],
    ),
  ),
)

-- ---- one name more

-- the name of a number is the first of these, or one of the rest
first_or_rest : (x y : List ℕ) (rest : List (List ℕ)) → Contains (x ∷ rest) y → (x ≡ y) ⊎ Contains rest y
first_or_rest x y rest (zero, l, e) = inl e
first_or_rest x y rest (suc k, l, e) = inr (k, omega (arith, l), e)

same_number : (name : List ℕ) (n k : ℕ) → n < 2 ^ 32 → k < 2 ^ 32 → name ++ (46 ∷ decimal n) ≡ name ++ (46 ∷ decimal k)
    → n ≡ k
same_number name n k small low e =
    decimal_injective n k (omega (arith, small)) (omega (arith, low))
    (append_cancel_left (46 ∷ []) (decimal n) (decimal k) (append_cancel_left name (46 ∷ decimal n) (46 ∷ decimal k) e))

-- what number_behind says of a name
pub record Reads (x name : List ℕ) (number : Option ℕ) : Type 0 where
  pub some : IfSome number (λ k. (k < 2 ^ 32) × (x ≡ name ++ (46 ∷ decimal k)))
  pub none : number ≡ None → (n : ℕ) → 0 < n → n < 2 ^ 32 → x ≢ name ++ (46 ∷ decimal n)

-- if the name is that of n, this is its number
its_number : (x name : List ℕ) (number : Option ℕ) (n : ℕ) → Reads x name number → 0 < n → n < 2 ^ 32
    → x ≡ name ++ (46 ∷ decimal n) → number ≡ Some n
its_number x name None n reads some small e = absurd (reads.none refl n some small e)
its_number x name (Some k) n reads some small e =
    ap (λ m. Some m) (same_number name k n reads.some.0 small (sym reads.some.1 ∙ e))

-- the lesser of a number and another above the bound is at most that
less_of_some : (least : Option ℕ) (behind n : ℕ) → behind < n → IsAtMost (lesser_of least behind (Some n)) n
less_of_some None behind n more = rw (lt-ltb behind n more) (omega arith)
less_of_some (Some l) behind n more = rw (lt-ltb behind n more) (elim (cases_Bool (nat_lt n l)) [
  | inl t ↦ rw t (omega arith)
  | inr t ↦ rw t (ltb-false n l t)
])

no_more : (least number : Option ℕ) (behind n : ℕ) → IsAtMost least n → IsAtMost (lesser_of least behind number) n
no_more None number behind n most = absurd most
no_more (Some l) None behind n most = most
no_more (Some l) (Some k) behind n most = elim (cases_Bool (nat_lt behind k && nat_lt k l)) [
  | inl t ↦ rw t (omega (arith, most, ltb-true k l (and_parts (nat_lt behind k) (nat_lt k l) t).1))
  | inr t ↦ rw t most
]

-- it is the one before, or the new one, which is above the bound
abbrev Lessens : Option ℕ → ℕ → Option ℕ → Option ℕ → Type 0
Lessens least behind number less = (less ≡ least) ⊎ ((k : ℕ) × (number ≡ Some k) × (less ≡ Some k) × (behind < k))

lessens : (least number : Option ℕ) (behind : ℕ) → Lessens least behind number (lesser_of least behind number)
lessens None None behind = inl refl
lessens (Some l) None behind = inl refl
lessens None (Some k) behind = elim (cases_Bool (nat_lt behind k)) [
  | inl t ↦ rw t (inr (k, refl, refl, ltb-true behind k t))
  | inr t ↦ rw t (inl refl)
]
lessens (Some l) (Some k) behind = elim (cases_Bool (nat_lt behind k && nat_lt k l)) [
  | inl t ↦ rw t (inr (k, refl, refl, ltb-true behind k (and_parts (nat_lt behind k) (nat_lt k l) t).0))
  | inr t ↦ rw t (inl refl)
]

value : Option ℕ → ℕ
value None = 0
value (Some x) = x

same_some : (x y : ℕ) → Some x ≡ Some y → x ≡ y
unfolding value
same_some x y e = ap value e

abbrev IfThere : (ℕ → Option ℕ) → ℕ → Option ℕ → Type 0
IfThere at behind o = IfSome o (IsThereAbove at behind)

-- a name is that of a number: the lesser is at most that number
is_at_most : (x name : List ℕ) (least number : Option ℕ) (behind n : ℕ) → Reads x name number → behind < n → n < 2 ^ 32
    → x ≡ name ++ (46 ∷ decimal n) → IsAtMost (lesser_of least behind number) n
is_at_most x name least number behind n reads more small e =
    subst (λ o. IsAtMost (lesser_of least behind o) n)
    (sym (its_number x name number n reads (omega (arith, more)) small e)) (less_of_some least behind n more)

-- the least number stays
pub stays : (at : ℕ → Option ℕ) (x name : List ℕ) (rest : List (List ℕ)) (least number : Option ℕ) (behind : ℕ)
    → Reads x name number → lesser_of least behind number ≡ least → IsLeastSoFar at name behind (x ∷ rest) least
    → IsLeastSoFar at name behind rest least
stays at x name rest least number behind reads same so = record {
  there = so.there;
  others = λ n above. elim (so.others n above) [
    | inl most ↦ inl most
    | inr next ↦ elim (first_or_rest x (name ++ (46 ∷ decimal n)) rest next) [
      | inl e ↦ inl (subst (λ o. IsAtMost o n) same
          (is_at_most x name least number behind n reads above.0 above.1.0 e))
      | inr later ↦ inr later
    ]
  ];
}

-- no file has the lesser number: the least stays
pub misses : (at : ℕ → Option ℕ) (x name : List ℕ) (rest : List (List ℕ)) (least number : Option ℕ) (behind l : ℕ)
    → Reads x name number → lesser_of least behind number ≡ Some l → at l ≡ None
    → IsLeastSoFar at name behind (x ∷ rest) least → IsLeastSoFar at name behind rest least
misses at x name rest least number behind l reads less none so = elim (lessens least number behind) [
  | inl same ↦ stays at x name rest least number behind reads same so
  | inr new ↦ record {
    there = so.there;
    others = λ n above. elim (so.others n above) [
      | inl most ↦ inl most
      | inr next ↦ elim (first_or_rest x (name ++ (46 ∷ decimal n)) rest next) [
        | inl e ↦ absurd (above.1.1 (ap at
            (same_some n new.0 (sym (its_number x name number n reads (omega (arith, above.0)) above.1.0 e) ∙ new.1)
            ∙ same_some new.0 l (sym new.2 ∙ less)) ∙ none))
        | inr later ↦ inr later
      ]
    ];
  }
]

-- a file has the lesser number, which is the least from then on
takes : (at : ℕ → Option ℕ) (x name : List ℕ) (rest : List (List ℕ)) (least number : Option ℕ) (behind l : ℕ)
    → Reads x name number → lesser_of least behind number ≡ Some l → at l ≢ None
    → IsLeastSoFar at name behind (x ∷ rest) least
    → IsLeastSoFar at name behind rest (lesser_of least behind number)
takes at x name rest least number behind l reads less there so = record {
  there = elim (lessens least number behind) [
    | inl same ↦ subst (IfThere at behind) (sym same) so.there
    | inr new ↦ subst (IfThere at behind) (sym new.2) (
      new.3,
      (
        (subst (λ o. IfSome o (λ k. (k < 2 ^ 32) × (x ≡ name ++ (46 ∷ decimal k)))) new.1 reads.some).0,
        λ e. there (ap at (same_some l new.0 (sym less ∙ new.2)) ∙ e),
      ),
    )
  ];
  others = λ n above. elim (so.others n above) [
    | inl most ↦ inl (no_more least number behind n most)
    | inr next ↦ elim (first_or_rest x (name ++ (46 ∷ decimal n)) rest next) [
      | inl e ↦ inl (is_at_most x name least number behind n reads above.0 above.1.0 e)
      | inr later ↦ inr later
    ]
  ];
}

-- ---- the folder of a path

pub at_slash : (folder name prefix : List ℕ) → prefix ≡ folder ++ (47 ∷ name)
    → ((i : ℕ) → i < length name → get_or name i 0 ≢ 47) → PutsNumbersIn folder name prefix
at_slash folder name prefix e none = record {
  inside = λ tail. inl (ap (λ p. p ++ tail) e ∙ append_assoc folder (47 ∷ name) tail);
  without_slash = none;
}

pub at_top : (folder name prefix : List ℕ) → prefix ≡ folder ++ (47 ∷ name) → folder ≡ []
    → ((i : ℕ) → i < length name → get_or name i 0 ≢ 47) → PutsNumbersIn (codes "/") name prefix
at_top folder name prefix e top none = record {
  inside = λ tail. inr (inr (refl, ap (λ p. p ++ tail) (e ∙ ap (λ f. f ++ (47 ∷ name)) top)));
  without_slash = none;
}

pub alone : (name : List ℕ) → ((i : ℕ) → i < length name → get_or name i 0 ≢ 47) → PutsNumbersIn (codes ".") name name
alone name none = record {
  inside = λ tail. inr (inl (refl, refl));
  without_slash = none;
}

pub no_next : (at : ℕ → Option ℕ) (behind : ℕ) → HasNoNumber at → IsNextLeft at behind None
no_next at behind none = λ n more small. none n (omega (arith, more)) small

-- a text that is split at its last slash
pub split_at : (s front back : List ℕ) (i j : ℕ) → RFindsChar 47 s (Some (i, j)) → front ≡ take i s → back ≡ drop j s
    → length front ≡ i → length back + j ≡ length s
    → (s ≡ front ++ (47 ∷ back)) × ((k : ℕ) → k < length back → get_or back k 0 ≢ 47)
split_at s front back i j found before behind long whole =
    let next : j ≡ i + 1 = omega (arith, found.1.ends, len_utf8_ascii 47 (omega arith)) in
    let here : get_or s i 0 ≡ 47 = found.1.byte (omega arith) in
    let more : drop i s ≡ get_or s i 0 ∷ drop (i + 1) s = drop_more s i 0 (omega (arith, whole, next)) in (
      sym (take-append-drop i s)
          ∙ ap₂ (λ a b. a ++ b) (sym before)
          (more ∙ ap₂ (λ b l. b ∷ l) here (ap (λ n. drop n s) (sym next) ∙ sym behind)),
      λ k l e.
          NoCharPasses-char 47 (drop j s) k found.0 (omega arith) (subst (λ b. k < length b) behind l)
          (ap (λ b. get_or b k 0) (sym behind) ∙ e),
    )

-- ---- what the code found

-- there is no lesser number: the least stays
pub nothing_less : (least number : Option ℕ) (behind : ℕ) → lesser_of least behind number ≡ None
    → lesser_of least behind number ≡ least
nothing_less least number behind e = elim (lessens least number behind) [
  | inl same ↦ same
  | inr new ↦ absurd (nothing_some new.0 (sym new.2 ∙ e))
]

-- the lesser number is the least from then on
pub takes_it : (at : ℕ → Option ℕ) (x name : List ℕ) (rest : List (List ℕ)) (least number : Option ℕ) (behind l : ℕ)
    → Reads x name number → lesser_of least behind number ≡ Some l → at l ≢ None
    → IsLeastSoFar at name behind (x ∷ rest) least → IsLeastSoFar at name behind rest (Some l)
takes_it at x name rest least number behind l reads less there so =
    subst (λ o. IsLeastSoFar at name behind rest o) less
    (takes at x name rest least number behind l reads less there so)

pub some_there : (o : Option ℕ) → is_some o ≡ true → o ≢ None
some_there None e = absurd (false≢true e)
some_there (Some x) e = nothing_some x

pub none_there : (o : Option ℕ) → is_some o ≡ false → o ≡ None
none_there None e = refl
none_there (Some x) e = absurd (false≢true (sym e))
