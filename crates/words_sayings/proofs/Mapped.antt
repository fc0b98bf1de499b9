-- Lists that a loop goes through, one element further, where a function of each element is tested.
use Rattle.std.proofs.Common.{◌+◌, ◌≡◌, ℕ, ◌<◌, ◌≤◌, List, [], ◌∷◌, Some, None, ◌∙◌, ap, refl, drop, length}
use Rattle.std.proofs.Common.{get_or, map}
use Rattle.std.specs.Prelude.{Bool, true, false, ◌&&◌, ◌||◌}
use Rattle.std.specs.List.{find, list_all, list_any, position_or_len}
use Rattle.std.proofs.lemmas.List.{drop_all, drop_more}
use Rattle.std.proofs.lemmas.Bool.{cond-true, cond-false}

module _ {X Y : Type 0} (f : X → Y) (test : Y → Bool) (xs : List X) (i : ℕ) where
  -- the element at hand is the one that is looked for, or none is
  pub found_now : (d : X) → i < length xs → test (f (get_or xs i d)) ≡ true
      → find test (map f (drop i xs)) ≡ Some (f (get_or xs i d))
  found_now d below holds = ap (λ l. find test (map f l)) (drop_more xs i d below) ∙ cond-true _ _ _ holds

  pub found_later : (d : X) → i < length xs → test (f (get_or xs i d)) ≡ false
      → find test (map f (drop i xs)) ≡ find test (map f (drop (i + 1) xs))
  found_later d below fails = ap (λ l. find test (map f l)) (drop_more xs i d below) ∙ cond-false _ _ _ fails

  pub found_nowhere : length xs ≤ i → find test (map f (drop i xs)) ≡ None
  found_nowhere past = ap (λ l. find test (map f l)) (drop_all i xs past)

  -- whether all pass
  pub all_fail : (d : X) → i < length xs → test (f (get_or xs i d)) ≡ false
      → list_all test (map f (drop i xs)) ≡ false
  all_fail d below fails =
      ap (λ l. list_all test (map f l)) (drop_more xs i d below)
      ∙ ap (λ b. b && list_all test (map f (drop (i + 1) xs))) fails

  pub all_later : (d : X) → i < length xs → test (f (get_or xs i d)) ≡ true
      → list_all test (map f (drop i xs)) ≡ list_all test (map f (drop (i + 1) xs))
  all_later d below holds =
      ap (λ l. list_all test (map f l)) (drop_more xs i d below)
      ∙ ap (λ b. b && list_all test (map f (drop (i + 1) xs))) holds

  pub all_pass : length xs ≤ i → list_all test (map f (drop i xs)) ≡ true
  all_pass past = ap (λ l. list_all test (map f l)) (drop_all i xs past)

  -- whether one passes
  pub any_now : (d : X) → i < length xs → test (f (get_or xs i d)) ≡ true
      → list_any test (map f (drop i xs)) ≡ true
  any_now d below holds =
      ap (λ l. list_any test (map f l)) (drop_more xs i d below)
      ∙ ap (λ b. b || list_any test (map f (drop (i + 1) xs))) holds

  pub any_later : (d : X) → i < length xs → test (f (get_or xs i d)) ≡ false
      → list_any test (map f (drop i xs)) ≡ list_any test (map f (drop (i + 1) xs))
  any_later d below fails =
      ap (λ l. list_any test (map f l)) (drop_more xs i d below)
      ∙ ap (λ b. b || list_any test (map f (drop (i + 1) xs))) fails

  pub any_nowhere : length xs ≤ i → list_any test (map f (drop i xs)) ≡ false
  any_nowhere past = ap (λ l. list_any test (map f l)) (drop_all i xs past)

-- what is found passes
pub found_passes : {Y : Type 0} (test : Y → Bool) (ys : List Y) (y : Y) → Some y ≡ find test ys → test y ≡ true
found_passes test [] y e = absurd (cc)
found_passes test (x ∷ ys) y e = go (test x) refl (found_passes test ys y)
  where
    go : (b : Bool) → test x ≡ b → (Some y ≡ find test ys → test y ≡ true) → test y ≡ true
    go true is later =
        let same : Some y ≡ Some x = e ∙ cond-true _ _ _ is in
        let equal : y ≡ x = cc in ap test equal ∙ is
    go false is later = later (e ∙ cond-false _ _ _ is)

pub both_right : (a b : Bool) → (a && b) ≡ true → b ≡ true
both_right true b e = e
both_right false b e = absurd (cc)

pub clash : false ≡ true → ⊥
clash e = absurd (cc)
