-- What an output was given, where nothing came, or one write came before the last.
use Rattle.std.proofs.Common.{◌≡◌, ℕ, zero, suc, ◌+◌, ◌-◌, ◌≤◌, List, [], ◌∷◌, ◌++◌, Result, Ok, Err, length, map}
use Rattle.std.proofs.Common.{take, replicate, refl, sym, ap, ◌∙◌, arith}
use Rattle.std.specs.Prelude.{OnOk}
use Rattle.std.proofs.lemmas.List.{length-map, take_at}
use Rattle.abt_sections.specs.Fields.{filled}
use Rattle.abt_sections.specs.Layout.{padded, zeros_behind}
use Rattle.abt_sections.proofs.Growing.{then_all}

take_less : (k n : ℕ) (s : List ℕ) → k ≤ n → take k (take n s) ≡ take k s
take_less zero n s le = refl
take_less (suc k) zero s le = absurd (omega (arith, le))
take_less (suc k) (suc n) [] le = refl
take_less (suc k) (suc n) (x ∷ s) le = ap (λ (l : List ℕ). x ∷ l) (take_less k n s (omega arith))

-- what is kept up to a place is kept before it
pub before_kept : (old mid : List ℕ) (at n : ℕ) → take (at + n) mid ≡ take (at + n) old → take at mid ≡ take at old
before_kept old mid at n same = sym (take_less at (at + n) mid (omega arith)) ∙ ap (take at) same
    ∙ take_less at (at + n) old (omega arith)

-- x came, and then y where the last call was Ok
pub ok_then : {X E : Type 0} (r : Result X E) (a b c x y : List ℕ) → b ≡ a ++ x → OnOk r (c ≡ b ++ y)
    → OnOk r (c ≡ a ++ (x ++ y))
ok_then (Ok v) a b c x y e h = then_all a b c x y e h
ok_then (Err f) a b c x y e h = tt

-- the same of the n bytes of a source, and zeros after n bytes
pub ok_padded : {X E : Type 0} (r : Result X E) (a b c s : List ℕ) (n page : ℕ) → length s ≡ n → b ≡ a ++ s
    → OnOk r (c ≡ b ++ zeros_behind n page) → OnOk r (c ≡ a ++ padded page s)
ok_padded (Ok v) a b c s n page long e h = then_all a b c s (zeros_behind n page) e h
    ∙ ap (λ (k : ℕ). a ++ (s ++ zeros_behind k page)) (sym long)
ok_padded (Err f) a b c s n page long e h = tt

-- where parts have the sizes that were reported, those are the sizes that the parts had
pub same_sizes : {S : Type 0} (f : S → ℕ) (ps ps' : List S) (sizes : List ℕ) (n : ℕ) → sizes ≡ filled 5 (map f ps)
    → n ≡ length ps → map f ps' ≡ take n sizes → map f ps' ≡ map f ps
same_sizes f ps ps' sizes n is long e =
    e ∙ ap (λ (l : List ℕ). take n l) is
    ∙ take_at (map f ps) (replicate (5 - length (map f ps)) 0) n (omega (arith, long, length-map ps f))
