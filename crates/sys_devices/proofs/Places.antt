-- Bytes that stand at a place, and parts of them.
use Rattle.std.proofs.Common.{◌≡◌, ◌<◌, ◌≤◌, ◌+◌, ◌-◌, ℕ, zero, suc, List, [], ◌∷◌, ◌++◌, Option, Some, None}
use Rattle.std.proofs.Common.{length, take, drop, length-drop, refl, sym, ◌∙◌, ap, arith}
use Rattle.std.proofs.lemmas.List.{length-take-le, take-take, take-append-le, drop-take, drop-drop}
use Rattle.std.proofs.Math.ListN.{length-take}
use Rattle.std.proofs.Math.Path.{transport}
use Rattle.abt_io.proofs.Parts.{take_plus}
use Rattle.sys_devices.specs.Ahead.{HoldsBoth, HoldsAny}
use Rattle.sys_file.specs.File.{Begins}
use Rattle.sys_devices.specs.Places.{FoundAt}
use Rattle.sys_devices.specs.declared.ahead.Ahead.{Ahead}
use Rattle.sys_file.proofs.Fronts.{begins_self, front_within}

-- a part of a front is a part of the whole
part_of_take : (from k m : ℕ) (x : List ℕ) → from + k ≤ m → take k (drop from (take m x)) ≡ take k (drop from x)
part_of_take from k m x le =
    ap (λ (j : ℕ). take k (drop from (take j x))) (let e : m ≡ from + (m - from) = omega (arith, le) in e)
    ∙ ap (take k) (drop-take from (m - from) x)
    ∙ take-take k (m - from) (drop from x) (omega (arith, le))

-- a part of what stands somewhere
pub part_stands : (c bytes out : List ℕ) (place at from k count : ℕ) → FoundAt c place (take count bytes)
    → at ≡ place + from → out ≡ take k (drop from bytes) → from + k ≤ count → from + k ≤ length bytes
    → FoundAt c at out
part_stands c bytes out place at from k count s here e le fits =
    let n = length (take count bytes) in
    let many : from + k ≤ n = omega (arith, le, fits, length-take count bytes) in
    let long : length out ≡ k
    = ap length e ∙ length-take-le k (drop from bytes) (omega (arith, fits, length-drop from bytes)) in
    let same : out ≡ take k (drop at c)
    = e ∙ sym (part_of_take from k count bytes le)
    ∙ ap (λ (l : List ℕ). take k (drop from l)) s.same
    ∙ part_of_take from k n (drop place c) many
    ∙ ap (take k) (drop-drop from place c)
    ∙ ap (λ (j : ℕ). take k (drop j c)) (sym here) in
    record {
      present = omega (arith, long, many, s.present, here);
      same = same ∙ ap (λ (j : ℕ). take j (drop at c)) (sym long);
    }

-- what stands at the front of a vector that was written
pub front_written : (x rest : List ℕ) (n len : ℕ) → n ≤ length x → n ≤ len → take n (take len (x ++ rest)) ≡ take n x
front_written x rest n len le room = take-take n len (x ++ rest) room ∙ take-append-le n x rest le

pub stands_same : (c x y : List ℕ) (at : ℕ) → x ≡ y → FoundAt c at x → FoundAt c at y
stands_same c x y at e s = record {
  present = omega (arith, s.present, ap length e);
  same = sym e ∙ s.same ∙ ap (λ (l : List ℕ). take (length l) (drop at c)) e;
}

-- nothing stands anywhere
pub none_stands : (c : List ℕ) (at : ℕ) → FoundAt c at []
none_stands c at = record { present = omega arith; same = refl }

-- the last ones of what stands somewhere, where these lead to a place
pub last_stand : (c bytes : List ℕ) (place at held last count : ℕ) → FoundAt c place (take count bytes)
    → held ≤ count → held ≤ length bytes → last ≤ held → (0 < last → at ≡ place + held)
    → FoundAt c (at - last) (take last (drop (held - last) bytes))
last_stand c bytes place at held zero count s few fits le leads = none_stands c (at - 0)
last_stand c bytes place at held (suc k) count s few fits le leads =
    let last = suc k in
    let here = leads (let more : 0 < last = omega arith in more) in
    part_stands c bytes _ place (at - last) (held - last) last count s (omega (arith, here, le)) refl
    (omega (arith, le, few)) (omega (arith, le, fits))

-- what stands somewhere, and what stands behind that
both_stand : (c x : List ℕ) (at n m : ℕ) → FoundAt c at (take n x) → FoundAt c (at + n) (take m (drop n x))
    → n + m ≤ length x → FoundAt c at (take (n + m) x)
both_stand c x at n m s t le =
    let whole = length-take-le (n + m) x le in
    let first = length-take-le n x (omega (arith, le)) in
    let second = length-take-le m (drop n x) (omega (arith, le, length-drop n x)) in
    let front : take n x ≡ take n (drop at c) = s.same ∙ ap (λ (j : ℕ). take j (drop at c)) first in
    let back : take m (drop n x) ≡ take m (drop n (drop at c))
    = t.same ∙ ap (λ (j : ℕ). take j (drop (at + n) c)) second ∙ ap (take m) (sym (drop-drop n at c)) in
    record {
      present = omega (arith, whole, first, second, s.present, t.present);
      same = sym (take_plus n m x) ∙ ap (λ (l : List ℕ). l ++ take m (drop n x)) front
          ∙ ap (λ (l : List ℕ). take n (drop at c) ++ l) back ∙ take_plus n m (drop at c)
          ∙ ap (λ (j : ℕ). take j (drop at c)) (sym whole);
    }

-- the same where the first ones stayed as they were
pub more_stand : (c x y : List ℕ) (at next n m : ℕ) → FoundAt c at (take n x) → take n y ≡ take n x → next ≡ at + n
    → FoundAt c next (take m (drop n y)) → n + m ≤ length y → FoundAt c at (take (n + m) y)
more_stand c x y at next n m s e here t le =
    let first = stands_same c (take n x) (take n y) at (sym e) s in
    both_stand c y at n m first (transport (ap (λ (j : ℕ). FoundAt c j (take m (drop n y))) here) t) le

-- what stands somewhere stands there still where more is written behind all
stands_on : (c c' x : List ℕ) (at : ℕ) → Begins c c' → FoundAt c at x → FoundAt c' at x
stands_on c c' [] at h s = record { present = omega arith; same = refl }
stands_on c c' (b ∷ x) at h s =
    let y = b ∷ x in
    let n = length y in
    let some : n ≡ suc (length x) = refl in
    let le : at + n ≤ length c = omega (arith, some, s.present) in
    let within = front_within c c' h in
    record {
      present = omega (arith, s.present, within);
      same = s.same ∙ ap (λ (l : List ℕ). take n (drop at l)) (sym h) ∙ part_of_take at n (length c) c' le;
    }

both_on : (c c' : List ℕ) (a : Ahead) → Begins c c' → HoldsBoth c a → HoldsBoth c' a
both_on c c' a h b = record { one = stands_on c c' _ a.one.at h b.one; other = stands_on c c' _ a.other.at h b.other }

pub holds_on : (c c' : List ℕ) (o : Option Ahead) → Begins c c' → HoldsAny c o → HoldsAny c' o
holds_on c c' None h a = a
holds_on c c' (Some a) h b = both_on c c' a h b

pub holds_same : (c c' : List ℕ) (o : Option Ahead) → c ≡ c' → HoldsAny c o → HoldsAny c' o
holds_same c c' o e = holds_on c c' o (ap (take (length c)) (sym e) ∙ begins_self c)
