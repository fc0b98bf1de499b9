-- Bytes that are written over.
use Rattle.std.proofs.Common.{◌≡◌, ℕ, zero, suc, ◌+◌, ◌-◌, ◌≤◌, List, [], ◌∷◌, ◌++◌, length, take, drop, refl, sym, ◌∙◌}
use Rattle.std.proofs.Common.{ap, arith, append_assoc, append-nil, length-append, length-drop}
use Rattle.std.proofs.lemmas.List.{length-take-le, take_all, take-append-le, take-append-drop}
use Rattle.abt_io.specs.Moment.{put_at}

take_drop : (k : ℕ) (s : List ℕ) → take k s ++ drop k s ≡ s
take_drop zero s = refl
take_drop (suc k) [] = refl
take_drop (suc k) (x ∷ s) = ap (λ (l : List ℕ). x ∷ l) (take_drop k s)

pub put_none : (c : List ℕ) (at : ℕ) → put_at c at [] ≡ c
put_none c at = ap (λ (l : List ℕ). l ++ drop (at + 0) c) (append-nil (take at c))
    ∙ ap (λ (k : ℕ). take at c ++ drop k c) (let z : at + 0 ≡ at = omega arith in z) ∙ take_drop at c

pub length_put : (c : List ℕ) (at : ℕ) (x : List ℕ) → at + length x ≤ length c → length (put_at c at x) ≡ length c
length_put c at x le =
    let a : length (put_at c at x) ≡ length (take at c ++ x) + length (drop (at + length x) c) =
    length-append (take at c ++ x) (drop (at + length x) c) in
    let b : length (take at c ++ x) ≡ length (take at c) + length x = length-append (take at c) x in
    let t : length (take at c) ≡ at = length-take-le at c (omega (arith, le)) in
    let d : length (drop (at + length x) c) ≡ length c - (at + length x) = length-drop (at + length x) c in
    omega (arith, le, a, b, t, d)

-- the same, with the parts the other way together
abbrev pub put' : List ℕ → ℕ → List ℕ → List ℕ
put' c at x = take at c ++ (x ++ drop (at + length x) c)

pub put'_is : (c : List ℕ) (at : ℕ) (x : List ℕ) → put' c at x ≡ put_at c at x
put'_is c at x = sym (append_assoc (take at c) x (drop (at + length x) c))

-- within a prefix
none_there : (n : ℕ) → length (take {A = ℕ} n []) ≡ 0
none_there zero = refl
none_there (suc n) = refl

take_put' : (c : List ℕ) (at : ℕ) (x : List ℕ) (e n : ℕ) → e ≡ at + length x → e ≤ length (take n c)
    → take n (take at c ++ (x ++ drop e c)) ≡ take at (take n c) ++ (x ++ drop e (take n c))
take_put' c zero [] zero n is le = refl
take_put' c zero [] (suc e) n is le = absurd (omega (arith, is))
take_put' c zero (y ∷ x) zero n is le = absurd (omega (arith, is))
take_put' [] zero (y ∷ x) (suc e) n is le = absurd (omega (arith, le, none_there n))
take_put' (z ∷ c) zero (y ∷ x) (suc e) zero is le = absurd (omega (arith, le))
take_put' (z ∷ c) zero (y ∷ x) (suc e) (suc n) is le =
    ap (λ (l : List ℕ). y ∷ l) (take_put' c zero x e n (omega (arith, is)) (omega (arith, le)))
take_put' c (suc at) x zero n is le = absurd (omega (arith, is))
take_put' [] (suc at) x (suc e) n is le = absurd (omega (arith, le, none_there n))
take_put' (z ∷ c) (suc at) x (suc e) zero is le = absurd (omega (arith, le))
take_put' (z ∷ c) (suc at) x (suc e) (suc n) is le =
    ap (λ (l : List ℕ). z ∷ l) (take_put' c at x e n (omega (arith, is)) (omega (arith, le)))

pub slice_put : (c x new : List ℕ) (at n : ℕ) → new ≡ put_at c at x → at + length x ≤ length (take n c)
    → take n new ≡ put_at (take n c) at (take (length x) x)
slice_put c x new at n e le =
    ap (take n) (e ∙ sym (put'_is c at x)) ∙ take_put' c at x (at + length x) n refl le ∙ put'_is (take n c) at x
    ∙ sym (ap (λ (l : List ℕ). put_at (take n c) at l) (take_all (length x) x (omega arith)))

pub before_on : (c new : List ℕ) (at place : ℕ) (x : List ℕ) → at ≤ place → place + length x ≤ length c
    → new ≡ put_at c place x → take at new ≡ take at c
before_on c new at place x le fits e =
    let t : length (take place c) ≡ place = length-take-le place c (omega (arith, fits)) in
    ap (take at) (e ∙ sym (put'_is c place x)) ∙ take-append-le at (take place c) (x ++ drop (place + length x) c)
    (omega (arith, t, le)) ∙ sym (take-append-le at (take place c) (drop place c) (omega (arith, t, le)))
    ∙ ap (take at) (take-append-drop place c)

-- after what is left out
drop_put' : (c x : List ℕ) (n k j at e : ℕ) → at ≡ k + n → e ≡ j + n → n ≤ length c
    → drop n (take at c ++ (x ++ drop e c)) ≡ take k (drop n c) ++ (x ++ drop j (drop n c))
drop_put' c x zero k j at e here there le =
    ap (λ (i : ℕ). take i c ++ (x ++ drop e c)) (let z : at ≡ k = omega (arith, here) in z)
    ∙ ap (λ (i : ℕ). take k c ++ (x ++ drop i c)) (let z : e ≡ j = omega (arith, there) in z)
drop_put' [] x (suc n) k j at e here there le = absurd (omega (arith, le))
drop_put' (z ∷ c) x (suc n) k j zero e here there le = absurd (omega (arith, here))
drop_put' (z ∷ c) x (suc n) k j (suc at) zero here there le = absurd (omega (arith, there))
drop_put' (z ∷ c) x (suc n) k j (suc at) (suc e) here there le =
    drop_put' c x n k j at e (omega (arith, here)) (omega (arith, there)) (omega (arith, le))

drop_put : (c x : List ℕ) (n at : ℕ) → n ≤ at → at + length x ≤ length c
    → drop n (put_at c at x) ≡ put_at (drop n c) (at - n) x
drop_put c x n at le fits =
    ap (drop n) (sym (put'_is c at x))
    ∙ drop_put' c x n (at - n) (at - n + length x) at (at + length x) (omega (arith, le)) (omega (arith, le))
    (omega (arith, le, fits))
    ∙ put'_is (drop n c) (at - n) x

-- what a room holds since the last clear, where it is written over
pub since_put : (room new all x : List ℕ) (used cut at : ℕ) → take used room ≡ drop cut all
    → new ≡ put_at room (at - cut) x → cut ≤ at → at + length x ≤ length all
    → take used new ≡ drop cut (put_at all at x)
since_put room new all x used cut at now e le fits =
    let long : at - cut + length x ≤ length (take used room) =
    omega (arith, le, fits, ap length now, length-drop cut all) in
    slice_put room x new (at - cut) used e long
    ∙ ap (λ (l : List ℕ). put_at (take used room) (at - cut) l) (take_all (length x) x (omega arith))
    ∙ ap (λ (l : List ℕ). put_at l (at - cut) x) now
    ∙ sym (drop_put all x cut at le fits)
