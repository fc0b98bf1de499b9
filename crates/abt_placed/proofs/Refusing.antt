-- What is no image is refused, and what stays as it was.
use Rattle.std.proofs.Common.{inl, inr, ◌⊎◌, ◌≡◌, ℕ, zero, suc, ◌+◌, ◌-◌, ◌*◌, ◌<◌, ◌≤◌, nat_lt, ◌==◌, not, true, List}
use Rattle.std.proofs.Common.{◌∷◌, ◌++◌, length, take, drop, replicate, refl, sym, ap, ◌∙◌, arith, append_assoc}
use Rattle.std.proofs.Common.{append-nil, length-append, length-drop}
use Rattle.std.proofs.lemmas.Bool.{cases_Bool, eqb-true}
use Rattle.std.proofs.lemmas.List.{length-take-le, take_all, take-append-drop, take-take, drop-take, drop-drop}
use Rattle.abt_sparse.specs.declared.fault.SparseFault.TheVariants.{Magic, Truncated}
use Rattle.abt_sparse.specs.Reading.{outcome, checked_header}
use Rattle.abt_sparse.specs.Field.{number_at}
use Rattle.abt_io.specs.Moment.{put_at}
use Rattle.abt_io.proofs.Overs.{put'_is, before_on}
use Rattle.std.proofs.Math.Seq.{drop-append_seam}
use Rattle.std.specs.Int.{w32, to_le_bytes}
use Rattle.abt_placed.specs.Unfinished.{IsUnfinished, IsNoImage, KeepsFront}

-- ---- no image

other_magic : (x : List ℕ) → (number_at 0 4 x ≡ 0xED26FF3A → ⊥) → not (number_at 0 4 x == 0xED26FF3A) ≡ true
other_magic x nay = elim (cases_Bool (number_at 0 4 x == 0xED26FF3A)) [
  | inl e ↦ absurd (nay (eqb-true (number_at 0 4 x) 0xED26FF3A e))
  | inr e ↦ ap not e
]

pub refused : (x : List ℕ) → IsUnfinished x → IsNoImage x
unfolding outcome checked_header
refused x h y = elim (cases_Bool (nat_lt (length (x ++ y)) 28)) [
  | inl e ↦ (Truncated (length (x ++ y)), rw e refl)
  | inr e ↦ (Magic, rw (e, other_magic (x ++ y) (h y)) refl)
]

-- zeros are unfinished
not_magic : (k : ℕ) → 0 + 256 * k ≡ 0xED26FF3A → ⊥
not_magic k e = absurd (omega (arith, e))

zero_first : (z : List ℕ) → IsUnfinished (0 ∷ z)
zero_first z y e = not_magic _ e

pub zeros_unfinished : (n : ℕ) (x : List ℕ) → 0 < n → IsUnfinished (replicate n 0 ++ x)
zeros_unfinished zero x le = absurd (omega (arith, le))
zeros_unfinished (suc n) x le = zero_first (replicate n 0 ++ x)

pub unfinished_by : (k : ℕ) (x : List ℕ) → 0 < k → take k x ≡ replicate k 0 → IsUnfinished x
unfinished_by k x some z =
    let e : x ≡ replicate k 0 ++ drop k x = sym (take-append-drop k x) ∙ ap (λ (l : List ℕ). l ++ drop k x) z in
    rw e (zeros_unfinished k (drop k x) some)

-- where not even the zeros are all written
pub broken_off : (old new : List ℕ) → length old ≤ length new
    → new ≡ old ++ take (length new - length old) (replicate 28 0) → (new ≡ old) ⊎ IsUnfinished (drop (length old) new)
broken_off old new le e = by_length (length new - length old) refl
  where
    by_length : (n : ℕ) → length new - length old ≡ n → (new ≡ old) ⊎ IsUnfinished (drop (length old) new)
    by_length zero is = inl (e ∙ ap (λ (k : ℕ). old ++ take k (replicate 28 0)) is ∙ append-nil old)
    by_length (suc n) is =
        let d : drop (length old) new ≡ take (suc n) (replicate 28 0) =
        ap (drop (length old)) (e ∙ ap (λ (k : ℕ). old ++ take k (replicate 28 0)) is)
        ∙ drop-append_seam old (take (suc n) (replicate 28 0)) in
        inr (rw d (zero_first (take n (replicate 27 0))))

-- ---- what stays as it was

pub keeps_same : (n : ℕ) (w : List ℕ) → KeepsFront n w w
keeps_same n w = record { front = refl; long = omega arith }

pub keeps_then : (n : ℕ) (a b c : List ℕ) → KeepsFront n a b → KeepsFront n b c → KeepsFront n a c
keeps_then n a b c h k = record { front = k.front ∙ h.front; long = omega (arith, h.long, k.long) }

take_less : (n at : ℕ) (w : List ℕ) → n ≤ at → take n w ≡ take n (take at w)
take_less n at w le = sym (take-take n at w le)

pub keeps_less : (n k : ℕ) (w w' : List ℕ) → n ≤ k → KeepsFront k w w' → KeepsFront n w w'
keeps_less n k w w' le h = record {
  front = take_less n k w' le ∙ ap (take n) h.front ∙ sym (take_less n k w le);
  long = h.long;
}

-- what is written over what follows
pub keeps_before : (n at : ℕ) (w w' : List ℕ) → n ≤ at → take at w' ≡ take at w → length w' ≡ length w
    → KeepsFront n w w'
keeps_before n at w w' le h long = keeps_less n at w w' le (record { front = h; long = omega (arith, long) })

front_part : (f n : ℕ) (w : List ℕ) → take n (drop f w) ≡ drop f (take (f + n) w)
front_part f n w = sym (drop-take f n w)

pub zeros_kept : (f : ℕ) (w w' : List ℕ) → KeepsFront (f + 28) w w' → take 28 (drop f w) ≡ replicate 28 0
    → take 28 (drop f w') ≡ replicate 28 0
zeros_kept f w w' h z = front_part f 28 w' ∙ ap (drop f) h.front ∙ sym (front_part f 28 w) ∙ z

pub zeros_refused : (f : ℕ) (w : List ℕ) → take 28 (drop f w) ≡ replicate 28 0 → IsUnfinished (drop f w)
zeros_refused f w z = unfinished_by 28 (drop f w) (omega arith) z

-- ---- the magic number is written last

pub four_zeros : (f : ℕ) (w : List ℕ) → take 28 (drop f w) ≡ replicate 28 0 → take 4 (drop f w) ≡ replicate 4 0
four_zeros f w z = take_less 4 28 (drop f w) (omega arith) ∙ ap (take 4) z

pub four_kept : (f : ℕ) (w w' : List ℕ) → take (f + 4) w' ≡ take (f + 4) w → take 4 (drop f w) ≡ replicate 4 0
    → take 4 (drop f w') ≡ replicate 4 0
four_kept f w w' h z = front_part f 4 w' ∙ ap (drop f) h ∙ sym (front_part f 4 w) ∙ z

drop-drop-add : (m n : ℕ) (c : List ℕ) → drop m (drop n c) ≡ drop (m + n) c
drop-drop-add m n c = drop-drop m n c ∙ ap (λ (k : ℕ). drop k c) (omega arith)

drop_put : (c : List ℕ) (at : ℕ) (x : List ℕ) → at + length x ≤ length c → drop at (put_at c at x) ≡ x
    ++ drop (length x) (drop at c)
drop_put c at x le =
    let t : length (take at c) ≡ at = length-take-le at c (omega (arith, le)) in
    ap (drop at) (sym (put'_is c at x)) ∙ ap (λ (n : ℕ). drop n (take at c ++ (x ++ drop (at + length x) c))) (sym t)
    ∙ drop-append_seam (take at c) (x ++ drop (at + length x) c)
    ∙ ap (λ (l : List ℕ). x ++ l) (ap (λ (n : ℕ). drop n c) (let z : at + length x ≡ length x + at = omega arith in z)
    ∙ sym (drop-drop-add (length x) at c))

magic_part : (k : ℕ) (d : List ℕ) → k < 4
    → IsUnfinished (take k (to_le_bytes w32 0xED26FF3A) ++ drop k (replicate 4 0 ++ d))
magic_part zero d lt y e = let n : 0 ≡ 0xED26FF3A = e in absurd (omega (arith, n))
magic_part (suc zero) d lt y e = let n : 0x3A ≡ 0xED26FF3A = e in absurd (omega (arith, n))
magic_part (suc (suc zero)) d lt y e = let n : 0xFF3A ≡ 0xED26FF3A = e in absurd (omega (arith, n))
magic_part (suc (suc (suc zero))) d lt y e = let n : 0x26FF3A ≡ 0xED26FF3A = e in absurd (omega (arith, n))
magic_part (suc (suc (suc (suc k)))) d lt y e = absurd (omega (arith, lt))

pub magic_last : (c new h : List ℕ) (at k : ℕ) → h ≡ to_le_bytes w32 0xED26FF3A → k < length h → at + 4 ≤ length c
    → take 4 (drop at c) ≡ replicate 4 0 → new ≡ put_at c at (take k h) → IsUnfinished (drop at new)
magic_last c new h at k is lt le z e =
    let four : length h ≡ 4 = ap length is in
    let long : length (take k h) ≡ k = length-take-le k h (omega (arith, lt)) in
    let d : drop at c ≡ replicate 4 0 ++ drop 4 (drop at c) = sym (take-append-drop 4 (drop at c))
    ∙ ap (λ (l : List ℕ). l ++ drop 4 (drop at c)) z in
    let x : drop at new ≡ take k h ++ drop k (drop at c) =
    ap (drop at) e ∙ drop_put c at (take k h) (omega (arith, le, long, lt, four))
    ∙ ap (λ (n : ℕ). take k h ++ drop n (drop at c)) long in
    let y : drop at new ≡ take k (to_le_bytes w32 0xED26FF3A) ++ drop k (replicate 4 0 ++ drop 4 (drop at c)) =
    x ∙ ap (λ (l : List ℕ). take k l ++ drop k (drop at c)) is
    ∙ ap (λ (l : List ℕ). take k (to_le_bytes w32 0xED26FF3A) ++ drop k l) d in
    rw y (magic_part k (drop 4 (drop at c)) (omega (arith, lt, four)))

-- bytes that are written in two parts, the last first
pub laid_in_two : (c mid new x y h : List ℕ) (at : ℕ) → at + (length x + length y) ≤ length c
    → mid ≡ put_at c (at + length x) y → new ≡ put_at mid at x → h ≡ x ++ y → new ≡ put_at c at h
laid_in_two c mid new x y h at le e f g =
    let t : length (take at c) ≡ at = length-take-le at c (omega (arith, le)) in
    let a : take at mid ≡ take at c = before_on c mid at (at + length x) y (omega arith) (omega (arith, le)) e in
    let d : drop (at + length x) mid ≡ y ++ drop (length y) (drop (at + length x) c) = ap (drop (at + length x)) e
    ∙ drop_put c (at + length x) y (omega (arith, le)) in
    let k : drop (length y) (drop (at + length x) c) ≡ drop (at + length h) c =
    drop-drop-add (length y) (at + length x) c
    ∙ ap (λ (n : ℕ). drop n c) (omega (arith, ap length g, length-append x y)) in
    f ∙ sym (put'_is mid at x) ∙ ap (λ (l : List ℕ). l ++ (x ++ drop (at + length x) mid)) a
    ∙ ap (λ (l : List ℕ). take at c ++ (x ++ l)) (d ∙ ap (λ (l : List ℕ). y ++ l) k)
    ∙ ap (λ (l : List ℕ). take at c ++ l) (sym (append_assoc x y (drop (at + length h) c))
    ∙ ap (λ (l : List ℕ). l ++ drop (at + length h) c) (sym g)) ∙ put'_is c at h

pub header_laid : (c mid new h r : List ℕ) (at : ℕ) → h ≡ r → length h ≡ 28 → at + 28 ≤ length c
    → mid ≡ put_at c (at + 4) (take 24 (drop 4 h)) → new ≡ put_at mid at (take 4 h) → new ≡ put_at c at r
header_laid c mid new h r at is long le e f =
    let x = take 4 h in
    let y = take 24 (drop 4 h) in
    let a : length x ≡ 4 = length-take-le 4 h (omega (arith, long)) in
    let b : length y ≡ 24 = length-take-le 24 (drop 4 h) (omega (arith, long, length-drop 4 h)) in
    let whole : h ≡ x ++ y =
    sym (ap (λ (l : List ℕ). x ++ l) (take_all 24 (drop 4 h) (omega (arith, long, length-drop 4 h)))
    ∙ take-append-drop 4 h) in
    laid_in_two c mid new x y h at (omega (arith, a, b, le)) (e ∙ ap (λ (n : ℕ). put_at c (at + n) y) (sym a)) f whole
    ∙ ap (put_at c at) is

-- how many bytes each part has
pub header_parts : (h : List ℕ) → length h ≡ 28 → (length (take 24 (drop 4 h)) ≡ 24) × (length (take 4 h) ≡ 4)
header_parts h long =
    (length-take-le 24 (drop 4 h) (omega (arith, long, length-drop 4 h)), length-take-le 4 h (omega (arith, long)))
