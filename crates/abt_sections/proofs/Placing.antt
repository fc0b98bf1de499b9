-- A record that is written over zeros, its magic last.
use Rattle.std.proofs.Common.{◌≡◌, ℕ, zero, suc, ◌+◌, ◌-◌, ◌*◌, ◌<◌, ◌≤◌, inl, inr, List, [], ◌∷◌, ◌++◌, length, take}
use Rattle.std.proofs.Common.{drop, replicate, get_or, refl, sym, ap, ◌∙◌, append_assoc, append-nil, arith}
use Rattle.std.proofs.Common.{length-append, length-drop, length-take, drop-drop, nat_lt}
use Rattle.std.proofs.lemmas.Bool.{cases_Bool, ltb-true, ltb-false}
use Rattle.std.proofs.lemmas.List.{length-take-le, length-replicate, take_all, take_at, drop_at, drop-take}
use Rattle.std.proofs.lemmas.List.{take-append-le, take-append-drop, drop-append-le, get_or-take, get_or-drop}
use Rattle.std.proofs.lemmas.List.{get_or-replicate, get_or_append_left, get_or-append_right}
use Rattle.std.proofs.Math.Nat.{mul-le-mul_right}
use Rattle.abt_io.specs.Bytes.{AreBytes}
use Rattle.abt_io.specs.BytesLaws.{bytes_of_take}
use Rattle.abt_io.specs.Moment.{put_at}
use Rattle.abt_io.proofs.Overs.{put'_is, before_on}
use Rattle.abt_headers.specs.Page.{pages}
use Rattle.abt_headers.proofs.Places.{enough_pages, least_pages}
use Rattle.abt_sections.specs.Broken.{HasNoMagic, IsBrokenOff}
use Rattle.abt_sections.specs.Grown.{Grows}
use Rattle.abt_sections.specs.Layout.{padded, zeros_behind}
use Rattle.abt_sections.proofs.Magic.{opens_as_nothing}

-- what is stored from a place on where bytes were put there
drop_put : (c : List ℕ) (at : ℕ) (y : List ℕ) → at ≤ length c → drop at (put_at c at y) ≡ y ++ drop (at + length y) c
drop_put c at y le = ap (drop at) (sym (put'_is c at y)) ∙ drop_at (take at c) (y ++ drop (at + length y) c) at
    (length-take-le at c le)

-- the record, put in two parts, the second before the first
pub put_two : (old mid new bytes : List ℕ) (at : ℕ) → 8 ≤ length bytes → at + length bytes ≤ length old
    → mid ≡ put_at old (at + 8) (take (length bytes - 8) (drop 8 bytes)) → new ≡ put_at mid at (take 8 bytes)
    → new ≡ put_at old at bytes
put_two old mid new bytes at long fits first then =
    let d = drop 8 bytes in
    let m = take 8 bytes in
    let dl : length d ≡ length bytes - 8 = length-drop 8 bytes in
    let ml : length m ≡ 8 = length-take-le 8 bytes long in
    let whole : take (length bytes - 8) d ≡ d = take_all (length bytes - 8) d (omega (arith, dl)) in
    let mid' : mid ≡ put_at old (at + 8) d = first ∙ ap (put_at old (at + 8)) whole in
    let front : take at mid ≡ take at old = before_on old mid at (at + 8) d (omega arith) (omega (arith, dl)) mid' in
    let rest : drop (at + 8) mid ≡ d ++ drop ((at + 8) + length d) old = ap (drop (at + 8)) mid'
    ∙ drop_put old (at + 8) d (omega arith) in
    let end : (at + 8) + length d ≡ at + length bytes = omega (arith, dl) in
    then ∙ ap (λ (n : ℕ). (take at mid ++ m) ++ drop (at + n) mid) ml
    ∙ ap (λ (l : List ℕ). (l ++ m) ++ drop (at + 8) mid) front
    ∙ ap (λ (l : List ℕ). (take at old ++ m) ++ l) rest
    ∙ ap (λ (n : ℕ). (take at old ++ m) ++ (d ++ drop n old)) end
    ∙ sym (append_assoc (take at old ++ m) d (drop (at + length bytes) old))
    ∙ ap (λ (l : List ℕ). l ++ drop (at + length bytes) old) (append_assoc (take at old) m d
    ∙ ap (λ (l : List ℕ). take at old ++ l) (take-append-drop 8 bytes))

-- ---- zeros at a place

-- a longer prefix is the same
pub zeros_kept : (old mid : List ℕ) (at : ℕ) → take (at + 8) mid ≡ take (at + 8) old
    → take 8 (drop at old) ≡ replicate 8 0 → take 8 (drop at mid) ≡ replicate 8 0
zeros_kept old mid at same zeros = sym (drop-take at 8 mid) ∙ ap (drop at) same ∙ drop-take at 8 old ∙ zeros

item_zero : (x : List ℕ) → take 8 x ≡ replicate 8 0 → (i : ℕ) → i < 8 → get_or x i 0 ≡ 0
item_zero x zeros i lt = sym (get_or-take 8 x i 0 lt) ∙ ap (λ (l : List ℕ). get_or l i 0) zeros
    ∙ get_or-replicate 8 i 0 0 lt

some_eight : (x : List ℕ) → take 8 x ≡ replicate 8 0 → 0 < length x
some_eight x zeros = omega (arith, ap length zeros, length-take 8 x)

pub no_magic_yet : (x : List ℕ) → take 8 x ≡ replicate 8 0 → HasNoMagic x
no_magic_yet x zeros = record {
  at = 0;
  front = omega arith;
  there = some_eight x zeros;
  zero = item_zero x zeros 0 (omega arith);
  bytes = λ i lt. let z = item_zero x zeros i lt in omega arith;
}

-- of the magic k bytes came, fewer than eight
pub no_whole_magic : (mid new bytes : List ℕ) (at k : ℕ) → take 8 (drop at mid) ≡ replicate 8 0
    → new ≡ put_at mid at (take k (take 8 bytes)) → k < 8 → 8 ≤ length bytes → AreBytes bytes → HasNoMagic (drop at new)
no_whole_magic mid new bytes at k zeros e lt long are =
    let m = take 8 bytes in
    let y = take k m in
    let some = some_eight (drop at mid) zeros in
    let le : at ≤ length mid = omega (arith, some, length-drop at mid) in
    let ml : length m ≡ 8 = length-take-le 8 bytes long in
    let yl : length y ≡ k = length-take-le k m (omega (arith, ml)) in
    let x : drop at new ≡ y ++ drop (at + length y) mid = ap (drop at) e ∙ drop_put mid at y le in
    let behind : (i : ℕ) → k ≤ i → i < 8 → get_or (drop at new) i 0 ≡ 0 = λ i ge lt.
    ap (λ (l : List ℕ). get_or l i 0) x
    ∙ get_or-append_right y (drop (at + length y) mid) k i 0 yl ge
    ∙ get_or-drop (at + length y) mid (i - k) 0
    ∙ ap (λ (n : ℕ). get_or mid n 0) (let p : (at + length y) + (i - k) ≡ at + i = omega (arith, yl, ge) in p)
    ∙ sym (get_or-drop at mid i 0)
    ∙ item_zero (drop at mid) zeros i lt in
    let here : (i : ℕ) → i < k → get_or (drop at new) i 0 < 256 = λ i lt.
    let b = bytes_of_take k m (bytes_of_take 8 bytes are) i in
    let s = ap (λ (l : List ℕ). get_or l i 0) x ∙ get_or_append_left y (drop (at + length y) mid) 0 i
    (omega (arith, yl)) in
    omega (arith, b, s) in
    let dl : length (drop at new) ≡ length y + length (drop (at + length y) mid) =
    ap length x ∙ length-append y (drop (at + length y) mid) in
    record {
      at = 7;
      front = omega arith;
      there = omega (
        arith,
        dl,
        yl,
        length-drop (at + length y) mid,
        length-drop at mid,
        length-take 8 (drop at mid),
        ap length zeros,
      );
      zero = behind 7 (omega arith) (omega arith);
      bytes = λ i l8. elim (cases_Bool (nat_lt i k)) [
        | inl t ↦ here i (ltb-true _ _ t)
        | inr t ↦
            (let z = behind i (ltb-false _ _ t) l8 in omega (arith, z))
      ];
    }

-- ---- zeros for the header's page

zero_item : (k n i : ℕ) → get_or {A = ℕ} (take k (replicate n 0)) i 0 ≡ 0
zero_item zero n i = none i
  where
    none : (i : ℕ) → get_or {A = ℕ} [] i 0 ≡ 0
    none zero = refl
    none (suc i) = refl
zero_item (suc k) zero zero = refl
zero_item (suc k) zero (suc i) = refl
zero_item (suc k) (suc n) zero = refl
zero_item (suc k) (suc n) (suc i) = zero_item k n i

-- where some of them came, or none
pub page_broken : (old now : List ℕ) (n k : ℕ) → now ≡ old ++ take k (replicate n 0) → IsBrokenOff old now
page_broken old now n zero e = inl (e ∙ append-nil old)
page_broken old now zero (suc k) e = inl (e ∙ append-nil old)
page_broken old now (suc n) (suc k) e =
    let z = take (suc k) (replicate (suc n) 0) in
    let x : drop (length old) now ≡ z = ap (drop (length old)) e ∙ drop_at old z (length old) refl in
    let none : HasNoMagic z = record {
      at = 0;
      front = omega arith;
      there = omega arith;
      zero = zero_item (suc k) (suc n) 0;
      bytes = λ i lt. let w = zero_item (suc k) (suc n) i in omega (arith, w);
    } in
    inr (opens_as_nothing (drop (length old) now) (rw x none))

zeros_of : (k n : ℕ) → k ≤ n → take {A = ℕ} k (replicate n 0) ≡ replicate k 0
zeros_of zero n le = refl
zeros_of (suc k) zero le = absurd (omega (arith, le))
zeros_of (suc k) (suc n) le = ap (λ (l : List ℕ). 0 ∷ l) (zeros_of k n (omega arith))

-- where all of them came, and maybe more after them
pub page_stands : (old now : List ℕ) (n : ℕ) → 8 ≤ n → Grows (old ++ replicate n 0) now
    → take 8 (drop (length old) now) ≡ replicate 8 0
page_stands old now n long g =
    let z = replicate n 0 in
    let front = old ++ z in
    let rest = drop (length front) now in
    let whole : now ≡ old ++ (z ++ rest) = sym (take-append-drop (length front) now)
    ∙ ap (λ (l : List ℕ). l ++ rest) g ∙ append_assoc old z rest in
    ap (λ (l : List ℕ). take 8 (drop (length old) l)) whole
    ∙ ap (take 8) (drop_at old (z ++ rest) (length old) refl)
    ∙ take-append-le 8 z rest (omega (arith, length-replicate {A = ℕ} n 0))
    ∙ zeros_of 8 n long

-- ---- the whole image

-- a record that fits a page takes one
pub one_page : (n page : ℕ) → 0 < n → n ≤ page → pages n page * page ≡ page
one_page n page some fits = of (pages n page) page n some fits (enough_pages n page (omega arith))
    (least_pages n page (omega arith))
  where
    of : (q p n : ℕ) → 0 < n → n ≤ p → n ≤ q * p → q * p < n + p → q * p ≡ p
    of zero p n some fits a b = absurd (omega arith)
    of (suc zero) p n some fits a b = omega arith
    of (suc (suc q)) p n some fits a b = let m : 2 * p ≤ suc (suc q) * p = mul-le-mul_right p (omega arith) in
        absurd (omega arith)

replicate_behind : (k n : ℕ) → k ≤ n → drop {A = ℕ} k (replicate n 0) ≡ replicate (n - k) 0
replicate_behind zero n le = ap (λ (k : ℕ). replicate {A = ℕ} k 0) (let e : n ≡ n - 0 = omega arith in e)
replicate_behind (suc k) zero le = absurd (omega (arith, le))
replicate_behind (suc k) (suc n) le = replicate_behind k n (omega arith)
    ∙ ap (λ (j : ℕ). replicate {A = ℕ} j 0) (let e : n - k ≡ suc n - suc k = omega arith in e)

-- zeros for a page, parts after it, and then the record over the zeros
pub laid_over : (old mid new bytes behind : List ℕ) (page : ℕ) → mid ≡ (old ++ replicate page 0) ++ behind
    → new ≡ put_at mid (length old) bytes → 0 < length bytes → length bytes ≤ page
    → new ≡ old ++ (padded page bytes ++ behind)
laid_over old mid new bytes behind page e put some fits =
    let z = replicate page 0 in
    let n = length bytes in
    let mid' : mid ≡ old ++ (z ++ behind) = e ∙ append_assoc old z behind in
    let front : take (length old) mid ≡ old = ap (take (length old)) mid'
    ∙ take_at old (z ++ behind) (length old) refl in
    let zl : length z ≡ page = length-replicate page 0 in
    let cut : drop n (z ++ behind) ≡ replicate (page - n) 0 ++ behind = drop-append-le n z behind (omega (arith, zl))
    ∙ ap (λ (l : List ℕ). l ++ behind) (replicate_behind n page fits) in
    let rest : drop (length old + n) mid ≡ zeros_behind n page ++ behind =
    sym (drop-drop n (length old) mid)
    ∙ ap (λ (l : List ℕ). drop n (drop (length old) l)) mid'
    ∙ ap (drop n) (drop_at old (z ++ behind) (length old) refl)
    ∙ cut
    ∙ ap (λ (k : ℕ). replicate (k - n) 0 ++ behind) (sym (one_page n page some fits)) in
    put
    ∙ ap (λ (l : List ℕ). (l ++ bytes) ++ drop (length old + n) mid) front
    ∙ ap (λ (l : List ℕ). (old ++ bytes) ++ l) rest
    ∙ append_assoc old bytes (zeros_behind n page ++ behind)
    ∙ ap (λ (l : List ℕ). old ++ l) (sym (append_assoc bytes (zeros_behind n page) behind))
