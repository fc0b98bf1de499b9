-- Parts of a raw image whose tail may be raw.
use Rattle.std.proofs.Common.{◌≡◌, ℕ, zero, suc, ◌+◌, ◌-◌, ◌*◌, ◌/◌, ◌≤◌, ◌<◌, List, ◌∷◌, ◌++◌, length, take, drop}
use Rattle.std.proofs.Common.{Bool, true, false, refl, sym, ap, ◌∙◌, arith, subst, inl, inr, mul-le-mul_left}
use Rattle.std.proofs.Common.{nat_le}
use Rattle.std.proofs.Common.{leb-true, leb-false, replicate, min, mul-le-mul_right, length-drop, Result, Ok, Err}
use Rattle.std.specs.Prelude.{IfOk, IsTrue}
use Rattle.std.specs.List.{AllByRecursion}
use Rattle.std.proofs.lemmas.Bool.{cases_Bool}
use Rattle.std.proofs.lemmas.List.{drop-drop, take-take, drop-append-le}
use Rattle.std.proofs.Math.Seq.{take-add}
use Rattle.abt_sparse.specs.Block.{Block, Raw, class_of, filled_to, block_count}
use Rattle.abt_runs.specs.Part.{AllOf, IsRaw, raw_of}
use Rattle.abt_runs.specs.Tail.{tailed, raw_list, classed_count}
use Rattle.abt_runs.specs.RawLaws.{raw_count}
use Rattle.abt_runs.specs.declared.part.RunFault.{RunFault}
use Rattle.abt_runs.specs.declared.part.RunKind.{RunKind}
use Rattle.abt_runs.specs.declared.part.RunKind.TheVariants as kinds
use Rattle.abt_runs.proofs.Classes.{classes, drop-take', padded}
use Rattle.abt_runs.proofs.Copied.{raw_class, take_drop_take}

-- ---- how many are classed

pub few_whole : (b n len : ℕ) → 4 ≤ b → len ≤ n * b → len / b ≤ n
few_whole b n len some covers =
    let q = len / b in
    let d : b * q ≤ len = omega arith in
    elim (cases_Bool (nat_le q n)) [
      | inl le ↦ leb-true q n le
      | inr gt ↦ let lt = leb-false q n gt in let m : b * (n + 1) ≤ b * q =
          mul-le-mul_left b (let z : n + 1 ≤ q = omega arith in z) in absurd (omega (arith, m, d, covers))
    ]

-- ---- parts of the list

pub classes_tailed : (b n p : ℕ) (y : List ℕ) → n ≤ p → tailed b n p y ≡ classes b n y
classes_tailed b zero p y le = refl
classes_tailed b (suc n) zero y le = absurd (omega arith)
classes_tailed b (suc n) (suc p) y le = ap (λ (l : List Block). class_of (take b y) ∷ l)
    (classes_tailed b n p (drop b y) (omega arith))

pub drop_tailed : (b i n p : ℕ) (y : List ℕ) → i ≤ n → drop i (tailed b n p y)
    ≡ tailed b (n - i) (p - i) (drop (i * b) y)
drop_tailed b zero n p y le =
    ap (λ (k : ℕ). tailed b n p (drop k y)) (let z : 0 ≡ 0 * b = omega arith in z)
    ∙ ap (λ (k : ℕ). tailed b k p (drop (0 * b) y)) (let z : n ≡ n - 0 = omega arith in z)
    ∙ ap (λ (k : ℕ). tailed b (n - 0) k (drop (0 * b) y)) (let z : p ≡ p - 0 = omega arith in z)
drop_tailed b (suc i) zero p y le = absurd (omega arith)
drop_tailed b (suc i) (suc n) zero y le =
    drop_tailed b i n zero (drop b y) (omega arith)
    ∙ ap (λ (l : List ℕ). tailed b (n - i) (0 - i) l) (drop-drop (i * b) b y ∙ ap (λ (k : ℕ). drop k y)
    (let z : b + i * b ≡ suc i * b = omega arith in z))
    ∙ ap (λ (k : ℕ). tailed b k (0 - i) (drop (suc i * b) y)) (let z : n - i ≡ suc n - suc i = omega arith in z)
    ∙ ap (λ (k : ℕ). tailed b (suc n - suc i) k (drop (suc i * b) y)) (let z : 0 - i ≡ 0 - suc i = omega arith in z)
drop_tailed b (suc i) (suc n) (suc p) y le =
    drop_tailed b i n p (drop b y) (omega arith)
    ∙ ap (λ (l : List ℕ). tailed b (n - i) (p - i) l) (drop-drop (i * b) b y ∙ ap (λ (k : ℕ). drop k y)
    (let z : b + i * b ≡ suc i * b = omega arith in z))
    ∙ ap (λ (k : ℕ). tailed b k (p - i) (drop (suc i * b) y)) (let z : n - i ≡ suc n - suc i = omega arith in z)
    ∙ ap (λ (k : ℕ). tailed b (suc n - suc i) k (drop (suc i * b) y)) (let z : p - i ≡ suc p - suc i = omega arith in z)

pub take_tailed : (b q n p : ℕ) (y : List ℕ) → q ≤ n → take q (tailed b n p y) ≡ tailed b q p y
take_tailed b zero n p y le = refl
take_tailed b (suc q) zero p y le = absurd (omega arith)
take_tailed b (suc q) (suc n) zero y le = ap (λ (l : List Block). Raw (take b y) ∷ l)
    (take_tailed b q n zero (drop b y) (omega arith))
take_tailed b (suc q) (suc n) (suc p) y le = ap (λ (l : List Block). class_of (take b y) ∷ l)
    (take_tailed b q n p (drop b y) (omega arith))

pub part_tailed : (b i q n p : ℕ) (y : List ℕ) → i + q ≤ n
    → take q (drop i (tailed b n p y)) ≡ tailed b q (p - i) (drop (i * b) y)
part_tailed b i q n p y le =
    ap (λ (l : List Block). take q l) (drop_tailed b i n p y (omega arith))
    ∙ take_tailed b q (n - i) (p - i) (drop (i * b) y) (omega arith)

list_tailed : (t : Bool) (b n len : ℕ) (x : List ℕ) → block_count b x ≡ n → len ≡ length x
    → raw_list t b x ≡ tailed b n (classed_count t b len n) (filled_to (b * block_count b x) x)
list_tailed false b n len x count e =
    sym (classes_tailed b (block_count b x) n (filled_to (b * block_count b x) x) (omega (arith, count)))
    ∙ ap (λ (k : ℕ). tailed b k n (filled_to (b * block_count b x) x)) count
list_tailed true b n len x count e =
    ap (λ (k : ℕ). tailed b k (length x / b) (filled_to (b * block_count b x) x)) count
    ∙ ap (λ (k : ℕ). tailed b n (k / b) (filled_to (b * block_count b x) x)) (sym e)

pub list_part : (t : Bool) (b i q n len : ℕ) (x : List ℕ) → block_count b x ≡ n → len ≡ length x → i + q ≤ n
    → take q (drop i (raw_list t b x))
    ≡ tailed b q (classed_count t b len n - i) (drop (i * b) (filled_to (b * block_count b x) x))
list_part t b i q n len x count e le =
    ap (λ (l : List Block). take q (drop i l)) (list_tailed t b n len x count e)
    ∙ part_tailed b i q n (classed_count t b len n) (filled_to (b * block_count b x) x) le

-- where none is classed they are raw
pub all_raw : (b q p : ℕ) (y : List ℕ) → p ≡ 0 → AllByRecursion IsRaw (tailed b q p y)
all_raw b zero p y none = tt
all_raw b (suc q) zero y none = (tt, all_raw b q zero (drop b y) none)
all_raw b (suc q) (suc p) y none = absurd (omega arith)

-- blocks that were looked at together: all are classed, or none is
pub alike_all : (k : RunKind) (b n p : ℕ) (x : List ℕ) (is : Bool) → (IsTrue is → n ≤ p) → (is ≡ false → p ≡ 0)
    → (IsTrue is → AllOf k (classes b n x)) → (is ≡ false → k ≡ kinds.Raw) → AllOf k (tailed b n p x)
alike_all k b n p x true few none alike raw =
    subst (λ (l : List Block). AllOf k l) (sym (classes_tailed b n p x (few refl))) (alike refl)
alike_all k b n p x false few none alike raw = rw (raw refl) (all_raw b n p x (none refl))

-- ---- what was read of them

pub tailed_front : (b q p k : ℕ) (y : List ℕ) → q * b ≤ k → tailed b q p (take k y) ≡ tailed b q p y
tailed_front b zero p k y le = refl
tailed_front b (suc q) zero k y le =
    ap (λ (l : List ℕ). Raw l ∷ tailed b q zero (drop b (take k y))) (take-take b k y (omega arith))
    ∙ ap (λ (l : List ℕ). Raw (take b y) ∷ tailed b q zero l) (drop-take' b k y (omega arith))
    ∙ ap (λ (l : List Block). Raw (take b y) ∷ l) (tailed_front b q zero (k - b) (drop b y) (omega arith))
tailed_front b (suc q) (suc p) k y le =
    ap (λ (l : List ℕ). class_of l ∷ tailed b q p (drop b (take k y))) (take-take b k y (omega arith))
    ∙ ap (λ (l : List ℕ). class_of (take b y) ∷ tailed b q p l) (drop-take' b k y (omega arith))
    ∙ ap (λ (l : List Block). class_of (take b y) ∷ l) (tailed_front b q p (k - b) (drop b y) (omega arith))

-- Blocks of a raw image, from the bytes that were read of it.
pub list_read : (t : Bool) (b i q n blocks want len : ℕ) (x : List ℕ) → block_count b x ≡ blocks → len ≡ length x
    → i + n ≤ blocks → q ≤ n → i * b ≤ length x → length x ≤ blocks * b → want ≡ min (n * b) (length x - i * b)
    → take q (drop i (raw_list t b x))
    ≡ tailed b q (classed_count t b len blocks - i) (take want (drop (i * b) x) ++ replicate (n * b - want) 0)
list_read t b i q n blocks want len x count e within less at covers w =
    let p = classed_count t b len blocks - i in
    let total : b * block_count b x ≡ blocks * b = rw count (omega arith) in
    let zeros = replicate (b * block_count b x - length x) 0 in
    let lessb : q * b ≤ n * b = mul-le-mul_right b less in
    let room : (i + n) * b ≤ blocks * b = mul-le-mul_right b within in
    let rest : drop (i * b) (x ++ zeros) ≡ drop (i * b) x ++ zeros = drop-append-le (i * b) x zeros at in
    let fill : take want (drop (i * b) x) ++ replicate (n * b - want) 0 ≡ take (n * b) (drop (i * b) x ++ zeros) =
    padded (n * b) (b * block_count b x - length x) want (drop (i * b) x)
    (w ∙ ap (λ (k : ℕ). min (n * b) k) (sym (length-drop (i * b) x))) (omega (arith, length-drop (i * b) x)) in
    list_part t b i q blocks len x count e (omega (arith, within, less))
    ∙ ap (λ (l : List ℕ). tailed b q p l) rest
    ∙ sym (tailed_front b q p (n * b) (drop (i * b) x ++ zeros) lessb)
    ∙ ap (λ (l : List ℕ). tailed b q p l) (sym fill)

-- those of a window, as they stand in the list
pub read_all : (t : Bool) (k : RunKind) (b i q n blocks want at room len : ℕ) (x window : List ℕ) (is : Bool)
    → block_count b x ≡ blocks → len ≡ length x → i + n ≤ blocks → q ≤ n → at ≡ i * b → at ≤ length x
    → length x ≤ blocks * b → room ≡ n * b → want ≡ min (length x - at) room
    → window ≡ take want (drop at x) ++ replicate (room - want) 0 → (IsTrue is → i + n ≤ classed_count t b len blocks)
    → (is ≡ false → classed_count t b len blocks ≤ i) → (IsTrue is → AllOf k (classes b q window))
    → (is ≡ false → k ≡ kinds.Raw) → AllOf k (take q (drop i (raw_list t b x)))
read_all t k b i q n blocks want at room len x window is count e within less place there covers wide w read few none
    alike raw =
    let p = classed_count t b len blocks - i in
    let part = list_read t b i q n blocks want len x count e within less (omega (arith, place, there)) covers
    (omega (arith, w, place, wide)) in
    let same : window ≡ take want (drop (i * b) x) ++ replicate (n * b - want) 0 = read
    ∙ ap (λ (j : ℕ). take want (drop j x) ++ replicate (room - want) 0) place
    ∙ ap (λ (j : ℕ). take want (drop (i * b) x) ++ replicate (j - want) 0) wide in
    subst (λ (l : List Block). AllOf k l) (ap (λ (l : List ℕ). tailed b q p l) same ∙ sym part)
    (alike_all k b q p window is (λ y. let z = few y in omega (arith, z, less))
    (λ y. let z = none y in omega (arith, z))
    alike raw)

-- ---- the bytes of raw blocks

pub raw_tailed : (b q p : ℕ) (z : List ℕ) → AllByRecursion IsRaw (tailed b q p z)
    → raw_of (tailed b q p z) ≡ take (q * b) z
raw_tailed b zero p z h = ap (λ (k : ℕ). take k z) (let e : 0 ≡ 0 * b = omega arith in e)
raw_tailed b (suc q) zero z h =
    ap (λ (l : List ℕ). take b z ++ l) (raw_tailed b q zero (drop b z) h.1)
    ∙ sym (take-add b (q * b) z)
    ∙ ap (λ (k : ℕ). take k z) (let e : b + q * b ≡ suc q * b = omega arith in e)
raw_tailed b (suc q) (suc p) z h =
    ap (λ (l : List ℕ). l ++ raw_of (tailed b q p (drop b z))) (raw_class (take b z) h.0)
    ∙ ap (λ (l : List ℕ). take b z ++ l) (raw_tailed b q p (drop b z) h.1)
    ∙ sym (take-add b (q * b) z)
    ∙ ap (λ (k : ℕ). take k z) (let e : b + q * b ≡ suc q * b = omega arith in e)

-- what is asked for, as bytes of the image filled up
pub list_copied : (t : Bool) (b i q n at blocks len : ℕ) (x : List ℕ) → block_count b x ≡ blocks → len ≡ length x
    → i + q ≤ blocks → AllOf kinds.Raw (take q (drop i (raw_list t b x))) → at + n ≤ q * b
    → take n (drop at (raw_of (take q (drop i (raw_list t b x)))))
    ≡ take n (drop (i * b + at) (filled_to (b * block_count b x) x))
list_copied t b i q n at blocks len x count e within h le =
    let y = filled_to (b * block_count b x) x in
    let p = classed_count t b len blocks - i in
    let same = list_part t b i q blocks len x count e within in
    let raws : AllByRecursion IsRaw (tailed b q p (drop (i * b) y)) = subst
    (λ (l : List Block). AllByRecursion IsRaw l) same h in
    ap (λ (l : List Block). take n (drop at (raw_of l))) same
    ∙ ap (λ (l : List ℕ). take n (drop at l)) (raw_tailed b q p (drop (i * b) y) raws)
    ∙ take_drop_take n at (q * b) (drop (i * b) y) le
    ∙ ap (λ (l : List ℕ). take n l) (drop-drop at (i * b) y)

-- bytes of the image filled up are those of raw blocks
pub copied_list : (r : Result ℕ RunFault) (t : Bool) (b i at blocks len : ℕ) (x out : List ℕ) → 4 ≤ b
    → len ≤ blocks * b → blocks * b < len + b → len ≡ length x → i ≤ blocks
    → IfOk r (λ n. take n out ≡ take n (drop (i * b + at) (filled_to (blocks * b) x)))
    → IfOk r (λ n. (q : ℕ) → q ≤ blocks - i → AllOf kinds.Raw (take q (drop i (raw_list t b x))) → at + n ≤ q * b
    → take n out ≡ take n (drop at (raw_of (take q (drop i (raw_list t b x))))))
copied_list (Ok n) t b i at blocks len x out some covers last e inside is = λ q within raws le.
    let count = raw_count len blocks b x some covers last e in
    let total : b * block_count b x ≡ blocks * b = rw count (omega arith) in
    is ∙ ap (λ (k : ℕ). take n (drop (i * b + at) (filled_to k x))) (sym total)
    ∙ sym (list_copied t b i q n at blocks len x count e (omega arith) raws le)
copied_list (Err f) t b i at blocks len x out some covers last e inside is = tt
