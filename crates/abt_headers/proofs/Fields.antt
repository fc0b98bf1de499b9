-- Fields that are written and read.
use Rattle.std.proofs.Common.{◌≡◌, ℕ, zero, suc, ◌+◌, ◌*◌, ◌/◌, ◌%◌, ◌^◌, ◌<◌, ◌≤◌, List, [], ◌∷◌, ◌++◌, length, get_or}
use Rattle.std.proofs.Common.{take, drop, refl, sym, ap, ◌∙◌, append_assoc, append-nil, arith, length-drop, get_or-drop}
use Rattle.std.proofs.Common.{take-append-drop, drop-drop}
use Rattle.std.proofs.Math.Nat.{div-div-eq-div-mul, pow-succ'}
use Rattle.std.proofs.lemmas.List.{take_at, drop_at}
use Rattle.std.specs.Int.{byte_at, bytes_low_first}
use Rattle.byteorder.specs.Endian.{little_number, little_bytes, little_from}
use Rattle.byteorder.specs.Numbers.{little_number-reads_back, length-bytes_low_first, little_from-cons}
use Rattle.abt_headers.specs.Field.{number_at, part_at, joined_fields}

abbrev pub IsBytes : List ℕ → Type 0
IsBytes x = (i : ℕ) → get_or x i 0 < 256

pub IsBytes-drop : (n : ℕ) (x : List ℕ) → IsBytes x → IsBytes (drop n x)
IsBytes-drop n x h i = rw get_or-drop (h (n + i))

-- ---- what was written is read

pub next : (p n : ℕ) (x a b : List ℕ) → drop p x ≡ a ++ b → length a ≡ n → drop (p + n) x ≡ b
next p n x a b e l = sym (drop-drop n p x) ∙ ap (drop n) e ∙ drop_at a b n l

pub next_number : (p n v : ℕ) (x b : List ℕ) → drop p x ≡ little_bytes n v ++ b → drop (p + n) x ≡ b
next_number p n v x b e = next p n x (little_bytes n v) b e (length-bytes_low_first 0 n v)

pub part_here : (p n : ℕ) (x a b : List ℕ) → drop p x ≡ a ++ b → length a ≡ n → part_at p n x ≡ a
part_here p n x a b e l = ap (take n) e ∙ take_at a b n l

pub number_here : (p n v : ℕ) (x b : List ℕ) → drop p x ≡ little_bytes n v ++ b → v < 256 ^ n → number_at p n x ≡ v
number_here p n v x b e h = ap (little_number n) e ∙ little_number-reads_back n v b h

-- ---- what is read is encoded so

higher : (j a m : ℕ) → a < 256 → byte_at (suc j) (a + 256 * m) ≡ byte_at j m
higher zero a m h = let e : (a + 256 * m) / 256 ^ suc zero ≡ m = omega arith in ap (λ (k : ℕ). k % 256) e
higher (suc j) a m h =
    let e : (a + 256 * m) / 256 ≡ m = omega arith in
    ap (λ (k : ℕ). k % 256) (ap (λ (p : ℕ). (a + 256 * m) / p) (pow-succ' 256 (suc j))
    ∙ sym (div-div-eq-div-mul (a + 256 * m) 256 (256 ^ suc j)) ∙ ap (λ (k : ℕ). k / 256 ^ suc j) e)

shift : (j k a m : ℕ) → a < 256 → bytes_low_first (suc j) k (a + 256 * m) ≡ bytes_low_first j k m
shift j zero a m h = refl
shift j (suc k) a m h = rw (higher j a m h, shift (suc j) k a m h) refl

pub bytes_back : (n : ℕ) (y : List ℕ) → n ≤ length y → IsBytes y → little_bytes n (little_number n y) ≡ take n y
bytes_back zero y h k = refl
bytes_back (suc n) [] h k = absurd (omega arith)
bytes_back (suc n) (a ∷ r) h k =
    let m : little_from 1 n (a ∷ r) ≡ little_from 0 n r = little_from-cons 0 n a r in
    let low : (a + 256 * little_from 0 n r) % 256 ≡ a = let b = k 0 in omega arith in
    let rest = bytes_back n r (omega arith) (λ i. k (suc i)) in
    rw (m, low, shift 0 n a (little_from 0 n r) (k 0), rest) refl

pub part_field : (p n : ℕ) (x rest : List ℕ) → rest ≡ drop (p + n) x → part_at p n x ++ rest ≡ drop p x
part_field p n x rest e = ap (λ (t : List ℕ). take n (drop p x) ++ t) (e ∙ sym (drop-drop n p x))
    ∙ take-append-drop n (drop p x)

-- a number that is known
pub field_is : (p n v : ℕ) (x rest : List ℕ) → p + n ≤ length x → IsBytes x → number_at p n x ≡ v
    → rest ≡ drop (p + n) x → little_bytes n v ++ rest ≡ drop p x
field_is p n v x rest h k is e =
    ap (λ (m : ℕ). little_bytes n m ++ rest) (sym is)
    ∙ ap (λ (t : List ℕ). t ++ rest) (bytes_back n (drop p x) (omega (arith, length-drop p x)) (IsBytes-drop p x k))
    ∙ part_field p n x rest e

pub field : (p n : ℕ) (x rest : List ℕ) → p + n ≤ length x → IsBytes x → rest ≡ drop (p + n) x
    → little_bytes n (number_at p n x) ++ rest ≡ drop p x
field p n x rest h k e = field_is p n (number_at p n x) x rest h k refl e

-- ---- fields in a row

abbrev pub joined_to : List (List ℕ) → List ℕ → List ℕ
joined_to [] rest = rest
joined_to (f ∷ fs) rest = f ++ joined_to fs rest

pub joined_rest : (fs : List (List ℕ)) (rest : List ℕ) → joined_fields fs ++ rest ≡ joined_to fs rest
joined_rest [] rest = refl
joined_rest (f ∷ fs) rest = append_assoc f (joined_fields fs) rest ∙ ap (λ (t : List ℕ). f ++ t) (joined_rest fs rest)

-- one write more, after what was written
pub put_more : (front base now new b : List ℕ) (p n : ℕ) → length front ≡ p → length b ≡ n
    → now ≡ front ++ drop p base → new ≡ take p now ++ (b ++ drop (p + length b) now) → new ≡ (front ++ b)
    ++ drop (p + n) base
put_more front base now new b p n l m e f =
    f ∙ ap (λ (t : List ℕ). take p t ++ (b ++ drop (p + length b) t)) e
    ∙ ap (λ (t : List ℕ). t ++ (b ++ drop (p + length b) (front ++ drop p base))) (take_at front (drop p base) p l)
    ∙ ap (λ (k : ℕ). front ++ (b ++ drop (p + k) (front ++ drop p base))) m
    ∙ ap (λ (t : List ℕ). front ++ (b ++ t)) (sym (drop-drop n p (front ++ drop p base))
    ∙ ap (drop n) (drop_at front (drop p base) p l) ∙ drop-drop n p base)
    ∙ sym (append_assoc front b (drop (p + n) base))

pub regroup_5 : (h a b c d rest : List ℕ) → ((((h ++ a) ++ b) ++ c) ++ d)
    ++ rest ≡ (h ++ (a ++ (b ++ (c ++ (d ++ []))))) ++ rest
regroup_5 h a b c d rest = simp (append_assoc, append-nil)

pub regroup_4 : (h a b c rest : List ℕ) → (((h ++ a) ++ b) ++ c) ++ rest ≡ (h ++ (a ++ (b ++ (c ++ [])))) ++ rest
regroup_4 h a b c rest = simp (append_assoc, append-nil)

pub joined-append : (fs gs : List (List ℕ)) → joined_fields (fs ++ gs) ≡ joined_fields fs ++ joined_fields gs
joined-append [] gs = refl
joined-append (f ∷ fs) gs = ap (λ (t : List ℕ). f ++ t) (joined-append fs gs)
    ∙ sym (append_assoc f (joined_fields fs) (joined_fields gs))

pub regroup_ends : (h a b c d rest : List ℕ) → ((((h ++ a) ++ b) ++ c) ++ d) ++ rest ≡ (h ++ (a ++ (b ++ (c ++ d))))
    ++ rest
regroup_ends h a b c d rest = simp append_assoc
