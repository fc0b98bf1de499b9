-- A header is read from its first bytes alone.
use Rattle.std.proofs.Common.{◌≡◌, ℕ, ◌+◌, ◌-◌, ◌<◌, ◌≤◌, List, length, take, drop, refl, sym, ap, ◌∙◌, arith}
use Rattle.std.proofs.Common.{length-take-le, nat_lt, inl, inr, ◌⊎◌}
use Rattle.std.proofs.lemmas.List.{take-take, take_all, drop-take}
use Rattle.std.proofs.lemmas.Bool.{cases_Bool, ltb-true, ltb-false, le-ltb}
use Rattle.byteorder.specs.Endian.{little_number}
use Rattle.byteorder.specs.Numbers.{little_from-take}
use Rattle.abt_headers.specs.declared.page.PageSize.{PageSize}
use Rattle.abt_headers.specs.Field.{number_at, part_at}
use Rattle.abt_headers.specs.Vendor.{Tail, vendor_front_at, tail_at, tail_checked, tail_or_fault, vendor_of, vendor_at}
use Rattle.abt_headers.specs.Boot.{front_at, dtbo_at, dtb_at, short_at, boot_of, boot_at}

add_back : (p m : ℕ) → p ≤ m → m ≡ p + (m - p)
add_back p m h = omega arith

below : {a b : ℕ} → b < a → b ≤ a
below h = omega arith

order : (a b : ℕ) → (a ≤ b) ⊎ (b ≤ a)
order a b = elim (cases_Bool (nat_lt b a)) [ inl t ↦ inr (below (ltb-true _ _ t)) | inr t ↦ inl (ltb-false _ _ t) ]

cut : (p m : ℕ) (x : List ℕ) → p ≤ m → drop p (take m x) ≡ take (m - p) (drop p x)
cut p m x h = ap (λ (k : ℕ). drop p (take k x)) (add_back p m h) ∙ drop-take p (m - p) x

same_number : (p n m : ℕ) (x : List ℕ) → p + n ≤ m → number_at p n (take m x) ≡ number_at p n x
same_number p n m x h = ap (little_number n) (cut p m x (omega arith))
    ∙ little_from-take 0 n (m - p) (drop p x) (omega arith)

same_part : (p n m : ℕ) (x : List ℕ) → p + n ≤ m → part_at p n (take m x) ≡ part_at p n x
same_part p n m x h = ap (take n) (cut p m x (omega arith)) ∙ take-take n (m - p) (drop p x) (omega arith)

front_same : (m : ℕ) (x : List ℕ) (q : PageSize) → 1632 ≤ m → front_at q (take m x) ≡ front_at q x
unfolding front_at
front_same m x q h =
    let f8 = same_number 8 4 m x (omega arith) in
    let f12 = same_number 12 4 m x (omega arith) in
    let f16 = same_number 16 4 m x (omega arith) in
    let f20 = same_number 20 4 m x (omega arith) in
    let f24 = same_number 24 4 m x (omega arith) in
    let f28 = same_number 28 4 m x (omega arith) in
    let f32 = same_number 32 4 m x (omega arith) in
    let f44 = same_number 44 4 m x (omega arith) in
    let f48 = same_part 48 16 m x (omega arith) in
    let f64 = same_part 64 512 m x (omega arith) in
    let f576 = same_part 576 32 m x (omega arith) in
    let f608 = same_part 608 1024 m x (omega arith) in
    rw (f8, f12, f16, f20, f24, f28, f32, f44, f48, f64, f576, f608) refl

dtbo_same : (m : ℕ) (x : List ℕ) → 1648 ≤ m → dtbo_at (take m x) ≡ dtbo_at x
unfolding dtbo_at
dtbo_same m x h =
    let f1632 = same_number 1632 4 m x (omega arith) in
    let f1636 = same_number 1636 8 m x (omega arith) in
    let f1644 = same_number 1644 4 m x (omega arith) in
    rw (f1632, f1636, f1644) refl

dtb_same : (m : ℕ) (x : List ℕ) → 1660 ≤ m → dtb_at (take m x) ≡ dtb_at x
unfolding dtb_at
dtb_same m x h =
    let f1648 = same_number 1648 4 m x (omega arith) in
    let f1652 = same_number 1652 8 m x (omega arith) in
    rw (f1648, f1652) refl

short_same : (m : ℕ) (x : List ℕ) → 1580 ≤ m → short_at (take m x) ≡ short_at x
unfolding short_at
short_same m x h =
    let f8 = same_number 8 4 m x (omega arith) in
    let f12 = same_number 12 4 m x (omega arith) in
    let f16 = same_number 16 4 m x (omega arith) in
    let f20 = same_number 20 4 m x (omega arith) in
    let f24 = same_part 24 16 m x (omega arith) in
    let f44 = same_part 44 1536 m x (omega arith) in
    rw (f8, f12, f16, f20, f24, f44) refl

ltb_same : (n m : ℕ) (x : List ℕ) → n ≤ m → m ≤ length x → nat_lt (length (take m x)) n ≡ nat_lt (length x) n
ltb_same n m x h k = le-ltb _ _ (omega (arith, length-take-le m x k)) ∙ sym (le-ltb _ _ (omega arith))

of_same : (v m : ℕ) (x : List ℕ) → 1660 ≤ m → m ≤ length x → boot_of v (take m x) ≡ boot_of v x
unfolding boot_of
of_same v m x h k =
    let s1632 = ltb_same 1632 m x (omega arith) k in
    let s1648 = ltb_same 1648 m x (omega arith) k in
    let s1660 = ltb_same 1660 m x (omega arith) k in
    let s1580 = ltb_same 1580 m x (omega arith) k in
    let s1584 = ltb_same 1584 m x (omega arith) k in
    let page = same_number 36 4 m x (omega arith) in
    let signature = same_number 1580 4 m x (omega arith) in
    let f = λ (q : PageSize). front_same m x q (omega arith) in
    let d = dtbo_same m x (omega arith) in
    let b = dtb_same m x h in
    let sh = short_same m x (omega arith) in
    simp (s1632, s1648, s1660, s1580, s1584, page, signature, f, d, b, sh)

long_same : (m : ℕ) (x : List ℕ) → 1660 ≤ m → m ≤ length x → boot_at (take m x) ≡ boot_at x
unfolding boot_at
long_same m x h k =
    let s8 = ltb_same 8 m x (omega arith) k in
    let s44 = ltb_same 44 m x (omega arith) k in
    let magic = same_number 0 8 m x (omega arith) in
    let version = same_number 40 4 m x (omega arith) in
    let o = of_same (number_at 40 4 x) m x h k in
    simp (s8, s44, magic, version, o)

pub boot_same : (m : ℕ) (x : List ℕ) → 1660 ≤ m → boot_at (take m x) ≡ boot_at x
boot_same m x h = elim (order m (length x)) [ inl k ↦ long_same m x h k | inr k ↦ ap boot_at (take_all m x k) ]

-- ---- the vendor header

vendor_front_same : (m : ℕ) (x : List ℕ) (q : PageSize) → 2112 ≤ m → vendor_front_at q (take m x) ≡ vendor_front_at q x
unfolding vendor_front_at
vendor_front_same m x q h =
    let f16 = same_number 16 4 m x (omega arith) in
    let f20 = same_number 20 4 m x (omega arith) in
    let f24 = same_number 24 4 m x (omega arith) in
    let f28 = same_part 28 2048 m x (omega arith) in
    let f2076 = same_number 2076 4 m x (omega arith) in
    let f2080 = same_part 2080 16 m x (omega arith) in
    let f2096 = same_number 2096 4 m x (omega arith) in
    let f2100 = same_number 2100 4 m x (omega arith) in
    let f2104 = same_number 2104 8 m x (omega arith) in
    rw (f16, f20, f24, f28, f2076, f2080, f2096, f2100, f2104) refl

tail_same : (m : ℕ) (x : List ℕ) → 2128 ≤ m → tail_at (take m x) ≡ tail_at x
unfolding tail_at
tail_same m x h =
    let f2112 = same_number 2112 4 m x (omega arith) in
    let f2116 = same_number 2116 4 m x (omega arith) in
    let f2120 = same_number 2120 4 m x (omega arith) in
    let f2124 = same_number 2124 4 m x (omega arith) in
    rw (f2112, f2116, f2120, f2124) refl

vendor_of_same : (v m : ℕ) (x : List ℕ) → 2128 ≤ m → m ≤ length x → vendor_of v (take m x) ≡ vendor_of v x
unfolding vendor_of
vendor_of_same v m x h k =
    let s2112 = ltb_same 2112 m x (omega arith) k in
    let s2128 = ltb_same 2128 m x (omega arith) k in
    let page = same_number 12 4 m x (omega arith) in
    let f = λ (q : PageSize). vendor_front_same m x q (omega arith) in
    let t : tail_or_fault (take m x) ≡ tail_or_fault x = ap (λ (u : Tail). tail_checked u) (tail_same m x h) in
    simp (s2112, s2128, page, f, t)

long_vendor_same : (m : ℕ) (x : List ℕ) → 2128 ≤ m → m ≤ length x → vendor_at (take m x) ≡ vendor_at x
unfolding vendor_at
long_vendor_same m x h k =
    let s8 = ltb_same 8 m x (omega arith) k in
    let s12 = ltb_same 12 m x (omega arith) k in
    let magic = same_number 0 8 m x (omega arith) in
    let version = same_number 8 4 m x (omega arith) in
    let o = vendor_of_same (number_at 8 4 x) m x h k in
    simp (s8, s12, magic, version, o)

pub vendor_same : (m : ℕ) (x : List ℕ) → 2128 ≤ m → vendor_at (take m x) ≡ vendor_at x
vendor_same m x h = elim (order m (length x)) [
  | inl k ↦ long_vendor_same m x h k
  | inr k ↦ ap vendor_at
      (take_all m x k)
]
