-- What taking costs, and how much it writes at most.
use Rattle.std.proofs.Common.{inl, inr, ◌≡◌, ℕ, zero, suc, ◌+◌, ◌-◌, ◌*◌, ◌^◌, ◌<◌, ◌≤◌, nat_lt, min, false, arith}
use Rattle.std.proofs.Common.{refl, mul-le-mul_left, mul-le-mul_right, ◌/◌, ◌%◌, ap, ◌∙◌}
use Rattle.std.proofs.lemmas.Bool.{cases_Bool, ltb-true, ltb-false}
use Rattle.abt_runs.specs.Part.{is_end}
use Rattle.abt_runs.specs.declared.part.RunKind.{RunKind}
use Rattle.abt_runs.specs.declared.part.RunKind.TheVariants as kinds
use Rattle.abt_placed.specs.Placer.{SoundPlacer, open_len}
use Rattle.abt_placed.specs.Whole.{spare}
use Rattle.abt_placed.specs.declared.placer.Placer.{Placer}

-- a look at n blocks, and what it is to take them, in words of those blocks
pub look_costs : (n size t1 t t0 : ℕ) → 0 < n → size % 4 ≡ 0 → 4 * t ≤ 4 * t1 + (n + 1) * (size + 4) → t1 ≡ t0 + 1
    → t ≤ t0 + (n * (size / 2 + 17) - 14)
look_costs n size t1 t t0 some words le tick =
    let a : 1 * (size + 4) ≤ n * (size + 4) = mul-le-mul_right (size + 4) (let z : 1 ≤ n = omega (arith, some) in z) in
    let c : (n + 1) * (size + 4) ≡ n * (size + 4) + (size + 4) = omega arith in
    let two : size ≡ 2 * (size / 2) = omega (arith, words) in
    let d : n * (size + 4) ≡ 2 * (n * (size / 2)) + 4 * n = ap (λ (s : ℕ). n * (s + 4)) two
    ∙ (let z : n * (2 * (size / 2) + 4) ≡ 2 * (n * (size / 2)) + 4 * n = omega arith in z) in
    let e : n * (size / 2 + 17) ≡ n * (size / 2) + 17 * n = omega arith in
    omega (arith, a, c, d, e, le, some, tick)

pub look_some : (n size : ℕ) → 0 < n → 14 ≤ n * (size / 2 + 17)
look_some n size some =
    let e : n * (size / 2 + 17) ≡ n * (size / 2) + 17 * n = omega arith in
    omega (arith, e, some)

pub more_blocks : (d n m b : ℕ) → d + n ≤ m → d * b + n * b ≤ m * b
more_blocks d n m b le =
    let a : (d + n) * b ≤ m * b = mul-le-mul_right b le in
    let e : (d + n) * b ≡ d * b + n * b = omega arith in
    omega (arith, a, e)

open_within : (k : RunKind) (q b : ℕ) → (is_end k ≡ false → 0 < q) → open_len k q b ≤ q * (b + 16)
open_within kinds.Raw q b some = let z = some refl in let d : q * (b + 16) ≡ q * b + 16 * q = omega arith in
    omega (arith, z, d)
open_within (kinds.Fill w) q b some = omega arith
open_within kinds.Skip q b some = omega arith
open_within kinds.End q b some = omega arith

pub sound_within : (b long : ℕ) (s : Placer) → SoundPlacer b long s
    → long ≤ s.front + 28 + (s.blocks + s.count) * (b + 16)
sound_within b long s h =
    let o = open_within s.kind s.count b h.some in
    let d : (s.blocks + s.count) * (b + 16) ≡ s.blocks * (b + 16) + s.count * (b + 16) = omega arith in
    omega (arith, h.few, o, d)

pub wider : (front front' p p' d n q y size : ℕ) → front' ≡ front → p' ≡ p + d → d + n ≤ q
    → y ≤ front' + 28 + (p' + n) * (size + 16) → y ≤ front + 28 + (p + q) * (size + 16)
wider front front' p p' d n q y size same at le h =
    let m : (p' + n) * (size + 16) ≤ (p + q) * (size + 16) =
    mul-le-mul_right (size + 16) (let z : p' + n ≤ p + q = omega (arith, at, le) in z) in
    omega (arith, same, m, h)

pub no_further : (limit limit' i i' d n q size : ℕ) → limit ≡ limit' → i ≡ i' + d → d + n ≤ q
    → limit < 52 + (i + n) * (size + 16) → limit' < 52 + (i' + q) * (size + 16)
no_further limit limit' i i' d n q size same at le h =
    let m : (i + n) * (size + 16) ≤ (i' + q) * (size + 16) =
    mul-le-mul_right (size + 16) (let z : i + n ≤ i' + q = omega (arith, at, le) in z) in
    omega (arith, same, m, h)

-- ---- a window of the source

-- what is spent where the last block is filled up
pub spare_none : (k len b i : ℕ) → i * b ≤ len → spare k len b i ≡ 0
spare_none k len b i le = elim (cases_Bool (nat_lt len (i * b))) [
  | inl e ↦ let z = ltb-true len (i * b) e in absurd (omega (arith, z, le))
  | inr e ↦ rw e refl
]

pub spare_all : (k len b i : ℕ) → len < i * b → spare k len b i ≡ k
spare_all k len b i lt = elim (cases_Bool (nat_lt len (i * b))) [
  | inl e ↦ rw e refl
  | inr e ↦ let z = ltb-false len (i * b) e in absurd (omega (arith, z, lt))
]

pub spare_most : (k len b i : ℕ) → spare k len b i ≤ k
spare_most k len b i =
    elim (cases_Bool (nat_lt len (i * b))) [ inl e ↦ rw e (omega arith) | inr e ↦ rw e (omega arith) ]

-- of a blocks from block i on, of n: only the image's last can have bytes that are not read
pub record Window (i a b len want : ℕ) : Type 0 where
  pub some : 1 ≤ want
  pub read : min (i * b) len + want ≡ min ((i + a) * b) len
  pub within : i * b + want ≤ len
  pub calls : 14 * a + want + 1 ≤ 6 * want + spare 14 len b (i + a)
  pub turns : 2 * (want + 2) + a * (b + 34) ≤ 14 * want + 2 * spare (b + 14) len b (i + a)

-- blocks that are read whole, and blocks of which the last is not
full_calls : (a b want : ℕ) → 0 < a → 4 ≤ b → want ≡ a * b → 14 * a + want + 1 ≤ 6 * want
full_calls a b want some four is =
    let m : a * 4 ≤ a * b = mul-le-mul_left a four in
    omega (arith, m, is, some)

full_turns : (a b want : ℕ) → 0 < a → 4 ≤ b → want ≡ a * b → 2 * (want + 2) + a * (b + 34) ≤ 14 * want
full_turns a b want some four is =
    let m : a * 4 ≤ a * b = mul-le-mul_left a four in
    let d : a * (b + 34) ≡ a * b + 34 * a = omega arith in
    omega (arith, m, d, is, some)

part_calls : (a b want : ℕ) → 0 < a → 4 ≤ b → a * b + 1 ≤ want + b → 14 * a + want + 1 ≤ 6 * want + 14
part_calls zero b want some four le = absurd (omega (arith, some))
part_calls (suc a) b want some four le =
    let m : a * 4 ≤ a * b = mul-le-mul_left a four in
    let d : suc a * b ≡ a * b + b = omega arith in
    omega (arith, m, d, le)

part_turns : (a b want : ℕ) → 0 < a → 4 ≤ b → a * b + 1 ≤ want + b
    → 2 * (want + 2) + a * (b + 34) ≤ 14 * want + 2 * (b + 14)
part_turns zero b want some four le = absurd (omega (arith, some))
part_turns (suc a) b want some four le =
    let m : a * 4 ≤ a * b = mul-le-mul_left a four in
    let d : suc a * b ≡ a * b + b = omega arith in
    let e : suc a * (b + 34) ≡ a * b + 34 * a + b + 34 = omega arith in
    omega (arith, m, d, e, le)

pub half : (a b : ℕ) → 2 * (a * (b / 2 + 17)) ≤ a * (b + 34)
half a b =
    let m : a * (2 * (b / 2) + 34) ≤ a * (b + 34) =
    mul-le-mul_left a (let z : 2 * (b / 2) + 34 ≤ b + 34 = omega arith in z) in
    let d : a * (2 * (b / 2) + 34) ≡ 2 * (a * (b / 2 + 17)) = omega arith in
    omega (arith, m, d)

pub window : (i a b len n want : ℕ) → i * b < len → 0 < a → 4 ≤ b → i + a ≤ n → n * b < len + b
    → want ≡ min (len - i * b) (a * b) → Window i a b len want
window i a b len n want below some four inside last is =
    let d : (i + a) * b ≡ i * b + a * b = omega arith in
    let m : 1 * b ≤ a * b = mul-le-mul_right b (let z : 1 ≤ a = omega (arith, some) in z) in
    let k : (i + a) * b ≤ n * b = mul-le-mul_right b inside in
    let part : a * b + 1 ≤ want + b = omega (arith, d, k, last, is, below, four) in
    elim (cases_Bool (nat_lt len ((i + a) * b))) [
      | inl e ↦
          let lt = ltb-true len ((i + a) * b) e in
          record {
            some = omega (arith, is, below, m, four);
            read = omega (arith, d, is, below);
            within = omega (arith, is, below);
            calls = rw (spare_all 14 len b (i + a) lt) (part_calls a b want some four part);
            turns = rw (spare_all (b + 14) len b (i + a) lt) (part_turns a b want some four part);
          }
      | inr e ↦
          let le = ltb-false len ((i + a) * b) e in
          let all : want ≡ a * b = omega (arith, d, is, le, below) in
          let c = full_calls a b want some four all in
          let t = full_turns a b want some four all in
          record {
            some = omega (arith, is, below, m, four);
            read = omega (arith, d, is, below);
            within = omega (arith, is, below);
            calls = omega (arith, c);
            turns = omega (arith, t);
          }
    ]

pub fits_window : (a n b : ℕ) → a ≤ n → n * b ≤ 65536 → a * b ≤ 65536
fits_window a n b le fits = let m : a * b ≤ n * b = mul-le-mul_right b le in omega (arith, m, fits)

pub no_wider : (i n b x y : ℕ) → i ≤ n → y ≤ x + i * (b + 16) → y ≤ x + n * (b + 16)
no_wider i n b x y le h = let m : i * (b + 16) ≤ n * (b + 16) = mul-le-mul_right (b + 16) le in omega (arith, m, h)

-- what was read up to a block, and up to a later one
pub read_more : (i j b len : ℕ) → i ≤ j → min (i * b) len ≤ min (j * b) len
read_more i j b len le = let m : i * b ≤ j * b = mul-le-mul_right b le in omega (arith, m)

-- what was taken was read: where it is not all, a whole block at least
pub block_read : (first past n b len given given' : ℕ) → first < past → past < n → n * b < len + b
    → given + min (past * b) len ≤ given' + min (first * b) len → b ≤ given' - given
block_read first past n b len given given' some less last read =
    let m : (first + 1) * b ≤ past * b = mul-le-mul_right b (let z : first + 1 ≤ past = omega (arith, some) in z) in
    let d : (first + 1) * b ≡ first * b + b = omega arith in
    let k : (past + 1) * b ≤ n * b = mul-le-mul_right b (let z : past + 1 ≤ n = omega (arith, less) in z) in
    let e : (past + 1) * b ≡ past * b + b = omega arith in
    omega (arith, m, d, k, e, last, read)

-- no image is as long as that
pub not_so_far : (m n b limit : ℕ) → m ≤ n → n < 2 ^ 32 → b ≤ 65536 → limit < 52 + m * (b + 16) → limit < 2 ^ 49
not_so_far m n b limit le few small lt =
    let x : m * (b + 16) ≤ m * 65552 = mul-le-mul_left m (let z : b + 16 ≤ 65552 = omega (arith, small) in z) in
    omega (arith, x, le, few, lt)
