-- The laws of a raw image.
use Rattle.std.specs.Prelude.{◌≡◌, ℕ, zero, suc, ◌+◌, ◌-◌, ◌*◌, ◌/◌, ◌%◌, ◌^◌, ◌≤◌, ◌<◌, List, length, take, drop, map}
use Rattle.std.specs.Prelude.{replicate, refl, bytes_eq, nat_le, nat_lt, ◌==◌}
use Rattle.std.proofs.Common.{arith, ap, ◌∙◌, inl, inr, length-append, length-drop, length-take-le, mul-le-mul_left}
use Rattle.std.proofs.Common.{leb-true, leb-false, ltb-true, eqb-true, mul-le-mul_right}
use Rattle.std.proofs.lemmas.List.{length-map, length-replicate}
use Rattle.std.proofs.lemmas.Bool.{cases_Bool}
use Rattle.std.specs.List.{list_all, AllByRecursion}
use Rattle.abt_runs.specs.Raw.{RawPlace, raw_charge, raw_padding, raw_before, raw_held}
use Rattle.abt_runs.specs.Part.{Afresh, afresh}
use Rattle.abt_runs.specs.declared.part.Cursor.{Cursor}
use Rattle.abt_sparse.specs.Block.{IsBlock, AreBlocks, classify, class_of, split, filled_to, block_count}

pub length-split : (b n : ℕ) (y : List ℕ) → length (split b n y) ≡ n
length-split b zero y = refl
length-split b (suc n) y = ap suc (length-split b n (drop b y))

-- the number of blocks, from what fixes it
pub block_count_is : (b n len : ℕ) → 0 < b → len ≤ n * b → n * b < len + b → (len + (b - 1)) / b ≡ n
block_count_is b n len some covers last =
    let q = (len + (b - 1)) / b in
    let d : b * q + (len + (b - 1)) % b ≡ len + (b - 1) = omega arith in
    let r : (len + (b - 1)) % b < b = omega arith in
    elim (cases_Bool (nat_le q n)) [
      | inl le ↦ elim (cases_Bool (nat_le n q)) [
        | inl ge ↦ omega (arith, leb-true q n le, leb-true n q ge)
        | inr gt ↦ let lt = leb-false n q gt in let m : b * (q + 1) ≤ b * n =
            mul-le-mul_left b (let z : q + 1 ≤ n = omega arith in z) in absurd (omega arith)
      ]
      | inr gt ↦ let lt = leb-false q n gt in let m : b * (n + 1) ≤ b * q =
          mul-le-mul_left b (let z : n + 1 ≤ q = omega arith in z) in absurd (omega arith)
    ]

pub raw_count : (len blocks size : ℕ) (x : List ℕ) → 4 ≤ size → len ≤ blocks * size → blocks * size < len + size
    → len ≡ length x → block_count size x ≡ blocks
raw_count len blocks size x some covers last e =
    block_count_is size blocks (length x) (omega arith) (omega arith) (omega arith)

pub raw_long : (len blocks size : ℕ) (x : List ℕ) → 4 ≤ size → len ≤ blocks * size → blocks * size < len + size
    → len ≡ length x → length (classify size x) ≡ blocks
raw_long len blocks size x some covers last e =
    length-map (split size (block_count size x) (filled_to
    (size * block_count size x) x)) class_of ∙ length-split size (block_count size x)
    (filled_to (size * block_count size x) x) ∙ raw_count len blocks size x some covers last e

pub class_is_block : (b : ℕ) (bytes : List ℕ) → 4 ≤ b → length bytes ≡ b → IsBlock b (class_of bytes)
class_is_block b bytes some e =
    elim (cases_Bool (list_all (bytes_eq (take 4 bytes)) (split 4 (length bytes / 4) bytes))) [
      | inl h ↦ rw h (length-take-le 4 bytes (omega arith))
      | inr h ↦ rw h e
    ]

are_blocks : (b n : ℕ) (y : List ℕ) → 4 ≤ b → n * b ≤ length y → AllByRecursion (IsBlock b) (map class_of (split b n y))
are_blocks b zero y some long = tt
are_blocks b (suc n) y some long = (
  class_is_block b (take b y) some (length-take-le b y (omega arith)),
  are_blocks b n (drop b y) some (omega (arith, length-drop b y)),
)

pub raw_are_blocks : (len blocks size : ℕ) (x : List ℕ) → 4 ≤ size → len ≤ blocks * size → blocks * size < len + size
    → len ≡ length x → AreBlocks size (classify size x)
raw_are_blocks len blocks size x some covers last e =
    let n = block_count size x in
    let same = raw_count len blocks size x some covers last e in
    let total : size * n ≡ blocks * size = rw same (omega arith) in
    are_blocks size n (filled_to (size * n) x) some (omega (
      arith,
      length-append x (replicate (size * n - length x) 0),
      length-replicate {A = ℕ} (size * n - length x) 0,
    ))

pub own_size : (n : ℕ) → n ≤ n
own_size n = omega arith

pub raw_passed : (len blocks size : ℕ) (c : Cursor) → 4 ≤ size → len ≤ blocks * size → blocks * size < len + size
    → RawPlace blocks size c → (raw_charge len blocks size c ≤ 2 * len) × (c.block * (size + 16) ≤ blocks * (size + 16))
raw_passed len blocks size c some covers last h = (
  elim (cases_Bool (nat_lt c.block blocks)) [
    | inl e ↦
        let lt = ltb-true c.block blocks e in
        let m : (2 * c.block + 1 - c.ask) * size ≤ 2 * c.block * size =
        mul-le-mul_right size (let z : 2 * c.block + 1 - c.ask ≤ 2 * c.block = omega (arith, h.some) in z) in
        let k : (c.block + 1) * size ≤ blocks * size =
        mul-le-mul_right size (let z : c.block + 1 ≤ blocks = omega arith in z) in
        rw e (omega arith)
    | inr e ↦ rw e (omega arith)
  ],
  mul-le-mul_right (size + 16) h.within,
)

pub raw_copied_fits : (len size : ℕ) (c : Cursor) → raw_before len size c ≤ len
raw_copied_fits len size c = omega arith

pub raw_held_grows : (len size : ℕ) (c : Cursor) (m n : ℕ) → m ≤ n
    → (raw_held len size c m ≤ raw_held len size c n) × (raw_held len size c n ≤ n)
raw_held_grows len size c m n le = (omega arith, omega arith)

pub raw_place_afresh : (blocks size : ℕ) (c : Cursor) → RawPlace blocks size c → RawPlace blocks size (afresh c)
raw_place_afresh blocks size c h =
    let m : 1 * size ≤ c.ask * size = mul-le-mul_right size (let z : 1 ≤ c.ask = omega (arith, h.some) in z) in
    record {
      within = h.within;
      some = omega arith;
      window = omega (arith, m, h.window);
      passed = omega arith;
      used = h.used;
    }

pub raw_afresh : (len blocks size : ℕ) (c : Cursor) → RawPlace blocks size c
    → Afresh (λ d. RawPlace blocks size d) (λ d. raw_charge len blocks size d) (λ d. d.block * (size + 16))
    (λ d. raw_before len size d) (λ d. blocks - d.block) c
raw_afresh len blocks size c h = record {
  within = raw_place_afresh blocks size c h;
  charge = elim (cases_Bool (nat_lt c.block blocks)) [
    | inl e ↦ let m : (2 * c.block + 1 - c.ask) * size ≤ (2 * c.block + 1 - 1) * size =
        mul-le-mul_right size (let z : 2 * c.block + 1 - c.ask ≤ 2 * c.block + 1 - 1 = omega (arith, h.some) in z) in
        rw e m
    | inr e ↦ rw e (omega arith)
  ];
  taken = omega arith;
  copied = omega arith;
  left = omega arith;
}

pub raw_spared : (len blocks size : ℕ) → 4 ≤ size → blocks * size < len + size → (blocks - 1) * size ≤ len
raw_spared len zero size some last = omega arith
raw_spared len (suc n) size some last = let z : suc n - 1 ≡ n = omega arith in rw z (omega arith)

pub raw_inside : (len : ℕ) → len ≤ len
raw_inside len = omega arith

pub raw_economy : (len : ℕ) → 0 + 3 * (2 * len) + 2 * len ≤ 8 * len
raw_economy len = omega arith

pub raw_padded : (blocks size : ℕ) (c : Cursor)
    → (4 * raw_padding blocks size c ≤ size) × (0 < raw_padding blocks size c → c.block + 1 ≡ blocks)
raw_padded blocks size c = elim (cases_Bool (c.block + 1 == blocks)) [
  | inl e ↦ let same = eqb-true (c.block + 1) blocks e in rw e (omega arith, λ _. same)
  | inr e ↦ rw e (omega arith, λ h. absurd (omega arith))
]

pub raw_left : (blocks : ℕ) (c : Cursor) → blocks < 2 ^ 32 → blocks - c.block < 2 ^ 64
raw_left blocks c fits = omega arith
