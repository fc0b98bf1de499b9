-- A segment that takes blocks: its numbers, and what it has written.
use Rattle.std.proofs.Common.{inl, inr, ◌⊎◌, ◌≡◌, ℕ, zero, suc, ◌^◌, ◌+◌, ◌-◌, ◌*◌, ◌/◌, ◌%◌, ◌<◌, ◌≤◌, nat_lt, Bool}
use Rattle.std.proofs.Common.{true, false, List, [], ◌∷◌, ◌++◌, length, take, drop, refl, sym, ap, subst, ◌∙◌}
use Rattle.std.proofs.Common.{arith, append_assoc, ◌&&◌, if◌then◌else◌, bytes_eq, mul-le-mul_right}
use Rattle.std.proofs.lemmas.Bool.{cases_Bool, ltb-true, ltb-false}
use Rattle.std.proofs.Math.Seq.{take-append_seam, drop-append_seam}
use Rattle.std.proofs.lemmas.Nat.{le-div}
use Rattle.std.specs.List.{AllByRecursion, list_all}
use Rattle.abt_sparse.specs.Block.{Block, Skip, split, class_of}
use Rattle.abt_sparse.specs.Runs.{weight}
use Rattle.abt_sparse.specs.Gains.{Behind, Fresh, moved, gains, behind_all}
use Rattle.abt_sparse.proofs.Gains.{gains-append, weight_gains}
use Rattle.abt_runs.specs.Part.{AllOf}
use Rattle.abt_runs.specs.TailLaws.{length-tailed}
use Rattle.abt_runs.specs.Whole.{alike_kinds}
use Rattle.abt_runs.specs.declared.part.RunKind.{RunKind}
use Rattle.abt_runs.specs.declared.part.RunKind.TheVariants as kinds
use Rattle.abt_pieces.specs.Plan.{between, head_of, fill_gain_of, cap_of, gain_of, tail_after, tail_of}
use Rattle.abt_pieces.proofs.Planning.{part_gains, over}
use Rattle.abt_pieces.specs.declared.segment_tail.Tail.{Tail}
use Rattle.abt_pieces.specs.declared.segment_tail.Tail.TheVariants as tails
use Rattle.abt_placed.specs.Placer.{SoundPlacer, goes_on_with, with_part, longer, with_chunk_begun, closed, closing_len}
use Rattle.abt_placed.specs.Placer.{taking_len}
use Rattle.abt_placed.specs.Placed.{Placed, classes, skips}
use Rattle.abt_placed.specs.Segment.{tail_of_open, is_fresh, to_come, SoundSegment, IsUncut, IsHeldBlock, LaidSegment}
use Rattle.abt_placed.specs.Segment.{OneMoreExceeds}
use Rattle.abt_placed.specs.Whole.{taken}
use Rattle.abt_placed.specs.declared.placer.Placer.{Placer}
use Rattle.abt_placed.specs.declared.segment.Segment.{Segment}
use Rattle.abt_placed.proofs.Numbers.{goes}
use Rattle.abt_placed.proofs.Laying.{classes_more, classes_next}
use Rattle.std.specs.Prelude.{slice_range}

-- ---- what is written is within the weight

raw_adds : (j : RunKind) (t : Bool) (q b : ℕ) → (j ≡ kinds.Raw → t ≡ true)
    → (if t && alike_kinds j kinds.Raw then 0 else closing_len j + 12) + q * b + 12 ≤ to_come j
    + (head_of (tail_of_open j) + q * b)
raw_adds kinds.Raw t q b e = rw (e refl) (omega arith)
raw_adds (kinds.Fill v) true q b e = omega arith
raw_adds (kinds.Fill v) false q b e = omega arith
raw_adds kinds.Skip true q b e = omega arith
raw_adds kinds.Skip false q b e = omega arith
raw_adds kinds.End true q b e = omega arith
raw_adds kinds.End false q b e = omega arith

fill_adds : (j : RunKind) (w : List ℕ) → (if alike_kinds j (kinds.Fill w) then 0 else closing_len j + 0) + 0
    + 28 ≤ to_come j + fill_gain_of (tail_of_open j) w
fill_adds kinds.Raw w = omega arith
fill_adds (kinds.Fill v) w = elim (cases_Bool (bytes_eq v w))
    [ inl e ↦ rw e (omega arith) | inr e ↦ rw e (omega arith) ]
fill_adds kinds.Skip w = omega arith
fill_adds kinds.End w = omega arith

pub taking_fits : (s : Placer) (k : RunKind) (q b : ℕ) → is_fresh k ≡ false
    → (k ≡ kinds.Raw → s.kind ≡ kinds.Raw → s.count < s.most) → taking_len s k q b + to_come k ≤ to_come s.kind
    + gain_of (tail_of_open s.kind) k q b
taking_fits s kinds.Raw q b e room = raw_adds s.kind (nat_lt s.count s.most) q b
    (λ raw. ltb-intro s.count s.most (room refl raw))
  where
    ltb-intro : (m n : ℕ) → m < n → nat_lt m n ≡ true
    ltb-intro m n lt = elim (cases_Bool (nat_lt m n)) [
      | inl y ↦ y
      | inr y ↦ let g = ltb-false m n y in absurd
          (omega (arith, g, lt))
    ]
taking_fits s (kinds.Fill w) q b e room = fill_adds s.kind w
taking_fits s kinds.Skip q b e room = absurd cc
taking_fits s kinds.End q b e room = absurd cc

-- ---- the numbers

-- a raw chunk that blocks go on with has room for them
pub raw_room : (b gain q : ℕ) (s : Segment) (long : ℕ) → SoundSegment b long s → IsUncut b s.limit s.placer.most
    → 0 < q → gain ≡ gain_of (tail_of_open s.placer.kind) kinds.Raw q b → gain ≤ s.limit - s.weight → s.placer.kind
    ≡ kinds.Raw → s.placer.count < s.placer.most
raw_room b gain q s long h uncut some e fits raw = elim (cases_Bool (nat_lt s.placer.count s.placer.most)) [
  | inl y ↦ ltb-true s.placer.count s.placer.most y
  | inr y ↦
      let ge = ltb-false s.placer.count s.placer.most y in
      let g : gain ≡ 0 + q * b = rw raw at e in
      let one : 1 * b ≤ q * b = mul-le-mul_right b (let z : 1 ≤ q = omega (arith, some) in z) in
      let m : (s.placer.most + 1) * b ≤ (s.placer.count + 1) * b = mul-le-mul_right b
      (let z : s.placer.most + 1 ≤ s.placer.count + 1 = omega (arith, ge) in z) in
      let d : (s.placer.count + 1) * b ≡ s.placer.count * b + b = omega arith in
      let r = h.raw uncut raw in
      absurd (omega (arith, g, one, m, d, r, fits, uncut, h.room))
]

-- the open chunk of a placer that has taken blocks
pub record PartNumbers (s t : Placer) (k : RunKind) (q : ℕ) : Type 0 where
  pub kind : t.kind ≡ k
  pub count : ((s.kind ≡ k) × (t.count ≡ s.count + q)) ⊎ ((goes_on_with s k ≡ false) × (t.count ≡ q))

part_as : (u : Bool) (s : Placer) (k : RunKind) (q : ℕ) → goes_on_with s k ≡ u
    → PartNumbers s (if u then longer s q else with_chunk_begun (closed s) k q) k q
part_as true s k q e = let g = goes s k e in record { kind = g.same; count = inl (g.same, refl) }
part_as false s k q e = record { kind = refl; count = inr (e, refl) }

pub part_numbers : (s t : Placer) (k : RunKind) (q : ℕ) → t ≡ with_part s k q → PartNumbers s t k q
part_numbers s t k q e = rw e (part_as (goes_on_with s k) s k q refl)

raw_goes : (s : Placer) → s.kind ≡ kinds.Raw → s.count < s.most → goes_on_with s kinds.Raw ≡ true
raw_goes s is lt = elim (cases_Bool (nat_lt s.count s.most)) [
  | inl y ↦ rw (y, is) refl
  | inr y ↦ let g = ltb-false s.count s.most y in absurd (omega (arith, g, lt))
]

head_some : (j : RunKind) → (j ≡ kinds.Raw → ⊥) → 12 ≤ head_of (tail_of_open j)
head_some kinds.Raw n = absurd (n refl)
head_some (kinds.Fill w) n = omega arith
head_some kinds.Skip n = omega arith
head_some kinds.End n = omega arith

head_light : (j : RunKind) → head_of (tail_of_open j) ≤ 12
head_light kinds.Raw = omega arith
head_light (kinds.Fill w) = omega arith
head_light kinds.Skip = omega arith
head_light kinds.End = omega arith

-- no block adds more than its bytes and sixteen
pub gain_light : (j k : RunKind) (q b : ℕ) → 0 < q → gain_of (tail_of_open j) k q b ≤ q * (b + 16)
gain_light j k q b some = by_kind k (let d : q * (b + 16) ≡ q * b + 16 * q = omega arith in d)
  where
    fill_light : (j : RunKind) (w : List ℕ) → fill_gain_of (tail_of_open j) w ≤ 16
    fill_light kinds.Raw w = omega arith
    fill_light (kinds.Fill v) w = elim (cases_Bool (bytes_eq v w))
        [ inl e ↦ rw e (omega arith) | inr e ↦ rw e (omega arith) ]
    fill_light kinds.Skip w = omega arith
    fill_light kinds.End w = omega arith

    by_kind : (k : RunKind) → q * (b + 16) ≡ q * b + 16 * q → gain_of (tail_of_open j) k q b ≤ q * (b + 16)
    by_kind kinds.Raw d = omega (arith, d, head_light j, some)
    by_kind (kinds.Fill w) d = omega (arith, d, fill_light j w, some)
    by_kind kinds.Skip d = omega arith
    by_kind kinds.End d = omega arith

light_on : (b i j first q weight gain : ℕ) → first ≤ i → j ≡ i + q → weight ≤ 52 + (i - first) * (b + 16)
    → gain ≤ q * (b + 16) → weight + gain ≤ 52 + (j - first) * (b + 16)
light_on b i j first q weight gain order passed le more =
    let d : (j - first) * (b + 16) ≡ (i - first) * (b + 16) + q * (b + 16) = ap (λ (n : ℕ). n * (b + 16))
    (let z : j - first ≡ (i - first) + q = omega (arith, order, passed) in z)
    ∙ (let z : ((i - first) + q) * (b + 16) ≡ (i - first) * (b + 16) + q * (b + 16) = omega arith in z) in
    omega (arith, d, le, more)

-- where blocks have no room, so many weigh more than the limit
pub reached_by : (b q long : ℕ) (s : Segment) (k : RunKind) → SoundSegment b long s → 0 < q
    → s.limit - s.weight < gain_of (tail_of_open s.placer.kind) k q b → s.limit < 52 + (taken s.placer + q) * (b + 16)
reached_by b q long s k h some above =
    let g = gain_light s.placer.kind k q b some in
    let d : (taken s.placer + q) * (b + 16) ≡ taken s.placer * (b + 16) + q * (b + 16) = omega arith in
    let m : (taken s.placer - s.first) * (b + 16) ≤ taken s.placer * (b + 16) = mul-le-mul_right (b + 16)
    (omega arith) in
    omega (arith, g, d, m, h.light, above)

pub sound_on : (b q gain : ℕ) (long long' : ℕ) (s : Segment) (t : Placer) (k : RunKind) → SoundSegment b long s
    → SoundPlacer b long' t → 0 < q → is_fresh k ≡ false → t ≡ with_part s.placer k q → t.blocks + t.count
    ≡ s.placer.blocks + s.placer.count + q → t.most ≡ s.placer.most → t.front ≡ s.placer.front
    → long' ≤ long + taking_len s.placer k q b → gain ≡ gain_of (tail_of_open s.placer.kind) k q b
    → gain ≤ s.limit - s.weight → SoundSegment b long' (record
    { placer = t; first = s.first; weight = s.weight + gain; limit = s.limit })
sound_on b q gain long long' s t k h p some held is passed most front adds grows fits =
    let n = part_numbers s.placer t k q is in
    let room = λ (u : IsUncut b s.limit s.placer.most) (e : k ≡ kinds.Raw) (raw : s.placer.kind ≡ kinds.Raw). raw_room
    b gain q s long h u some (rw e at grows) fits raw in
    record {
      placer = p;
      order = omega (arith, h.order, passed);
      fits = λ uncut.
          let y = taking_fits s.placer k q b held (room (rw most at uncut)) in
          let z : to_come t.kind ≡ to_come k = ap to_come n.kind in
          let w = h.fits (rw most at uncut) in
          omega (arith, z, y, w, adds, grows, front);
      least = omega (arith, h.least);
      light = light_on b (taken s.placer) (t.blocks + t.count) s.first q s.weight gain h.order passed h.light
          (rw grows (gain_light s.placer.kind k q b some));
      room = omega (arith, h.room, fits);
      granted = h.granted;
      raw = λ uncut raw.
          let e : k ≡ kinds.Raw = sym n.kind ∙ raw in
          let g : gain ≡ head_of (tail_of_open s.placer.kind) + q * b = rw e at grows in
          elim n.count [
            | inl c ↦
                let r = h.raw (rw most at uncut) (c.0 ∙ e) in
                let d : t.count * b ≡ s.placer.count * b + q * b = ap (λ (m : ℕ). m * b) c.1
                ∙ (let z : (s.placer.count + q) * b ≡ s.placer.count * b + q * b = omega arith in z) in
                omega (arith, r, d, g)
            | inr c ↦
                let d : t.count * b ≡ q * b = ap (λ (m : ℕ). m * b) c.1 in
                let other : s.placer.kind ≡ kinds.Raw → ⊥ = λ y. absurd
                (let z : true ≡ false = sym (raw_goes s.placer y (room (rw most at uncut) e y))
                ∙ (rw e at c.0) in cc) in
                let hd = head_some s.placer.kind other in
                omega (arith, d, g, hd, h.least)
          ];
      fresh = λ f. absurd (let z : true ≡ false = sym f ∙ ap is_fresh n.kind ∙ held in cc);
      some = λ f. omega (arith, h.order, passed, some);
    }

-- a limit beyond that of raw chunks has room for any
pub cap_wide : (j : RunKind) (q most room b : ℕ) → 0 < b → 12 + most * b < 2 ^ 32 → 2 ^ 32 ≤ room → q ≤ most
    → q ≤ cap_of (tail_of_open j) room b
cap_wide j q most room b some small wide le = elim (cases_Bool (nat_lt (room - head_of (tail_of_open j)) b)) [
  | inl e ↦ let lt = ltb-true (room - head_of (tail_of_open j)) b e in rw e
      (none most le (omega (arith, lt, small, wide, head_light j)))
  | inr e ↦
      let m : q * b ≤ most * b = mul-le-mul_right b le in
      rw e (le-div q (room - head_of (tail_of_open j)) b some (omega (arith, m, small, wide, head_light j)))
]
  where
    none : (n : ℕ) → q ≤ n → n * b < b → q ≤ 1
    none zero le lt = omega (arith, le)
    none (suc n) le lt = absurd (let d : suc n * b ≡ n * b + b = omega arith in omega (arith, d, lt))

-- a segment without blocks has room for one
pub first_fits : (b q : ℕ) (s : Segment) (long : ℕ) (k : RunKind) → 4 ≤ b → SoundSegment b long s
    → is_fresh s.placer.kind ≡ true → 0 < q → q ≤ cap_of (tail_of_open s.placer.kind) (s.limit - s.weight) b
    → gain_of (tail_of_open s.placer.kind) k q b ≤ s.limit - s.weight
first_fits b q s long k four h fresh some cap = by_kind s.placer.kind refl
  where
    w52 : s.weight ≡ 52
    w52 = h.fresh fresh

    raw_fits : q ≤ cap_of tails.Fresh (s.limit - s.weight) b → 12 + q * b ≤ s.limit - s.weight
    raw_fits c = elim (cases_Bool (nat_lt (s.limit - s.weight - 12) b)) [
      | inl e ↦ let l = ltb-true (s.limit - s.weight - 12) b e in absurd (omega (arith, l, w52, h.granted))
      | inr e ↦
          let l : q ≤ (s.limit - s.weight - 12) / b = rw e at c in
          let m : q * b ≤ ((s.limit - s.weight - 12) / b) * b = mul-le-mul_right b l in
          let d : b * ((s.limit - s.weight - 12) / b) + (s.limit - s.weight - 12) % b
          ≡ s.limit - s.weight - 12 = omega arith in
          let z : b * ((s.limit - s.weight - 12) / b) ≡ ((s.limit - s.weight - 12) / b) * b = omega arith in
          omega (arith, m, d, z, w52, h.granted)
    ]

    any_fits : (k : RunKind) → q ≤ cap_of tails.Fresh (s.limit - s.weight) b
        → gain_of tails.Fresh k q b ≤ s.limit - s.weight
    any_fits kinds.Raw c = raw_fits c
    any_fits (kinds.Fill w) c = omega (arith, w52, h.granted, four)
    any_fits kinds.Skip c = omega arith
    any_fits kinds.End c = omega arith

    by_kind : (j : RunKind) → s.placer.kind ≡ j → gain_of (tail_of_open s.placer.kind) k q b ≤ s.limit - s.weight
    by_kind kinds.Raw e = absurd (let z : is_fresh kinds.Raw ≡ true = rw e at fresh in cc)
    by_kind (kinds.Fill w) e = absurd (let z : is_fresh (kinds.Fill w) ≡ true = rw e at fresh in cc)
    by_kind kinds.Skip e = rw e (any_fits k (rw e at cap))
    by_kind kinds.End e = rw e (any_fits k (rw e at cap))

-- ---- the blocks of a raw image

class_held : (x : List ℕ) → IsHeldBlock (class_of x)
class_held x = elim (cases_Bool (list_all (bytes_eq (take 4 x)) (split 4 (length x / 4) x)))
    [ inl e ↦ rw e tt | inr e ↦ rw e tt ]

classes_held : (b p q : ℕ) (x : List ℕ) → AllByRecursion IsHeldBlock (classes b p q x)
classes_held b p zero x = tt
classes_held b zero (suc q) x = (tt, classes_held b zero q (drop b x))
classes_held b (suc p) (suc q) x = (class_held (take b x), classes_held b p q (drop b x))

held_both : (xs ys : List Block) → AllByRecursion IsHeldBlock xs → AllByRecursion IsHeldBlock ys
    → AllByRecursion IsHeldBlock (xs ++ ys)
held_both [] ys h k = k
held_both (x ∷ xs) ys h k = (h.0, held_both xs ys h.1 k)

class_kind : (k : RunKind) (xs : List Block) → 0 < length xs → AllOf k xs → AllByRecursion IsHeldBlock xs → is_fresh k
    ≡ false
class_kind k [] some all held = absurd (omega (arith, some))
class_kind kinds.Raw (x ∷ xs) some all held = refl
class_kind (kinds.Fill w) (x ∷ xs) some all held = refl
class_kind kinds.Skip (x ∷ xs) some all held = let e : x ≡ Skip = cc in absurd (rw e at held.0)
class_kind kinds.End (x ∷ xs) some all held = absurd cc

pub kind_held : (b p q : ℕ) (x : List ℕ) (k : RunKind) → 0 < q → AllOf k (classes b p q x) → is_fresh k ≡ false
kind_held b p q x k some all = class_kind k (classes b p q x) (omega (arith, length-tailed b q p x, some)) all
    (classes_held b p q x)

behind_both : (s : Behind) (l m : List Block) → behind_all s (l ++ m) ≡ behind_all (behind_all s l) m
behind_both s [] m = refl
behind_both s (x ∷ l) m = behind_both (moved s x) l m

tail_same : (t : Tail) (k : RunKind) → is_fresh k ≡ false → tail_of_open k ≡ tail_after t k
tail_same t kinds.Raw e = refl
tail_same t (kinds.Fill w) e = refl
tail_same t kinds.Skip e = absurd cc
tail_same t kinds.End e = absurd cc

-- ---- what is written

pub laid_on : (b p q gain : ℕ) (g : List Block) (x now now' : List ℕ) (s : Segment) (t : Placer) (k : RunKind) → 0 < q
    → AllOf k (classes b p q x) → t ≡ with_part s.placer k q → gain ≡ gain_of (tail_of_open s.placer.kind) k q b
    → LaidSegment b g now s → Placed b ((skips s.first ++ g) ++ classes b p q x) now' t
    → LaidSegment b (g ++ classes b p q x) now' (record {
      placer = t;
      first = s.first;
      weight = s.weight
          + gain;
      limit = s.limit;
    })
laid_on b p q gain g x now now' s t k some all is grows l placed =
    let cs = classes b p q x in
    let long : length cs ≡ q = length-tailed b q p x in
    let n = part_numbers s.placer t k q is in
    let y' = part_gains b (behind_all Fresh g) k cs all (omega (arith, long, some)) in
    let w : weight b (g ++ cs) ≡ weight b g + gains b (behind_all Fresh g) cs = omega
    (arith, weight_gains b (g ++ cs), weight_gains b g, gains-append b Fresh g cs) in
    let y : gain_of (tail_of (behind_all Fresh g)) k (length cs) b
    ≡ gain = ap (λ (m : ℕ). gain_of (tail_of (behind_all Fresh g)) k m b) long
    ∙ ap (λ (u : Tail). gain_of u k q b) (sym l.tail) ∙ sym grows in
    record {
      placed = subst (λ (f : List Block). Placed b f now' t) (append_assoc (skips s.first) g cs) placed;
      heavy = omega (arith, l.heavy, w, y'.0, y);
      tail = ap tail_of_open n.kind ∙ tail_same (tail_of (behind_all Fresh g)) k (kind_held b p q x k some all)
          ∙ sym y'.1 ∙ ap tail_of (sym (behind_both Fresh g cs));
      held = held_both g cs l.held (classes_held b p q x);
    }

-- what has no room
pub part_over : (b q : ℕ) (g rest : List Block) (now : List ℕ) (s : Segment) (long : ℕ) (k : RunKind) → 4 ≤ b → 0 < q
    → SoundSegment b long s → LaidSegment b g now s → AllOf k (take q rest)
    → q ≤ cap_of (tail_of_open s.placer.kind) (s.limit - s.weight) b
    → s.limit - s.weight < gain_of (tail_of_open s.placer.kind) k q b
    → OneMoreExceeds s.limit b g rest
part_over b q g rest now s long k four some h l all cap above x more e =
    let all_of = g ++ rest in
    let bt : between all_of 0 (length g) ≡ g = ap (λ (n : ℕ). take n all_of)
    (let z : length g - 0 ≡ length g = omega arith in z) ∙ take-append_seam g rest in
    let dr : drop (length g) all_of ≡ rest = drop-append_seam g rest in
    let t = tail_of_open s.placer.kind in
    let o = over b all_of 0 (length g) q k t s.limit s.weight (omega (arith, four)) some
    (l.tail ∙ ap (λ (f : List Block). tail_of (behind_all Fresh f)) (sym bt)) (rw dr all)
    (l.heavy ∙ ap (weight b) (sym bt)) h.room (λ r. cap) above x more (dr ∙ e) in
    rw bt at o

-- the first blocks of the window, and those after them
pub more_laid : (b p d n from past : ℕ) (g : List Block) (w x now : List ℕ) (s : Segment) → from ≡ d * b → from
    + n * b ≤ past → x ≡ slice_range w from past → LaidSegment b ((g ++ classes b p d w) ++ classes b (p - d) n x) now
    s → LaidSegment b (g ++ classes b p (d + n) w) now s
more_laid b p d n from past g w x now s at le e l =
    subst (λ (f : List Block). LaidSegment b f now s) (classes_more b p d n from past g w x at le e) l

-- the next block of the window has no room
pub window_over : (b p d n a from past : ℕ) (g : List Block) (w x now : List ℕ) (s : Segment) (long : ℕ) (k : RunKind)
    → 4 ≤ b → 0 < n → d + n ≤ a → from ≡ d * b → from + n * b ≤ past → x ≡ slice_range w from past
    → SoundSegment b long s → LaidSegment b (g ++ classes b p d w) now s → AllOf k (classes b (p - d) n x)
    → n ≤ cap_of (tail_of_open s.placer.kind) (s.limit - s.weight) b
    → s.limit - s.weight < gain_of (tail_of_open s.placer.kind) k n b
    → OneMoreExceeds s.limit b (g ++ classes b p d w) (drop d (classes b p a w))
window_over b p d n a from past g w x now s long k four some within at le e h l all cap above =
    let part : take n (drop d (classes b p a w)) ≡ classes b (p - d) n x = classes_next b p d n a from past w x within
    at le e in
    part_over b n (g ++ classes b p d w) (drop d (classes b p a w)) now s long k four some h l (rw part all) cap above
