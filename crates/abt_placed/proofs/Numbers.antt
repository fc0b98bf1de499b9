-- The numbers of a placer that takes blocks.
use Rattle.std.proofs.Common.{inl, inr, mul-le-mul_left, ◌≡◌, ℕ, ◌+◌, ◌-◌, ◌*◌, ◌<◌, ◌≤◌, nat_lt, Bool, true, false}
use Rattle.std.proofs.Common.{List, [], ◌++◌, length, refl, sym, ap, ◌∙◌, arith, append-nil, subst, length-append, ◌&&◌}
use Rattle.std.proofs.Common.{if◌then◌else◌}
use Rattle.std.proofs.lemmas.Bool.{cases_Bool, ltb-true, ltb-false}
use Rattle.abt_io.specs.Moment.{put_at}
use Rattle.abt_io.proofs.Overs.{length_put}
use Rattle.abt_runs.specs.Part.{is_end}
use Rattle.abt_runs.proofs.Alike.{alike_same}
use Rattle.abt_runs.specs.declared.part.RunKind.{RunKind}
use Rattle.abt_runs.specs.declared.part.RunKind.TheVariants as kinds
use Rattle.abt_pieces.specs.Write.{front_bytes}
use Rattle.abt_placed.specs.Placer.{SoundPlacer, open_len, closed_as, closed, goes_on_with, longer, with_chunk_begun}
use Rattle.abt_placed.specs.Placer.{with_part, room_of, closing_as, closing, kept_for, data_for, beginning}
use Rattle.abt_placed.specs.declared.placer.Placer.{Placer}

-- with the open chunk whole
pub record ClosedNumbers (s t : Placer) : Type 0 where
  pub blocks : t.blocks ≡ s.blocks + s.count
  pub chunks : t.chunks ≤ t.blocks
  pub most : t.most ≡ s.most
  pub front : t.front ≡ s.front

pub closed_numbers : (k : RunKind) (s : Placer) → s.chunks ≤ s.blocks → (is_end k ≡ true → s.count ≡ 0)
    → (is_end k ≡ false → 0 < s.count) → ClosedNumbers s (closed_as k s)
closed_numbers kinds.End s c none some = let z = none refl in
    record { blocks = omega (arith, z); chunks = c; most = refl; front = refl }
closed_numbers kinds.Raw s c none some = let z = some refl in
    record { blocks = refl; chunks = omega (arith, z, c); most = refl; front = refl }
closed_numbers (kinds.Fill w) s c none some = let z = some refl in
    record { blocks = refl; chunks = omega (arith, z, c); most = refl; front = refl }
closed_numbers kinds.Skip s c none some = let z = some refl in
    record { blocks = refl; chunks = omega (arith, z, c); most = refl; front = refl }

raw_front : (n t : ℕ) → length (front_bytes kinds.Raw n t) ≡ 12
raw_front n t = refl

pub closing_long : (k : RunKind) (s : Placer) (b : ℕ) (w : List ℕ) → open_len k s.count b ≤ length w
    → length w ≤ length (closing_as k s b w)
closing_long kinds.End s b w le = omega arith
closing_long kinds.Raw s b w le =
    let at = length w - (12 + s.count * b) in
    let f = front_bytes kinds.Raw s.count (12 + s.count * b) in
    let e : length (put_at w at f) ≡ length w =
    length_put w at f (omega (arith, le, raw_front s.count (12 + s.count * b))) in
    omega (arith, e)
closing_long (kinds.Fill v) s b w le = omega (arith, length-append w (front_bytes (kinds.Fill v) s.count 16))
closing_long kinds.Skip s b w le = omega (arith, length-append w (front_bytes kinds.Skip s.count 12))

open_room : (k : RunKind) (q b : ℕ) (x : List ℕ) → (k ≡ kinds.Raw → length x ≡ q * b)
    → open_len k q b ≡ length (kept_for k) + length (data_for k x)
open_room kinds.Raw q b x e = let z = e refl in omega (arith, z)
open_room (kinds.Fill v) q b x e = refl
open_room kinds.Skip q b x e = refl
open_room kinds.End q b x e = refl

open_more : (k : RunKind) (p q b : ℕ) (x : List ℕ) → (k ≡ kinds.Raw → length x ≡ q * b)
    → open_len k (p + q) b ≡ open_len k p b + length (data_for k x)
open_more kinds.Raw p q b x e = let z = e refl in let d : (p + q) * b ≡ p * b + q * b = omega arith in
    omega (arith, z, d)
open_more (kinds.Fill v) p q b x e = refl
open_more kinds.Skip p q b x e = refl
open_more kinds.End p q b x e = refl

-- what goes on is of one class, and a raw chunk has room for it
pub record GoesOn (s : Placer) (k : RunKind) : Type 0 where
  pub same : s.kind ≡ k
  pub room : k ≡ kinds.Raw → s.count < s.most

both : (x y : Bool) → x && y ≡ true → (x ≡ true) × (y ≡ true)
both true y e = (refl, e)
both false y e = absurd cc

pub goes : (s : Placer) (k : RunKind) → goes_on_with s k ≡ true → GoesOn s k
goes s kinds.Raw e = let h = both _ _ e in
    record { same = alike_same s.kind kinds.Raw h.1; room = λ _. ltb-true s.count s.most h.0 }
goes s (kinds.Fill v) e = record { same = alike_same s.kind (kinds.Fill v) e; room = λ r. absurd cc }
goes s kinds.Skip e = record { same = alike_same s.kind kinds.Skip e; room = λ r. absurd cc }
goes s kinds.End e = record { same = alike_same s.kind kinds.End e; room = λ r. absurd cc }

room_left : (s : Placer) (q : ℕ) → s.count < s.most → q ≤ room_of s → s.count + q ≤ s.most
room_left s q lt le = elim (cases_Bool (nat_lt s.count s.most)) [
  | inl e ↦ let h : q ≤ s.most - s.count = rw e at le in omega (arith, h, lt)
  | inr e ↦ let g = ltb-false s.count s.most e in absurd (omega (arith, g, lt))
]

pub room_most : (s : Placer) (q : ℕ) → q ≤ room_of s → q ≤ s.most
room_most s q le = elim (cases_Bool (nat_lt s.count s.most)) [
  | inl e ↦ let h : q ≤ s.most - s.count = rw e at le in omega (arith, h)
  | inr e ↦ let h : q ≤ s.most = rw e at le in h
]

sums : (x y z b : ℕ) → x + y ≡ z → z * (b + 16) ≡ x * (b + 16) + y * (b + 16)
sums x y z b e = ap (λ (n : ℕ). n * (b + 16)) (sym e)
    ∙ (let d : (x + y) * (b + 16) ≡ x * (b + 16) + y * (b + 16) = omega arith in d)

sound_as : (t : Bool) (b q : ℕ) (w x : List ℕ) (s : Placer) (k : RunKind) → goes_on_with s k ≡ t → 0 < q
    → is_end k ≡ false → (k ≡ kinds.Raw → q ≤ room_of s) → (k ≡ kinds.Raw → length x ≡ q * b)
    → length (if t then w else closing s b w ++ kept_for k) + open_len s.kind s.count b ≤ length w + s.count *
    (b + 16) + length (kept_for k) → SoundPlacer b (length w) s
    → let s' = if t then longer s q else with_chunk_begun (closed s) k q in
    SoundPlacer b (length ((if t then w else closing s b w ++ kept_for k) ++ data_for k x)) s'
sound_as true b q w x s k e some on cap long wide h =
    let g = goes s k e in
    let m : open_len s.kind (s.count + q) b ≡ open_len s.kind s.count b + length (data_for k x) =
    rw g.same (open_more k s.count q b x long) in
    let l : length (w ++ data_for k x) ≡ length w + length (data_for k x) = length-append w (data_for k x) in
    record {
      chunks = h.chunks;
      none = λ z. absurd (let z' : is_end k ≡ true = rw (sym g.same) z in cc);
      some = λ z. omega (arith, some);
      raw = λ z. room_left s q (g.room (sym g.same ∙ z)) (cap (sym g.same ∙ z));
      room = omega (arith, m, l, h.room);
      few = omega (arith, m, l, h.few);
      most = h.most;
      small = h.small;
    }
sound_as false b q w x s k e some on cap long wide h =
    let c = closed_numbers s.kind s h.chunks h.none h.some in
    let a : length w ≤ length (closing s b w) = closing_long s.kind s b w (omega (arith, h.room)) in
    let o = open_room k q b x long in
    let l1 = length-append (closing s b w) (kept_for k) in
    let l : length ((closing s b w ++ kept_for k) ++ data_for k x) ≡ length (closing s b w) + length
    (kept_for k) + length (data_for k x) =
    length-append (closing s b w ++ kept_for k) (data_for k x) ∙ ap (λ (n : ℕ). n + length (data_for k x)) l1 in
    let d = sums s.blocks s.count (closed s).blocks b (sym c.blocks) in
    record {
      chunks = c.chunks;
      none = λ z. absurd cc;
      some = λ z. some;
      raw = λ z. rw c.most (room_most s q (cap z));
      room = rw c.front (omega (arith, a, o, l, h.room));
      few = rw c.front (omega (arith, o, l, l1, d, wide, h.few));
      most = rw c.most h.most;
      small = rw c.most h.small;
    }

pub sound_taken : (b q : ℕ) (w w1 w' x : List ℕ) (s s' : Placer) (k : RunKind) → 0 < q → is_end k ≡ false
    → q ≤ room_of s → length x ≡ q * b
    → length w1 + open_len s.kind s.count b ≤ length w + s.count * (b + 16) + length (kept_for k)
    → SoundPlacer b (length w) s
    → s' ≡ with_part s k q → w1 ≡ beginning s k b w → w' ≡ w1 ++ data_for k x → SoundPlacer b (length w') s'
sound_taken b q w w1 w' x s s' k some on cap long wide h e f g =
    rw (e, g, f) (sound_as (goes_on_with s k) b q w x s k refl some on (λ _. cap) (λ _. long) (rw f at wide) h)

-- so many blocks of those in the window
pub blocks_fit : (d c n b : ℕ) → d + c ≤ n → n * b ≤ 65536 → d * b + c * b ≤ 65536
blocks_fit d c n b le fits =
    let m : b * (d + c) ≤ b * n = mul-le-mul_left b le in
    let e : b * (d + c) ≡ d * b + c * b = omega arith in
    let f : b * n ≡ n * b = omega arith in
    omega (arith, m, e, f, fits)

-- ---- what is written

-- with skipped blocks more
pub sound_skipped : (b q : ℕ) (w w' : List ℕ) (s s' : Placer) → 0 < q
    → length w' + open_len s.kind s.count b ≤ length w + s.count * (b + 16) + 0 → SoundPlacer b (length w) s
    → s' ≡ with_part s kinds.Skip q → w' ≡ beginning s kinds.Skip b w → SoundPlacer b (length w') s'
sound_skipped b q w w' s s' some wide h e f =
    rw (e, f) (subst (λ (l : List ℕ). SoundPlacer b (length l) (with_part s kinds.Skip q))
    (append-nil (beginning s kinds.Skip b w))
    (sound_as (goes_on_with s kinds.Skip) b q w [] s kinds.Skip refl some refl (λ raw. absurd cc) (λ raw. absurd cc)
    (rw f at wide) h))
