-- A gatherer with a part more.
use Rattle.std.proofs.Common.{◌≡◌, ℕ, ◌+◌, ◌<◌, ◌≤◌, nat_lt, true, false, IfSome, IfNone, Some, None, List, length}
use Rattle.std.proofs.Common.{refl, sym, ap, ◌∙◌, arith, inl, inr, ◌⊎◌, ◌==◌, ◌&&◌, not}
use Rattle.std.proofs.lemmas.Bool.{cases_Bool, eqb-true, eqb-false, ltb-true, ltb-false}
use Rattle.abt_sparse.specs.Block.{Block}
use Rattle.abt_runs.specs.Part.{PartOf, is_end}
use Rattle.abt_runs.specs.declared.part.Cursor.{Cursor}
use Rattle.abt_runs.specs.declared.part.Run.{Run}
use Rattle.abt_runs.specs.declared.part.RunKind.TheVariants as kinds
use Rattle.abt_runs.specs.Whole.{alike_kinds}
use Rattle.abt_pieces.specs.Gather.{frame, Gathered, Closed, ClosedRun, SoundGatherer, ToldGatherer, begun_with}
use Rattle.abt_pieces.specs.Gather.{gathered_on, look_left}
use Rattle.abt_pieces.specs.declared.gather.Gatherer.{Gatherer}
use Rattle.abt_runs.proofs.Alike.{alike_same}
use Rattle.abt_pieces.proofs.Framing.{gather_more, gather_still, gather_begun, first_closed}

-- what is known of a part of a piece, whatever the source gave
pub record PartIn (W : Cursor → Type 0) (n e : ℕ) (at : Cursor) (r : Run) : Type 0 where
  pub next : r.next.block ≡ at.block + r.blocks
  pub bound : r.next.block ≤ n
  pub within : r.next.block < e → W r.next
  pub behind : e < r.next.block → r.next.block ≡ n
  pub raw : r.kind ≡ kinds.Raw → (r.next.block ≤ e) × (r.here.block ≡ at.block) × W r.here
  pub ended : is_end r.kind ≡ true → (at.block ≡ n) × (r.blocks ≡ 0)

-- ---- the four cases

pub data OnCase (g : Gatherer) (r : Run) : Type 0 where
  still : r.blocks ≡ 0 → is_end r.kind ≡ false
      → gathered_on g r ≡ (record { kind = g.kind; count = g.count; from = g.from; at = r.next }, None) → OnCase g r
  begun : (0 < r.blocks) ⊎ (is_end r.kind ≡ true) → g.count ≡ 0 → gathered_on g r ≡ (begun_with r, None) → OnCase g r
  more : (0 < r.blocks) ⊎ (is_end r.kind ≡ true) → 0 < g.count → alike_kinds g.kind r.kind ≡ true
      → gathered_on g r ≡ (record { kind = g.kind; count = g.count + r.blocks; from = g.from; at = r.next }, None)
      → OnCase g r
  closes : (0 < r.blocks) ⊎ (is_end r.kind ≡ true) → 0 < g.count → alike_kinds g.kind r.kind ≡ false
      → gathered_on g r ≡ (
        begun_with r,
        Some (record { kind = g.kind; blocks = g.count; here = g.from; next = g.at }),
      ) → OnCase g r

goes : (g : Gatherer) (r : Run) → (r.blocks == 0) && not (is_end r.kind) ≡ false → (0 < r.blocks)
    ⊎ (is_end r.kind ≡ true) → OnCase g r
goes g r e some = elim (cases_Bool (g.count == 0)) [
  | inl z ↦ begun some (eqb-true g.count 0 z) (rw (e, z) refl)
  | inr z ↦ elim (cases_Bool (alike_kinds g.kind r.kind)) [
    | inl a ↦ more some (let q = eqb-false g.count 0 z in omega arith) a (rw (e, z, a) refl)
    | inr a ↦ closes some (let q = eqb-false g.count 0 z in omega arith) a (rw (e, z, a) refl)
  ]
]

pub on_case : (g : Gatherer) (r : Run) → OnCase g r
on_case g r = elim (cases_Bool (r.blocks == 0)) [
  | inl z ↦ elim (cases_Bool (is_end r.kind)) [
    | inl e ↦ goes g r (rw (z, e) refl) (inr e)
    | inr e ↦ still (eqb-true r.blocks 0 z) e (rw (z, e) refl)
  ]
  | inr z ↦ goes g r (rw z refl) (inl (let q = eqb-false r.blocks 0 z in omega arith))
]

-- ---- the numbers

begun_sound : (within : Cursor → Type 0) (n first past : ℕ) (g : Gatherer) (r : Run)
    → SoundGatherer within n first past g → PartIn within n past g.at r
    → SoundGatherer within n first past (begun_with r)
begun_sound within n first past g r h p = record {
  order = omega (arith, h.order, p.next);
  inner = h.inner;
  past = h.past;
  room = p.bound;
  behind_it = omega (arith, p.next);
  within = p.within;
  behind = p.behind;
  ended = λ e. (let z = p.ended e in z.1, let z = p.ended e in omega (arith, z.0, z.1, p.next));
  raw = λ e some. let z = p.raw e in record {
    first = omega (arith, z.1, h.order);
    whole = omega (arith, z.1, p.next);
    past = z.0;
    within = z.2;
  };
}

pub sound_on : (within : Cursor → Type 0) (n first past : ℕ) (g : Gatherer) (r : Run)
    → SoundGatherer within n first past g → PartIn within n past g.at r
    → SoundGatherer within n first past (gathered_on g r).0
sound_on within n first past g r h p = elim (on_case g r) [
  | still none going e ↦ rw e (record {
    order = omega (arith, h.order, p.next);
    inner = h.inner;
    past = h.past;
    room = p.bound;
    behind_it = omega (arith, h.behind_it, p.next);
    within = p.within;
    behind = p.behind;
    ended = λ z. let u = h.ended z in (u.0, omega (arith, u.1, p.next, none));
    raw = λ k some. let z = h.raw k some in
        record {
          first = z.first;
          whole = omega (arith, z.whole, p.next, none);
          past = omega (arith, z.past, p.next, none);
          within = z.within;
        };
  })
  | begun some void e ↦ rw e (begun_sound within n first past g r h p)
  | more some one alike e ↦ rw e (record {
    order = omega (arith, h.order, p.next);
    inner = h.inner;
    past = h.past;
    room = p.bound;
    behind_it = omega (arith, h.behind_it, p.next);
    within = p.within;
    behind = p.behind;
    ended = λ z. let u = h.ended z in absurd (omega (arith, u.0, one));
    raw = λ k some. let z = h.raw k one in let q = p.raw (sym (alike_same g.kind r.kind alike) ∙ k) in
        record { first = z.first; whole = omega (arith, z.whole, p.next); past = q.0; within = z.within };
  })
  | closes some one other e ↦ rw e (begun_sound within n first past g r h p)
]

pub grows_on : (within : Cursor → Type 0) (n first past : ℕ) (g : Gatherer) (r : Run)
    → SoundGatherer within n first past g → PartIn within n past g.at r
    → IfNone (gathered_on g r).1 ((gathered_on g r).0.at.block + g.count ≡ g.at.block + (gathered_on g r).0.count)
grows_on within n first past g r h p = elim (on_case g r) [
  | still none going e ↦ rw e (omega (arith, p.next, none))
  | begun some void e ↦ rw e (omega (arith, p.next, void))
  | more some one alike e ↦ rw e (omega (arith, p.next))
  | closes some one other e ↦ rw e tt
]

pub run_on : (within : Cursor → Type 0) (n past : ℕ) (g : Gatherer) (r : Run) → PartIn within n past g.at r
    → IfSome (gathered_on g r).1 (λ x. ClosedRun g (gathered_on g r).0 x)
run_on within n past g r p = elim (on_case g r) [
  | still none going e ↦ rw e tt
  | begun some void e ↦ rw e tt
  | more some one alike e ↦ rw e tt
  | closes some one other e ↦ rw e (record { kind = refl; blocks = refl; here = refl; some = one; start = p.next })
]

-- ---- what is known of the blocks

pub told_on : (place : Cursor → Type 0) (l : List Block) (first past : ℕ) (g : Gatherer) (r : Run)
    → ToldGatherer place l first past g → PartOf (frame l first past) g.at.block r
    → (r.next.block < past → place r.next) → (r.kind ≡ kinds.Raw → place r.here)
    → ToldGatherer place l first past (gathered_on g r).0
told_on place l first past g r h part next here = elim (on_case g r) [
  | still none going e ↦ rw e (record {
    gathered = gather_still (frame l first past) g r h.gathered part none;
    place = next;
    raw = h.raw;
  })
  | begun some void e ↦ rw e (record {
    gathered = gather_begun (frame l first past) g.at.block r part;
    place = next;
    raw = λ k s. here k;
  })
  | more some one alike e ↦ rw e (record {
    gathered = gather_more (frame l first past) g r h.gathered part alike;
    place = next;
    raw = λ k s. h.raw k one;
  })
  | closes some one other e ↦ rw e (record {
    gathered = gather_begun (frame l first past) g.at.block r part;
    place = next;
    raw = λ k s. here k;
  })
]

pub closed_on : (l : List Block) (g : Gatherer) (r : Run) → Gathered l g → PartOf l g.at.block r
    → IfSome (gathered_on g r).1 (λ x. Closed l g (gathered_on g r).0 x)
closed_on l g r h part = elim (on_case g r) [
  | still none going e ↦ rw e tt
  | begun some void e ↦ rw e tt
  | more some one alike e ↦ rw e tt
  | closes some one other e ↦ rw e (record { first = first_closed l g r h one part other (ends_or some); all = h.all })
]
  where
    ends_or : (0 < r.blocks) ⊎ (is_end r.kind ≡ true) → (0 < r.blocks) ⊎ (g.at.block ≡ length l)
    ends_or (inl s) = inl s
    ends_or (inr e) = inr (part.ended e)

-- ---- how many parts there can be

less : (left : Cursor → ℕ) (n past : ℕ) (g new : Gatherer) → past ≤ n → is_end g.kind ≡ false
    → (g.at.block < past → new.at.block < past → left new.at < left g.at) → (past ≤ g.at.block → new.at.block ≡ n)
    → (g.at.block ≡ n → is_end new.kind ≡ true) → g.at.block ≤ n
    → look_left left n past new < look_left left n past g
less left n past g new end going shorter tail ended room = elim (cases_Bool (nat_lt g.at.block past)) [
  | inl a ↦ elim (cases_Bool (nat_lt new.at.block past)) [
    | inl b ↦ let z = shorter (ltb-true g.at.block past a) (ltb-true new.at.block past b) in
        rw (a, b) (omega (arith, z))
    | inr b ↦ elim (cases_Bool (nat_lt new.at.block n)) [
      | inl d ↦ rw (a, b, d) (omega arith)
      | inr d ↦ elim (cases_Bool (is_end new.kind)) [
        | inl f ↦ rw (a, b, d, f) (omega arith)
        | inr f ↦ rw (a, b, d, f)
            (omega arith)
      ]
    ]
  ]
  | inr a ↦
      let over = ltb-false g.at.block past a in
      let there = tail over in
      let b : nat_lt new.at.block past ≡ false = not_below new.at.block past (omega (arith, there, end)) in
      let d : nat_lt new.at.block n ≡ false = not_below new.at.block n (omega (arith, there)) in
      elim (cases_Bool (nat_lt g.at.block n)) [
        | inl e ↦ elim (cases_Bool (is_end new.kind)) [
          | inl f ↦ rw (a, b, d, e, f) (omega arith)
          | inr f ↦ rw
              (a, b, d, e, f) (omega arith)
        ]
        | inr e ↦ let f = ended (let q = ltb-false g.at.block n e in omega (arith, q, room)) in
            rw (a, b, d, e, f, going) (omega arith)
      ]
]
  where
    not_below : (x y : ℕ) → y ≤ x → nat_lt x y ≡ false
    not_below x y le = elim (cases_Bool (nat_lt x y)) [
      | inl h ↦ absurd (let z = ltb-true x y h in
          omega arith)
      | inr h ↦ h
    ]

pub same_at : (g : Gatherer) (r : Run) → (gathered_on g r).0.at ≡ r.next
same_at g r = elim (on_case g r) [
  | still none going e ↦ rw e refl
  | begun some void e ↦ rw e refl
  | more some one alike e ↦ rw e refl
  | closes some one other e ↦ rw e refl
]

ends_on : (g : Gatherer) (r : Run) → is_end g.kind ≡ false → is_end r.kind ≡ true
    → is_end (gathered_on g r).0.kind ≡ true
ends_on g r going end = elim (on_case g r) [
  | still none other e ↦ absurd cc
  | begun some void e ↦ rw e end
  | more some one alike e ↦ let k = alike_same g.kind r.kind alike in let z : is_end g.kind ≡ is_end r.kind =
      ap is_end k in absurd cc
  | closes some one other e ↦ rw e end
]

pub left_on : (left : Cursor → ℕ) (within : Cursor → Type 0) (n first past : ℕ) (g : Gatherer) (r : Run)
    → SoundGatherer within n first past g → is_end g.kind ≡ false → (g.at.block < past → r.next.block < past
    → left r.next < left g.at) → (past ≤ g.at.block → r.next.block ≡ n) → (g.at.block ≡ n → is_end r.kind ≡ true)
    → look_left left n past (gathered_on g r).0 < look_left left n past g
left_on left within n first past g r h going shorter tail ended =
    let at = same_at g r in
    less left n past g (gathered_on g r).0 h.past going (λ a b. rw at (shorter a (rw at at b))) (λ a. rw at (tail a))
    (λ a. ends_on g r going (ended a)) h.room
